-- Bits that are set for one node after another.
use Rattle.std.proofs.Common.{◌≡◌, ◌↔◌, ℕ, zero, suc, ◌+◌, ◌<◌, Bool, true, false, not, ◌&&◌, ◌||◌, eqb, List, [], ◌∷◌, ◌++◌, length, get_or, take, All, arith, refl}
use Rattle.std.proofs.Common.{sym, ap, subst, ◌∙◌, inl, inr}
use Rattle.std.specs.List.{list_any}
use Rattle.bit_rows.specs.Tables.{PlainRows, has_at}
use Rattle.std.proofs.lemmas.Bool.{cases_Bool, eqb-true, and_parts, and_from, both_ways, false_from_ne_true, or_cases, or_left, or_right}
use Rattle.std.proofs.lemmas.List.Folds.{list_any_more}
use Rattle.std.proofs.Math.Bool.{or-false, or_assoc}
use Rattle.list_law.proofs.Numbers.{eqb_comm}
use Rattle.graph_base.specs.Graphs.{PlainGraph}
use Rattle.graph_base.specs.Runs.{IsTrail, Reaches}
use Rattle.reach_prune.specs.Searches.{is_among}
use Rattle.reach_prune.proofs.Among.{member_passes, passing_member}
use Rattle.relation_law.specs.Numbers.{any_below}
use Rattle.relation_law.proofs.Tests.{any_found, any_at}
use Rattle.state_simulation.proofs.Answering.{among_below}

-- one node more passes or not
pub set_more : (p : ℕ → Bool) (xs : List ℕ) (i : ℕ) (old now new : Bool) → i < length xs → now ≡ (old || list_any p (take i xs))
    → new ≡ (now || p (get_or xs i 0)) → new ≡ (old || list_any p (take (i + 1) xs))
set_more p xs i old now new lt before here =
    here ∙ ap (λ z. z || p (get_or xs i 0)) before ∙ or_assoc old (list_any p (take i xs)) (p (get_or xs i 0))
    ∙ ap (λ z. old || z) (sym (list_any_more p xs i 0 lt))

pub same_more : (p : ℕ → Bool) (xs : List ℕ) (i : ℕ) (old now : Bool) → i < length xs → now ≡ (old || list_any p (take i xs)) → p (get_or xs i 0) ≡ false → now ≡ (old || list_any p (take (i + 1) xs))
same_more p xs i old now lt before none = set_more p xs i old now now lt before (sym (ap (λ z. now || z) none ∙ or-false now))

-- a list that has the nodes below the bound of which f holds
pub located_any : (xs : List ℕ) (size : ℕ) (f p q : ℕ → Bool) → All (λ n. n < size) xs → ((x : ℕ) → x < size → is_among xs x ≡ f x)
    → ((x : ℕ) → x < size → (f x && p x) ≡ q x) → list_any p xs ≡ any_below size q
located_any xs size f p q within is both = elim (cases_Bool (any_below size q)) [
  | inl e ↦ (
      let x : (k : ℕ) × (k < size) × (q k ≡ true) = any_found size q e in
      let h = and_parts (f x.0) (p x.0) (both x.0 x.1 ∙ x.2) in
      member_passes p xs x.0 (is x.0 x.1 ∙ h.0) h.1 ∙ sym e)
  | inr e ↦ false_from_ne_true _ (λ h.
      let x : (x : ℕ) × (is_among xs x ≡ true) × (p x ≡ true) = passing_member p xs h in
      let lt = among_below size xs x.0 within x.1 in
      both_ways _ e (any_at size q x.0 lt (sym (both x.0 lt) ∙ and_from _ _ (sym (is x.0 lt) ∙ x.1) x.2))) ∙ sym e
]

-- ---- bits of rows

pub among_more : (xs : List ℕ) (i x : ℕ) → i < length xs → is_among (take (i + 1) xs) x ≡ (is_among (take i xs) x || eqb x (get_or xs i 0))
among_more xs i x lt = list_any_more (λ y. eqb y x) xs i 0 lt ∙ ap (λ z. is_among (take i xs) x || z) (eqb_comm (get_or xs i 0) x)

pub kept_more : (x a e h : Bool) → ((x && (not a || h)) && (not e || h)) ≡ (x && (not (a || e) || h))
kept_more false a e h = refl
kept_more true true e true = right e
  where
    right : (e : Bool) → (not e || true) ≡ true
    right true = refl
    right false = refl
kept_more true true e false = refl
kept_more true false e h = refl

module _ (nodes : List ℕ) (i b n r : ℕ) (hit : ℕ → Bool) (old now : Bool) (lt : i < length nodes) (before : now ≡ (old || (eqb r n && (is_among (take i nodes) b && hit b)))) where
  at_node : eqb b (get_or nodes i 0) ≡ true → hit b ≡ hit (get_or nodes i 0)
  at_node e = ap hit (eqb-true _ _ e)

  join_hit : (o e a k h : Bool) → (k ≡ true → h ≡ true) → ((o || (e && (a && h))) || (e && k)) ≡ (o || (e && ((a || k) && h)))
  join_hit true e a k h is = refl
  join_hit false false a k h is = refl
  join_hit false true true k true is = refl
  join_hit false true true true false is = sym (is refl)
  join_hit false true true false false is = refl
  join_hit false true false true h is = sym (is refl)
  join_hit false true false false h is = refl

  skip_hit : (o e a k h : Bool) → (k ≡ true → h ≡ false) → (o || (e && (a && h))) ≡ (o || (e && ((a || k) && h)))
  skip_hit true e a k h is = refl
  skip_hit false false a k h is = refl
  skip_hit false true true k h is = refl
  skip_hit false true false true h is = sym (is refl)
  skip_hit false true false false h is = refl

  pub above_more : (new : Bool) → hit (get_or nodes i 0) ≡ true → new ≡ (now || (eqb r n && eqb b (get_or nodes i 0))) → new ≡ (old || (eqb r n && (is_among (take (i + 1) nodes) b && hit b)))
  above_more new is here =
      here ∙ ap (λ z. z || (eqb r n && eqb b (get_or nodes i 0))) before
      ∙ join_hit old (eqb r n) (is_among (take i nodes) b) (eqb b (get_or nodes i 0)) (hit b) (λ e. at_node e ∙ is)
      ∙ ap (λ z. old || (eqb r n && (z && hit b))) (sym (among_more nodes i b lt))

  pub above_same : hit (get_or nodes i 0) ≡ false → now ≡ (old || (eqb r n && (is_among (take (i + 1) nodes) b && hit b)))
  above_same is =
      before ∙ skip_hit old (eqb r n) (is_among (take i nodes) b) (eqb b (get_or nodes i 0)) (hit b) (λ e. at_node e ∙ is)
      ∙ ap (λ z. old || (eqb r n && (z && hit b))) (sym (among_more nodes i b lt))

-- a target more
pub taken_more : (o a s f : Bool) → ((o && not a) && (not s || not f)) ≡ (o && not (a || (s && f)))
taken_more false a s f = refl
taken_more true true s f = refl
taken_more true false true true = refl
taken_more true false true false = refl
taken_more true false false f = refl

-- ---- what the loop rule takes

absorbed : (x y : Bool) → (y ≡ true → x ≡ true) → (x || y) ≡ x
absorbed true y h = refl
absorbed false true h = sym (h refl)
absorbed false false h = refl

-- a node more of which the row is set already, since rows are transitive
pub covered : (gone : ℕ → Bool) (reach : ℕ → ℕ → Bool) (xs : List ℕ) (k m : ℕ)
    → ((a : ℕ) → is_among xs a ≡ true → reach a k ≡ true → reach k m ≡ true → reach a m ≡ true) → list_any (λ a. gone a && reach a k) xs ≡ true →
    (list_any (λ a. gone a && reach a m) xs || (gone k && reach k m)) ≡ list_any (λ a. gone a && reach a m) xs
covered gone reach xs k m leads set = absorbed (list_any (λ a. gone a && reach a m) xs) (gone k && reach k m) (λ h.
    let x : (a : ℕ) × (is_among xs a ≡ true) × ((gone a && reach a k) ≡ true) = passing_member (λ a. gone a && reach a k) xs set in
    let both = and_parts (gone x.0) (reach x.0 k) x.2 in
    member_passes (λ a. gone a && reach a m) xs x.0 x.1 (and_from _ _ both.0 (leads x.0 x.1 both.1 (and_parts (gone k) (reach k m) h).1)))

pub reaches_on : (g : PlainGraph) (a b c : ℕ) → Reaches g a b → Reaches g b c → Reaches g a c
reaches_on g a b c one other = (one.0 ++ other.0, joined a one.0 one.1)
  where
    joined : (a : ℕ) (via : List ℕ) → IsTrail g a via b → IsTrail g a (via ++ other.0) c
    joined a [] h = subst (λ x. IsTrail g x other.0 c) (sym h) other.1
    joined a (d ∷ ds) h = (h.0, joined d ds h.1)

any_taken : (p : ℕ → Bool) (xs : List ℕ) (i : ℕ) → list_any p (take i xs) ≡ true → list_any p xs ≡ true
any_taken p xs zero h = absurd (cc)
any_taken p [] (suc i) h = absurd (cc)
any_taken p (x ∷ xs) (suc i) h = elim (or_cases (p x) _ h) [ inl here ↦ or_left _ _ here | inr there ↦ or_right _ _ (any_taken p xs i there) ]

-- what a node of the list leads to, and what that leads to
pub leads_on : (g : PlainGraph) (onwards : PlainRows) → ((a b : ℕ) → a < length g.nodes → (has_at onwards a b ≡ true) ↔ Reaches g a b)
    → (nodes : List ℕ) (i k m : ℕ) → All (λ n. n < length g.nodes) nodes → i < length nodes → k ≡ get_or nodes i 0 →
    (a : ℕ) → is_among (take i nodes) a ≡ true → has_at onwards a k ≡ true → has_at onwards k m ≡ true → has_at onwards a m ≡ true
leads_on g onwards exact nodes i k m within lt is a here one other =
    let la : a < length g.nodes = among_below (length g.nodes) nodes a within (any_taken (λ x. eqb x a) nodes i here) in
    let below : get_or nodes i 0 < length g.nodes = within i 0 lt in
    let lk : k < length g.nodes = omega (arith, is, below) in
    (exact a m la).1 (reaches_on g a k m ((exact a k la).0 one) ((exact k m lk).0 other))

-- a node more of the list passes
pub each_more : (p : ℕ → Bool) (xs : List ℕ) (i : ℕ) → i < length xs → ((x : ℕ) → is_among (take i xs) x ≡ true → p x ≡ true)
    → p (get_or xs i 0) ≡ true → (x : ℕ) → is_among (take (i + 1) xs) x ≡ true → p x ≡ true
each_more p xs i lt before here x h = elim (or_cases (is_among (take i xs) x) (eqb x (get_or xs i 0)) (sym (among_more xs i x lt) ∙ h)) [
  | inl old ↦ before x old
  | inr new ↦ ap p (eqb-true x (get_or xs i 0) new) ∙ here
]
