-- The pairs that are found, one after another, are those that are met.
use Rattle.std.proofs.Common.{◌≡◌, ◌⊎◌, ◌↔◌, ℕ, zero, suc, ◌+◌, ◌<◌, ◌≤◌, Bool, true, false, List, [], ◌∷◌, ◌++◌, length, map, take, get_or, filter, slice_get, Option}
use Rattle.std.proofs.Common.{Some, None, refl, sym, ap, ◌∙◌, subst, arith, inl, inr, eqb-true, cond}
use Rattle.std.specs.Prelude.{◌==◌, is_some, not, option_and_then}
use Rattle.std.specs.List.{list_any}
use Rattle.std.proofs.lemmas.Bool.{and_parts, cases_lt, true≢false}
use Rattle.std.proofs.lemmas.List.{length-map}
use Rattle.std.proofs.lemmas.Option.{slice_get_within, same_Some}
use Rattle.list_law.specs.Members.{IsIn}
use Rattle.list_law.proofs.Items.{slice_get_in_front, slice_get_inside}
use Rattle.list_law.proofs.Members.{IsIn-push, IsIn-push_cases, list_any_member}
use Rattle.list_law.proofs.Options.{cases_Option, option_and_then_parts}
use Rattle.node_classes.specs.declared.way.Way.{Way}
use Rattle.node_classes.specs.Classes as tied
use Rattle.node_classes.specs.Meets.{AreMet, with_pair, with_pairs}
use Rattle.node_classes.specs.Stages.{InPairs, targets}
use Rattle.node_classes.specs.Ways.{Ascend, comes_from, follow, next, place_apart_of, same_pair}
use Rattle.node_classes.proofs.Meeting.{met_targets, targets_next}
use Rattle.node_classes.proofs.Pairs.{tied_steps}
use Rattle.node_classes.proofs.Places.{one_steps, same_places}

-- ---- pairs behind others

pub pair_is : (p q : ℕ × ℕ) → same_pair p q ≡ true → p ≡ q
pair_is p q h = let parts = and_parts (p.0 == q.0) (p.1 == q.1) h in λ i. (eqb-true p.0 q.0 parts.0 i, eqb-true p.1 q.1 parts.1 i)

with_pair-has : (pairs : List (ℕ × ℕ)) (p : ℕ × ℕ) → IsIn (with_pair pairs p) p
with_pair-has pairs p = go (list_any (same_pair p) pairs) refl
  where
    go : (b : Bool) → list_any (same_pair p) pairs ≡ b → IsIn (cond b pairs (pairs ++ p ∷ [])) p
    go true e = let at = list_any_member (same_pair p) pairs e in subst (IsIn pairs) (sym (pair_is p at.0 at.2)) at.1
    go false e = IsIn-push pairs p

with_pair-place : (pairs : List (ℕ × ℕ)) (p q : ℕ × ℕ) (k : ℕ) → slice_get pairs k ≡ Some q → slice_get (with_pair pairs p) k ≡ Some q
with_pair-place pairs p q k at = go (list_any (same_pair p) pairs)
  where
    go : (b : Bool) → slice_get (cond b pairs (pairs ++ p ∷ [])) k ≡ Some q
    go true = at
    go false = slice_get_in_front pairs (p ∷ []) k q at

with_pair-cases : (pairs : List (ℕ × ℕ)) (p q : ℕ × ℕ) → IsIn (with_pair pairs p) q → IsIn pairs q ⊎ (p ≡ q)
with_pair-cases pairs p q = go (list_any (same_pair p) pairs)
  where
    go : (b : Bool) → IsIn (cond b pairs (pairs ++ p ∷ [])) q → IsIn pairs q ⊎ (p ≡ q)
    go true h = inl h
    go false h = IsIn-push_cases pairs p q h

pub with_pairs-place : (pairs ps : List (ℕ × ℕ)) (q : ℕ × ℕ) (k : ℕ) → slice_get pairs k ≡ Some q → slice_get (with_pairs pairs ps) k ≡ Some q
with_pairs-place pairs [] q k at = at
with_pairs-place pairs (p ∷ ps) q k at = with_pairs-place (with_pair pairs p) ps q k (with_pair-place pairs p q k at)

with_pairs-has : (pairs ps : List (ℕ × ℕ)) (u v : ℕ) → InPairs u v ps → IsIn (with_pairs pairs ps) (u, v)
with_pairs-has pairs [] u v h = absurd h
with_pairs-has pairs (p ∷ ps) u v (inl e) =
    let at = subst (IsIn (with_pair pairs p)) (λ i. (sym e.0 i, sym e.1 i)) (with_pair-has pairs p) in
    (at.0, with_pairs-place (with_pair pairs p) ps (u, v) at.0 at.1)
with_pairs-has pairs (p ∷ ps) u v (inr h) = with_pairs-has (with_pair pairs p) ps u v h

with_pairs-cases : (pairs ps : List (ℕ × ℕ)) (u v : ℕ) → IsIn (with_pairs pairs ps) (u, v) → IsIn pairs (u, v) ⊎ InPairs u v ps
with_pairs-cases pairs [] u v h = inl h
with_pairs-cases pairs (p ∷ ps) u v h = elim (with_pairs-cases (with_pair pairs p) ps u v h) [
  | inl a ↦ elim (with_pair-cases pairs p (u, v) a) [
    | inl x ↦ inl x
    | inr e ↦ inr (inl (ap (λ (q : ℕ × ℕ). q.0) (sym e), ap (λ (q : ℕ × ℕ). q.1) (sym e)))
  ]
  | inr b ↦ inr (inr b)
]

with_pairs-push : (pairs ps : List (ℕ × ℕ)) (p : ℕ × ℕ) → with_pairs pairs (ps ++ p ∷ []) ≡ with_pair (with_pairs pairs ps) p
with_pairs-push pairs [] p = refl
with_pairs-push pairs (q ∷ ps) p = with_pairs-push (with_pair pairs q) ps p

-- one more pair of targets
pub pairs_more : (vs ws : List Way) (first all new : List (ℕ × ℕ)) (i : ℕ) (d : Way) → i < length vs → i < length ws → all ≡ with_pairs first (targets (take i vs) (take i ws)) →
    new ≡ with_pair all ((get_or vs i d).to, (get_or ws i d).to) → new ≡ with_pairs first (targets (take (i + 1) vs) (take (i + 1) ws))
pairs_more vs ws first all new i d a b before push =
    let next : i + 1 ≡ suc i = omega arith in
    let pair : ℕ × ℕ = ((get_or vs i d).to, (get_or ws i d).to) in
    push ∙ ap (λ ps. with_pair ps pair) before
    ∙ sym (with_pairs-push first (targets (take i vs) (take i ws)) pair)
    ∙ ap (with_pairs first) (sym (targets_next vs ws i d a b)) ∙ ap (λ n. with_pairs first (targets (take n vs) (take n ws))) (sym next)

-- ---- the search

-- The pairs that were found, where the targets of the first n are among them.
pub record IsFound (ways : List Way) (a b : ℕ) (pairs : List (ℕ × ℕ)) (n : ℕ) : Type 0 where
  pub begun : IsIn pairs (a, b)
  pub sound : (x y : ℕ) → IsIn pairs (x, y) → AreMet ways a b x y
  pub closed : (k x y u v : ℕ) → k < n → slice_get pairs k ≡ Some (x, y) → InPairs u v (targets (filter (comes_from x) ways) (filter (comes_from y) ways)) → IsIn pairs (u, v)

pub found_begun : (ways : List Way) (a b : ℕ) (pairs : List (ℕ × ℕ)) → pairs ≡ (a, b) ∷ [] → IsFound ways a b pairs 0
found_begun ways a b pairs are = record {
  begun = subst (λ (ps : List (ℕ × ℕ)). IsIn ps (a, b)) (sym are) (0, refl);
  sound = λ x y h. first x y (subst (λ (ps : List (ℕ × ℕ)). IsIn ps (x, y)) are h);
  closed = λ k x y u v lt at h. absurd (omega (arith, lt));
}
  where
    first : (x y : ℕ) → IsIn {A = ℕ × ℕ} ((a, b) ∷ []) (x, y) → AreMet ways a b x y
    first x y (zero, e) = let same = same_Some {A = ℕ × ℕ} (a, b) (x, y) e in ([], ap (λ (q : ℕ × ℕ). Some q.0) same, ap (λ (q : ℕ × ℕ). Some q.1) same)
    first x y (suc i, e) = absurd cc

module _ (ways : List Way) (order : Ascend ways) (a b : ℕ) (alike : (path : List ℕ) → is_some (follow ways a path) ≡ is_some (follow ways b path)) where
  -- nodes that are met step at the same places
  same_steps : (x y l : ℕ) → AreMet ways a b x y → is_some (next ways x l) ≡ is_some (next ways y l)
  same_steps x y l met =
      ap is_some (ap (option_and_then (λ m. next ways m l)) (sym met.1)) ∙ alike (l ∷ met.0) ∙ ap is_some (ap (option_and_then (λ m. next ways m l)) met.2)

  pub met_places : (x y : ℕ) → AreMet ways a b x y → map (λ (w : Way). w.at) (filter (comes_from x) ways) ≡ map (λ (w : Way). w.at) (filter (comes_from y) ways)
  met_places x y met = elim (cases_Option (place_apart_of (filter (comes_from x) ways) (filter (comes_from y) ways))) [
    | inl none ↦ same_places (filter (comes_from x) ways) (filter (comes_from y) ways) none
    | inr some ↦
        absurd (clash (is_some (next ways y some.0)) (sym (same_steps x y some.0 met)
        ∙ one_steps ways (filter (comes_from x) ways) (filter (comes_from y) ways) x y some.0 order refl refl some.1))
  ]
    where
      clash : (c : Bool) → c ≡ not c → ⊥
      clash true e = true≢false e
      clash false e = true≢false (sym e)

  pub met_lengths : (x y : ℕ) → AreMet ways a b x y → length (filter (comes_from x) ways) ≡ length (filter (comes_from y) ways)
  met_lengths x y met =
      sym (length-map (filter (comes_from x) ways) (λ (w : Way). w.at)) ∙ ap length (met_places x y met) ∙ length-map (filter (comes_from y) ways) (λ (w : Way). w.at)

  pub found_next : (pairs new : List (ℕ × ℕ)) (n x y : ℕ) → IsFound ways a b pairs n → slice_get pairs n ≡ Some (x, y)
      → new ≡ with_pairs pairs (targets (filter (comes_from x) ways) (filter (comes_from y) ways))
      → IsFound ways a b new (n + 1)
  found_next pairs new n x y found at are = record {
    begun = subst (λ (ps : List (ℕ × ℕ)). IsIn ps (a, b)) (sym are) (kept a b found.begun);
    sound = λ u v h. elim (with_pairs-cases pairs (targets (filter (comes_from x) ways) (filter (comes_from y) ways)) u v (subst (λ (ps : List (ℕ × ℕ)). IsIn ps (u, v)) are h)) [
      | inl old ↦ found.sound u v old
      | inr fresh ↦ let met = found.sound x y (n, at) in
          met_targets ways (filter (comes_from x) ways) (filter (comes_from y) ways) x y order refl refl a b met.0 met.1 met.2 (met_places x y met) u
          v fresh
    ];
    closed = λ k i j u v lt place h. elim (cases_lt k n) [
      | inl below ↦ subst (λ (ps : List (ℕ × ℕ)). IsIn ps (u, v)) (sym are) (kept u v (found.closed k i j u v below (earlier k i j below place) h))
      | inr past ↦
          let here : k ≡ n = omega (arith, lt, past) in
          let same : (i, j) ≡ (x, y) = same_Some {A = ℕ × ℕ} (i, j) (x, y) (sym place ∙ ap (slice_get new) here ∙ ap (λ ps. slice_get ps n) are
          ∙ with_pairs-place pairs (targets (filter (comes_from x) ways) (filter (comes_from y) ways)) (x, y) n at) in
          subst (λ (ps : List (ℕ × ℕ)). IsIn ps (u, v)) (sym are) (with_pairs-has pairs
          (targets (filter (comes_from x) ways) (filter (comes_from y) ways)) u v
          (subst (λ (q : ℕ × ℕ). InPairs u v (targets (filter (comes_from q.0) ways) (filter (comes_from q.1) ways))) same h))
    ];
  }
    where
      kept : (u v : ℕ) → IsIn pairs (u, v) → IsIn (with_pairs pairs (targets (filter (comes_from x) ways) (filter (comes_from y) ways))) (u, v)
      kept u v h = (h.0, with_pairs-place pairs (targets (filter (comes_from x) ways) (filter (comes_from y) ways)) (u, v) h.0 h.1)

      -- what stands at an earlier place stood there before
      earlier : (k i j : ℕ) → k < n → slice_get new k ≡ Some (i, j) → slice_get pairs k ≡ Some (i, j)
      earlier k i j below place =
          let within = slice_get_within pairs n (x, y) at in
          let old = slice_get_inside pairs k (omega (arith, below, within)) in
          old.1 ∙ sym (ap (λ ps. slice_get ps k) are ∙ with_pairs-place pairs (targets (filter (comes_from x) ways) (filter (comes_from y) ways)) old.0 k old.1) ∙ place

  -- with the targets of all of them found, all that are met are
  pub found_all : (pairs : List (ℕ × ℕ)) (n : ℕ) → IsFound ways a b pairs n → length pairs ≤ n → (x y : ℕ) → IsIn pairs (x, y) ↔ AreMet ways a b x y
  found_all pairs n found done x y = (found.sound x y, λ met. all met.0 x y met.1 met.2)
    where
      tied_pairs : (o p : Option ℕ) (ps : List (ℕ × ℕ)) (u v : ℕ) → o ≡ Some u → p ≡ Some v → tied.Tied (λ i j. InPairs i j ps) o p → InPairs u v ps
      tied_pairs o p ps u v e f h = subst (λ q. tied.Tied (λ i j. InPairs i j ps) (Some u) q) f (subst (λ q. tied.Tied (λ i j. InPairs i j ps) q p) e h)

      all : (path : List ℕ) (x y : ℕ) → follow ways a path ≡ Some x → follow ways b path ≡ Some y → IsIn pairs (x, y)
      all [] x y e f = subst (IsIn pairs) (λ i. (same_Some a x e i, same_Some b y f i)) found.begun
      all (l ∷ ls) u v e f =
          let one = option_and_then_parts (λ m. next ways m l) (follow ways a ls) u e in
          let two = option_and_then_parts (λ m. next ways m l) (follow ways b ls) v f in
          let at = all ls one.0 two.0 one.1 two.1 in
          let within = slice_get_within pairs at.0 (one.0, two.0) at.1 in
          let vs = filter (comes_from one.0) ways in
          let ws = filter (comes_from two.0) ways in
          found.closed at.0 one.0 two.0 u v (omega (arith, within, done)) at.1
          (tied_pairs (next ways one.0 l) (next ways two.0 l) (targets vs ws) u v one.2 two.2 (tied_steps ways vs ws one.0 two.0 refl refl (met_places one.0 two.0 (ls, one.1, two.1)) l))

-- where nothing stands at a place, all stand before it
pub none_past : (pairs : List (ℕ × ℕ)) (n : ℕ) → slice_get pairs n ≡ None → length pairs ≤ n
none_past pairs n none = elim (cases_lt n (length pairs)) [
  | inl lt ↦ let at = slice_get_inside pairs n lt in let clash : Some at.0 ≡ None = sym at.1 ∙ none in absurd cc
  | inr past ↦ past
]
