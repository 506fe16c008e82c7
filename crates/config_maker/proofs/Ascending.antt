-- The lines of a block ascend, since no two steps between two locations have one class and one tag.
use Rattle.std.proofs.Common.{◌≡◌, ℕ, ◌<◌, true, List, [], ◌∷◌, length, map, Some, sym, ap, ◌∙◌, subst, arith, inl, inr}
use Rattle.std.specs.Prelude.{nat_eq, nat_le, slice_get}
use Rattle.std.specs.List.{AllByRecursion}
use Rattle.std.specs.List.Sorted.{IsStrictlySortedBy}
use Rattle.std.specs.Ordering.{nat_cmp, ordering_then, is_eq}
use Rattle.std.specs.declared.cmp.Ordering.{Ordering}
use Rattle.std.specs.declared.cmp.Ordering.TheVariants.{Less, Equal}
use Rattle.std.proofs.lemmas.Bool.{cases_Bool, and_parts, and_from, or_cases, eqb-true, eq-eqb, ltb-true, leb-true}
use Rattle.std.proofs.lemmas.Cmp.{tied_itself}
use Rattle.std.proofs.lemmas.Map.Keys.{sorted_head, sorted_tail}
use Rattle.list_law.proofs.Members.{AllByRecursion-IsIn}
use Rattle.list_law.proofs.Keys.{one_by_key}
use Rattle.list_law.proofs.Orders.{nat_cmp-Equal, nat_cmp-Less, ordering_then-Less}
use Rattle.net_base.specs.Network.{PlainNet, is_peer, is_router, is_location}
use Rattle.graph_base.specs.Graphs.{IsGraph}
use Rattle.graph_base.specs.Runs.{place_of, is_start, has_step}
use Rattle.graph_base.specs.Rules.{same_pair}
use Rattle.config_base.specs.Configs.{Key, IsBelow, Ascend, tag_key}
use Rattle.evidence_base.specs.Made.{PlainCaseEvidence, tag_at, number_at, case_at, AreTags}
use Rattle.config_maker.specs.declared.hop.Hop.{Hop}
use Rattle.config_maker.specs.declared.hop.Announced.{Announced}
use Rattle.config_maker.specs.Conditions.{IsSingle}
use Rattle.config_maker.specs.Hops.{hop_order, announced_order, tag_order, prefix_order, goes, stands}
use Rattle.config_maker.proofs.Made.{IsHop, IsAnnounced, class_place}
use Rattle.config_maker.proofs.Settling.{hop_total, announced_total, tag_exact, prefix_exact}
use Rattle.graph_base.proofs.StartsAndSteps.{start_in, step_in}
use Rattle.config_maker.proofs.Runs.{goes_parts}

-- ---- lists

keys_above : {A : Type 0} (key : A → Key) (P : A → Type 0) (R : A → A → Ordering) (x : A) → ((a b : A) → P a → P b → R a b ≡ Less → IsBelow (key a) (key b)) → P x
    → (ys : List A) → AllByRecursion P ys → AllByRecursion (λ y. R x y ≡ Less) ys → AllByRecursion (IsBelow (key x)) (map key ys)
keys_above key P R x up of_x [] all above = tt
keys_above key P R x up of_x (y ∷ ys) all above = (up x y of_x all.0 above.0, keys_above key P R x up of_x ys all.1 above.1)

pub ascends : {A : Type 0} (key : A → Key) (P : A → Type 0) (R : A → A → Ordering) → ((a b : A) → P a → P b → R a b ≡ Less → IsBelow (key a) (key b))
    → (xs : List A) → AllByRecursion P xs → IsStrictlySortedBy R xs → Ascend (map key xs)
ascends key P R up [] all sorted = tt
ascends key P R up (x ∷ xs) all sorted = (keys_above key P R x up all.0 xs all.1 (sorted_head R x xs sorted), ascends key P R up xs all.1 (sorted_tail R x xs sorted))

-- ---- the order by three numbers

below_by : (c d x y u v : ℕ) (rest : Ordering) → ordering_then (nat_cmp c d) (ordering_then (ordering_then (nat_cmp x y) (nat_cmp u v)) rest) ≡ Less
    → (c ≡ d → ordering_then (nat_cmp x y) (nat_cmp u v) ≡ Equal → ⊥) → IsBelow (record { first = c; second = x; third = u }) (record { first = d; second = y; third = v })
below_by c d x y u v rest h apart = elim (ordering_then-Less (nat_cmp c d) _ h) [
  | inl t ↦ let low : c < d = nat_cmp-Less c d t in (omega (arith, low), λ e. absurd (omega (arith, low, e)))
  | inr t ↦
      let same : c ≡ d = nat_cmp-Equal c d t.0 in
      elim (ordering_then-Less (ordering_then (nat_cmp x y) (nat_cmp u v)) _ t.1) [
        | inr e ↦ absurd (apart same e.0)
        | inl e ↦ elim (ordering_then-Less (nat_cmp x y) _ e) [
          | inl l ↦ let low : x < y = nat_cmp-Less x y l in (omega (arith, same), λ e. (omega (arith, low), λ f. absurd (omega (arith, low, f))))
          | inr l ↦
              let second : x ≡ y = nat_cmp-Equal x y l.0 in
              let low : u < v = nat_cmp-Less u v l.1 in
              (omega (arith, same), λ e. (omega (arith, second), λ f. low))
        ]
      ]
]

below_by_tag : (a b : Hop) → ordering_then (nat_cmp a.class b.class) (ordering_then (tag_order a.tag b.tag) (ordering_then (tag_order a.set b.set) (nat_cmp a.pref b.pref))) ≡ Less
    → (a.class ≡ b.class → a.tag ≡ b.tag → ⊥) → IsBelow (tag_key a.class a.tag) (tag_key b.class b.tag)
below_by_tag a b h apart = below_by a.class b.class a.tag.asn b.tag.asn a.tag.value b.tag.value _ h (λ same e. apart same (tag_exact a.tag b.tag (ap is_eq e)))

below_by_prefix : (a b : Announced) → ordering_then (nat_cmp a.class b.class) (ordering_then (prefix_order a.prefix b.prefix) (tag_order a.tag b.tag)) ≡ Less
    → (a.class ≡ b.class → a.prefix ≡ b.prefix → ⊥)
    → IsBelow (record { first = a.class; second = a.prefix.bits; third = a.prefix.len })
    (record { first = b.class; second = b.prefix.bits; third = b.prefix.len })
below_by_prefix a b h apart = below_by a.class b.class a.prefix.bits b.prefix.bits a.prefix.len b.prefix.len _ h (λ same e. apart same (prefix_exact a.prefix b.prefix (ap is_eq e)))

-- ---- one step and one start

module _ (net : PlainNet) (cs : List PlainCaseEvidence) (graphs : (k : ℕ) (c : PlainCaseEvidence) → slice_get cs k ≡ Some c → IsGraph c.graph)
    (single : (k : ℕ) (c : PlainCaseEvidence) → slice_get cs k ≡ Some c → IsSingle net c.graph) (tags : AreTags net cs) where
  pub step_within : (k : ℕ) (c : PlainCaseEvidence) → slice_get cs k ≡ Some c → (n m : ℕ) → has_step c.graph n m ≡ true → (n < length c.graph.nodes) × (m < length c.graph.nodes)
  step_within k c at n m step = AllByRecursion-IsIn (λ (s : ℕ × ℕ). (s.0 < length c.graph.nodes) × (s.1 < length c.graph.nodes)) c.graph.steps (n, m) (graphs k c at).steps (step_in c.graph n m step)

  pub start_within : (k : ℕ) (c : PlainCaseEvidence) → slice_get cs k ≡ Some c → (n : ℕ) → is_start c.graph n ≡ true → n < length c.graph.nodes
  start_within k c at n start = AllByRecursion-IsIn (λ (s : ℕ). s < length c.graph.nodes) c.graph.starts n (graphs k c at).starts (start_in c.graph n start)

  no_router : (l : ℕ) → is_peer net l ≡ true → is_router net l ≡ true → ⊥
  no_router l peer router = omega (arith, ltb-true l (length net.routers) router, leb-true (length net.routers) l (and_parts (nat_le (length net.routers) l) (is_location net l) peer).0)

  start_of_peer : (k : ℕ) (c : PlainCaseEvidence) → slice_get cs k ≡ Some c → (n m : ℕ) → has_step c.graph n m ≡ true → is_peer net (place_of c.graph n) ≡ true → is_start c.graph n ≡ true
  start_of_peer k c at n m step peer = elim (or_cases (is_start c.graph n) (is_router net (place_of c.graph n)) ((single k c at).from n m step)) [ inl t ↦ t | inr t ↦ absurd (no_router _ peer t) ]

  pub one_start : (k : ℕ) (c : PlainCaseEvidence) → slice_get cs k ≡ Some c → (n m : ℕ) → is_start c.graph n ≡ true → is_start c.graph m ≡ true → place_of c.graph n ≡ place_of c.graph m → n ≡ m
  one_start k c at n m at_n at_m same =
      one_by_key nat_eq (place_of c.graph) c.graph.starts n m (single k c at).one_start (start_in c.graph n at_n) (start_in c.graph m at_m) (eq-eqb _ _ same) (eq-eqb _ _ (sym same))

  one_node : (k : ℕ) (c : PlainCaseEvidence) → slice_get cs k ≡ Some c → (n m n' m' : ℕ) → has_step c.graph n m ≡ true → has_step c.graph n' m' ≡ true → place_of c.graph n ≡ place_of c.graph n'
      → tag_at c n ≡ tag_at c n' → n ≡ n'
  one_node k c at n m n' m' step step' same tag = elim (cases_Bool (is_peer net (place_of c.graph n))) [
    | inr t ↦ (tags.differ k k n n' c c at at (step_within k c at n m step).0 (step_within k c at n' m' step').0 t same tag).1
    | inl t ↦ one_start k c at n n' (start_of_peer k c at n m step t) (start_of_peer k c at n' m' step' (ap (is_peer net) (sym same) ∙ t)) same
  ]

  one_next : (k : ℕ) (c : PlainCaseEvidence) → slice_get cs k ≡ Some c → (n m n' m' : ℕ) → has_step c.graph n m ≡ true → has_step c.graph n' m' ≡ true
      → n ≡ n' → place_of c.graph m ≡ place_of c.graph m' → m ≡ m'
  one_next k c at n m n' m' step step' node same =
      let key : ℕ × ℕ → ℕ × ℕ = λ s. (s.0, place_of c.graph s.1) in
      let one = one_by_key same_pair key c.graph.steps (n, m) (n', m') (single k c at).one_step (step_in c.graph n m step) (step_in c.graph n' m' step')
      (and_from _ _ (eq-eqb n n' node) (eq-eqb _ _ same)) (and_from _ _ (eq-eqb n' n (sym node)) (eq-eqb _ _ (sym same))) in
      ap (λ (s : ℕ × ℕ). s.1) one

  same_hop : (a b : Hop) → IsHop cs a → IsHop cs b → a.from ≡ b.from → a.to ≡ b.to → a.class ≡ b.class → a.tag ≡ b.tag → a ≡ b
  same_hop a b is_a is_b from to class tag =
      let place = class_place cs a.class is_a.case is_a.step.at_class in
      let k = place.0 in
      let at = place.2 in
      let both : Some is_b.case ≡ Some is_a.case = sym is_b.step.at_class ∙ ap (case_at cs) (sym class) ∙ is_a.step.at_class in
      let case : is_b.case ≡ is_a.case = cc in
      let c = is_a.case in
      let step_b : has_step c.graph is_b.node is_b.next ≡ true = subst (λ (e : PlainCaseEvidence). has_step e.graph is_b.node is_b.next ≡ true) case is_b.step.step in
      let from_b : place_of c.graph is_b.node ≡ b.from = subst (λ (e : PlainCaseEvidence). place_of e.graph is_b.node ≡ b.from) case is_b.step.from in
      let to_b : place_of c.graph is_b.next ≡ b.to = subst (λ (e : PlainCaseEvidence). place_of e.graph is_b.next ≡ b.to) case is_b.step.to in
      let tag_b : b.tag ≡ tag_at c is_b.node = subst (λ (e : PlainCaseEvidence). b.tag ≡ tag_at e is_b.node) case is_b.tag in
      let node : is_a.node ≡ is_b.node = one_node k c at is_a.node is_a.next is_b.node is_b.next is_a.step.step step_b (is_a.step.from ∙ from ∙ sym from_b) (sym is_a.tag ∙ tag ∙ tag_b) in
      let next : is_a.next ≡ is_b.next = one_next k c at is_a.node is_a.next is_b.node is_b.next is_a.step.step step_b node (is_a.step.to ∙ to ∙ sym to_b) in
      let set : a.set ≡ b.set = is_a.set ∙ ap (tag_at c) next ∙ ap (λ (e : PlainCaseEvidence). tag_at e is_b.next) (sym case) ∙ sym is_b.set in
      let pref : a.pref ≡ b.pref = is_a.pref ∙ ap (number_at c) next ∙ ap (λ (e : PlainCaseEvidence). number_at e is_b.next) (sym case) ∙ sym is_b.pref in
      λ i. record { from = from i; to = to i; class = class i; tag = tag i; set = set i; pref = pref i }

  -- what is between two locations
  abbrev pub IsBetween : ℕ → ℕ → Hop → Type 0
  IsBetween x z h = IsHop cs h × (goes x z h ≡ true)

  pub hop_up : (x z : ℕ) (a b : Hop) → IsBetween x z a → IsBetween x z b → hop_order a b ≡ Less → IsBelow (tag_key a.class a.tag) (tag_key b.class b.tag)
  hop_up x z a b of_a of_b h =
      let ends_a = goes_parts x z a of_a.1 in
      let ends_b = goes_parts x z b of_b.1 in
      let from : a.from ≡ b.from = ends_a.0 ∙ sym ends_b.0 in
      let to : a.to ≡ b.to = ends_a.1 ∙ sym ends_b.1 in
      let apart : a.class ≡ b.class → a.tag ≡ b.tag → ⊥ = λ class tag.
      let same = same_hop a b of_a.0 of_b.0 from to class tag in
      let tied : hop_order a b ≡ Equal = ap (hop_order a) (sym same) ∙ tied_itself hop_total a in
      let clash : Less ≡ Equal = sym h ∙ tied in cc in
      elim (ordering_then-Less (nat_cmp a.from b.from) _ h) [
        | inl t ↦ absurd (omega (arith, nat_cmp-Less a.from b.from t, from))
        | inr t ↦ elim (ordering_then-Less (nat_cmp a.to b.to) _ t.1) [
          | inl u ↦ absurd (omega (arith, nat_cmp-Less a.to b.to u, to))
          | inr u ↦ below_by_tag a b u.1 apart
        ]
      ]

  same_announced : (a b : Announced) → IsAnnounced cs a → IsAnnounced cs b → a.at ≡ b.at → a.class ≡ b.class → a.prefix ≡ b.prefix → a ≡ b
  same_announced a b is_a is_b at class prefix =
      let place = class_place cs a.class is_a.case is_a.at_class in
      let both : Some is_b.case ≡ Some is_a.case = sym is_b.at_class ∙ ap (case_at cs) (sym class) ∙ is_a.at_class in
      let case : is_b.case ≡ is_a.case = cc in
      let c = is_a.case in
      let start_b : is_start c.graph is_b.node ≡ true = subst (λ (e : PlainCaseEvidence). is_start e.graph is_b.node ≡ true) case is_b.start in
      let place_b : place_of c.graph is_b.node ≡ b.at = subst (λ (e : PlainCaseEvidence). place_of e.graph is_b.node ≡ b.at) case is_b.place in
      let node : is_a.node ≡ is_b.node = one_start place.0 c place.2 is_a.node is_b.node is_a.start start_b (is_a.place ∙ at ∙ sym place_b) in
      let tag : a.tag ≡ b.tag = is_a.tag ∙ ap (tag_at c) node ∙ ap (λ (e : PlainCaseEvidence). tag_at e is_b.node) (sym case) ∙ sym is_b.tag in
      λ i. record { at = at i; class = class i; prefix = prefix i; tag = tag i }

  pub announced_up : (x : ℕ) (a b : Announced) → IsAnnounced cs a × (stands x a ≡ true) → IsAnnounced cs b × (stands x b ≡ true) → announced_order a b ≡ Less
      → IsBelow (record { first = a.class; second = a.prefix.bits; third = a.prefix.len }) (record { first = b.class; second = b.prefix.bits; third = b.prefix.len })
  announced_up x a b of_a of_b h =
      let at : a.at ≡ b.at = eqb-true a.at x of_a.1 ∙ sym (eqb-true b.at x of_b.1) in
      let apart : a.class ≡ b.class → a.prefix ≡ b.prefix → ⊥ = λ class prefix.
      let same = same_announced a b of_a.0 of_b.0 at class prefix in
      let tied : announced_order a b ≡ Equal = ap (announced_order a) (sym same) ∙ tied_itself announced_total a in
      let clash : Less ≡ Equal = sym h ∙ tied in cc in
      elim (ordering_then-Less (nat_cmp a.at b.at) _ h) [
        | inl t ↦ absurd (omega (arith, nat_cmp-Less a.at b.at t, at))
        | inr t ↦ below_by_prefix a b t.1 apart
      ]
