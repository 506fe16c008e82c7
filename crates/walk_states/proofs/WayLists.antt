-- The ways from each location, gathered link by link.
use Rattle.std.proofs.Common.{◌≡◌, ℕ, zero, suc, ◌+◌, ◌<◌, Bool, true, false, cond, List, [], ◌∷◌, ◌++◌, map, length, get_or, Some, inl, inr, refl, sym, ap, subst, ◌∙◌, arith}
use Rattle.std.specs.Prelude.{filter, option_map, slice_set, ◌==◌, ◌&&◌}
use Rattle.std.specs.List.{flat_map, AllByRecursion}
use Rattle.std.proofs.lemmas.Bool.{cases_Bool, cases_eq, cond-true, cond-false, eq-eqb, ne_eqb, and_left}
use Rattle.std.proofs.lemmas.List.{append-nil, ext_get_or, length-map}
use Rattle.std.proofs.lemmas.Option.{get_or_from_slice_get, slice_get-get_or, slice_get-map, unwrap_or-slice_get}
use Rattle.net_base.specs.Network.{PlainNet, IsNet}
use Rattle.policy_base.specs.declared.case.Case.{Case}
use Rattle.net_base.specs.Locations.{numbers_below}
use Rattle.walk_states.specs.Growth.{may_enter, sends_on, way_between, ways, ways_in}
use Rattle.walk_states.proofs.LinkLemmas.{IsPair, each_pair, other_end, over_links, ways-none, ways-over_links}
use Rattle.net_base.proofs.NumbersBelow.{length-numbers_below, slice_get-numbers_below}

-- what both directions of a link add to the ways from a location
abbrev pub link_ways : PlainNet → Case → ℕ → ℕ × ℕ → List ℕ
link_ways net case at link = way_between net case link.0 link.1 at ++ way_between net case link.1 link.0 at

set_same : {V : Type 0} → (items : V → List ℕ) (all : List V) (k : ℕ) (v d : V) (more : List ℕ) → k < length all → items v ≡ items (get_or all k d) ++ more
    → ways_in (map items (slice_set all k v)) k ≡ ways_in (map items all) k ++ more
unfolding ways_in
set_same items [] k v d more lt h = absurd (omega arith)
set_same items (x ∷ xs) zero v d more lt h = h
set_same items (x ∷ xs) (suc k) v d more lt h = set_same items xs k v d more (omega arith) h

set_other : {V : Type 0} → (items : V → List ℕ) (all : List V) (k at : ℕ) (v : V) → (k ≡ at → ⊥) → ways_in (map items (slice_set all k v)) at ≡ ways_in (map items all) at
unfolding ways_in
set_other items [] k at v ne = refl
set_other items (x ∷ xs) zero zero v ne = absurd (ne refl)
set_other items (x ∷ xs) zero (suc at) v ne = refl
set_other items (x ∷ xs) (suc k) zero v ne = refl
set_other items (x ∷ xs) (suc k) (suc at) v ne = set_other items xs k at v (λ e. ne (ap suc e))

between-way : (net : PlainNet) (case : Case) (from to at : ℕ) → (sends_on net case from && may_enter net case to) ≡ true → from ≡ at → way_between net case from to at ≡ to ∷ []
unfolding way_between
between-way net case from to at ok e =
    ap (λ b. cond (from == at && b) (to ∷ []) []) ok ∙ ap (λ b. cond (b && true) (to ∷ []) []) (eq-eqb from at e)

between-elsewhere : (net : PlainNet) (case : Case) (from to at : ℕ) → (from ≡ at → ⊥) → way_between net case from to at ≡ []
unfolding way_between
between-elsewhere net case from to at ne = ap (λ b. cond (b && (sends_on net case from && may_enter net case to)) (to ∷ []) []) (ne_eqb from at ne)

-- a way is pushed
pub way-pushed : {V : Type 0} → (items : V → List ℕ) (all : List V) (net : PlainNet) (case : Case) (k from to : ℕ) (v d : V) → k ≡ from
    → from < length all → items v ≡ items (get_or all k d) ++ to ∷ []
    → (sends_on net case from && may_enter net case to) ≡ true → (at : ℕ) → ways_in (map items (slice_set all k v)) at ≡ ways_in (map items all) at ++ way_between net case from to at
way-pushed items all net case k from to v d is lt h ok at = elim (cases_eq from at) [
  | inl e ↦
      subst (λ j. ways_in (map items (slice_set all k v)) j ≡ ways_in (map items all) j ++ to ∷ []) (is ∙ e) (set_same items all k v d (to ∷ []) (omega arith) h)
      ∙ ap (λ l. ways_in (map items all) at ++ l) (sym (between-way net case from to at ok e))
  | inr ne ↦
      set_other items all k at v (λ e. ne (sym is ∙ e)) ∙ sym (append-nil (ways_in (map items all) at))
      ∙ ap (λ l. ways_in (map items all) at ++ l) (sym (between-elsewhere net case from to at ne))
]

-- no way is added
pub way-none : (net : PlainNet) (case : Case) (from to at : ℕ) (before : List ℕ) → (sends_on net case from && may_enter net case to) ≡ false → before ≡ before ++ way_between net case from to at
unfolding way_between
way-none net case from to at before off =
    sym (append-nil before) ∙ ap (λ l. before ++ l) (sym (ap (λ b. cond (from == at && b) (to ∷ []) []) off ∙ nothing (from == at)))
  where
    nothing : (b : Bool) → cond (b && false) (to ∷ []) [] ≡ []
    nothing true = refl
    nothing false = refl

pub ways_in-nil : (at : ℕ) → ways_in [] at ≡ []
unfolding ways_in
ways_in-nil at = refl

pub ways_in-push_nil : {V : Type 0} → (items : V → List ℕ) (all : List V) (v : V) → items v ≡ [] → ((at : ℕ) → ways_in (map items all) at ≡ []) → (at : ℕ) → ways_in (map items (all ++ v ∷ [])) at ≡ []
unfolding ways_in
ways_in-push_nil items [] v e h zero = e
ways_in-push_nil items [] v e h (suc at) = refl
ways_in-push_nil items (x ∷ xs) v e h zero = h zero
ways_in-push_nil items (x ∷ xs) v e h (suc at) = ways_in-push_nil items xs v e (λ k. h (suc k)) at

-- a link adds its other end
link_ways-end : (net : PlainNet) (case : Case) (n at : ℕ) (link : ℕ × ℕ) → IsPair n link → sends_on net case at ≡ true → link_ways net case at link ≡ filter (may_enter net case) (other_end at link)
link_ways-end net case n at link pair sends = elim (cases_eq link.0 at) [
  | inl e ↦
      ap (λ l. l ++ way_between net case link.1 link.0 at) (one link.0 link.1 e)
      ∙ ap (λ l. filter (may_enter net case) (link.1 ∷ []) ++ l) (between-elsewhere net case link.1 link.0 at (λ q. absurd (omega (arith, e, q, pair))))
      ∙ append-nil (filter (may_enter net case) (link.1 ∷ []))
      ∙ ap (filter (may_enter net case)) (sym (cond-true (link.0 == at) _ _ (eq-eqb link.0 at e)))
  | inr ne ↦ elim (cases_eq link.1 at) [
    | inl e ↦
        ap (λ l. l ++ way_between net case link.1 link.0 at) (between-elsewhere net case link.0 link.1 at ne)
        ∙ one link.1 link.0 e
        ∙ ap (filter (may_enter net case)) (sym (cond-false (link.0 == at) _ _ (ne_eqb link.0 at ne) ∙ cond-true (link.1 == at) _ _ (eq-eqb link.1 at e)))
    | inr un ↦
        ap (λ l. l ++ way_between net case link.1 link.0 at) (between-elsewhere net case link.0 link.1 at ne)
        ∙ between-elsewhere net case link.1 link.0 at un
        ∙ ap (filter (may_enter net case)) (sym (cond-false (link.0 == at) _ _ (ne_eqb link.0 at ne) ∙ cond-false (link.1 == at) _ _ (ne_eqb link.1 at un)))
  ]
]
  where
    entered : (from to : ℕ) (b : Bool) → from ≡ at → may_enter net case to ≡ b → way_between net case from to at ≡ cond b (to ∷ []) []
    entered from to true e m = between-way net case from to at (ap (λ k. sends_on net case k && may_enter net case to) e ∙ ap (λ b. b && may_enter net case to) sends ∙ m) e
    entered from to false e m = sym (way-none net case from to at [] (ap (λ k. sends_on net case k && may_enter net case to) e ∙ ap (λ b. b && may_enter net case to) sends ∙ m))

    one : (from to : ℕ) → from ≡ at → way_between net case from to at ≡ filter (may_enter net case) (to ∷ [])
    one from to e = entered from to (may_enter net case to) e refl

no_link_ways : (net : PlainNet) (case : Case) (at : ℕ) (link : ℕ × ℕ) → sends_on net case at ≡ false → link_ways net case at link ≡ []
no_link_ways net case at link off = ap (λ l. l ++ way_between net case link.1 link.0 at) (one link.0 link.1) ∙ one link.1 link.0
  where
    one : (from to : ℕ) → way_between net case from to at ≡ []
    one from to = elim (cases_eq from at) [
      | inl e ↦ sym (way-none net case from to at [] (and_left (sends_on net case from) (may_enter net case to) (ap (sends_on net case) e ∙ off)))
      | inr ne ↦ between-elsewhere net case from to at ne
    ]

links-over : (net : PlainNet) (case : Case) (n at : ℕ) (links : List (ℕ × ℕ)) → AllByRecursion (IsPair n) links → sends_on net case at ≡ true
    → flat_map (link_ways net case at) links ≡ over_links net case at links
links-over net case n at [] pairs sends = refl
links-over net case n at (a ∷ links) pairs sends =
    ap (λ l. l ++ flat_map (link_ways net case at) links) (link_ways-end net case n at a pairs.0 sends)
    ∙ ap (λ l. filter (may_enter net case) (other_end at a) ++ l) (links-over net case n at links pairs.1 sends)

links-none : (net : PlainNet) (case : Case) (at : ℕ) (links : List (ℕ × ℕ)) → sends_on net case at ≡ false → flat_map (link_ways net case at) links ≡ []
links-none net case at [] off = refl
links-none net case at (a ∷ links) off = ap (λ l. l ++ flat_map (link_ways net case at) links) (no_link_ways net case at a off) ∙ links-none net case at links off

pub links-ways : (net : PlainNet) (case : Case) (at : ℕ) → IsNet net → flat_map (link_ways net case at) net.links ≡ ways net case at
links-ways net case at rules = elim (cases_Bool (sends_on net case at)) [
  | inl t ↦ links-over net case (length net.routers + length net.peers) at net.links (each_pair net net.links rules.links) t ∙ ways-over_links net case at rules t
  | inr f ↦ links-none net case at net.links f ∙ ways-none net case at f
]

-- lists that hold the ways from each location
pub ways-all : (all : List (List ℕ)) (f : ℕ → List ℕ) (n : ℕ) → length all ≡ n → ((at : ℕ) → ways_in all at ≡ f at) → all ≡ map f (numbers_below n)
unfolding ways_in
ways-all all f n size each =
    let made = length-map (numbers_below n) f ∙ length-numbers_below n in
    ext_get_or [] all (map f (numbers_below n)) (size ∙ sym made)
    (λ k lt.
    let here = slice_get-map f (numbers_below n) k ∙ ap (λ o. option_map f o) (slice_get-numbers_below n k (omega arith)) in
    get_or_from_slice_get all k (f k) [] (slice_get-get_or all k [] lt ∙ ap Some (sym (unwrap_or-slice_get all k []) ∙ each k)) ∙ sym (get_or_from_slice_get (map f (numbers_below n)) k (f k) [] here))
