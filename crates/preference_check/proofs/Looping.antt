-- Nodes that keep the loop rule with themselves, and so with each node over which they stand.
use Rattle.std.proofs.Common.{◌≡◌, ◌↔◌, ◌≢◌, ℕ, ◌<◌, ◌≤◌, Bool, true, false, not, ◌||◌, eqb, ltb, List, [], ◌∷◌, Option, length, set, refl, sym, ap, ◌∙◌, inl, inr, arith}
use Rattle.std.proofs.Common.{IsTrue, subst, lt-ltb, ltb-true}
use Rattle.std.proofs.lemmas.Bool.{cases_eq, or_cases, and_from, and_parts, both_ways, eq-eqb, eqb-true, not-true, not_from_false}
use Rattle.std.proofs.lemmas.List.{get_or-set_same, get_or-set_other}
use Rattle.net_base.specs.Network.{PlainNet, is_router}
use Rattle.graph_base.specs.Graphs.{PlainGraph}
use Rattle.graph_base.specs.Rules.{IsOver, KeepsLoop, KeepsStep, steps_on}
use Rattle.graph_base.specs.Runs.{has_step, is_listener, place_of, Reaches}
use Rattle.reach_prune.specs.Searches.{Leads, is_among, is_marked}
use Rattle.reach_prune.proofs.Trails.{leads_forward}
use Rattle.reach_prune.specs.Ways.{LeadsFrom}
use Rattle.reach_prune.specs.declared.steps.Way.TheVariants.{Backward}
use Rattle.graph_base.specs.Preferences.{number_in}
use Rattle.preference_check.specs.Floods.{AreLeast, AreNeighbours, AreNoLess, IsNoGreater, KeepsLoopAt}
use Rattle.preference_check.specs.Rows.{has_upto}
use Rattle.preference_check.specs.Runs.{IsRunAt, has_node}
use Rattle.preference_check.specs.declared.runs.Numbered.{Numbered}

-- where the step rule holds, the loop rule need only be asked of a node with itself
pub loop_of_itself : (net : PlainNet) (g : PlainGraph) (number : ℕ → ℕ) (m n : ℕ) → KeepsStep net g number m n → KeepsLoop net g number m m → KeepsLoop net g number m n
loop_of_itself net g number m n step loop t k over on node at_k reach =
    let s = step t over on in
    let itself : IsOver net g number m m = record {
      better = over.better;
      worse = over.better;
      place = refl;
      router = subst (λ l. IsTrue (is_router net l)) (sym over.place) over.router;
      numbers = omega arith;
    } in
    let less : number s.0 ≤ number k = loop s.0 k itself s.1 node (at_k ∙ sym s.2) reach in
    omega (arith, s.3, less)

-- a node without a mark isn't one that is marked now
pub unmarked_set : (marks : List Bool) (at m : ℕ) → at < length marks → is_marked (set marks at true) m ≡ false → (at ≢ m) × (is_marked marks m ≡ false)
unmarked_set marks at m lt h = (
  λ e. both_ways _ h (rw (← e) (get_or-set_same marks at true false lt)),
  elim (cases_eq at m) [
    | inl e ↦ absurd (both_ways _ h (rw (← e) (get_or-set_same marks at true false lt)))
    | inr ne ↦ sym (get_or-set_other marks at m true false (λ e. ne (sym e))) ∙ h
  ],
)

module _ (g : PlainGraph) (numbers : List ℕ) (lists : List (List ℕ)) (l : ℕ) (run : List Numbered) (are : AreNeighbours g lists) (is : IsRunAt g numbers l run) where
  in_run : (n : ℕ) → n < length g.nodes → place_of g n ≡ l → has_node run n (number_in numbers n) ≡ true
  in_run n lt place = is n (number_in numbers n) ∙ and_from (ltb n (length g.nodes)) _ (lt-ltb _ _ lt) (and_from (eqb (place_of g n) l) _ (eq-eqb _ _ place) (eq-eqb _ _ refl))

  -- a router whose nodes have one number
  pub keeps_with_one : ((k n v w : ℕ) → IsTrue (has_node run k v) → IsTrue (has_node run n w) → v ≤ w) → (m : ℕ) → KeepsLoopAt g (number_in numbers) l m
  keeps_with_one one m s k on at_s node at_k reach =
      let step = and_parts (has_step g m s) (not (is_listener g s)) on in
      let within : s < length g.nodes = omega (arith, are.are m s (are.steps m s ∙ step.0), are.size) in
      one s k (number_in numbers s) (number_in numbers k) (in_run s within at_s) (in_run k node at_k)

  -- one whose nodes have several
  pub keeps_by_lows : (lows : List (Option ℕ))
      → ((k number n : ℕ) → IsTrue (has_node run k number) → Leads lists k n → IsTrue (has_upto lows n number)) → (m : ℕ)
      → AreNoLess g (number_in numbers) l lows m → KeepsLoopAt g (number_in numbers) l m
  keeps_by_lows lows low m no_less s k on at_s node at_k reach =
      no_less s (number_in numbers k) on at_s (low k (number_in numbers k) m (in_run k node at_k) ((leads_forward g lists k m are.steps).1 reach))

-- with no greater numbers than the least of the nodes that reach it a node keeps the rule with another
module _ (net : PlainNet) (g : PlainGraph) (numbers : List ℕ) (lists : List (List ℕ)) (before : List Bool) (row : List (Option ℕ)) (m n : ℕ) (nodes : List ℕ) (are : AreNeighbours g lists)
    (marks : (k : ℕ) → k < length g.nodes → IsTrue (is_marked before k) ↔ LeadsFrom Backward g (m ∷ []) k)
    (least : AreLeast g numbers before (length g.nodes) row) (listed : (t : ℕ) → is_among nodes t ≡ has_step g n t) where
  reaches : (k : ℕ) → LeadsFrom Backward g (m ∷ []) k → Reaches g k m
  reaches k h = elim (or_cases (eqb m h.0) false h.1) [ inl e ↦ subst (Reaches g k) (sym (eqb-true m h.0 e)) h.2 | inr none ↦ absurd (both_ways _ refl none) ]

  reached : (k : ℕ) → Reaches g k m → LeadsFrom Backward g (m ∷ []) k
  reached k r = (m, ap (λ b. b || false) (eq-eqb m m refl), r)

  pub keeps_loop : ((t : ℕ) → IsTrue (is_among nodes t) → IsNoGreater g numbers row t) → KeepsLoop net g (number_in numbers) m n
  keeps_loop no_greater t k over on node at_k reach =
      let step = and_parts (has_step g n t) (not (is_listener g t)) on in
      no_greater t (listed t ∙ step.0) (not-true _ step.1) (number_in numbers k) (subst (λ at. IsTrue (has_upto row at (number_in numbers k))) at_k
      (least.whole k (number_in numbers k) node ((marks k node).1 (reached k reach)) (omega arith)))

  pub no_greater_from : IsOver net g (number_in numbers) m n → KeepsLoop net g (number_in numbers) m n → (t : ℕ) → IsTrue (is_among nodes t) → IsNoGreater g numbers row t
  no_greater_from over keeps t h off v low =
      let found = least.sound (place_of g t) v low in
      let on = and_from (has_step g n t) (not (is_listener g t)) (sym (listed t) ∙ h) (not_from_false _ off) in
      let le = keeps t found.0 over on found.1 found.3 (reaches found.0 ((marks found.0 found.1).0 found.2)) in
      omega (arith, le, found.4)

-- a node without a mark keeps the rule with all
pub keeps_all : (net : PlainNet) (g : PlainGraph) (number : ℕ → ℕ) (marks : List Bool) → ((l m : ℕ) → l < length net.routers → is_marked marks m ≡ false → KeepsLoopAt g number l m)
    → ((m t : ℕ) → IsTrue (steps_on g m t) → IsTrue (is_router net (place_of g t))) → ((m n : ℕ) → KeepsStep net g number m n) → (m n : ℕ) → is_marked marks m ≡ false → KeepsLoop net g number m n
keeps_all net g number marks rule routers step m n off =
    loop_of_itself net g number m n (step m n) (λ t k over on node at_k reach. rule (place_of g t) m (ltb-true _ _ (routers m t on)) off t k on refl node at_k reach)
