-- On a graph that is well formed the rules of evidence are met by the same numbers as the rules of the relation.
use Rattle.std.proofs.Common.{◌≡◌, ℕ, ◌<◌, ◌≤◌, Bool, true, false, nat_le, length, Some, inl, inr, arith, refl, sym, ap, ◌∙◌}
use Rattle.std.proofs.lemmas.Bool.{cases_Bool, and_parts, and_from, both_ways, leb-true, le-leb, cond-true, cond-false}
use Rattle.net_base.specs.declared.loc.LocSet.{LocSet}
use Rattle.net_base.specs.Network.{PlainNet, is_peer, is_router}
use Rattle.net_base.specs.Sets.{holds}
use Rattle.list_law.proofs.Options.{is_some_parts}
use Rattle.graph_base.specs.Graphs.{PlainGraph, IsGraph}
use Rattle.graph_base.specs.Rules.{IsWellFormed, IsOver, MeetsRules, steps_on, is_heard}
use Rattle.graph_base.specs.Runs.{place_of, is_listener, rank_at, is_start, has_step}
use Rattle.graph_base.proofs.WellFormed.{alone_with_steps, no_step_to_start, only_itself, start_there}
use Rattle.graph_base.proofs.StartsAndSteps.{step_nodes}
use Rattle.relation_law.specs.Evidence.{AreRouters, AreRanked, at_routers}
use Rattle.relation_law.specs.Numbers.{AreNumbers}
use Rattle.relation_law.specs.Relations.{Pair, Meets, no_worse}
use Rattle.relation_law.specs.Views.{view_of}
use Rattle.relation_law.proofs.Ranks.{no_worse_refl, no_worse_some, no_worse_from, no_worse_at}
use Rattle.relation_law.proofs.Rounds.{Answer, Hearer}

-- numbers of the relation meet the rules of evidence
pub numbers_meet_rules : (net : PlainNet) (claimed : LocSet) (external : Bool) (g : PlainGraph) (number : ℕ → ℕ) → IsGraph g
    → AreNumbers (view_of g claimed) number → MeetsRules net (λ l. holds claimed l ≡ true) external g number
numbers_meet_rules net claimed external g number ok are =
    let meets : (m n : ℕ) → IsOver net g number m n → Meets (view_of g claimed) (λ a b. nat_le (number b) (number a)) m n = λ m n over.
    are m n (record { left = over.better; right = over.worse; place = over.place }) over.numbers in
    let to : (n t : ℕ) → has_step g n t ≡ true → t < length g.nodes = λ n t st. (step_nodes g n t ok st).1 in
    record {
      rank = λ m n i over cl e. no_worse_some (rank_at g m) i (ap (no_worse (rank_at g m)) (sym e) ∙ (meets m n over).rank cl);
      step = λ m n t over st.
          let x : Answer (view_of g claimed) (λ a b. nat_le (number b) (number a)) m t = (meets m n over).step t (to n t (and_parts (has_step g n t) _ st).0) st in
          (x.0, x.2, x.3, leb-true _ _ x.4);
      loop = λ m n t k over st lk e leads. leb-true _ _ ((meets m n over).loop t k (to n t (and_parts (has_step g n t) _ st).0) lk st e leads);
      listener = λ m n t i ext over st e.
          let x : Hearer (view_of g claimed) m t = (meets m n over).listener t (to n t (and_parts (has_step g n t) _ st).0) st in
          let y : (j : ℕ) × (rank_at g x.0 ≡ Some j) × (j ≤ i) = no_worse_some (rank_at g x.0) i (ap (no_worse (rank_at g x.0)) (sym e) ∙ x.4) in
          (x.0, y.0, x.2, x.3, y.1, y.2);
    }

module _ (net : PlainNet) (origin : ℕ → Bool) (external : Bool) (g : PlainGraph) (formed : IsWellFormed net origin external g) (ok : IsGraph g) where
  module _ (claimed : LocSet) (routers : AreRouters net claimed) (ranked : AreRanked g) (number : ℕ → ℕ) (rules : MeetsRules net (λ l. holds claimed l ≡ true) external g number) where
    -- away from the routers the rules hold by themselves
    meets_away : (m n : ℕ) → Pair (view_of g claimed) m n → is_router net (place_of g n) ≡ false → Meets (view_of g claimed) (λ a b. nat_le (number b) (number a)) m n
    meets_away m n pair away = record {
      rank = λ cl. absurd (both_ways _ away (routers (place_of g n) cl));
      step = λ t lt st.
          let one = alone_with_steps net origin external g formed m n t pair.left pair.place away (and_parts (has_step g n t) _ st).0 in
          (t, lt, ap (λ z. steps_on g z t) one.0 ∙ st, refl, le-leb (number t) (number t) (omega arith));
      loop = λ t k lt lk st e leads.
          let step = (and_parts (has_step g n t) _ st).0 in
          let one = alone_with_steps net origin external g formed m n t pair.left pair.place away step in
          let m_start : is_start g m ≡ true = ap (is_start g) one.0 ∙ one.1 in
          let k_is : k ≡ m = only_itself net origin external g formed k m m_start leads in
          let k_start : is_start g k ≡ true = ap (is_start g) k_is ∙ m_start in
          absurd (no_step_to_start net origin external g formed n t step (start_there net origin external g formed t k lt k_start (sym e)));
      listener = λ t lt st.
          let one = alone_with_steps net origin external g formed m n t pair.left pair.place away (and_parts (has_step g n t) _ st).0 in
          (t, lt, ap (λ z. is_heard g z t) one.0 ∙ st, refl, no_worse_refl (rank_at g t));
    }

    meets_over : (m n : ℕ) → IsOver net g number m n → Meets (view_of g claimed) (λ a b. nat_le (number b) (number a)) m n
    meets_over m n over = record {
      rank = λ cl. no_worse_from (rank_at g m) (rank_at g n) (λ i e. rules.rank m n i over cl e);
      step = λ t lt st.
          let x : (s : ℕ) × (steps_on g m s ≡ true) × (place_of g s ≡ place_of g t) × (number t ≤ number s) = rules.step m n t over st in
          (x.0, (step_nodes g m x.0 ok (and_parts (has_step g m x.0) _ x.1).0).1, x.1, x.2, le-leb _ _ x.3);
      loop = λ t k lt lk st e leads. le-leb _ _ (rules.loop m n t k over st lk e leads);
      listener = λ t lt st.
          let p = and_parts (has_step g n t) (is_listener g t) st in
          let peer : is_peer net (place_of g t) ≡ true = (and_parts (is_peer net (place_of g t)) _ (sym (formed.listeners t lt) ∙ p.1)).0 in
          let i : (i : ℕ) × (rank_at g t ≡ Some i) = is_some_parts (rank_at g t) (ranked t lt p.1) in
          let x : (s j : ℕ) × (is_heard g m s ≡ true) × (place_of g s ≡ place_of g t) × (rank_at g s ≡ Some j) × (j ≤ i.0) =
          rules.listener m n t i.0 (formed.into n t (and_from _ _ p.0 peer)) over st i.1 in
          (x.0, (step_nodes g m x.0 ok (and_parts (has_step g m x.0) _ x.2).0).1, x.2, x.3, no_worse_at (rank_at g x.0) (rank_at g t) x.1 i.0 x.4 i.1 x.5);
    }

    -- numbers that meet the rules of evidence are numbers of the relation
    pub rules_give_numbers : AreNumbers (view_of g claimed) number
    rules_give_numbers m n pair le = elim (cases_Bool (is_router net (place_of g n))) [
      | inl router ↦ meets_over m n (record { better = pair.left; worse = pair.right; place = pair.place; router = router; numbers = le })
      | inr away ↦ meets_away m n pair away
    ]

-- what numbers nodes elsewhere have makes no difference to the rules of evidence
pub rules_at_routers : (net : PlainNet) (claimed : LocSet) (external : Bool) (g : PlainGraph) (number : ℕ → ℕ) → MeetsRules net (λ l. holds claimed l ≡ true) external g number →
    MeetsRules net (λ l. holds claimed l ≡ true) external g (at_routers net g number)
rules_at_routers net claimed external g number rules =
    let here : (n : ℕ) → is_router net (place_of g n) ≡ true → at_routers net g number n ≡ number n = λ n e. cond-true (is_router net (place_of g n)) (number n) 0 e in
    let le : (a b : ℕ) → place_of g a ≡ place_of g b → number b ≤ number a → at_routers net g number b ≤ at_routers net g number a = λ a b e h. elim (cases_Bool (is_router net (place_of g b))) [
      | inl router ↦ (
          let one = here b router in
          let two = here a (ap (is_router net) e ∙ router) in
          omega (arith, h))
      | inr away ↦ (
          let one = cond-false (is_router net (place_of g b)) (number b) 0 away in
          omega arith)
    ] in
    let over : (m n : ℕ) → IsOver net g (at_routers net g number) m n → IsOver net g number m n = λ m n o.
    record {
      better = o.better;
      worse = o.worse;
      place = o.place;
      router = o.router;
      numbers =
          let one = here n o.router in
          let two = here m (ap (is_router net) o.place ∙ o.router) in
          omega (arith, o.numbers);
    } in
    record {
      rank = λ m n i o. rules.rank m n i (over m n o);
      step = λ m n t o st.
          let x : (s : ℕ) × (steps_on g m s ≡ true) × (place_of g s ≡ place_of g t) × (number t ≤ number s) = rules.step m n t (over m n o) st in
          (x.0, x.1, x.2, le x.0 t x.2 x.3);
      loop = λ m n t k o st lk e leads. le k t e (rules.loop m n t k (over m n o) st lk e leads);
      listener = λ m n t i ext o. rules.listener m n t i ext (over m n o);
    }
