-- The inferred numbers meet the rules of evidence.
use Rattle.std.proofs.Common.{◌≡◌, ℕ, ◌<◌, ◌≤◌, Bool, true, List, length, arith}
use Rattle.std.proofs.lemmas.Bool.{and_parts}
use Rattle.graph_base.specs.Graphs.{PlainGraph, IsGraph}
use Rattle.graph_base.specs.Rules.{IsOver, MeetsRules, steps_on}
use Rattle.graph_base.specs.Runs.{has_step, place_of}
use Rattle.net_base.specs.Network.{PlainNet}
use Rattle.net_base.specs.Sets.{holds}
use Rattle.graph_base.specs.Preferences.{number_in}
use Rattle.preference_numbers.specs.Inferred.{inferred}
use Rattle.relation_law.specs.Numbers.{number_of}
use Rattle.relation_law.specs.Views.{view_of}
use Rattle.graph_base.proofs.StartsAndSteps.{step_nodes}
use Rattle.relation_law.proofs.Bridge.{numbers_meet_rules, rules_at_routers}
use Rattle.relation_law.proofs.Counts.{counts_are_numbers}
use Rattle.state_simulation.specs.Held.{HasEach, IsRelationOf, PlainRelation, has}
use Rattle.state_simulation.proofs.Holding.{total_where_each}

-- only the numbers of nodes matter
rules_alike : (net : PlainNet) (Claimed : ℕ → Type 0) (external : Bool) (g : PlainGraph) (one other : ℕ → ℕ) → IsGraph g
    → ((n : ℕ) → n < length g.nodes → other n ≡ one n) → MeetsRules net Claimed external g one → MeetsRules net Claimed external g other
rules_alike net Claimed external g one other ok same rules =
    let le : (a b : ℕ) → a < length g.nodes → b < length g.nodes → one b ≤ one a → other b ≤ other a = λ a b la lb h. (let x = same a la in let y = same b lb in omega (arith, h)) in
    let over : (m n : ℕ) → IsOver net g other m n → IsOver net g one m n = λ m n o.
    record { better = o.better; worse = o.worse; place = o.place; router = o.router; numbers = (let x = same m o.better in let y = same n o.worse in omega (arith, o.numbers)) } in
    let to : (n t : ℕ) → steps_on g n t ≡ true → t < length g.nodes = λ n t st. (step_nodes g n t ok (and_parts (has_step g n t) _ st).0).1 in
    record {
      rank = λ m n i o. rules.rank m n i (over m n o);
      step = λ m n t o st.
          let x : (s : ℕ) × (steps_on g m s ≡ true) × (place_of g s ≡ place_of g t) × (one t ≤ one s) = rules.step m n t (over m n o) st in
          (x.0, x.1, x.2, le x.0 t (to m x.0 x.1) (to n t st) x.3);
      loop = λ m n t k o st lk e leads. le k t lk (to n t st) (rules.loop m n t k (over m n o) st lk e leads);
      listener = λ m n t i ext o. rules.listener m n t i ext (over m n o);
    }

pub inferred_meet : (net : PlainNet) (external : Bool) (g : PlainGraph) (r : PlainRelation) (of : List ℕ) → IsGraph g → IsRelationOf g r → HasEach r
    → ((n : ℕ) → n < length g.nodes → number_in of n ≡ inferred net g r n) →
    MeetsRules net (λ l. holds r.claimed l ≡ true) external g (number_in of)
inferred_meet net external g r of ok is each numbers =
    let number = number_of (length g.nodes) (has r) in
    rules_alike net (λ l. holds r.claimed l ≡ true) external g (inferred net g r) (number_in of) ok numbers
    (rules_at_routers net r.claimed external g number (numbers_meet_rules net r.claimed external g number ok
    (counts_are_numbers (view_of g r.claimed) (has r) is.greatest (total_where_each g r is each))))
