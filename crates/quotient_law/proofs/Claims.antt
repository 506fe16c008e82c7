-- What the rules ask of claimed routers.
use Rattle.std.proofs.Common.{ℕ, Bool}
use Rattle.net_base.specs.Network.{PlainNet}
use Rattle.graph_base.specs.Graphs.{PlainGraph}
use Rattle.graph_base.specs.Rules.{MeetsRules}
use Rattle.graph_base.specs.Runs.{place_of}

-- the rules ask for ranks at claimed routers alone
pub rules_claimed : (net : PlainNet) (One Other : ℕ → Type 0) (external : Bool) (g : PlainGraph) (number : ℕ → ℕ) → ((l : ℕ) → Other l → One l)
    → MeetsRules net One external g number → MeetsRules net Other external g number
rules_claimed net One Other external g number to rules = record {
  rank = λ m n i over claimed. rules.rank m n i over (to (place_of g n) claimed);
  step = rules.step;
  loop = rules.loop;
  listener = rules.listener;
}
