-- A faithful graph has the walks of its statement, and each node has the rank of its walks.
use Rattle.std.proofs.Common.{ℕ, ◌<◌, Bool, length}
use Rattle.std.specs.Prelude.{◌↔◌}
use Rattle.net_base.specs.Network.{PlainNet}
use Rattle.policy_base.specs.Policies.{PlainStatement}
use Rattle.graph_base.specs.Graphs.{PlainGraph, IsGraph}
use Rattle.evidence_law.specs.Faithful.{IsFaithful, HasWalks, HasRank}
use Rattle.graph_base.proofs.RunSteps.{run_inside}

pub faithful_parts : (net : PlainNet) (s : PlainStatement) (origin : ℕ → Bool) (external : Bool) (g : PlainGraph) → IsGraph g
    → IsFaithful net s origin external g ↔ HasWalks net s origin external g × ((n : ℕ) → n < length g.nodes → HasRank net s origin g n)
faithful_parts net s origin external g rules = (apart, together)
  where
    apart : IsFaithful net s origin external g → HasWalks net s origin external g × ((n : ℕ) → n < length g.nodes → HasRank net s origin g n)
    apart f = (
      record { formed = f.formed; has_run = f.has_run; has_no_other = f.has_no_other; is_ended = f.is_ended },
      λ n within. record { walks = λ path run may. f.ranks path n run may; elsewhere = f.unranked n within },
    )

    together : HasWalks net s origin external g × ((n : ℕ) → n < length g.nodes → HasRank net s origin g n) → IsFaithful net s origin external g
    together h = record {
      formed = h.0.formed;
      has_run = h.0.has_run;
      has_no_other = h.0.has_no_other;
      is_ended = h.0.is_ended;
      ranks = λ path n run may. (h.1 n (run_inside g rules path n run)).walks path run may;
      unranked = λ n within. (h.1 n within).elsewhere;
    }
