-- A graph whose starts and steps lead to nodes has one trimmed graph.
use Rattle.std.proofs.Common.{◌≡◌, sym, ◌∙◌, subst}
use Rattle.list_law.proofs.Truth.{same_tests}
use Rattle.graph_base.specs.Graphs.{PlainGraph}
use Rattle.net_base.specs.Network.{PlainNet}
use Rattle.walk_states.specs.Built.{IsBuilt}
use Rattle.path_exprs.specs.Standings.{Plan}
use Rattle.reach_prune.specs.Trimmed.{IsTrimmed}
use Rattle.reach_prune.proofs.Agreeing.{graph_kept_same}
use Rattle.graph_law.proofs.BuiltRuns.{inside}
use Rattle.graph_base.proofs.RunSteps.{IsInside}

same_trimmed : (g : PlainGraph) → IsInside g → (t u : PlainGraph) → IsTrimmed g t → IsTrimmed g u → t ≡ u
same_trimmed g inside t u a b =
    a.2 ∙ graph_kept_same a.0 b.0 g inside (λ n lt. same_tests (a.0 n) (b.0 n) (λ h. (b.1 n lt).1 ((a.1 n lt).0 h)) (λ h. (a.1 n lt).1 ((b.1 n lt).0 h))) ∙ sym b.2

pub same_trimmed_graphs : (net : PlainNet) (plan : Plan) (g t u : PlainGraph) → IsBuilt net plan g → IsTrimmed g t → IsTrimmed g u → t ≡ u
same_trimmed_graphs net plan g t u built a b =
    same_trimmed g (subst IsInside (sym built.2) (inside net plan built.0 built.1)) t u a b
