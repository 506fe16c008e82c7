use Rattle.std.proofs.Common.{◌≡◌, ◌<◌, ℕ, false, IsTrue, length}
use Rattle.graph_base.specs.Runs.{place_of}
use Rattle.state_simulation.specs.Stages.{asks_later, has_either}
use Rattle.state_simulation.specs.Targets.{is_touched}
use Rattle.state_simulation.proofs.rounds.Rounds.is_open.Given as goal

abbrev pub invariant-loop-n : goal.invariant-loop-n
invariant-loop-n l = (n m : ℕ) → n < l.n → m < length l.maps.graph.now.nodes → IsTrue (is_touched l.self.touched.items n)
    → place_of l.maps.graph.now m ≡ place_of l.maps.graph.now n → asks_later l.self.touched.items m n ≡ false → IsTrue (has_either l.self.left m n)
