-- One line is one step: since tags differ, the step that a line stands for is the step of the node of the tag.
use Rattle.std.proofs.Common.{◌≡◌, ℕ, true, List, ◌∷◌, Some, sym, ap, ◌∙◌}
use Rattle.routing_law.specs.Graph.{Graph, run}
use Rattle.routing_law.specs.Laws.{AnnouncementsAreSteps, ExportsAreSteps, ImportsAreSteps, OwnRoutesAreStarts}
use Rattle.routing_law.specs.Lines.{Lines, Tag}
use Rattle.routing_law.specs.Network.{Network}
use Rattle.routing_law.specs.Spells.{StepOver, Written}
use Rattle.routing_law.proofs.Highest.{over}
use Rattle.routing_law.proofs.Runs.{node_below, run_place, start_is}

-- a step over a line with the tag of a run's node is a step of that node
same_step : (net : Network) (g : Graph) (tag : ℕ → Tag) (c : Lines) → Written net g tag c → (u v n k m : ℕ) (rest : List ℕ) → net.router u ≡ true
    → run g (u ∷ rest) ≡ Some n → StepOver g u v k m → tag k ≡ tag n → g.next n v ≡ Some m
same_step net g tag c written u v n k m rest ro h over e =
    let at = run_place written.formed u rest n h in
    let same : k ≡ n = written.tags k n over.node (node_below written.formed rest u n h) (ap net.router over.place ∙ ro) (over.place ∙ sym at) e in
    ap (λ j. g.next j v) (sym same) ∙ over.step

pub exports_are_steps : ExportsAreSteps
exports_are_steps net g tag c written u v n rest ro h ex =
    let a = written.lines.exports_only u v (tag n) ro ex in
    (a.1, same_step net g tag c written u v n a.0 a.1 rest ro h a.2 a.3)

pub imports_are_steps : ImportsAreSteps
imports_are_steps net g tag c written u v n rest q ru rv h im =
    let a = written.lines.imports_only u v (tag n) q ru rv im in
    (a.1, same_step net g tag c written u v n a.0 a.1 rest ru h a.2 a.3, a.4)

pub own_routes_are_starts : OwnRoutesAreStarts
own_routes_are_starts net g tag c written u v ro o ex =
    let a = written.lines.exports_only u v (c.own u) ro ex in
    (a.0, start_is written.formed u a.0 a.2.node a.2.place o, sym a.3)

pub announcements_are_steps : AnnouncementsAreSteps
announcements_are_steps net g tag c written u v q ru rv o im =
    let a = written.lines.peers_only u v q ru rv im in
    (a.0, a.1, start_is written.formed u a.0 a.2.node a.2.place o, a.2.step, a.3)
