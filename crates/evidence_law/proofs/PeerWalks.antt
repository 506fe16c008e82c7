-- A path that has a run in a case's graph, with a peer in front, is permitted: nothing stands before a peer that passes a route on.
use Rattle.std.proofs.Common.{◌≡◌, ℕ, true, List, [], ◌∷◌, ◌++◌, Some, refl, sym, ap, ◌∙◌, subst}
use Rattle.std.specs.Prelude.{is_some}
use Rattle.std.proofs.lemmas.Bool.{true≢false}
use Rattle.net_base.specs.Network.{PlainNet, is_peer}
use Rattle.net_base.specs.Sets.{holds}
use Rattle.policy_base.specs.Policies.{PlainStatement}
use Rattle.policy_base.specs.Walks.{is_walk}
use Rattle.policy_base.proofs.Peers.{peer_inside}
use Rattle.policy_base.proofs.WalkParts.{walk_parts}
use Rattle.graph_base.specs.Runs.{run}
use Rattle.evidence_base.specs.Made.{PlainCaseEvidence}
use Rattle.evidence_law.specs.Faithful.{permits}
use Rattle.evidence_law.specs.Passes.{IsCaseGraph}
use Rattle.evidence_law.proofs.PermittedWalks.{permits_parts}
use Rattle.evidence_law.proofs.RunWalks.{runs_are_walks}

-- a walk with a peer in front of others has nothing before the peer
nothing_above : (net : PlainNet) (above : List ℕ) (peer u : ℕ) (rest : List ℕ) → is_peer net peer ≡ true → is_walk net (above ++ peer ∷ u ∷ rest) ≡ true → above ≡ []
nothing_above net [] peer u rest at walk = refl
nothing_above net (a ∷ more) peer u rest at walk =
    absurd (true≢false (sym (peer_inside net more peer u rest at) ∙ (walk_parts net (a ∷ more ++ peer ∷ u ∷ rest) walk).1))

pub peer_permits : (net : PlainNet) (s : PlainStatement) (c : PlainCaseEvidence) → IsCaseGraph net s c → (peer u n : ℕ) (rest : List ℕ)
    → is_peer net peer ≡ true → run c.graph (peer ∷ u ∷ rest) ≡ Some n
    → permits net (holds c.case.origins) s (peer ∷ u ∷ rest) ≡ true
peer_permits net s c on peer u n rest at runs =
    let path = runs_are_walks net (holds c.case.origins) c.case.external c.graph on.graph on.faithful.formed (peer ∷ u ∷ rest) n runs in
    let above = on.faithful.has_no_other (peer ∷ u ∷ rest) path (ap is_some runs) in
    let none = nothing_above net above.0 peer u rest at (permits_parts net (holds c.case.origins) s (above.0 ++ peer ∷ u ∷ rest) above.1).0 in
    subst (λ (a : List ℕ). permits net (holds c.case.origins) s (a ++ peer ∷ u ∷ rest) ≡ true) none above.1
