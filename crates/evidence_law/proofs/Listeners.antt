-- Listeners of a faithful graph have ranks.
use Rattle.std.proofs.Common.{◌≡◌, ℕ, ◌<◌, Bool, true, false, List, [], ◌∷◌, ◌++◌, length, Some, sym, ap, ◌∙◌}
use Rattle.std.specs.Prelude.{not, is_some}
use Rattle.std.proofs.lemmas.Bool.{and_from, and_parts, not-true, true≢false}
use Rattle.net_base.specs.Network.{PlainNet, is_peer}
use Rattle.policy_base.specs.Policies.{PlainStatement}
use Rattle.policy_base.specs.Permitted.{from_holds}
use Rattle.policy_base.proofs.Peers.{peer_inside}
use Rattle.policy_base.proofs.WalkParts.{walk_parts}
use Rattle.graph_base.specs.Graphs.{PlainGraph, IsGraph}
use Rattle.graph_base.specs.Runs.{is_listener, is_start, place_of, rank_at, run}
use Rattle.graph_base.proofs.RunSteps.{late_no_origin, run_begins}
use Rattle.graph_base.proofs.StartsAndSteps.{start_at-is}
use Rattle.evidence_law.specs.Faithful.{IsFaithful, may_start, permits}
use Rattle.evidence_law.proofs.PermittedWalks.{permits_parts}

module _ (net : PlainNet) (s : PlainStatement) (origin : ℕ → Bool) (external : Bool) (g : PlainGraph) (graph_rules : IsGraph g) (faithful : IsFaithful net s origin external g) where
  -- a node at a peer at which a walk ends has the rank of that walk, since nothing stands in front of a peer
  peer_ranked : (n : ℕ) → is_peer net (place_of g n) ≡ true → is_start g n ≡ false → (path above : List ℕ) → run g path ≡ Some n
      → permits net origin s (above ++ path) ≡ true → is_some (rank_at g n) ≡ true
  peer_ranked n peer late [] above h permitted = absurd cc
  peer_ranked n peer late (l ∷ []) above h permitted = absurd (true≢false (sym (start_at-is g l n h).0 ∙ late))
  peer_ranked n peer late (l ∷ k ∷ ls) [] h permitted =
      let at = run_begins g l n (k ∷ ls) h in
      let parts = permits_parts net origin s (l ∷ k ∷ ls) permitted in
      let outside = late_no_origin net origin external g graph_rules faithful.formed l k n ls h in
      let may : may_start origin s (place_of g n) ≡ true = ap (may_start origin s) at ∙ and_from (from_holds s.from l) (not (origin l)) parts.2 (ap not outside) in
      ap is_some (faithful.ranks (l ∷ k ∷ ls) n h may) ∙ parts.3
  peer_ranked n peer late (l ∷ k ∷ ls) (a ∷ above) h permitted =
      let at = run_begins g l n (k ∷ ls) h in
      let walk = walk_parts net (a ∷ above ++ l ∷ k ∷ ls) (permits_parts net origin s (a ∷ above ++ l ∷ k ∷ ls) permitted).0 in
      absurd (true≢false (sym (peer_inside net above l k ls (ap (is_peer net) (sym at) ∙ peer)) ∙ walk.1))

  pub listeners_ranked : (n : ℕ) → n < length g.nodes → is_listener g n ≡ true → is_some (rank_at g n) ≡ true
  listeners_ranked n node hears =
      let kind = and_parts (is_peer net (place_of g n)) (not (is_start g n)) (sym (faithful.formed.listeners n node) ∙ hears) in
      let ended = faithful.is_ended n node in
      let suffix = faithful.has_no_other ended.0 ended.1 (ap is_some ended.2) in
      peer_ranked n kind.0 (not-true (is_start g n) kind.1) ended.0 suffix.0 ended.2 suffix.1
