-- Peers on a path.
use Rattle.std.proofs.Common.{◌≡◌, ℕ, true, List, [], ◌∷◌, ◌++◌}
use Rattle.std.specs.List.{list_any}
use Rattle.std.proofs.lemmas.Bool.{or_left, or_right}
use Rattle.net_base.specs.Network.{PlainNet, is_peer}
use Rattle.policy_base.specs.Meaning.{front}

-- a peer with a place after it isn't the last place
pub peer_inside : (net : PlainNet) (above : List ℕ) (p u : ℕ) (rest : List ℕ) → is_peer net p ≡ true → list_any (is_peer net) (front (above ++ p ∷ u ∷ rest)) ≡ true
peer_inside net [] p u rest peer = or_left (is_peer net p) (list_any (is_peer net) (front (u ∷ rest))) peer
peer_inside net (a ∷ []) p u rest peer = or_right (is_peer net a) (list_any (is_peer net) (front (p ∷ u ∷ rest))) (peer_inside net [] p u rest peer)
peer_inside net (a ∷ b ∷ above) p u rest peer = or_right (is_peer net a) (list_any (is_peer net) (front (b ∷ above ++ p ∷ u ∷ rest))) (peer_inside net (b ∷ above) p u rest peer)
