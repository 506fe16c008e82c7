-- The tags that were seen at the nodes before one.
use Rattle.std.specs.Prelude.{◌≡◌, ◌⊎◌, ℕ, ◌<◌, Bool, false, ◌&&◌, ◌==◌, IsTrue, List, if◌then◌else◌}
use Rattle.std.specs.List.{list_any}
use Rattle.net_base.specs.declared.numbers.Tag.{Tag}
use Rattle.net_base.specs.Network.{PlainNet, asn_of, is_peer}
use Rattle.net_base.specs.Numbers.{is_tag, no_tag}
use Rattle.graph_base.specs.Runs.{place_of}
use Rattle.config_base.specs.Lines.{same_tag}
use Rattle.evidence_base.specs.Made.{PlainCaseEvidence, tag_at}
use Rattle.evidence_verdicts.specs.Rules.{IsNodeOf, KeepsTag}

-- what a tag at a location is by itself: none at a peer, else one with the location's AS number
abbrev pub is_right_tag : PlainNet → ℕ → Tag → Bool
is_right_tag net l t = if is_peer net l then same_tag t no_tag else is_tag t && t.asn == asn_of net l

-- a node stands before another: in an earlier case, or in the same one with a lesser number
abbrev pub IsEarlierNode : ℕ → ℕ → ℕ → ℕ → Type 0
IsEarlierNode j m k n = (j < k) ⊎ ((j ≡ k) × (m < n))

-- each node before this one keeps the rule, and the tags that were seen are those of the nodes at routers among them
pub record AreSeen (net : PlainNet) (cs : List PlainCaseEvidence) (k n : ℕ) (seen : List Tag) : Type 0 where
  pub kept : (j m : ℕ) → IsEarlierNode j m k n → KeepsTag net cs j m
  pub has : (j m : ℕ) (d : PlainCaseEvidence) → IsNodeOf cs j m d → IsEarlierNode j m k n → is_peer net (place_of d.graph m) ≡ false → IsTrue (list_any (same_tag (tag_at d m)) seen)
  pub from : (t : Tag) → IsTrue (list_any (same_tag t) seen)
      → (j m : ℕ) × (d : PlainCaseEvidence) × IsNodeOf cs j m d × IsEarlierNode j m k n × (is_peer net (place_of d.graph m) ≡ false) × (tag_at d m ≡ t)
