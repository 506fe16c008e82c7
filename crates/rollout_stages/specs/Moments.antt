-- Every moment of a rollout is right.
use Rattle.std.specs.Prelude.{ℕ, Bool, IsTrue, List}
use Rattle.net_base.specs.Network.{PlainNet, IsNet, is_peer}
use Rattle.net_base.specs.Prefixes.{PlainPrefix, IsPrefix}
use Rattle.policy_base.specs.Policies.{IsPolicyOf}
use Rattle.config_base.specs.Configs.{IsConfig}
use Rattle.evidence_base.specs.Made.{PlainCaseEvidence}
use Rattle.evidence_law.specs.Passes.{Passes}
use Rattle.rollout_base.specs.Lines.{SaysNoMore}
use Rattle.rollout_base.specs.Mixtures.{Change, Loaded, Mixture, Part, after, begins}
use Rattle.rollout_base.specs.Moments.{IsRightByEither}
use Rattle.rollout_base.specs.Stages.{MayMix}

-- Old and new evidence passes, and of the prefix the tags are apart or both say the same. Each router runs and takes what says no more than old and new. Then after every
-- list of events and loads, also while messages wait, what is held and heard one of the two policies lets be.
abbrev pub EveryMomentOfARolloutIsRight : Type 0
EveryMomentOfARolloutIsRight =
    (net : PlainNet) (old new : Part) (cs ds : List PlainCaseEvidence) → IsNet net → IsPolicyOf net old.policy → Passes net old.policy old.config cs → IsConfig old.config
    → IsPolicyOf net new.policy → Passes net new.policy new.config ds
    → (p : PlainPrefix) → IsPrefix p → MayMix net p old new
    → (says : ℕ → Bool) → ((a : ℕ) → IsTrue (says a) → IsTrue (is_peer net a))
    → (m : Mixture) → ((r : ℕ) → SaysNoMore net p old new r (m r)) → (es : List Change) → Loaded (SaysNoMore net p old new) es
    → IsRightByEither net old.policy new.policy p (after net says p es (begins net says p m)).world
