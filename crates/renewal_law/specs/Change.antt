-- A change of policy while the network runs, with what `check`, `between` and `renew` tell of it.
use Rattle.std.specs.Prelude.{◌≡◌, ◌⊎◌, ℕ, Bool, false, IsTrue, List}
use Rattle.net_base.specs.Network.{PlainNet, IsNet, is_peer, is_router}
use Rattle.net_base.specs.Prefixes.{PlainPrefix}
use Rattle.policy_base.specs.Policies.{IsPolicyOf}
use Rattle.policy_base.specs.Governing.{is_origin}
use Rattle.config_base.specs.Configs.{IsConfig}
use Rattle.evidence_base.specs.Made.{PlainCaseEvidence}
use Rattle.evidence_law.specs.Passes.{Passes}
use Rattle.evidence_renewal.specs.Laws.{IsAbove as AreAllAbove}
use Rattle.rollout_base.specs.Lines.{AreApart}
use Rattle.rollout_base.specs.Mixtures.{Part}
use Rattle.rollout_base.specs.Stages.{SayAlike}
use Rattle.rollout_law.specs.Standing.{AreDisjoint}
use Rattle.rollout_mixtures.specs.Between.{IsAbove}
use Rattle.stage_check.specs.Laws.{AreRollouts}

-- A network goes over from one policy with its configuration to another:
pub record IsChange (net : PlainNet) (old new : Part) : Type 0 where
  pub network : IsNet net
  pub old_policy : IsPolicyOf net old.policy
  pub new_policy : IsPolicyOf net new.policy
  pub old_config : IsConfig old.config
  pub new_config : IsConfig new.config
  -- the evidence of both passes, as `check` tells,
  pub old_passes : (cs : List PlainCaseEvidence) × Passes net old.policy old.config cs
  pub new_passes : (ds : List PlainCaseEvidence) × Passes net new.policy new.config ds
  -- and with the stages that `between` writes they are a rollout.
  pub stages : AreRollouts old.config new.config

-- For a prefix the new configuration takes over from the old one: what the one gives the other doesn't read, and each preference that a new
-- line gives is above each that an old one gives.
pub record TakesOver (net : PlainNet) (p : PlainPrefix) (old new : Part) : Type 0 where
  pub apart : AreApart net p old new
  pub above : IsAbove net p old new

-- A prefix stays, as both configurations do the same with it, or the new one takes over for it.
abbrev pub StaysOrGoesOver : PlainNet → PlainPrefix → Part → Part → Type 0
StaysOrGoesOver net p old new = SayAlike net p old.config new.config ⊎ TakesOver net p old new

-- Everything of the old configuration is replaced, as where `renew` has no evidence: no tag stands in both, and each new preference is above
-- each of the old one.
pub record ReplacesAll (old new : Part) : Type 0 where
  pub apart : AreDisjoint new.config old.config
  pub above : AreAllAbove new.config old.config

-- Who announces the prefix: peers alone, and all that are its origins by either policy.
pub record Announce (net : PlainNet) (p : PlainPrefix) (old new : Part) (says : ℕ → Bool) : Type 0 where
  pub peers : (a : ℕ) → IsTrue (says a) → IsTrue (is_peer net a)
  pub old_origins : (a : ℕ) → is_router net a ≡ false → IsTrue (is_origin net old.policy p a) → IsTrue (says a)
  pub new_origins : (a : ℕ) → is_router net a ≡ false → IsTrue (is_origin net new.policy p a) → IsTrue (says a)
