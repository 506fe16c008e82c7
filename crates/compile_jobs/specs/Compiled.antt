-- What is compiled from a policy, and why one is refused.
use Rattle.std.specs.Prelude.{◌≢◌, List}
use Rattle.net_base.specs.Network.{PlainNet}
use Rattle.policy_base.specs.Policies.{PlainPolicy}
use Rattle.config_base.specs.Configs.{PlainConfig}
use Rattle.evidence_base.specs.Made.{PlainCaseEvidence}
use Rattle.evidence_law.specs.Passes.{Passes}
use Rattle.case_core.specs.declared.refusal.CompileRefusal.{CompileRefusal}
use Rattle.case_core.specs.declared.refusal.CompileRefusal.TheVariants as refusal
use Rattle.compile_core.specs.Compiling.{IsMade, IsRefusal}

-- The configuration is what is made of the policy, and its evidence passes.
abbrev pub IsCompiled : PlainNet → PlainPolicy → PlainConfig → List PlainCaseEvidence → Type 0
IsCompiled net policy config evidence = IsMade net policy config evidence × Passes net policy config evidence

-- The policy is to be refused for this, which isn't want of memory.
abbrev pub IsRefusedFor : PlainNet → PlainPolicy → CompileRefusal → Type 0
IsRefusedFor net policy e = IsRefusal net policy e × (e ≢ refusal.NoMemory)
