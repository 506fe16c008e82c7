-- What `explain` says of a network and a policy.
use Rattle.std.specs.Prelude.{◌≡◌, ◌⊎◌, List}
use Rattle.net_base.specs.Network.{PlainNet}
use Rattle.policy_base.specs.Policies.{PlainPolicy}
use Rattle.config_base.specs.Configs.{PlainConfig}
use Rattle.evidence_base.specs.Made.{PlainCaseEvidence}
use Rattle.case_core.specs.declared.refusal.CompileRefusal.{CompileRefusal}
use Rattle.compile_jobs.specs.Compiled.{IsCompiled, IsRefusedFor}
use Rattle.refusal_lines.specs.Explanations.{accepted_line, explanation}
use Rattle.run_base.specs.Said.{Said, text}

-- that something is compiled from the policy, or a refusal that applies to it and what shows it
abbrev pub SaysOfPolicy : PlainNet → PlainPolicy → Said → Type 0
SaysOfPolicy net policy what =
    ((config : PlainConfig) × (evidence : List PlainCaseEvidence) × IsCompiled net policy config evidence × (what ≡ text accepted_line))
    ⊎ ((e : CompileRefusal) × IsRefusedFor net policy e × (what ≡ text (explanation net e)))
