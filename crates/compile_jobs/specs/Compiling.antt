-- What a job says that compiles a policy.
use Rattle.std.specs.Prelude.{◌≡◌, ◌⊎◌, ℕ, List, [], ◌∷◌, Result, Ok, Err}
use Rattle.net_base.specs.Network.{PlainNet}
use Rattle.policy_base.specs.Policies.{PlainPolicy}
use Rattle.config_base.specs.Configs.{PlainConfig}
use Rattle.evidence_base.specs.Made.{PlainCaseEvidence}
use Rattle.evidence_base.specs.declared.evidence.Evidence.{Evidence}
use Rattle.case_core.specs.declared.refusal.CompileRefusal.{CompileRefusal}
use Rattle.compile_core.specs.Compiling.{IsEvidenceOfMade}
use Rattle.compile_core.specs.declared.compiled.Compiled.{Compiled}
use Rattle.compile_jobs.specs.Compiled.{IsCompiled, IsRefusedFor}
use Rattle.input_texts.specs.Texts.{OfAllTexts, OfRead}
use Rattle.run_base.specs.Said.{Said, text, line, stop_said, no_memory}
use Rattle.refusal_lines.specs.RefusalLines.{refusal_line}
use Rattle.run_base.specs.declared.outcome.Status.TheVariants.{Refused}
use Rattle.run_base.specs.declared.outcome.Stop.{Stop}

-- The line of a refusal that applies to the policy.
abbrev pub SaysRefusal : PlainNet → PlainPolicy → Said → Type 0
SaysRefusal net policy what = (e : CompileRefusal) × IsRefusedFor net policy e × (what ≡ line Refused (refusal_line net e))

-- A refusal is said that applies to the policy, or that memory ran out.
abbrev pub IsRefusing : PlainNet → PlainPolicy → Stop → Type 0
IsRefusing net policy s = (stop_said s ≡ no_memory) ⊎ SaysRefusal net policy (stop_said s)

-- What was compiled from the policy, or why it is refused.
abbrev pub IsCompiledOr : PlainNet → PlainPolicy → Result Compiled Stop → Type 0
IsCompiledOr net policy (Ok compiled) = IsCompiled net policy compiled.config compiled.evidence.cases
IsCompiledOr net policy (Err s) = IsRefusing net policy s

-- The evidence of what is compiled from the policy, or why it is refused.
abbrev pub IsCompiledEvidenceOr : PlainNet → PlainPolicy → Result Evidence Stop → Type 0
IsCompiledEvidenceOr net policy (Ok evidence) = IsEvidenceOfMade net policy evidence.cases
IsCompiledEvidenceOr net policy (Err s) = IsRefusing net policy s

-- A text that is to be written of a configuration which is compiled from the policy, and of its evidence, or the line of a
-- refusal that applies to it.
abbrev pub SaysOfCompiled : (PlainConfig → List PlainCaseEvidence → List ℕ → Type 0) → PlainNet → PlainPolicy → Said → Type 0
SaysOfCompiled Writes net policy what =
    ((config : PlainConfig) × (evidence : List PlainCaseEvidence) × (bytes : List ℕ) × IsCompiled net policy config evidence × Writes config evidence bytes × (what ≡ text bytes))
    ⊎ SaysRefusal net policy what

-- The text is written of a configuration which is compiled from the policy, with this evidence.
abbrev pub Answers : {V : Type 0} → (PlainNet → PlainPolicy → V → PlainConfig → List PlainCaseEvidence → List ℕ → Type 0) → PlainNet → PlainPolicy → V → List PlainCaseEvidence → List ℕ → Type 0
Answers Writes net policy value evidence bytes = (config : PlainConfig) × IsCompiled net policy config evidence × Writes net policy value config evidence bytes

-- The same of three texts, of which the third spells a value for the network: what is written depends on the value.
module _ {V F : Type 0} (told : F → List ℕ) (spelled_by : PlainNet → List ℕ → Result V F) (Writes : PlainNet → PlainPolicy → V → PlainConfig → List PlainCaseEvidence → List ℕ → Type 0) where
  abbrev pub SaysOfValue : PlainNet → PlainPolicy → V → Said → Type 0
  SaysOfValue net policy value = SaysOfCompiled (Writes net policy value) net policy

  -- of a third text, for a network and a policy
  abbrev pub SaysOfThird : List ℕ → PlainNet → PlainPolicy → Said → Type 0
  SaysOfThird third net policy = OfRead told (spelled_by net third) (SaysOfValue net policy)

  -- where these are the texts after the first two
  abbrev pub SaysOfMore : List (List ℕ) → PlainNet → PlainPolicy → Said → Type 0
  SaysOfMore (third ∷ []) = SaysOfThird third
  SaysOfMore _ = λ net policy what. ⊥

  -- and of all three
  abbrev pub SaysOfThree : List (List ℕ) → Said → Type 0
  SaysOfThree = OfAllTexts SaysOfMore
