-- What `renew` and `renewal` say.
use Rattle.std.specs.Prelude.{◌≡◌, ◌⊎◌, ℕ, List, [], ◌∷◌, ◌++◌, Result, Ok, Err, codes}
use Rattle.std.specs.Fmt.{decimal}
use Rattle.net_base.specs.Network.{PlainNet}
use Rattle.policy_base.specs.Policies.{PlainPolicy}
use Rattle.config_base.specs.Configs.{PlainConfig}
use Rattle.config_reader.specs.Text.{spelled as config_spelled}
use Rattle.evidence_base.specs.Made.{PlainCaseEvidence}
use Rattle.evidence_base.specs.declared.evidence.Evidence.{Evidence}
use Rattle.compile_core.specs.Compiling.{IsEvidenceOfMade}
use Rattle.compile_jobs.specs.Compiling.{IsRefusing, SaysRefusal}
use Rattle.compile_jobs.specs.Written.{WritesPart}
use Rattle.compile_jobs.specs.declared.written.Part.{Part}
use Rattle.free_tags.specs.Taken.{greatest, prefs_in}
use Rattle.evidence_renewal.specs.Renewed.{IsRenewal, IsRenewedEvidence, RunsOut}
use Rattle.input_texts.specs.FaultLines.{config_line}
use Rattle.input_texts.specs.Texts.{OfAllTexts, OfRead}
use Rattle.run_base.specs.Said.{Said, text, line, stop_said}
use Rattle.run_base.specs.declared.outcome.Status.TheVariants.{Refused}
use Rattle.run_base.specs.declared.outcome.Stop.{Stop}

-- the refusal that above this preference there are too few
abbrev pub run_out_line : ℕ → List ℕ
run_out_line top = codes "propane: refused 10 preferences-run-out pref " ++ decimal top ++ codes "\n"

-- the greatest preference of an old configuration
abbrev pub top_of : PlainConfig → ℕ
top_of old = greatest (prefs_in old)

-- Above an old configuration there are too few preferences for what is compiled from the policy: raised by its greatest one, one of
-- those would pass 32 bits.
pub record PrefsRunOut (net : PlainNet) (policy : PlainPolicy) (old : PlainConfig) : Type 0 where
  pub compiled : List PlainCaseEvidence
  pub made : IsEvidenceOfMade net policy compiled
  pub past : RunsOut (top_of old) compiled

-- this is the case, and the line of this refusal is said
abbrev pub SaysRunOut : PlainNet → PlainPolicy → PlainConfig → Said → Type 0
SaysRunOut net policy old what = PrefsRunOut net policy old × (what ≡ line Refused (run_out_line (top_of old)))

-- Renewed evidence, or why the run stops.
abbrev pub IsRenewedOr : PlainNet → PlainPolicy → PlainConfig → Result Evidence Stop → Type 0
IsRenewedOr net policy old (Ok evidence) = IsRenewedEvidence net policy old evidence.cases
IsRenewedOr net policy old (Err s) = IsRefusing net policy s ⊎ SaysRunOut net policy old (stop_said s)

-- The text of a part of what is renewed, or that preferences run out, or the line of a refusal that applies to the policy.
abbrev pub SaysOfOld : Part → PlainNet → PlainPolicy → PlainConfig → Said → Type 0
SaysOfOld part net policy old what =
    ((config : PlainConfig) × (evidence : List PlainCaseEvidence) × (bytes : List ℕ) × IsRenewal net policy old config evidence × WritesPart part config evidence bytes × (what ≡ text bytes))
    ⊎ SaysRunOut net policy old what
    ⊎ SaysRefusal net policy what

-- the same of the text of an old configuration, or its fault
abbrev pub SaysOfThird : Part → List ℕ → PlainNet → PlainPolicy → Said → Type 0
SaysOfThird part third net policy = OfRead config_line (config_spelled third) (SaysOfOld part net policy)

-- where these are the texts after the first two
abbrev pub SaysOfMore : Part → List (List ℕ) → PlainNet → PlainPolicy → Said → Type 0
SaysOfMore part (third ∷ []) = SaysOfThird part third
SaysOfMore part _ = λ net policy what. ⊥

-- and of all
abbrev pub SaysOfTexts : Part → List (List ℕ) → Said → Type 0
SaysOfTexts part = OfAllTexts (SaysOfMore part)
