-- What `renew` and `renewal` say where there is the evidence of the old configuration, too.
use Rattle.std.specs.Prelude.{◌≡◌, ◌⊎◌, ℕ, List, [], ◌∷◌, Result, Ok, Err, codes}
use Rattle.net_base.specs.Network.{PlainNet}
use Rattle.policy_base.specs.Policies.{PlainPolicy}
use Rattle.config_base.specs.Configs.{PlainConfig}
use Rattle.evidence_base.specs.Made.{PlainCaseEvidence}
use Rattle.compile_jobs.specs.Compiling.{IsRefusing, SaysRefusal}
use Rattle.compile_jobs.specs.Written.{WritesPart}
use Rattle.compile_jobs.specs.declared.written.Part.{Part}
use Rattle.evidence_reuse.specs.declared.reuse.Reuse.{Reuse}
use Rattle.evidence_reuse.specs.Reused.{IsOther, IsReuse}
use Rattle.input_texts.specs.Texts.{OfAllTexts, OfPairTexts}
use Rattle.run_base.specs.Said.{Said, text, line, stop_said}
use Rattle.run_base.specs.declared.outcome.Status.TheVariants.{Refused}
use Rattle.run_base.specs.declared.outcome.Stop.{Stop}
use Rattle.renewal_jobs.specs.Renewing.{SaysRunOut}

-- the refusal that the evidence isn't that of the old configuration
abbrev pub other_line : List ℕ
other_line = codes "propane: refused 11 other-evidence\n"

-- this is the case, and the line of this refusal is said
abbrev pub SaysOther : PlainNet → PlainPolicy → PlainConfig → List PlainCaseEvidence → Said → Type 0
SaysOther net policy old evidence what = IsOther net policy old evidence × (what ≡ line Refused other_line)

-- What may take over with what stays, or why the run stops.
abbrev pub IsReuseOr : PlainNet → PlainPolicy → PlainConfig → List PlainCaseEvidence → Result Reuse Stop → Type 0
IsReuseOr net policy old evidence (Ok r) = IsReuse net policy old evidence r.config r.evidence.cases
IsReuseOr net policy old evidence (Err s) = IsRefusing net policy s ⊎ SaysRunOut net policy old (stop_said s) ⊎ SaysOther net policy old evidence (stop_said s)

-- The text of a part of what may take over; or that preferences run out, that the evidence is another configuration's, or the line of a refusal
-- that applies to the policy.
abbrev pub SaysOfPair : Part → PlainNet → PlainPolicy → PlainConfig → List PlainCaseEvidence → Said → Type 0
SaysOfPair part net policy old evidence what =
    ((config : PlainConfig) × (cases : List PlainCaseEvidence) × (bytes : List ℕ) × IsReuse net policy old evidence config cases × WritesPart part config cases bytes × (what ≡ text bytes))
    ⊎ SaysRunOut net policy old what
    ⊎ SaysOther net policy old evidence what
    ⊎ SaysRefusal net policy what

-- the same of the texts of an old configuration and of its evidence, or the fault of one
abbrev pub SaysOfPairTexts : Part → List ℕ → List ℕ → PlainNet → PlainPolicy → Said → Type 0
SaysOfPairTexts part config_text evidence_text net policy what = OfPairTexts (SaysOfPair part net policy) config_text evidence_text what

-- where these are the texts after the first two
abbrev pub SaysOfMore : Part → List (List ℕ) → PlainNet → PlainPolicy → Said → Type 0
SaysOfMore part (config_text ∷ evidence_text ∷ []) = SaysOfPairTexts part config_text evidence_text
SaysOfMore part _ = λ net policy what. ⊥

-- and of all
abbrev pub SaysOfTexts : Part → List (List ℕ) → Said → Type 0
SaysOfTexts part = OfAllTexts (SaysOfMore part)
