-- What `lint` says of a network and of a policy with its text.
use Rattle.std.specs.Prelude.{◌≡◌, ◌≢◌, ◌⊎◌, ℕ, List, [], ◌∷◌}
use Rattle.net_base.specs.Network.{PlainNet}
use Rattle.policy_base.specs.Policies.{PlainPolicy}
use Rattle.run_base.specs.declared.outcome.Status.TheVariants.{Refused}
use Rattle.run_base.specs.Said.{Said, text, line}
use Rattle.input_texts.specs.Texts.{OfTexts}
use Rattle.refusal_lines.specs.RefusalLines.{refusal_line}
use Rattle.case_graphs.specs.declared.refusal.LimitRefusal.{LimitRefusal}
use Rattle.case_graphs.specs.declared.refusal.LimitRefusal.TheVariants as refusal
use Rattle.case_graphs.specs.Limits.{AreAllWithin, IsRefused, compile_refusal}
use Rattle.policy_lint.specs.declared.finding.Finding.{Finding}
use Rattle.policy_lint.specs.Findings.{AreFindings}
use Rattle.judging_jobs.specs.Lines.{lint_text}

-- The cases of the policy are within the limits, and the text has the lines of its findings.
pub record IsLinted (policy_text : List ℕ) (net : PlainNet) (policy : PlainPolicy) (bytes : List ℕ) : Type 0 where
  pub within : AreAllWithin net policy
  pub findings : List Finding
  pub are : AreFindings policy_text net policy findings
  pub spelled : bytes ≡ lint_text findings

-- The limits refuse the policy for this, which isn't want of memory.
abbrev pub IsRefusedFor : PlainNet → PlainPolicy → LimitRefusal → Type 0
IsRefusedFor net policy e = IsRefused net policy e × (e ≢ refusal.NoMemory)

-- the line of such a refusal, as the compiler would write it
abbrev pub SaysRefusal : PlainNet → PlainPolicy → Said → Type 0
SaysRefusal net policy what = (e : LimitRefusal) × IsRefusedFor net policy e × (what ≡ line Refused (refusal_line net (compile_refusal e)))

-- the lines of the findings, or that
abbrev pub SaysOfPolicy : List ℕ → PlainNet → PlainPolicy → Said → Type 0
SaysOfPolicy policy_text net policy what = ((bytes : List ℕ) × IsLinted policy_text net policy bytes × (what ≡ text bytes)) ⊎ SaysRefusal net policy what

-- and of two texts
abbrev pub SaysOfTexts : List (List ℕ) → Said → Type 0
SaysOfTexts (topology ∷ policy_text ∷ []) = OfTexts (SaysOfPolicy policy_text) topology policy_text
SaysOfTexts _ = λ what. ⊥
