-- What `promises` says of a network and a policy.
use Rattle.std.specs.Prelude.{◌≡◌, ℕ, suc, List, Some, length, slice_get}
use Rattle.net_base.specs.Network.{PlainNet}
use Rattle.net_base.specs.Prefixes.{IsPrefix, PlainPrefix}
use Rattle.policy_base.specs.declared.case.Case.{Case}
use Rattle.policy_base.specs.Cases.{case_list}
use Rattle.policy_base.specs.Governing.{statement_of}
use Rattle.policy_base.specs.Policies.{PlainPolicy, PlainStatement, statement_at}
use Rattle.config_base.specs.Configs.{PlainConfig}
use Rattle.config_base.specs.Lines.{class_of}
use Rattle.evidence_base.specs.Made.{PlainCaseEvidence}
use Rattle.compile_jobs.specs.Compiling.{SaysOfCompiled}
use Rattle.promises_report.specs.Promises.{AreKept, ArePromises, Promises}
use Rattle.promises_text.specs.Texts.{promises_text}
use Rattle.input_texts.specs.Texts.{OfTwoTexts}
use Rattle.run_base.specs.Said.{Said}

-- These are the promises for a case, the one at place k: they are those of its statement; and the configuration keeps them for each
-- prefix of the case while nothing has failed.
pub record IsOfCase (net : PlainNet) (policy : PlainPolicy) (config : PlainConfig) (k : ℕ) (c : Case) (s : PlainStatement) (a : Promises) : Type 0 where
  pub promised : ArePromises net s c a
  pub kept : (p : PlainPrefix) → IsPrefix p → class_of config p ≡ Some (suc k) → (statement_of policy p ≡ Some s) × AreKept net policy config p s c a

-- The text is that of the promises for each case.
pub record IsPromisesText (net : PlainNet) (policy : PlainPolicy) (config : PlainConfig) (bytes : List ℕ) : Type 0 where
  pub promises : List Promises
  pub size : length promises ≡ length (case_list net policy)
  pub each : (k : ℕ) (c : Case) (s : PlainStatement) (a : Promises) → slice_get (case_list net policy) k ≡ Some c → statement_at policy c.statement ≡ Some s
      → slice_get promises k ≡ Some a → IsOfCase net policy config k c s a
  pub spelled : bytes ≡ promises_text net policy (case_list net policy) promises

-- that text for the configuration
abbrev pub WritesPromises : PlainNet → PlainPolicy → PlainConfig → List PlainCaseEvidence → List ℕ → Type 0
WritesPromises net policy config evidence bytes = IsPromisesText net policy config bytes

-- the text of the promises, which the configuration keeps that is compiled from the policy, or the line of a refusal that applies to it
abbrev pub SaysOfPolicy : PlainNet → PlainPolicy → Said → Type 0
SaysOfPolicy net policy = SaysOfCompiled (WritesPromises net policy) net policy

-- and of two texts
abbrev pub SaysOfTexts : List (List ℕ) → Said → Type 0
SaysOfTexts = OfTwoTexts SaysOfPolicy
