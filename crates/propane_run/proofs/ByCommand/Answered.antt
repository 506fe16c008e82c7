-- What a run has written of what a third text asks.
use Rattle.std.proofs.Common.{◌≡◌, ℕ, List, Option, Some, Result, inl, inr}
use Rattle.net_base.specs.Network.{PlainNet}
use Rattle.policy_base.specs.Policies.{PlainPolicy}
use Rattle.config_base.specs.Configs.{PlainConfig}
use Rattle.evidence_base.specs.Made.{PlainCaseEvidence}
use Rattle.run_base.specs.Reading.{Holds, AllHeld}
use Rattle.run_base.specs.Said.{text, Whole}
use Rattle.run_base.proofs.Jobs.{status_is, out_is}
use Rattle.input_texts.specs.Asked.{SpellAlso}
use Rattle.input_texts.proofs.Asking.{net_of_spelled, policy_of_spelled}
use Rattle.compile_jobs.specs.Compiling.{SaysOfThree, SaysOfValue}
use Rattle.compile_jobs.proofs.ThirdText.{said_for}
use Rattle.propane_run.specs.declared.command.Command.{Command}
use Rattle.propane_run.specs.Answering.{AnswersRight}
use Rattle.propane_run.specs.Words.{names_read, words_are}
use Rattle.propane_run.proofs.Asking.{asks_also}
use Rattle.propane_run.proofs.Compilation.{compilation}

module _ {V F : Type 0} (told : F → List ℕ) (spelled_by : PlainNet → List ℕ → Result V F) (Writes : PlainNet → PlainPolicy → V → PlainConfig → List PlainCaseEvidence → List ℕ → Type 0) where
  module _ {S : Type 0} (holds : Holds) (words : List (List ℕ)) (c : Command) (taken : S → Option (List ℕ)) (before now : S) (b : List ℕ) (written : Whole taken b before now) where
    answers_of : words_are words ≡ Some c → (net : PlainNet) (policy : PlainPolicy) (value : V) → SpellAlso spelled_by holds (names_read words c) net policy value
        → SaysOfValue told spelled_by Writes net policy value (text b) → AnswersRight spelled_by Writes holds taken words c before now
    answers_of is net policy value also (inr h) = absurd (let s = status_is _ _ h.2 in cc)
    answers_of is net policy value also (inl h) = record {
      net = net;
      policy = policy;
      value = value;
      asked = asks_also holds words spelled_by c net policy is value also;
      made = compilation net policy h.0 h.1 (net_of_spelled also.spell) (policy_of_spelled also.spell) h.3;
      bytes = h.2;
      written = rw (out_is _ _ h.5) at written;
      answers = h.4;
    }

    -- what it writes answers what is asked
    pub right : words_are words ≡ Some c → (bs : List (List ℕ)) → AllHeld holds (names_read words c) bs → SaysOfThree told spelled_by Writes bs (text b)
        → AnswersRight spelled_by Writes holds taken words c before now
    right is bs held says =
        let f = said_for told spelled_by Writes holds (names_read words c) (text b) (λ x. cc) bs held says in
        answers_of is f.net f.policy f.value f.asked f.says
