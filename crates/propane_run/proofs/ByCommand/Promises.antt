-- What a run of `promises` has written: what the policy promises, and to whom.
use Rattle.std.proofs.Common.{ℕ, List, Option, inl, inr}
use Rattle.net_base.specs.Network.{PlainNet}
use Rattle.policy_base.specs.Policies.{PlainPolicy}
use Rattle.run_base.specs.Reading.{Holds}
use Rattle.run_base.specs.Said.{text, Whole}
use Rattle.run_base.proofs.Jobs.{status_is, out_is}
use Rattle.input_texts.specs.Asked.{SpellFor}
use Rattle.input_texts.specs.Texts.{Alone}
use Rattle.input_texts.proofs.Asking.{alone, net_of_spelled, policy_of_spelled, said_for}
use Rattle.report_jobs.specs.Promised.{SaysOfPolicy}
use Rattle.propane_run.specs.declared.command.Command.TheVariants.{Promises}
use Rattle.propane_run.specs.Promising.{PromisesRight}
use Rattle.propane_run.specs.Run.{Comes}
use Rattle.propane_run.specs.Words.{names_read}
use Rattle.propane_run.proofs.Asking.{asks_for}
use Rattle.propane_run.proofs.Compilation.{compilation}

module _ {S : Type 0} (holds : Holds) (words : List (List ℕ)) (taken : S → Option (List ℕ)) (before now : S) (b : List ℕ) (written : Whole taken b before now) where
  promises_of : Comes holds words Promises (text b) → (net : PlainNet) (policy : PlainPolicy) → SpellFor holds (names_read words Promises) net policy → SaysOfPolicy net policy (text b)
      → PromisesRight holds taken words before now
  promises_of comes net policy spell (inr h) = absurd (let s = status_is _ _ h.2 in cc)
  promises_of comes net policy spell (inl h) = record {
    net = net;
    policy = policy;
    asked = asks_for holds words Promises net policy comes.is spell;
    made = compilation net policy h.0 h.1 (net_of_spelled spell) (policy_of_spelled spell) h.3;
    bytes = h.2;
    written = rw (out_is _ _ h.5) at written;
    told = h.4;
  }

  pub right : Comes holds words Promises (text b) → PromisesRight holds taken words before now
  right comes =
      let f = said_for (Alone SaysOfPolicy) holds (names_read words Promises) (text b) (λ e. cc) comes.bytes comes.held comes.says in
      promises_of comes f.net f.policy f.spell (alone SaysOfPolicy f.spell.more f.net f.policy (text b) f.says)
