-- What a run of `impact` has written: what single cuts change.
use Rattle.std.proofs.Common.{ℕ, List, Option, inl, inr}
use Rattle.net_base.specs.Network.{PlainNet}
use Rattle.net_base.specs.Prefixes.{PlainPrefix}
use Rattle.policy_base.specs.Policies.{PlainPolicy}
use Rattle.run_base.specs.Reading.{Holds}
use Rattle.run_base.specs.Said.{text, Whole}
use Rattle.run_base.proofs.Jobs.{status_is, out_is}
use Rattle.input_texts.specs.Asked.{SpellFor}
use Rattle.input_texts.specs.Texts.{Alone}
use Rattle.input_texts.proofs.Asking.{alone, net_of_spelled, policy_of_spelled, said_for}
use Rattle.report_jobs.specs.Impacts.{SaysOfPolicy}
use Rattle.propane_run.specs.declared.command.Command.TheVariants.{Impact}
use Rattle.propane_run.specs.Impacting.{ImpactsRight}
use Rattle.propane_run.specs.Run.{Comes}
use Rattle.propane_run.specs.Words.{names_read}
use Rattle.propane_run.proofs.Asking.{asks_for}
use Rattle.propane_run.proofs.Compilation.{compilation}

module _ {S : Type 0} (holds : Holds) (words : List (List ℕ)) (taken : S → Option (List ℕ)) (before now : S) (b : List ℕ) (written : Whole taken b before now) (x : PlainPrefix) where
  impacts_of : Comes holds words (Impact x) (text b) → (net : PlainNet) (policy : PlainPolicy) → SpellFor holds (names_read words (Impact x)) net policy → SaysOfPolicy x net policy (text b)
      → ImpactsRight holds taken words x before now
  impacts_of comes net policy spell (inr h) = absurd (let s = status_is _ _ h.2 in cc)
  impacts_of comes net policy spell (inl h) = record {
    net = net;
    policy = policy;
    asked = asks_for holds words (Impact x) net policy comes.is spell;
    made = compilation net policy h.0 h.1 (net_of_spelled spell) (policy_of_spelled spell) h.3;
    bytes = h.2;
    written = rw (out_is _ _ h.5) at written;
    shown = h.4;
  }

  pub right : Comes holds words (Impact x) (text b) → ImpactsRight holds taken words x before now
  right comes =
      let f = said_for (Alone (SaysOfPolicy x)) holds (names_read words (Impact x)) (text b) (λ e. cc) comes.bytes comes.held comes.says in
      impacts_of comes f.net f.policy f.spell (alone (SaysOfPolicy x) f.spell.more f.net f.policy (text b) f.says)
