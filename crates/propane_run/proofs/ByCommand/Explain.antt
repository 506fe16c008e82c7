-- What a run of `explain` has written: that the policy is accepted, or a refusal with what shows it.
use Rattle.std.proofs.Common.{◌≡◌, ◌⊎◌, ℕ, List, Option, inl, inr}
use Rattle.net_base.specs.Network.{PlainNet}
use Rattle.input_output.specs.Outside.{Rose}
use Rattle.policy_base.specs.Policies.{PlainPolicy}
use Rattle.refusal_lines.specs.Explanations.{accepted_line, explanation}
use Rattle.run_base.specs.declared.outcome.Status.{Status}
use Rattle.run_base.specs.declared.outcome.Status.TheVariants.{Done, NoMemory}
use Rattle.run_base.specs.Reading.{Holds, SaidOfTold}
use Rattle.run_base.specs.Said.{Said, text, Whole, Delivered}
use Rattle.run_base.proofs.Jobs.{out_is}
use Rattle.run_base.proofs.Sent.{Gives, text_sent}
use Rattle.input_texts.specs.Texts.{Alone}
use Rattle.input_texts.proofs.Asking.{alone, net_of_spelled, policy_of_spelled, said_for, told_says}
use Rattle.compile_jobs.specs.Explained.{SaysOfPolicy}
use Rattle.compile_jobs.proofs.Compiling.{never_refused}
use Rattle.propane_run.specs.declared.command.Command.TheVariants.{Explain}
use Rattle.propane_run.specs.Asked.{AsksFor}
use Rattle.propane_run.specs.Explaining.{ExplainsRight}
use Rattle.propane_run.specs.Run.{Comes, Job}
use Rattle.propane_run.specs.Words.{names_read}
use Rattle.propane_run.proofs.Asking.{asks_for, spells}
use Rattle.propane_run.proofs.Compilation.{compilation}

module _ {S : Type 0} (holds : Holds) (words : List (List ℕ)) (taken : S → Option (List ℕ)) (before now : S) (b : List ℕ) (written : Whole taken b before now) where
  explains_of : (net : PlainNet) (policy : PlainPolicy) → AsksFor holds words Explain net policy → SaysOfPolicy net policy (text b) → ExplainsRight holds taken words before now
  explains_of net policy asks (inl h) =
      let spell = spells holds words Explain net policy asks in
      record {
        net = net;
        policy = policy;
        asked = asks;
        says = inl (record { made = compilation net policy h.0 h.1 (net_of_spelled spell) (policy_of_spelled spell) h.2; free = never_refused net policy h.0 h.1 h.2 }, rw (out_is _ _ h.3) at written);
      }
  explains_of net policy asks (inr h) = record { net = net; policy = policy; asked = asks; says = inr (h.0, h.1, rw (out_is _ _ h.2) at written) }

  pub right : Comes holds words Explain (text b) → ExplainsRight holds taken words before now
  right comes =
      let f = said_for (Alone SaysOfPolicy) holds (names_read words Explain) (text b) (λ x. cc) comes.bytes comes.held comes.says in
      explains_of f.net f.policy (asks_for holds words Explain f.net f.policy comes.is f.spell) (alone SaysOfPolicy f.spell.more f.net f.policy (text b) f.says)

-- ---- where the inputs are told

module _ {O E : Type 0} (ot : O → Option (List ℕ)) (of : O → ℕ) (et : E → Option (List ℕ)) (ef : E → ℕ) (out out' : O) (err err' : E) (ended : Status) where
  done_by : (net : PlainNet) (policy : PlainPolicy) → (Rose (of out) (of out') → ⊥) → (wanted : Said) → SaysOfPolicy net policy wanted
      → Delivered ot of et ef wanted out out' err err' ended → ended ≡ Done
  done_by net policy calm wanted (inl h) sent = let is = h.3 in text_sent ot of et ef out out' err err' ended accepted_line calm (rw is at sent)
  done_by net policy calm wanted (inr h) sent = let is = h.2 in text_sent ot of et ef out out' err err' ended (explanation net h.0) calm (rw is at sent)

  pub explained_where : (holds : Holds) (words : List (List ℕ)) (net : PlainNet) (policy : PlainPolicy) → AsksFor holds words Explain net policy → (Rose (of out) (of out') → ⊥)
      → Gives ot of et ef out out' err err' ended (SaidOfTold holds (names_read words Explain) (Job Explain)) → (ended ≡ NoMemory) ⊎ (ended ≡ Done)
  explained_where holds words net policy asks calm (inl m) = inl m
  explained_where holds words net policy asks calm (inr w) =
      let spell = spells holds words Explain net policy asks in
      let says = alone SaysOfPolicy spell.more net policy w.0 (told_says (Alone SaysOfPolicy) holds (names_read words Explain) net policy w.0 spell w.1) in
      inr (done_by net policy calm w.0 says w.2)
