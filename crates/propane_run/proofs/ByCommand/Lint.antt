-- What a run of `lint` has written: the findings, or the limit that is passed.
use Rattle.std.proofs.Common.{◌≡◌, ◌⊎◌, ℕ, List, Option, inl, inr}
use Rattle.net_base.specs.Network.{PlainNet}
use Rattle.input_output.specs.Outside.{Rose}
use Rattle.policy_base.specs.Policies.{PlainPolicy}
use Rattle.case_graphs.specs.Limits.{AreAllWithin, compile_refusal}
use Rattle.case_graphs.specs.declared.refusal.LimitRefusal.{LimitRefusal}
use Rattle.judging_jobs.specs.Linted.{IsRefusedFor, SaysOfPolicy}
use Rattle.judging_jobs.proofs.LintLaws.{ends_refused, ends_well, said_for, told_says}
use Rattle.refusal_lines.specs.RefusalLines.{refusal_line}
use Rattle.run_base.specs.declared.outcome.Status.{Status}
use Rattle.run_base.specs.declared.outcome.Status.TheVariants.{Done, NoMemory, Refused}
use Rattle.run_base.specs.Reading.{Holds, SaidOfTold}
use Rattle.run_base.specs.Said.{Said, text, line, Whole, Delivered}
use Rattle.run_base.proofs.Jobs.{err_is, out_is, status_is}
use Rattle.run_base.proofs.Sent.{Gives, line_sent, text_sent}
use Rattle.propane_run.specs.declared.command.Command.{Command}
use Rattle.propane_run.specs.declared.command.Command.TheVariants.{Lint}
use Rattle.propane_run.specs.Asked.{AsksFor}
use Rattle.propane_run.specs.Linting.{LintsRight, TellsLimit}
use Rattle.propane_run.specs.Run.{Comes, Job}
use Rattle.propane_run.specs.Words.{names_read}
use Rattle.propane_run.proofs.Asking.{asks_for, spells}

module _ (holds : Holds) (words : List (List ℕ)) where
  -- the command
  abbrev c : Command
  c = Lint

  module _ {S : Type 0} (taken : S → Option (List ℕ)) (before now : S) (b : List ℕ) (written : Whole taken b before now) where
    lints_of : (net : PlainNet) (policy : PlainPolicy) (asks : AsksFor holds words c net policy) → SaysOfPolicy asks.policy_text net policy (text b) → LintsRight holds taken words before now
    lints_of net policy asks (inr h) = absurd (let s = status_is _ _ h.2 in cc)
    lints_of net policy asks (inl h) = record { net = net; policy = policy; asked = asks; bytes = h.0; written = rw (out_is _ _ h.2) at written; linted = h.1 }

    -- what it writes are the findings
    pub right : Comes holds words c (text b) → LintsRight holds taken words before now
    right comes =
        let f = said_for holds (names_read words c) (text b) (λ x. cc) comes.bytes comes.held comes.says in
        lints_of f.net f.policy (asks_for holds words c f.net f.policy comes.is f.spell) f.says

    limit_of : (net : PlainNet) (policy : PlainPolicy) (asks : AsksFor holds words c net policy) → SaysOfPolicy asks.policy_text net policy (line Refused b) → TellsLimit holds taken words before now
    limit_of net policy asks (inl h) = absurd (let s = status_is _ _ h.2 in cc)
    limit_of net policy asks (inr h) = record { net = net; policy = policy; asked = asks; refusal = h.0; refused = h.1; written = rw (err_is _ _ h.2) at written }

    -- a limit that is told is passed
    pub refused : Comes holds words c (line Refused b) → TellsLimit holds taken words before now
    refused comes =
        let f = said_for holds (names_read words c) (line Refused b) (λ x. cc) comes.bytes comes.held comes.says in
        limit_of f.net f.policy (asks_for holds words c f.net f.policy comes.is f.spell) f.says

  -- ---- where the inputs are told

  module _ (net : PlainNet) (policy : PlainPolicy) (asks : AsksFor holds words c net policy) {O E : Type 0} (ot : O → Option (List ℕ)) (of : O → ℕ)
      (et : E → Option (List ℕ)) (ef : E → ℕ) (out out' : O) (err err' : E) (ended : Status) where
    told : (wanted : Said) → SaidOfTold holds (names_read words c) (Job c) wanted → SaysOfPolicy asks.policy_text net policy wanted
    told wanted said = told_says holds (names_read words c) net policy wanted (spells holds words c net policy asks) said

    done_by : (Rose (of out) (of out') → ⊥) → AreAllWithin net policy → (wanted : Said) → SaysOfPolicy asks.policy_text net policy wanted
        → Delivered ot of et ef wanted out out' err err' ended → ended ≡ Done
    done_by calm within wanted (inl h) sent = let is = h.2 in text_sent ot of et ef out out' err err' ended h.0 calm (rw is at sent)
    done_by calm within wanted (inr h) sent =
        let e : wanted.status ≡ Done = ends_well asks.policy_text net policy wanted within (inr h) in
        let f : wanted.status ≡ Refused = status_is _ _ h.2 in
        absurd cc

    pub linted_where : AreAllWithin net policy → (Rose (of out) (of out') → ⊥)
        → Gives ot of et ef out out' err err' ended (SaidOfTold holds (names_read words c) (Job c)) → (ended ≡ NoMemory) ⊎ (ended ≡ Done)
    linted_where within calm (inl m) = inl m
    linted_where within calm (inr w) = inr (done_by calm within w.0 (told w.0 w.1) w.2)

    refused_by : (e : LimitRefusal) → (Rose (ef err) (ef err') → ⊥) → IsRefusedFor net policy e → (wanted : Said) → SaysOfPolicy asks.policy_text net policy wanted
        → Delivered ot of et ef wanted out out' err err' ended → (ended ≡ Refused) × Whole et (refusal_line net (compile_refusal e)) err err' × (out' ≡ out)
    refused_by e calm applies wanted says sent =
        let is = ends_refused asks.policy_text net policy wanted e applies says in
        line_sent ot of et ef out out' err err' ended Refused (refusal_line net (compile_refusal e)) calm (rw is at sent)

    pub limited_where : (e : LimitRefusal) → (Rose (ef err) (ef err') → ⊥) → IsRefusedFor net policy e
        → Gives ot of et ef out out' err err' ended (SaidOfTold holds (names_read words c) (Job c))
        → (ended ≡ NoMemory) ⊎ (ended ≡ Refused) × Whole et (refusal_line net (compile_refusal e)) err err' × (out' ≡ out)
    limited_where e calm applies (inl m) = inl m
    limited_where e calm applies (inr w) = inr (refused_by e calm applies w.0 (told w.0 w.1) w.2)
