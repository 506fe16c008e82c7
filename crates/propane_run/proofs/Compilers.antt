-- The commands that compile.
use Rattle.std.proofs.Common.{◌≡◌, ◌⊎◌, ℕ, List, Option, inl, inr, ap, ◌∙◌}
use Rattle.net_base.specs.Network.{PlainNet}
use Rattle.input_output.specs.Outside.{Rose}
use Rattle.policy_base.specs.Policies.{PlainPolicy}
use Rattle.case_core.specs.declared.refusal.CompileRefusal.{CompileRefusal}
use Rattle.refusal_lines.specs.RefusalLines.{refusal_line}
use Rattle.run_base.specs.declared.outcome.Status.{Status}
use Rattle.run_base.specs.declared.outcome.Status.TheVariants.{Done, Refused, NoMemory}
use Rattle.run_base.specs.Reading.{Holds, SaidOfTold}
use Rattle.run_base.specs.Said.{Said, line, Whole, Delivered}
use Rattle.run_base.proofs.Sent.{Gives, line_sent, text_sent}
use Rattle.compile_jobs.specs.Compiled.{IsRefusedFor}
use Rattle.compile_jobs.specs.Compiling.{SaysOfCompiled}
use Rattle.compile_jobs.proofs.Compiling.{AnyText, never_refused, only}
use Rattle.propane_run.specs.declared.command.Command.{Command}
use Rattle.propane_run.specs.Asked.{IsFor}
use Rattle.propane_run.specs.Refusing.{RefusesRight}
use Rattle.propane_run.specs.Run.{Job, Comes}
use Rattle.propane_run.specs.Words.{names_read}
use Rattle.propane_run.proofs.Asking.{asked_by}
use Rattle.propane_run.proofs.Dispatch.{compiler}
use Rattle.propane_run.proofs.Roles.{Compiles}

-- a refusal that is told applies
pub refused : {S : Type 0} (holds : Holds) (words : List (List ℕ)) (taken : S → Option (List ℕ)) (before now : S) (b : List ℕ) → Whole taken b before now
    → (c : Command) → Compiles c → Comes holds words c (line Refused b) → RefusesRight holds taken words c before now
refused holds words taken before now b written c compiles comes =
    let r = (compiler holds words c compiles comes.is).refusal comes.bytes b comes.held comes.says in
    record { net = r.net; policy = r.policy; asked = r.asked; refusal = r.refusal; refused = r.refused; written = rw r.told at written }

module _ {O E : Type 0} (ot : O → Option (List ℕ)) (of : O → ℕ) (et : E → Option (List ℕ)) (ef : E → ℕ) (out out' : O) (err err' : E) (ended : Status) where
  -- ---- what is delivered of a policy

  module _ (net : PlainNet) (policy : PlainPolicy) where
    refused_by : (e : CompileRefusal) → (Rose (ef err) (ef err') → ⊥) → IsRefusedFor net policy e → (wanted : Said) → SaysOfCompiled AnyText net policy wanted
        → Delivered ot of et ef wanted out out' err err' ended → (ended ≡ Refused) × Whole et (refusal_line net e) err err' × (out' ≡ out)
    refused_by e calm applies wanted (inl made) sent = absurd (never_refused net policy made.0 made.1 made.3 e applies)
    refused_by e calm applies wanted (inr r) sent =
        let is : wanted ≡ line Refused (refusal_line net e) = r.2 ∙ ap (λ f. line Refused (refusal_line net f)) (only net policy r.0 e r.1 applies) in
        line_sent ot of et ef out out' err err' ended Refused (refusal_line net e) calm (rw is at sent)

    done_by : ((e : CompileRefusal) → IsRefusedFor net policy e → ⊥) → (Rose (of out) (of out') → ⊥) → (wanted : Said) → SaysOfCompiled AnyText net policy wanted
        → Delivered ot of et ef wanted out out' err err' ended → ended ≡ Done
    done_by none calm wanted (inl made) sent = let is = made.5 in text_sent ot of et ef out out' err err' ended made.2 calm (rw is at sent)
    done_by none calm wanted (inr r) sent = absurd (none r.0 r.1)

  -- ---- where the inputs are told

  module _ (holds : Holds) (words : List (List ℕ)) (net : PlainNet) (policy : PlainPolicy) (c : Command) (compiles : Compiles c) (asks : IsFor holds words c net policy) where
    told : (wanted : Said) → SaidOfTold holds (names_read words c) (Job c) wanted → SaysOfCompiled AnyText net policy wanted
    told = (compiler holds words c compiles (asked_by holds words c net policy asks)).told net policy asks

    pub refused_where : (e : CompileRefusal) → (Rose (ef err) (ef err') → ⊥) → IsRefusedFor net policy e
        → Gives ot of et ef out out' err err' ended (SaidOfTold holds (names_read words c) (Job c)) → (ended ≡ NoMemory) ⊎ (ended ≡ Refused) × Whole et (refusal_line net e) err err' × (out' ≡ out)
    refused_where e calm applies (inl m) = inl m
    refused_where e calm applies (inr w) = inr (refused_by net policy e calm applies w.0 (told w.0 w.1) w.2)

    pub compiled_where : ((e : CompileRefusal) → IsRefusedFor net policy e → ⊥) → (Rose (of out) (of out') → ⊥)
        → Gives ot of et ef out out' err err' ended (SaidOfTold holds (names_read words c) (Job c)) → (ended ≡ NoMemory) ⊎ (ended ≡ Done)
    compiled_where none calm (inl m) = inl m
    compiled_where none calm (inr w) = inr (done_by net policy none calm w.0 (told w.0 w.1) w.2)
