-- What follows for a run, whatever its command.
use Rattle.std.proofs.Common.{◌≡◌, ◌≢◌, ◌⊎◌, inl, inr, ℕ, List, Option, Some, None, refl, sym, ◌∙◌, subst}
use Rattle.input_output.specs.Outside.{Rose}
use Rattle.propane_run.specs.declared.command.Command.{Command}
use Rattle.propane_run.specs.declared.command.Command.TheVariants.{Compile}
use Rattle.run_base.specs.declared.outcome.Status.{Status}
use Rattle.run_base.specs.declared.outcome.Status.TheVariants.{Done, Refused, Usage, BadInput, ReadFault, WriteFault, NoMemory, CheckFails}
use Rattle.run_base.specs.Said.{Said, text, no_memory, Whole, Delivered, MetFault}
use Rattle.propane_run.specs.Words.{words_are, names_read, usage}
use Rattle.run_base.specs.Reading.{FailedAs, Holds, IsAmong, unread, SaidOfTold}
use Rattle.propane_run.specs.Clauses.{FaultFound, ReadsSmoothly}
use Rattle.propane_run.specs.Ends.{EndsRight}
use Rattle.propane_run.specs.Headline.{CompilesRight}
use Rattle.propane_run.specs.Promises.{Promised}
use Rattle.propane_run.specs.Run.{IsAnswer, IsAnswerOf, Comes, Job, Ran}
use Rattle.propane_run.proofs.Causes.{Why, why}
use Rattle.propane_run.proofs.Ending.{Fails, Refuses, Succeeds, ends}
use Rattle.propane_run.proofs.Failing.{failed_once}
use Rattle.propane_run.proofs.Promising as promising
use Rattle.run_base.proofs.Jobs.{status_is}
use Rattle.run_base.proofs.Told.{reads_told}

module _ {O E : Type 0} {ot : O → Option (List ℕ)} {of : O → ℕ} {et : E → Option (List ℕ)} {ef : E → ℕ}
    {holds : Holds} {rose : List ℕ → Type 0} {failed failed' : ℕ} {words : List (List ℕ)} {out out' : O} {err err' : E} {ended : Status}
    (ran : Ran ot of et ef holds rose failed failed' words out out' err err' ended) where
  -- what was said, why, and that it was delivered
  abbrev what : Said
  what = ran.what

  abbrev answer : IsAnswer holds rose words what
  answer = ran.answer

  abbrev sent : Delivered ot of et ef what out out' err err' ended
  sent = ran.sent

  -- this was written, and its cause is known
  record Came (o : Option Command) (status : Status) : Type 0 where
    cause : Why holds rose words o what status
    to_out : Whole ot what.to_out out out'
    to_err : Whole et what.to_err err err'

  -- of a run that no fault of a sink ended
  came_of : (o : Option Command) → words_are words ≡ o → Delivered ot of et ef what out out' err err' ended → (status : Status) → status ≢ WriteFault → ended ≡ status → Came o status
  came_of o asks (inl h) status other is =
      let P : Option Command → Type 0 = λ x. IsAnswerOf holds rose words x what in
      record { cause = why holds rose words o what asks (subst P asks answer) status (sym h.0 ∙ is); to_out = h.1; to_err = h.2 }
  came_of o asks (inr h) status other is = absurd (other (sym is ∙ h.0))

  came : (o : Option Command) → words_are words ≡ o → (status : Status) → status ≢ WriteFault → ended ≡ status → Came o status
  came o asks = came_of o asks sent

  -- ---- words that are no command

  usage_at : (o : Option Command) → Came o Usage → (o ≡ None) × Whole et usage.to_err err err' × (out' ≡ out)
  usage_at None c = let e = c.cause.1 in (refl, rw e at c.to_err, (rw e at c.to_out).idle refl)
  usage_at (Some d) c = absurd c.cause

  pub usage_only : ended ≡ Usage → (words_are words ≡ None) × Whole et usage.to_err err err' × (out' ≡ out)
  usage_only is = usage_at (words_are words) (came (words_are words) refl Usage (λ x. cc) is)

  usage_by : what ≡ usage → Delivered ot of et ef what out out' err err' ended → (ended ≡ Usage) ⊎ (ended ≡ WriteFault)
  usage_by e (inl h) = inl (h.0 ∙ status_is _ _ e)
  usage_by e (inr h) = inr h.0

  pub usage_said : words_are words ≡ None → (ended ≡ Usage) ⊎ (ended ≡ WriteFault)
  usage_said none = let P : Option Command → Type 0 = λ x. IsAnswerOf holds rose words x what in usage_by (subst P none answer) sent

  -- ---- reads that failed, and inputs that are too long or not lawful

  read_fault_at : (o : Option Command) → words_are words ≡ o → Rose failed failed' → Came o ReadFault
      → (c : Command) × (name : List ℕ) × (words_are words ≡ Some c) × IsAmong (names_read words c) name × rose name × Whole et (unread name).to_err err err' × (out' ≡ out) × Rose failed failed'
  read_fault_at None asks once c = absurd (let e = c.cause.0 in cc)
  read_fault_at (Some d) asks once c = let e = c.cause.3 in (d, c.cause.0, asks, c.cause.1, c.cause.2, rw e at c.to_err, (rw e at c.to_out).idle refl, once)

  pub read_fault : ended ≡ ReadFault
      → (c : Command) × (name : List ℕ) × (words_are words ≡ Some c) × IsAmong (names_read words c) name × rose name × Whole et (unread name).to_err err err' × (out' ≡ out) × Rose failed failed'
  read_fault is = read_fault_at (words_are words) refl (failed_once ran is) (came (words_are words) refl ReadFault (λ x. cc) is)

  bad_input_at : (o : Option Command) → words_are words ≡ o → Came o BadInput
      → (c : Command) × (l : List ℕ) × (words_are words ≡ Some c) × FaultFound holds words c l × Whole et l err err' × (out' ≡ out)
  bad_input_at None asks c = absurd (let e = c.cause.0 in cc)
  bad_input_at (Some d) asks c = let e = c.cause.2 in (d, c.cause.0, asks, c.cause.1, rw e at c.to_err, (rw e at c.to_out).idle refl)

  pub bad_input : ended ≡ BadInput
      → (c : Command) × (l : List ℕ) × (words_are words ≡ Some c) × FaultFound holds words c l × Whole et l err err' × (out' ≡ out)
  bad_input is = bad_input_at (words_are words) refl (came (words_are words) refl BadInput (λ x. cc) is)

  -- ---- done and refused

  pub done_for : (c : Command) → words_are words ≡ Some c → ended ≡ Done → (b : List ℕ) × Comes holds words c (text b) × Whole ot b out out' × (err' ≡ err)
  done_for c asks is = let r = came (Some c) asks Done (λ x. cc) is in let e = r.cause.2 in (r.cause.0, r.cause.1, rw e at r.to_out, (rw e at r.to_err).idle refl)

  done_at : (o : Option Command) → words_are words ≡ o → ended ≡ Done → (c : Command) × (b : List ℕ) × Comes holds words c (text b) × Whole ot b out out' × (err' ≡ err)
  done_at None asks is = absurd (let r = came None asks Done (λ x. cc) is in let e = r.cause.0 in cc)
  done_at (Some c) asks is = let r = done_for c asks is in (c, r.0, r.1, r.2, r.3)

  pub done : ended ≡ Done → (c : Command) × (b : List ℕ) × Comes holds words c (text b) × Whole ot b out out' × (err' ≡ err)
  done = done_at (words_are words) refl

  -- what the command promises
  pub promised : (c : Command) → words_are words ≡ Some c → ended ≡ Done → Promised holds ot words c Done out out'
  promised c asks is = let d = done_for c asks is in promising.done holds words ot out out' d.0 d.2 c d.1

  pub right : words_are words ≡ Some Compile → ended ≡ Done → CompilesRight holds ot words out out'
  right asks is = (promised Compile asks is).0

  refused_at : (o : Option Command) → words_are words ≡ o → Came o Refused → (c : Command) × (words_are words ≡ Some c) × Promised holds et words c Refused err err' × (out' ≡ out)
  refused_at None asks r = absurd (let e = r.cause.0 in cc)
  refused_at (Some c) asks r =
      let e = r.cause.3 in
      (c, asks, promising.refused holds words et err err' r.cause.0 (rw e at r.to_err) c r.cause.1 r.cause.2, (rw e at r.to_out).idle refl)

  pub refused : ended ≡ Refused → (c : Command) × (words_are words ≡ Some c) × Promised holds et words c Refused err err' × (out' ≡ out)
  refused is = refused_at (words_are words) refl (came (words_are words) refl Refused (λ x. cc) is)

  -- ---- what was judged fails

  failing_at : (o : Option Command) → words_are words ≡ o → Came o CheckFails → (c : Command) × (words_are words ≡ Some c) × Promised holds ot words c CheckFails out out' × (err' ≡ err)
  failing_at None asks r = absurd (let e = r.cause.0 in cc)
  failing_at (Some c) asks r =
      let e = r.cause.3 in
      (c, asks, promising.failed holds words ot out out' r.cause.0 (rw e at r.to_out) c r.cause.1 r.cause.2, (rw e at r.to_err).idle refl)

  pub check_fails : ended ≡ CheckFails → (c : Command) × (words_are words ≡ Some c) × Promised holds ot words c CheckFails out out' × (err' ≡ err)
  check_fails is = failing_at (words_are words) refl (came (words_are words) refl CheckFails (λ x. cc) is)

  -- ---- writes that failed

  no_write_fault : (o : Option Command) → Why holds rose words o what WriteFault → ⊥
  no_write_fault None cause = let e = cause.0 in cc
  no_write_fault (Some c) cause = cause

  write_fault_by : Delivered ot of et ef what out out' err err' ended → ended ≡ WriteFault
      → MetFault ot of et ef what out out' err err'
  write_fault_by (inl h) is = absurd (no_write_fault (words_are words) (why holds rose words (words_are words) what refl answer WriteFault (sym h.0 ∙ is)))
  write_fault_by (inr h) is = h.1

  pub write_fault : ended ≡ WriteFault → (what : Said) × IsAnswer holds rose words what × FailedAs what.status failed failed' × MetFault ot of et ef what out out' err err'
  write_fault is = (what, answer, ran.reads, write_fault_by sent is)

  -- ---- want of memory

  no_memory_at : (o : Option Command) → Came o NoMemory → (out' ≡ out) × (err' ≡ err)
  no_memory_at None c = absurd (let e = c.cause.0 in cc)
  no_memory_at (Some d) c = let e = c.cause in ((rw e at c.to_out).idle refl, (rw e at c.to_err).idle refl)

  pub no_memory_said : ended ≡ NoMemory → (out' ≡ out) × (err' ≡ err)
  no_memory_said is = no_memory_at (words_are words) (came (words_are words) refl NoMemory (λ x. cc) is)

  -- ---- where all is told and no read failed

  -- what is delivered is such a thing, or memory ran out
  abbrev pub GivesOf : (Said → Type 0) → Type 0
  GivesOf Wanted = (ended ≡ NoMemory) ⊎ (wanted : Said) × Wanted wanted × Delivered ot of et ef wanted out out' err err' ended

  without_room : what ≡ no_memory → Delivered ot of et ef what out out' err err' ended → ended ≡ NoMemory
  without_room m (inl h) = h.0 ∙ status_is _ _ m
  without_room m (inr h) = absurd (elim h.1 [ inl q ↦ (rw m at q.0).asked refl | inr q ↦ (rw m at q.1).asked refl ])

  gives : (Wanted : Said → Type 0) → (what ≡ no_memory) ⊎ Wanted what → GivesOf Wanted
  gives Wanted (inl m) = inl (without_room m sent)
  gives Wanted (inr w) = inr (what, w, sent)

  pub complete : (c : Command) → ReadsSmoothly holds rose words c → GivesOf (SaidOfTold holds (names_read words c) (Job c))
  complete c smooth =
      let P : Option Command → Type 0 = λ x. IsAnswerOf holds rose words x what in
      gives (SaidOfTold holds (names_read words c) (Job c))
      (reads_told holds rose what (names_read words c) (Job c) smooth.told smooth.reads (subst P smooth.is answer))

  -- it ends as it is to end
  pub ends_right : (c : Command) → ReadsSmoothly holds rose words c
      → EndsRight holds words (Succeeds ot of et ef out out' err err' ended) (Fails ot of et ef out out' err err' ended) (Refuses ot of et ef out out' err err' ended) c
  ends_right c smooth = ends ot of et ef out out' err err' ended holds words c (complete c smooth)
