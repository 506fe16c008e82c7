-- Why a run says what it says.
use Rattle.std.proofs.Common.{◌≡◌, inl, inr, ℕ, List, Option, Some, None, refl, sym, subst}
use Rattle.propane_run.specs.declared.command.Command.{Command}
use Rattle.run_base.specs.declared.outcome.Status.{Status}
use Rattle.run_base.specs.declared.outcome.Status.TheVariants.{Done, Refused, Usage, BadInput, ReadFault, NoMemory, CheckFails}
use Rattle.propane_run.specs.Clauses.{FaultFound}
use Rattle.propane_run.specs.Words.{words_are, names_read, usage}
use Rattle.run_base.specs.Reading.{Holds, IsAmong, IsStop, AllHeld, unread, too_long}
use Rattle.propane_run.specs.Run.{IsAnswerOf, Comes, Job}
use Rattle.run_base.specs.Said.{IsGiven, Said, text, line, failing, no_memory}
use Rattle.propane_run.proofs.Dispatch.{job_is}
use Rattle.propane_run.proofs.Roles.{Judges, Refuses}
use Rattle.run_base.proofs.Jobs.{IsJobSaid, in_text, in_line, in_refusal, in_failing, status_is}
use Rattle.run_base.proofs.Told.{reads_all}

module _ (holds : Holds) (rose : List ℕ → Type 0) (words : List (List ℕ)) where
  -- why a command says a thing, by the status that goes with it
  abbrev pub Cause : Command → Said → Status → Type 0
  Cause c what Done = (b : List ℕ) × Comes holds words c (text b) × (what ≡ text b)
  Cause c what Refused = (l : List ℕ) × Refuses c × Comes holds words c (line Refused l) × (what ≡ line Refused l)
  Cause c what BadInput = (l : List ℕ) × FaultFound holds words c l × (what ≡ line BadInput l)
  Cause c what ReadFault = (name : List ℕ) × IsAmong (names_read words c) name × rose name × (what ≡ unread name)
  Cause c what NoMemory = what ≡ no_memory
  Cause c what CheckFails = (l : List ℕ) × Judges c × Comes holds words c (failing l) × (what ≡ failing l)
  Cause c what _ = ⊥

  -- why a run does
  abbrev pub Why : Option Command → Said → Status → Type 0
  Why None what status = (status ≡ Usage) × (what ≡ usage)
  Why (Some c) what status = Cause c what status

  module _ (c : Command) (asks : words_are words ≡ Some c) (what : Said) where
    by : (said : Said) → what ≡ said → Cause c what said.status → Cause c what what.status
    by said is cause = subst (Cause c what) (sym (status_is what said is)) cause

    stopped : (name : List ℕ) → IsAmong (names_read words c) name → IsStop holds rose name what → Cause c what what.status
    stopped name among (inl m) = by no_memory m m
    stopped name among (inr (inl u)) = by (unread name) u.0 (name, among, u.1, u.0)
    stopped name among (inr (inr l)) = by (too_long name) l.0 ((too_long name).to_err, inl (name, among, l.1, refl), l.0)

    module _ (bs : List (List ℕ)) (held : AllHeld holds (names_read words c) bs) (says : Job c bs what) where
      comes_to : (said : Said) → what ≡ said → Comes holds words c said
      comes_to said is = let P : Said → Type 0 = λ w. Job c bs w in record { is = asks; bytes = bs; held = held; says = subst P is says }

      came : IsJobSaid (Refuses c) (Judges c) what → Cause c what what.status
      came (in_text b is) = by (text b) is (b, comes_to _ is, is)
      came (in_line l is) = by (line BadInput l) is (l, inr (comes_to _ is), is)
      came (in_refusal compiles l is) = by (line Refused l) is (l, compiles, comes_to _ is, is)
      came (in_failing judges l is) = by (failing l) is (l, judges, comes_to _ is, is)

    given : (bs : List (List ℕ)) → AllHeld holds (names_read words c) bs → IsGiven (Job c bs) what → Cause c what what.status
    given bs held (inl m) = by no_memory m m
    given bs held (inr says) = came bs held says ((job_is c).form bs what says)

  why_said : (o : Option Command) (what : Said) → words_are words ≡ o → IsAnswerOf holds rose words o what → Why o what what.status
  why_said None what asks answer = (status_is what usage answer, answer)
  why_said (Some c) what asks answer =
      reads_all holds rose what (Cause c what what.status) (names_read words c) (λ bs. IsGiven (Job c bs)) (stopped c asks what) (given c asks what) answer

  pub why : (o : Option Command) (what : Said) → words_are words ≡ o → IsAnswerOf holds rose words o what → (status : Status) → what.status ≡ status → Why o what status
  why o what asks answer status is = subst (Why o what) is (why_said o what asks answer)
