-- What a run of `renew` or of `renewal` has written that had the evidence of the old configuration: what may take over, or why there is nothing.
use Rattle.std.proofs.Common.{◌≡◌, ◌⊎◌, ℕ, List, Option, inl, inr, ◌∙◌, ap}
use Rattle.net_base.specs.Network.{PlainNet, IsNet}
use Rattle.input_output.specs.Outside.{Rose}
use Rattle.policy_base.specs.Policies.{IsPolicyOf, PlainPolicy}
use Rattle.config_base.specs.Configs.{PlainConfig}
use Rattle.evidence_base.specs.Made.{PlainCaseEvidence}
use Rattle.claim_law.proofs.Claim.{passing_evidence_keeps_policy, passing_evidence_keeps_it_at_work}
use Rattle.case_core.specs.declared.refusal.CompileRefusal.{CompileRefusal}
use Rattle.refusal_lines.specs.RefusalLines.{refusal_line}
use Rattle.run_base.specs.declared.outcome.Status.{Status}
use Rattle.run_base.specs.declared.outcome.Status.TheVariants.{Done, NoMemory, Refused}
use Rattle.run_base.specs.Reading.{Holds, SaidOfTold}
use Rattle.run_base.specs.Said.{Said, text, line, Whole, Delivered}
use Rattle.run_base.proofs.Jobs.{err_is, out_is, status_is}
use Rattle.run_base.proofs.Sent.{Gives, line_sent, text_sent}
use Rattle.input_texts.proofs.Asking.{net_of_spelled, policy_of_spelled}
use Rattle.compile_jobs.specs.Compiled.{IsRefusedFor}
use Rattle.compile_jobs.specs.declared.written.Part.{Part}
use Rattle.compile_jobs.proofs.Compiling.{only}
use Rattle.evidence_reuse.specs.Reused.{IsOther, IsReuse}
use Rattle.evidence_reuse.proofs.One.{never_other}
use Rattle.evidence_reuse.proofs.Passing.{passing}
use Rattle.renewal_jobs.specs.Renewing.{PrefsRunOut, run_out_line, top_of}
use Rattle.renewal_jobs.specs.Reusing.{SaysOfPair, other_line}
use Rattle.renewal_jobs.proofs.Renewals.{accepted}
use Rattle.renewal_jobs.proofs.ReuseLaws.{SpellPair, said_for, told_of}
use Rattle.renewal_jobs.proofs.Reuses.{never_out}
use Rattle.propane_run.specs.declared.command.Command.{Command}
use Rattle.propane_run.specs.declared.command.Command.TheVariants.{Reuse}
use Rattle.propane_run.specs.Asked.{AsksOfReuse}
use Rattle.propane_run.specs.Refusing.{RefusesRight}
use Rattle.propane_run.specs.Renewing.{TellsRunOut}
use Rattle.propane_run.specs.Reusing.{Reused, ReusesRight, TellsOther}
use Rattle.propane_run.specs.Run.{Comes, Job}
use Rattle.propane_run.specs.Words.{names_read}
use Rattle.propane_run.proofs.Asking.{asks_reuse, spells_reuse}

-- what may take over keeps the policy
abbrev kept : (net : PlainNet) (policy : PlainPolicy) (old : PlainConfig) (olds : List PlainCaseEvidence) (config : PlainConfig) (evidence : List PlainCaseEvidence) → IsNet net
    → IsPolicyOf net policy → IsReuse net policy old olds config evidence → Reused net policy old olds
kept net policy old olds config evidence rules fits is =
    let passes = passing net policy old config olds evidence is in
    record {
      config = config;
      evidence = evidence;
      reuse = is;
      passes = passes;
      keeps = passing_evidence_keeps_policy net policy config evidence rules fits passes;
      at_work = passing_evidence_keeps_it_at_work net policy config evidence rules fits passes;
    }

module _ (holds : Holds) (words : List (List ℕ)) (part : Part) where
  -- the command
  abbrev c : Command
  c = Reuse part

  -- it is asked of an old configuration
  abbrev AsksWith : PlainNet → PlainPolicy → PlainConfig → Type 0
  AsksWith net policy old = (olds : List PlainCaseEvidence) × AsksOfReuse holds words part net policy old olds

  module _ {S : Type 0} (taken : S → Option (List ℕ)) (before now : S) (b : List ℕ) (written : Whole taken b before now) where
    -- what is told where nothing may take over
    abbrev Tells : Type 0
    Tells = RefusesRight holds taken words c before now ⊎ TellsRunOut AsksWith taken before now ⊎ TellsOther holds taken words part before now

    module _ (net : PlainNet) (policy : PlainPolicy) (old : PlainConfig) (olds : List PlainCaseEvidence) (spell : SpellPair part holds (names_read words c) net policy old olds)
        (asks : AsksOfReuse holds words part net policy old olds) where
      right_by : SaysOfPair part net policy old olds (text b) → ReusesRight holds taken words part before now
      right_by (inl h) = record {
        net = net;
        policy = policy;
        old = old;
        olds = olds;
        asked = asks;
        made = kept net policy old olds h.0 h.1 (net_of_spelled spell.spell) (policy_of_spelled spell.spell) h.3;
        bytes = h.2;
        written = rw (out_is _ _ h.5) at written;
        told = h.4;
      }
      right_by (inr (inl h)) = absurd (let s = status_is _ _ h.1 in cc)
      right_by (inr (inr (inl h))) = absurd (let s = status_is _ _ h.1 in cc)
      right_by (inr (inr (inr h))) = absurd (let s = status_is _ _ h.2 in cc)

      refused_by : SaysOfPair part net policy old olds (line Refused b) → Tells
      refused_by (inl h) = absurd (let s = status_is _ _ h.5 in cc)
      refused_by (inr (inl h)) = inr (inl (record { net = net; policy = policy; old = old; asked = (olds, asks); past = h.0; written = rw (err_is _ _ h.1) at written }))
      refused_by (inr (inr (inl h))) = inr (inr (record { net = net; policy = policy; old = old; olds = olds; asked = asks; other = h.0; written = rw (err_is _ _ h.1) at written }))
      refused_by (inr (inr (inr h))) = inl (record { net = net; policy = policy; asked = (old, olds, asks); refusal = h.0; refused = h.1; written = rw (err_is _ _ h.2) at written })

    -- what it writes may take over
    pub right : Comes holds words c (text b) → ReusesRight holds taken words part before now
    right comes =
        let f = said_for part holds (names_read words c) (text b) (λ x. cc) comes.bytes comes.held comes.says in
        right_by f.net f.policy f.old f.evidence f.asked (asks_reuse holds words part f.net f.policy f.old f.evidence comes.is f.asked) f.says

    -- a refusal that is told applies
    pub refused : Comes holds words c (line Refused b) → Tells
    refused comes =
        let f = said_for part holds (names_read words c) (line Refused b) (λ x. cc) comes.bytes comes.held comes.says in
        refused_by f.net f.policy f.old f.evidence f.asked (asks_reuse holds words part f.net f.policy f.old f.evidence comes.is f.asked) f.says

  -- ---- where the inputs are told

  module _ (net : PlainNet) (policy : PlainPolicy) (old : PlainConfig) (olds : List PlainCaseEvidence) (asks : AsksOfReuse holds words part net policy old olds) {O E : Type 0}
      (ot : O → Option (List ℕ)) (of : O → ℕ) (et : E → Option (List ℕ)) (ef : E → ℕ) (out out' : O) (err err' : E) (ended : Status) where
    -- what its bytes come to is delivered
    abbrev GivesOf : Type 0
    GivesOf = Gives ot of et ef out out' err err' ended (SaidOfTold holds (names_read words c) (Job c))

    -- it refuses, with this line
    abbrev Ends : List ℕ → Type 0
    Ends l = (ended ≡ NoMemory) ⊎ (ended ≡ Refused) × Whole et l err err' × (out' ≡ out)

    told : (wanted : Said) → SaidOfTold holds (names_read words c) (Job c) wanted → SaysOfPair part net policy old olds wanted
    told wanted said = told_of part holds (names_read words c) net policy old olds wanted (spells_reuse holds words part net policy old olds asks) said

    done_by : ((e : CompileRefusal) → IsRefusedFor net policy e → ⊥) → (PrefsRunOut net policy old → ⊥) → (IsOther net policy old olds → ⊥) → (Rose (of out) (of out') → ⊥)
        → (wanted : Said) → SaysOfPair part net policy old olds wanted → Delivered ot of et ef wanted out out' err err' ended → ended ≡ Done
    done_by none within same calm wanted (inl h) sent = let is = h.5 in text_sent ot of et ef out out' err err' ended h.2 calm (rw is at sent)
    done_by none within same calm wanted (inr (inl h)) sent = absurd (within h.0)
    done_by none within same calm wanted (inr (inr (inl h))) sent = absurd (same h.0)
    done_by none within same calm wanted (inr (inr (inr h))) sent = absurd (none h.0 h.1)

    pub reused_where : ((e : CompileRefusal) → IsRefusedFor net policy e → ⊥) → (PrefsRunOut net policy old → ⊥) → (IsOther net policy old olds → ⊥) → (Rose (of out) (of out') → ⊥)
        → GivesOf → (ended ≡ NoMemory) ⊎ (ended ≡ Done)
    reused_where none within same calm (inl m) = inl m
    reused_where none within same calm (inr w) = inr (done_by none within same calm w.0 (told w.0 w.1) w.2)

    -- where a line is said for a reason, the run refuses with it
    module _ (l : List ℕ) (calm : Rose (ef err) (ef err') → ⊥) (only_this : (wanted : Said) → SaysOfPair part net policy old olds wanted → wanted ≡ line Refused l) where
      ends_by : GivesOf → Ends l
      ends_by (inl m) = inl m
      ends_by (inr w) = let is = only_this w.0 (told w.0 w.1) in inr (line_sent ot of et ef out out' err err' ended Refused l calm (rw is at w.2))

    refusing : (e : CompileRefusal) → IsRefusedFor net policy e → (wanted : Said) → SaysOfPair part net policy old olds wanted → wanted ≡ line Refused (refusal_line net e)
    refusing e applies wanted (inl h) = absurd (accepted net policy h.3.evidence.compiled h.3.evidence.made e applies)
    refusing e applies wanted (inr (inl h)) = absurd (accepted net policy h.0.compiled h.0.made e applies)
    refusing e applies wanted (inr (inr (inl h))) = absurd (accepted net policy h.0.evidence.compiled h.0.evidence.made e applies)
    refusing e applies wanted (inr (inr (inr h))) = h.2 ∙ ap (λ f. line Refused (refusal_line net f)) (only net policy h.0 e h.1 applies)

    pub refused_where : (e : CompileRefusal) → (Rose (ef err) (ef err') → ⊥) → IsRefusedFor net policy e → GivesOf → Ends (refusal_line net e)
    refused_where e calm applies gives = ends_by (refusal_line net e) calm (refusing e applies) gives

    running_out : PrefsRunOut net policy old → (wanted : Said) → SaysOfPair part net policy old olds wanted → wanted ≡ line Refused (run_out_line (top_of old))
    running_out past wanted (inl h) = absurd (never_out net policy old olds h.1 h.3.evidence past)
    running_out past wanted (inr (inl h)) = h.1
    running_out past wanted (inr (inr (inl h))) = absurd (never_out net policy old olds h.0.cases h.0.evidence past)
    running_out past wanted (inr (inr (inr h))) = absurd (accepted net policy past.compiled past.made h.0 h.1)

    pub past_where : PrefsRunOut net policy old → (Rose (ef err) (ef err') → ⊥) → GivesOf → Ends (run_out_line (top_of old))
    past_where past calm gives = ends_by (run_out_line (top_of old)) calm (running_out past) gives

    telling_other : IsOther net policy old olds → (wanted : Said) → SaysOfPair part net policy old olds wanted → wanted ≡ line Refused other_line
    telling_other other wanted (inl h) = absurd (never_other net policy old h.0 olds h.1 h.3 other)
    telling_other other wanted (inr (inl h)) = absurd (never_out net policy old olds other.cases other.evidence h.0)
    telling_other other wanted (inr (inr (inl h))) = h.1
    telling_other other wanted (inr (inr (inr h))) = absurd (accepted net policy other.evidence.compiled other.evidence.made h.0 h.1)

    pub other_where : IsOther net policy old olds → (Rose (ef err) (ef err') → ⊥) → GivesOf → Ends other_line
    other_where other calm gives = ends_by other_line calm (telling_other other) gives
