-- What a run of `renew` or of `renewal` has written: what may take over from an old configuration, or why there is nothing.
use Rattle.std.proofs.Common.{◌≡◌, ◌⊎◌, ℕ, List, Option, inl, inr, ◌∙◌, ap}
use Rattle.net_base.specs.Network.{PlainNet, IsNet}
use Rattle.input_output.specs.Outside.{Rose}
use Rattle.policy_base.specs.Policies.{IsPolicyOf, PlainPolicy}
use Rattle.config_base.specs.Configs.{PlainConfig}
use Rattle.config_reader.specs.Text.{spelled as config_spelled}
use Rattle.evidence_base.specs.Made.{PlainCaseEvidence}
use Rattle.claim_law.proofs.Claim.{passing_evidence_keeps_policy, passing_evidence_keeps_it_at_work}
use Rattle.case_core.specs.declared.refusal.CompileRefusal.{CompileRefusal}
use Rattle.refusal_lines.specs.RefusalLines.{refusal_line}
use Rattle.run_base.specs.declared.outcome.Status.{Status}
use Rattle.run_base.specs.declared.outcome.Status.TheVariants.{Done, NoMemory, Refused}
use Rattle.run_base.specs.Reading.{Holds, SaidOfTold}
use Rattle.run_base.specs.Said.{Said, text, line, Whole, Delivered}
use Rattle.run_base.proofs.Jobs.{err_is, out_is, status_is}
use Rattle.run_base.proofs.Sent.{Gives, line_sent, text_sent}
use Rattle.input_texts.proofs.Asking.{net_of_spelled, policy_of_spelled}
use Rattle.compile_jobs.specs.Compiled.{IsRefusedFor}
use Rattle.compile_jobs.specs.declared.written.Part.{Part}
use Rattle.compile_jobs.proofs.Compiling.{only}
use Rattle.evidence_renewal.specs.Renewed.{IsRenewal}
use Rattle.evidence_renewal.proofs.Above.{above}
use Rattle.evidence_renewal.proofs.Apart.{apart}
use Rattle.evidence_renewal.proofs.Passing.{passing}
use Rattle.renewal_jobs.specs.Renewing.{PrefsRunOut, SaysOfOld, run_out_line, top_of}
use Rattle.renewal_jobs.proofs.RenewalLaws.{SpellOld, said_for, told_of}
use Rattle.renewal_jobs.proofs.Renewals.{accepted, never_both}
use Rattle.propane_run.specs.declared.command.Command.{Command}
use Rattle.propane_run.specs.declared.command.Command.TheVariants.{Renew}
use Rattle.propane_run.specs.Asked.{AsksOfRenewal}
use Rattle.propane_run.specs.Refusing.{RefusesRight}
use Rattle.propane_run.specs.Renewing.{Renewal, RenewsRight, TellsRunOut}
use Rattle.propane_run.specs.Run.{Comes, Job}
use Rattle.propane_run.specs.Words.{names_read}
use Rattle.propane_run.proofs.Asking.{asks_also, spells_also}

-- what is renewed keeps the policy, and may take over
abbrev renewal : (net : PlainNet) (policy : PlainPolicy) (old config : PlainConfig) (evidence : List PlainCaseEvidence) → IsNet net → IsPolicyOf net policy
    → IsRenewal net policy old config evidence → Renewal net policy old
renewal net policy old config evidence rules fits is =
    let passes = passing net policy old config evidence is in
    record {
      config = config;
      evidence = evidence;
      renewed = is;
      passes = passes;
      keeps = passing_evidence_keeps_policy net policy config evidence rules fits passes;
      at_work = passing_evidence_keeps_it_at_work net policy config evidence rules fits passes;
      apart = apart net policy old config evidence rules is;
      above = above net policy old config evidence rules fits.rules fits.routers is;
    }

module _ (holds : Holds) (words : List (List ℕ)) (part : Part) where
  -- the command
  abbrev c : Command
  c = Renew part

  module _ {S : Type 0} (taken : S → Option (List ℕ)) (before now : S) (b : List ℕ) (written : Whole taken b before now) where
    module _ (net : PlainNet) (policy : PlainPolicy) (old : PlainConfig) (spell : SpellOld part holds (names_read words c) net policy old) (asks : AsksOfRenewal holds words part net policy old) where
      right_by : SaysOfOld part net policy old (text b) → RenewsRight holds taken words part before now
      right_by (inl h) = record {
        net = net;
        policy = policy;
        old = old;
        asked = asks;
        made = renewal net policy old h.0 h.1 (net_of_spelled spell.spell) (policy_of_spelled spell.spell) h.3;
        bytes = h.2;
        written = rw (out_is _ _ h.5) at written;
        told = h.4;
      }
      right_by (inr (inl h)) = absurd (let s = status_is _ _ h.1 in cc)
      right_by (inr (inr h)) = absurd (let s = status_is _ _ h.2 in cc)

      refused_by : SaysOfOld part net policy old (line Refused b) → RefusesRight holds taken words c before now ⊎ TellsRunOut (AsksOfRenewal holds words part) taken before now
      refused_by (inl h) = absurd (let s = status_is _ _ h.5 in cc)
      refused_by (inr (inl h)) = inr (record { net = net; policy = policy; old = old; asked = asks; past = h.0; written = rw (err_is _ _ h.1) at written })
      refused_by (inr (inr h)) = inl (record { net = net; policy = policy; asked = (old, asks); refusal = h.0; refused = h.1; written = rw (err_is _ _ h.2) at written })

    -- what it writes may take over
    pub right : Comes holds words c (text b) → RenewsRight holds taken words part before now
    right comes =
        let f = said_for part holds (names_read words c) (text b) (λ x. cc) comes.bytes comes.held comes.says in
        right_by f.net f.policy f.old f.asked (asks_also holds words (λ (net : PlainNet). config_spelled) c f.net f.policy comes.is f.old f.asked) f.says

    -- a refusal that is told applies
    pub refused : Comes holds words c (line Refused b) → RefusesRight holds taken words c before now ⊎ TellsRunOut (AsksOfRenewal holds words part) taken before now
    refused comes =
        let f = said_for part holds (names_read words c) (line Refused b) (λ x. cc) comes.bytes comes.held comes.says in
        refused_by f.net f.policy f.old f.asked (asks_also holds words (λ (net : PlainNet). config_spelled) c f.net f.policy comes.is f.old f.asked) f.says

  -- ---- where the inputs are told

  module _ (net : PlainNet) (policy : PlainPolicy) (old : PlainConfig) (asks : AsksOfRenewal holds words part net policy old) {O E : Type 0} (ot : O → Option (List ℕ)) (of : O → ℕ)
      (et : E → Option (List ℕ)) (ef : E → ℕ) (out out' : O) (err err' : E) (ended : Status) where
    told : (wanted : Said) → SaidOfTold holds (names_read words c) (Job c) wanted → SaysOfOld part net policy old wanted
    told wanted said = told_of part holds (names_read words c) net policy old wanted (spells_also holds words (λ (n : PlainNet). config_spelled) c net policy old asks) said

    done_by : ((e : CompileRefusal) → IsRefusedFor net policy e → ⊥) → (PrefsRunOut net policy old → ⊥) → (Rose (of out) (of out') → ⊥) → (wanted : Said) → SaysOfOld part net policy old wanted
        → Delivered ot of et ef wanted out out' err err' ended → ended ≡ Done
    done_by none within calm wanted (inl h) sent = let is = h.5 in text_sent ot of et ef out out' err err' ended h.2 calm (rw is at sent)
    done_by none within calm wanted (inr (inl h)) sent = absurd (within h.0)
    done_by none within calm wanted (inr (inr h)) sent = absurd (none h.0 h.1)

    pub renewed_where : ((e : CompileRefusal) → IsRefusedFor net policy e → ⊥) → (PrefsRunOut net policy old → ⊥) → (Rose (of out) (of out') → ⊥)
        → Gives ot of et ef out out' err err' ended (SaidOfTold holds (names_read words c) (Job c)) → (ended ≡ NoMemory) ⊎ (ended ≡ Done)
    renewed_where none within calm (inl m) = inl m
    renewed_where none within calm (inr w) = inr (done_by none within calm w.0 (told w.0 w.1) w.2)

    refusing : (e : CompileRefusal) → (Rose (ef err) (ef err') → ⊥) → IsRefusedFor net policy e → (wanted : Said) → SaysOfOld part net policy old wanted
        → Delivered ot of et ef wanted out out' err err' ended → (ended ≡ Refused) × Whole et (refusal_line net e) err err' × (out' ≡ out)
    refusing e calm applies wanted (inl h) sent = absurd (accepted net policy h.3.evidence.compiled h.3.evidence.made e applies)
    refusing e calm applies wanted (inr (inl h)) sent = absurd (accepted net policy h.0.compiled h.0.made e applies)
    refusing e calm applies wanted (inr (inr h)) sent =
        let is : wanted ≡ line Refused (refusal_line net e) = h.2 ∙ ap (λ f. line Refused (refusal_line net f)) (only net policy h.0 e h.1 applies) in
        line_sent ot of et ef out out' err err' ended Refused (refusal_line net e) calm (rw is at sent)

    pub refused_where : (e : CompileRefusal) → (Rose (ef err) (ef err') → ⊥) → IsRefusedFor net policy e → Gives ot of et ef out out' err err' ended (SaidOfTold holds (names_read words c) (Job c))
        → (ended ≡ NoMemory) ⊎ (ended ≡ Refused) × Whole et (refusal_line net e) err err' × (out' ≡ out)
    refused_where e calm applies (inl m) = inl m
    refused_where e calm applies (inr w) = inr (refusing e calm applies w.0 (told w.0 w.1) w.2)

    past_by : PrefsRunOut net policy old → (Rose (ef err) (ef err') → ⊥) → (wanted : Said) → SaysOfOld part net policy old wanted
        → Delivered ot of et ef wanted out out' err err' ended → (ended ≡ Refused) × Whole et (run_out_line (top_of old)) err err' × (out' ≡ out)
    past_by past calm wanted (inl h) sent = absurd (never_both net policy old h.1 h.3.evidence past)
    past_by past calm wanted (inr (inl h)) sent = let is = h.1 in line_sent ot of et ef out out' err err' ended Refused (run_out_line (top_of old)) calm (rw is at sent)
    past_by past calm wanted (inr (inr h)) sent = absurd (accepted net policy past.compiled past.made h.0 h.1)

    pub past_where : PrefsRunOut net policy old → (Rose (ef err) (ef err') → ⊥) → Gives ot of et ef out out' err err' ended (SaidOfTold holds (names_read words c) (Job c))
        → (ended ≡ NoMemory) ⊎ (ended ≡ Refused) × Whole et (run_out_line (top_of old)) err err' × (out' ≡ out)
    past_where past calm (inl m) = inl m
    past_where past calm (inr w) = inr (past_by past calm w.0 (told w.0 w.1) w.2)
