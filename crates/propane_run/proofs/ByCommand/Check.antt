-- What a run of `check` has written: that evidence holds, or the first rule that fails.
use Rattle.std.proofs.Common.{◌≡◌, ◌≢◌, ◌⊎◌, ℕ, List, [], ◌∷◌, Option, inl, inr, ap, subst, ◌∙◌, arith}
use Rattle.std.specs.Prelude.{codes}
use Rattle.net_base.specs.Network.{PlainNet}
use Rattle.input_output.specs.Outside.{Rose}
use Rattle.policy_base.specs.Policies.{PlainPolicy}
use Rattle.claim_law.specs.Claim.{IsKeptAtWork}
use Rattle.claim_law.proofs.Claim.{passing_evidence_keeps_policy, passing_evidence_keeps_it_at_work}
use Rattle.text_law.proofs.Configurations.{spellings_are_texts}
use Rattle.config_base.specs.Configs.{PlainConfig}
use Rattle.config_lines.specs.declared.edition.Edition.TheVariants.{Second}
use Rattle.config_reader.proofs.ReadTexts.{read_is_spelled}
use Rattle.config_reader.proofs.TakenTexts.{spelled_is_read}
use Rattle.evidence_base.specs.Made.{PlainCaseEvidence}
use Rattle.evidence_verdicts.specs.declared.verdict.Verdict.{Verdict}
use Rattle.evidence_verdicts.specs.declared.verdict.Verdict.TheVariants as verdict
use Rattle.evidence_verdicts.specs.Verdicts.{IsVerdict}
use Rattle.evidence_verdicts.proofs.OneVerdict.{one_verdict}
use Rattle.evidence_law.specs.Passes.{Passes}
use Rattle.run_base.specs.declared.outcome.Status.{Status}
use Rattle.run_base.specs.declared.outcome.Status.TheVariants.{BadInput, Done, NoMemory, CheckFails}
use Rattle.run_base.specs.Reading.{Holds, AllHeld, SaidOfTold}
use Rattle.run_base.specs.Said.{Said, text, failing, Whole, Delivered}
use Rattle.run_base.proofs.Jobs.{status_is, out_is}
use Rattle.run_base.proofs.Sent.{Gives, text_sent, failing_sent}
use Rattle.input_texts.proofs.Asking.{net_of_spelled, policy_of_spelled, said_for as texts_said_for, told_says as texts_told}
use Rattle.input_texts.proofs.Spelling.{at_pair}
use Rattle.judging_jobs.specs.Checked.{SaysOfMore, SaysOfPair}
use Rattle.judging_jobs.specs.VerdictLines.{holds_line, fails_line, verdict_said}
use Rattle.judging_jobs.proofs.CheckLaws.{of_more}
use Rattle.propane_run.specs.declared.command.Command.{Command}
use Rattle.propane_run.specs.declared.command.Command.TheVariants.{Check}
use Rattle.propane_run.specs.Checking.{AsksOf, ChecksRight, TellsFault}
use Rattle.propane_run.specs.Run.{Job, Comes}
use Rattle.propane_run.specs.Words.{names_read}
use Rattle.propane_run.proofs.Asking.{asks_for, names_texts, spells}
use Rattle.propane_run.proofs.Naming.{check_words}

module _ (holds : Holds) (words : List (List ℕ)) where
  -- the command
  abbrev c : Command
  c = Check

  -- of which network, policy, configuration and evidence a thing is said
  record SaidFor (what : Said) : Type 0 where
    net : PlainNet
    policy : PlainPolicy
    config : PlainConfig
    evidence : List PlainCaseEvidence
    asked : AsksOf holds words net policy config evidence
    says : SaysOfPair net policy config evidence what

  said_for : (what : Said) → what.status ≢ BadInput → Comes holds words c what → SaidFor what
  said_for what lawful comes =
      let f = texts_said_for SaysOfMore holds (names_read words c) what lawful comes.bytes comes.held comes.says in
      let m = of_more f.spell.more f.net f.policy what lawful f.says in
      record {
        net = f.net;
        policy = f.policy;
        config = m.of.config;
        evidence = m.of.evidence;
        asked = record {
          asked = asks_for holds words c f.net f.policy comes.is f.spell;
          config_text = m.config_text;
          evidence_text = m.evidence_text;
          more = m.more_is;
          config_spelled =
              let held = subst (λ (more : List (List ℕ)). AllHeld holds (names_read words c) (f.spell.topology ∷ f.spell.policy_text ∷ more)) m.more_is f.spell.held in
              read_is_spelled Second m.config_text m.of.config (omega (arith, held.1.1.0.within)) m.of.config_spelled;
          evidence_spelled = m.of.evidence_spelled;
        };
        says = m.of.says;
      }

  module _ {S : Type 0} (taken : S → Option (List ℕ)) (before now : S) (b : List ℕ) (written : Whole taken b before now) where
    -- the claim, and the evidence that passes
    abbrev pub Held : Type 0
    Held =
        (claim : ChecksRight holds taken words before now) × (evidence : List PlainCaseEvidence) × AsksOf holds words claim.net claim.policy claim.config evidence
        × Passes claim.net claim.policy claim.config evidence × IsKeptAtWork claim.net claim.policy claim.config

    module _ (net : PlainNet) (policy : PlainPolicy) (config : PlainConfig) (evidence : List PlainCaseEvidence) (asks : AsksOf holds words net policy config evidence) where
      holds_of : (v : Verdict) → IsVerdict net policy config evidence v → text b ≡ verdict_said v → Held
      holds_of (verdict.Fails rule shown) h is = absurd (let s = status_is _ _ is in cc)
      holds_of verdict.Holds passes is =
          let spell = spells holds words c net policy asks.asked in (
            record {
              net = net;
              policy = policy;
              config_text = asks.config_text;
              evidence_text = asks.evidence_text;
              asked = names_texts holds words net policy c (codes "check") (asks.config_text ∷ asks.evidence_text ∷ []) (check_words words asks.asked.asked) spell asks.more;
              written = rw (out_is _ _ is) at written;
              config = config;
              text = spellings_are_texts asks.config_text config asks.config_spelled;
              keeps = passing_evidence_keeps_policy net policy config evidence (net_of_spelled spell) (policy_of_spelled spell) passes;
            },
            evidence,
            asks,
            passes,
            passing_evidence_keeps_it_at_work net policy config evidence (net_of_spelled spell) (policy_of_spelled spell) passes,
          )

      fails_of : (v : Verdict) → IsVerdict net policy config evidence v → failing b ≡ verdict_said v → TellsFault holds taken words before now
      fails_of verdict.Holds h is = absurd (let s = status_is _ _ is in cc)
      fails_of (verdict.Fails rule shown) h is = record {
        net = net;
        policy = policy;
        config = config;
        evidence = evidence;
        asked = asks;
        rule = rule;
        shown = shown;
        verdict = h;
        written = rw (out_is _ _ is) at written;
      }

    -- where it says that the evidence holds, it does
    pub right : Comes holds words c (text b) → Held
    right comes = let f = said_for (text b) (λ x. cc) comes in holds_of f.net f.policy f.config f.evidence f.asked f.says.0 f.says.1 f.says.2

    -- and where it says that a rule fails, it does
    pub fails : Comes holds words c (failing b) → TellsFault holds taken words before now
    fails comes = let f = said_for (failing b) (λ x. cc) comes in fails_of f.net f.policy f.config f.evidence f.asked f.says.0 f.says.1 f.says.2

  -- ---- where the inputs are told

  module _ (net : PlainNet) (policy : PlainPolicy) (config : PlainConfig) (evidence : List PlainCaseEvidence) (asks : AsksOf holds words net policy config evidence) where
    told_says : (wanted : Said) → SaidOfTold holds (names_read words c) (Job c) wanted → SaysOfPair net policy config evidence wanted
    told_says wanted said =
        let P : List (List ℕ) → Type 0 = λ more. SaysOfMore more net policy wanted in
        at_pair (SaysOfPair net policy) asks.config_text asks.evidence_text config evidence wanted (spelled_is_read Second asks.config_text config asks.config_spelled) asks.evidence_spelled
        (subst P asks.more (texts_told SaysOfMore holds (names_read words c) net policy wanted (spells holds words c net policy asks.asked) said))

    module _ {O E : Type 0} (ot : O → Option (List ℕ)) (of : O → ℕ) (et : E → Option (List ℕ)) (ef : E → ℕ) (out out' : O) (err err' : E) (ended : Status) (calm : Rose (of out) (of out') → ⊥) where
      done_by : Passes net policy config evidence → (wanted : Said) → SaysOfPair net policy config evidence wanted → Delivered ot of et ef wanted out out' err err' ended → ended ≡ Done
      done_by passes wanted says sent =
          let is : wanted ≡ text holds_line = says.2 ∙ ap verdict_said (one_verdict net policy config evidence says.0 verdict.Holds says.1 passes) in
          text_sent ot of et ef out out' err err' ended holds_line calm (rw is at sent)

      pub holds_where : Passes net policy config evidence → Gives ot of et ef out out' err err' ended (SaidOfTold holds (names_read words c) (Job c)) → (ended ≡ NoMemory) ⊎ (ended ≡ Done)
      holds_where passes (inl m) = inl m
      holds_where passes (inr w) = inr (done_by passes w.0 (told_says w.0 w.1) w.2)

      fails_by : (Passes net policy config evidence → ⊥) → (v : Verdict) → IsVerdict net policy config evidence v → (wanted : Said) → wanted ≡ verdict_said v
          → Delivered ot of et ef wanted out out' err err' ended → ended ≡ CheckFails
      fails_by fails verdict.Holds passes wanted is sent = absurd (fails passes)
      fails_by fails (verdict.Fails rule shown) h wanted is sent = failing_sent ot of et ef out out' err err' ended (fails_line rule shown) calm (rw is at sent)

      pub fails_where : (Passes net policy config evidence → ⊥) → Gives ot of et ef out out' err err' ended (SaidOfTold holds (names_read words c) (Job c)) → (ended ≡ NoMemory) ⊎ (ended ≡ CheckFails)
      fails_where fails (inl m) = inl m
      fails_where fails (inr w) = let says = told_says w.0 w.1 in inr (fails_by fails says.0 says.1 w.0 says.2 w.2)
