-- What a run of `audit` has written: that tables are stable, with their report, or why the audit fails.
use Rattle.std.proofs.Common.{◌≡◌, ◌⊎◌, ℕ, List, [], Option, Some, None, inl, inr, ◌∙◌}
use Rattle.net_base.specs.Network.{PlainNet}
use Rattle.input_output.specs.Outside.{Rose}
use Rattle.claim_law.proofs.Claim.{passing_evidence_keeps_policy, passing_evidence_keeps_it_at_work}
use Rattle.outcome_base.specs.Outcomes.{IsStable}
use Rattle.policy_base.specs.Policies.{PlainPolicy}
use Rattle.evidence_law.specs.Passes.{Passes}
use Rattle.scenario_reader.proofs.ReadPrefixes.{spelled_prefix}
use Rattle.scenarios.specs.Scenarios.{failures_of}
use Rattle.evidence_verdicts.specs.declared.verdict.Verdict.{Verdict}
use Rattle.evidence_verdicts.specs.declared.verdict.Verdict.TheVariants as verdict
use Rattle.table_reader.proofs.Sizes.{spelled_size}
use Rattle.run_base.specs.declared.outcome.Status.{Status}
use Rattle.run_base.specs.declared.outcome.Status.TheVariants.{Done, NoMemory, CheckFails}
use Rattle.run_base.specs.Reading.{Holds, SaidOfTold}
use Rattle.run_base.specs.Said.{Said, text, failing, Whole, Delivered}
use Rattle.run_base.proofs.Jobs.{err_is}
use Rattle.run_base.proofs.Sent.{Gives}
use Rattle.input_texts.proofs.Asking.{net_of_spelled, policy_of_spelled}
use Rattle.judging_jobs.specs.Asked.{Audited, SpellAudit}
use Rattle.judging_jobs.specs.Audited.{SaysOfChecked, SaysOfLine, SaysOfRoutes}
use Rattle.judging_jobs.specs.AuditLines.{unstable_line}
use Rattle.judging_jobs.proofs.AuditLaws.{said_for, told_of}
use Rattle.judging_jobs.proofs.Audits.{done_is, ends_ill, ends_well, failing_is}
use Rattle.propane_run.specs.declared.command.Command.{Command}
use Rattle.propane_run.specs.declared.command.Command.TheVariants.{Audit}
use Rattle.propane_run.specs.Auditing.{AsksAudit, AuditsRight, TellsAuditFault}
use Rattle.propane_run.specs.Run.{Comes, Job}
use Rattle.propane_run.specs.Words.{names_read}
use Rattle.propane_run.proofs.Asking.{asks_audit, spells_audit}

-- ---- nothing goes to `err`

module _ (net : PlainNet) (policy : PlainPolicy) (a : Audited) (what : Said) where
  quiet_line : (o : Option (List ℕ)) → SaysOfLine net policy a.config a.scenario a.routes o what → what.to_err ≡ []
  quiet_line None says = err_is _ _ says.told
  quiet_line (Some line) says = err_is _ _ says

  quiet_check : (v : Verdict) → SaysOfChecked net policy a.config a.scenario a.routes v what → what.to_err ≡ []
  quiet_check verdict.Holds says = quiet_line (unstable_line net says.verdict) says.says
  quiet_check (verdict.Fails rule shown) says = err_is _ _ says

  quiet : SaysOfRoutes net policy a.config a.evidence a.scenario a.routes what → what.to_err ≡ []
  quiet says = quiet_check says.verdict says.says

-- so it ends as is said, if no count of `out` rises
ended_as : {O E : Type 0} (ot : O → Option (List ℕ)) (of : O → ℕ) (et : E → Option (List ℕ)) (ef : E → ℕ) (out out' : O) (err err' : E) (ended : Status) (what : Said)
    → what.to_err ≡ [] → (Rose (of out) (of out') → ⊥) → Delivered ot of et ef what out out' err err' ended → ended ≡ what.status
ended_as ot of et ef out out' err err' ended what none calm (inl h) = h.0
ended_as ot of et ef out out' err err' ended what none calm (inr h) = absurd (elim h.1 [ inl q ↦ calm q.0.rose | inr q ↦ q.1.asked none ])

module _ (holds : Holds) (words : List (List ℕ)) where
  -- the command
  abbrev c : Command
  c = Audit

  module _ {S : Type 0} (taken : S → Option (List ℕ)) (before now : S) (b : List ℕ) (written : Whole taken b before now) where
    -- where it says that the tables are stable, they are
    pub right : Comes holds words c (text b) → AuditsRight holds taken words before now
    right comes =
        let f = said_for holds (names_read words c) (text b) (λ x. cc) comes.bytes comes.held comes.says in
        let rules = net_of_spelled f.asked.spell in
        let fits = policy_of_spelled f.asked.spell in
        let prefix = spelled_prefix f.net f.asked.scenario_text f.audited.scenario f.asked.scenario_spelled in
        let size = spelled_size f.net f.asked.tables_text f.audited.routes f.asked.tables_spelled in
        let shown = done_is f.net f.policy f.audited rules fits prefix size b f.says in
        record {
          net = f.net;
          policy = f.policy;
          audited = f.audited;
          asked = asks_audit holds words f.net f.policy comes.is f.audited f.asked;
          bytes = b;
          written = written;
          shown = shown;
          keeps = passing_evidence_keeps_policy f.net f.policy f.audited.config f.audited.evidence rules fits shown.passes;
          at_work = passing_evidence_keeps_it_at_work f.net f.policy f.audited.config f.audited.evidence rules fits shown.passes;
        }

    -- and where it says why the audit fails, it does
    pub fails : Comes holds words c (failing b) → TellsAuditFault holds taken words before now
    fails comes =
        let f = said_for holds (names_read words c) (failing b) (λ x. cc) comes.bytes comes.held comes.says in
        record {
          net = f.net;
          policy = f.policy;
          audited = f.audited;
          asked = asks_audit holds words f.net f.policy comes.is f.audited f.asked;
          line = b;
          written = written;
          shown = failing_is f.net f.policy f.audited b f.says;
        }

  -- ---- where the inputs are told

  module _ (net : PlainNet) (policy : PlainPolicy) (audited : Audited) (asks : AsksAudit holds words net policy audited) where
    spell : SpellAudit holds (names_read words c) net policy audited
    spell = spells_audit holds words net policy audited asks

    module _ {O E : Type 0} (ot : O → Option (List ℕ)) (of : O → ℕ) (et : E → Option (List ℕ)) (ef : E → ℕ) (out out' : O) (err err' : E) (ended : Status) (calm : Rose (of out) (of out') → ⊥) where
      -- it ends well where the evidence passes and the tables are stable
      pub audits_where : Passes net policy audited.config audited.evidence → IsStable net policy audited.config (failures_of audited.scenario) audited.scenario.prefix audited.routes
          → Gives ot of et ef out out' err err' ended (SaidOfTold holds (names_read words c) (Job c)) → (ended ≡ NoMemory) ⊎ (ended ≡ Done)
      audits_where passes stable (inl m) = inl m
      audits_where passes stable (inr w) =
          let says = told_of holds (names_read words c) net policy audited w.0 spell w.1 in
          let size = spelled_size net spell.tables_text audited.routes spell.tables_spelled in
          let done = ends_well net policy audited size w.0 passes stable says in
          inr (ended_as ot of et ef out out' err err' ended w.0 (quiet net policy audited w.0 says) calm w.2 ∙ done)

      -- and fails elsewhere
      pub fails_where : (Passes net policy audited.config audited.evidence × IsStable net policy audited.config (failures_of audited.scenario) audited.scenario.prefix audited.routes → ⊥)
          → Gives ot of et ef out out' err err' ended (SaidOfTold holds (names_read words c) (Job c)) → (ended ≡ NoMemory) ⊎ (ended ≡ CheckFails)
      fails_where never (inl m) = inl m
      fails_where never (inr w) =
          let says = told_of holds (names_read words c) net policy audited w.0 spell w.1 in
          let size = spelled_size net spell.tables_text audited.routes spell.tables_spelled in
          let ill = ends_ill net policy audited size w.0 never says in
          inr (ended_as ot of et ef out out' err err' ended w.0 (quiet net policy audited w.0 says) calm w.2 ∙ ill)
