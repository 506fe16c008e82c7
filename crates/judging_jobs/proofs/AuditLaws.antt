-- The job that audits.
use Rattle.std.proofs.Common.{◌≡◌, ◌≢◌, ℕ, List, [], ◌∷◌, ◌++◌, Option, Some, None, refl, sym, ap, subst, ◌∙◌}
use Rattle.net_base.specs.Network.{PlainNet, IsNet}
use Rattle.policy_base.specs.Policies.{IsPolicyOf, PlainPolicy}
use Rattle.config_base.specs.Configs.{PlainConfig}
use Rattle.evidence_base.specs.Made.{PlainCaseEvidence}
use Rattle.evidence_verdicts.specs.declared.verdict.Verdict.{Verdict}
use Rattle.evidence_verdicts.specs.declared.verdict.Verdict.TheVariants.{Holds, Fails}
use Rattle.evidence_verdicts.proofs.OneVerdict.{one_verdict}
use Rattle.outcome_base.specs.Outcomes.{Outcome}
use Rattle.outcome_report.proofs.Texts.{one_report}
use Rattle.outcome_report.specs.Report.{shown_of}
use Rattle.scenario_reader.specs.Spelled.{spelled as scenario_spelled_by}
use Rattle.scenarios.specs.declared.scenario.Scenario.{Scenario}
use Rattle.scenarios.specs.Scenarios.{failures_of}
use Rattle.table_reader.specs.Spelled.{spelled as tables_spelled_by}
use Rattle.table_audit.specs.declared.verdict.AuditVerdict.{AuditVerdict}
use Rattle.table_audit.proofs.Telling.{verdicts_are_one}
use Rattle.run_base.specs.declared.outcome.Status.TheVariants.{BadInput}
use Rattle.run_base.specs.Reading.{Holds as HeldBy, AllHeld, SaidOfTold}
use Rattle.run_base.specs.Said.{Said, text}
use Rattle.run_base.proofs.Jobs.{IsJob, IsJobSaid, in_text, in_failing}
use Rattle.input_texts.specs.Asked.{SpellFor}
use Rattle.input_texts.specs.FaultLines.{scenario_line, tables_line}
use Rattle.input_texts.specs.Texts.{OfTablesText}
use Rattle.input_texts.proofs.Asking.{job_of, said_for as texts_said_for, told_says as texts_told}
use Rattle.input_texts.proofs.Spelling.{OfPair, at_pair, at_read, of_pair, of_read, one_of_pair, one_of_read, pair_form, read_form}
use Rattle.judging_jobs.specs.VerdictLines.{fails_line}
use Rattle.judging_jobs.specs.Asked.{Audited, SpellAudit}
use Rattle.judging_jobs.specs.Audited.{SaysOfChecked, SaysOfLine, SaysOfMore, SaysOfPassing, SaysOfRoutes, SaysOfTexts, SaysUnder}
use Rattle.judging_jobs.specs.AuditLines.{stable_line, unstable_line}

-- ---- the form of what is said

module _ (Refuses Checks : Type 0) (checks : Checks) where
  line_form : (net : PlainNet) (policy : PlainPolicy) (config : PlainConfig) (scenario : Scenario) (routes : Outcome) (o : Option (List ℕ)) (what : Said)
      → SaysOfLine net policy config scenario routes o what → IsJobSaid Refuses Checks what
  line_form net policy config scenario routes None what h = in_text (stable_line ++ h.report) h.told
  line_form net policy config scenario routes (Some line) what h = in_failing checks line h

  checked_form : (net : PlainNet) (policy : PlainPolicy) (config : PlainConfig) (scenario : Scenario) (routes : Outcome) (v : Verdict) (what : Said)
      → SaysOfChecked net policy config scenario routes v what → IsJobSaid Refuses Checks what
  checked_form net policy config scenario routes Holds what h = line_form net policy config scenario routes (unstable_line net h.verdict) what h.says
  checked_form net policy config scenario routes (Fails rule shown) what h = in_failing checks (fails_line rule shown) h

  under_form : (scenario_text tables_text : List ℕ) (net : PlainNet) (policy : PlainPolicy) (config : PlainConfig) (evidence : List PlainCaseEvidence) (what : Said)
      → SaysUnder scenario_text tables_text net policy config evidence what → IsJobSaid Refuses Checks what
  under_form s t net policy config evidence what h =
      read_form scenario_line (scenario_spelled_by net s) (λ scenario. OfTablesText (SaysOfRoutes net policy config evidence scenario) net t) Refuses Checks
      (λ scenario. read_form tables_line (tables_spelled_by net t) (SaysOfRoutes net policy config evidence scenario) Refuses Checks
      (λ routes said r. checked_form net policy config scenario routes r.verdict said r.says)) what h

  more_form : (more : List (List ℕ)) (net : PlainNet) (policy : PlainPolicy) (what : Said) → SaysOfMore more net policy what → IsJobSaid Refuses Checks what
  more_form [] net policy what h = absurd h
  more_form (z ∷ []) net policy what h = absurd h
  more_form (z ∷ w ∷ []) net policy what h = absurd h
  more_form (z ∷ w ∷ v ∷ []) net policy what h = absurd h
  more_form (z ∷ w ∷ v ∷ u ∷ []) net policy what h = pair_form (SaysUnder v u net policy) Refuses Checks (under_form v u net policy) z w what h
  more_form (z ∷ w ∷ v ∷ u ∷ t ∷ more) net policy what h = absurd h

-- ---- one thing is said

one_of_lines : (net : PlainNet) (policy : PlainPolicy) (config : PlainConfig) (scenario : Scenario) (routes : Outcome) (o : Option (List ℕ)) (one other : Said)
    → SaysOfLine net policy config scenario routes o one → SaysOfLine net policy config scenario routes o other → one ≡ other
one_of_lines net policy config scenario routes None one other a b =
    a.told
    ∙ ap (λ r. text (stable_line ++ r)) (one_report net policy scenario.prefix (shown_of net policy config (failures_of scenario) scenario.prefix routes) config a.report b.report a.of b.of)
    ∙ sym b.told
one_of_lines net policy config scenario routes (Some line) one other a b = a ∙ sym b

one_of_passing : (net : PlainNet) (policy : PlainPolicy) (config : PlainConfig) (scenario : Scenario) (routes : Outcome) (one other : Said)
    → SaysOfPassing net policy config scenario routes one → SaysOfPassing net policy config scenario routes other → one ≡ other
one_of_passing net policy config scenario routes one other a b =
    let same = verdicts_are_one net policy config (failures_of scenario) scenario.prefix routes a.verdict b.verdict a.is b.is in
    let Says : AuditVerdict → Type 0 = λ v. SaysOfLine net policy config scenario routes (unstable_line net v) one in
    one_of_lines net policy config scenario routes (unstable_line net b.verdict) one other (subst Says same a.says) b.says

one_of_checked : (net : PlainNet) (policy : PlainPolicy) (config : PlainConfig) (scenario : Scenario) (routes : Outcome) (v : Verdict) (one other : Said)
    → SaysOfChecked net policy config scenario routes v one → SaysOfChecked net policy config scenario routes v other → one ≡ other
one_of_checked net policy config scenario routes Holds one other a b = one_of_passing net policy config scenario routes one other a b
one_of_checked net policy config scenario routes (Fails rule shown) one other a b = a ∙ sym b

pub one_of_routes : (net : PlainNet) (policy : PlainPolicy) (config : PlainConfig) (evidence : List PlainCaseEvidence) (scenario : Scenario) (routes : Outcome) (one other : Said)
    → SaysOfRoutes net policy config evidence scenario routes one → SaysOfRoutes net policy config evidence scenario routes other → one ≡ other
one_of_routes net policy config evidence scenario routes one other a b =
    let same = one_verdict net policy config evidence a.verdict b.verdict a.is b.is in
    let Says : Verdict → Type 0 = λ v. SaysOfChecked net policy config scenario routes v one in
    one_of_checked net policy config scenario routes b.verdict one other (subst Says same a.says) b.says

one_under : (s t : List ℕ) (net : PlainNet) (policy : PlainPolicy) (config : PlainConfig) (evidence : List PlainCaseEvidence) (one other : Said)
    → SaysUnder s t net policy config evidence one → SaysUnder s t net policy config evidence other → one ≡ other
one_under s t net policy config evidence one other a b =
    one_of_read scenario_line (scenario_spelled_by net s) (λ scenario. OfTablesText (SaysOfRoutes net policy config evidence scenario) net t)
    (λ scenario is. one_of_read tables_line (tables_spelled_by net t) (SaysOfRoutes net policy config evidence scenario)
    (λ routes also. one_of_routes net policy config evidence scenario routes)) one other a b

one_of_more : (more : List (List ℕ)) (net : PlainNet) (policy : PlainPolicy) → IsNet net → IsPolicyOf net policy → (one other : Said)
    → SaysOfMore more net policy one → SaysOfMore more net policy other → one ≡ other
one_of_more [] net policy rules fits one other a b = absurd a
one_of_more (z ∷ []) net policy rules fits one other a b = absurd a
one_of_more (z ∷ w ∷ []) net policy rules fits one other a b = absurd a
one_of_more (z ∷ w ∷ v ∷ []) net policy rules fits one other a b = absurd a
one_of_more (z ∷ w ∷ v ∷ u ∷ []) net policy rules fits one other a b = one_of_pair (SaysUnder v u net policy) (one_under v u net policy) z w one other a b
one_of_more (z ∷ w ∷ v ∷ u ∷ t ∷ more) net policy rules fits one other a b = absurd a

pub audit_job : (Refuses Checks : Type 0) → Checks → IsJob Refuses Checks SaysOfTexts
audit_job Refuses Checks checks = job_of SaysOfMore Refuses Checks (more_form Refuses Checks checks) one_of_more

-- ---- of what a thing is said

module _ (holds : HeldBy) (names : List (List ℕ)) where
  pub record SaidFor (what : Said) : Type 0 where
    pub net : PlainNet
    pub policy : PlainPolicy
    pub audited : Audited
    pub asked : SpellAudit holds names net policy audited
    pub says : SaysOfRoutes net policy audited.config audited.evidence audited.scenario audited.routes what

  said_under : (what : Said) → what.status ≢ BadInput → (net : PlainNet) (policy : PlainPolicy) (spell : SpellFor holds names net policy) (z w v u : List ℕ) → spell.more ≡ z ∷ w ∷ v ∷ u ∷ []
      → OfPair (SaysUnder v u net policy) z w what → SaidFor what
  said_under what lawful net policy spell z w v u is pair =
      let s = of_read scenario_line (scenario_spelled_by net v) (λ scenario. OfTablesText (SaysOfRoutes net policy pair.config pair.evidence scenario) net u) what lawful pair.says in
      let t = of_read tables_line (tables_spelled_by net u) (SaysOfRoutes net policy pair.config pair.evidence s.0) what lawful s.2 in
      record {
        net = net;
        policy = policy;
        audited = record { config = pair.config; evidence = pair.evidence; scenario = s.0; routes = t.0 };
        asked = record {
          spell = spell;
          config_text = z;
          evidence_text = w;
          scenario_text = v;
          tables_text = u;
          more = is;
          config_spelled = pair.config_spelled;
          evidence_spelled = pair.evidence_spelled;
          scenario_spelled = s.1;
          tables_spelled = t.1;
        };
        says = t.2;
      }

  said_of : (what : Said) → what.status ≢ BadInput
      → (net : PlainNet) (policy : PlainPolicy) (spell : SpellFor holds names net policy) (more : List (List ℕ)) → spell.more ≡ more
      → SaysOfMore more net policy what → SaidFor what
  said_of what lawful net policy spell [] is says = absurd says
  said_of what lawful net policy spell (z ∷ []) is says = absurd says
  said_of what lawful net policy spell (z ∷ w ∷ []) is says = absurd says
  said_of what lawful net policy spell (z ∷ w ∷ v ∷ []) is says = absurd says
  said_of what lawful net policy spell (z ∷ w ∷ v ∷ u ∷ []) is says = said_under what lawful net policy spell z w v u is (of_pair (SaysUnder v u net policy) z w what lawful says)
  said_of what lawful net policy spell (z ∷ w ∷ v ∷ u ∷ t ∷ more) is says = absurd says

  -- it is said of some, where it isn't about the texts
  pub said_for : (what : Said) → what.status ≢ BadInput → (bs : List (List ℕ)) → AllHeld holds names bs → SaysOfTexts bs what → SaidFor what
  said_for what lawful bs held says =
      let f = texts_said_for SaysOfMore holds names what lawful bs held says in
      said_of what lawful f.net f.policy f.spell f.spell.more refl f.says

  -- and of those that are spelled, where the names are told
  pub told_of : (net : PlainNet) (policy : PlainPolicy) (a : Audited) (what : Said) → SpellAudit holds names net policy a → SaidOfTold holds names SaysOfTexts what
      → SaysOfRoutes net policy a.config a.evidence a.scenario a.routes what
  told_of net policy a what asked said =
      let P : List (List ℕ) → Type 0 = λ more. SaysOfMore more net policy what in
      let pair = at_pair (SaysUnder asked.scenario_text asked.tables_text net policy) asked.config_text asked.evidence_text a.config a.evidence what asked.config_spelled asked.evidence_spelled
      (subst P asked.more (texts_told SaysOfMore holds names net policy what asked.spell said)) in
      at_read tables_line (tables_spelled_by net asked.tables_text) (SaysOfRoutes net policy a.config a.evidence a.scenario) a.routes what asked.tables_spelled
      (at_read scenario_line (scenario_spelled_by net asked.scenario_text)
      (λ scenario. OfTablesText (SaysOfRoutes net policy a.config a.evidence scenario) net asked.tables_text) a.scenario what asked.scenario_spelled pair)
