-- A router's preference is the greatest number of the nodes that are reached at it.
use Rattle.std.proofs.Common.{ℕ, ◌≤◌, suc, Bool, List, ◌∷◌, sym, ap, ◌∙◌, subst}
use Rattle.std.specs.Prelude.{not, option_map}
use Rattle.std.proofs.lemmas.Bool.{and_parts}
use Rattle.net_base.specs.Network.{PlainNet, IsNet, is_router}
use Rattle.net_base.specs.Sets.{holds}
use Rattle.net_base.specs.Prefixes.{PlainPrefix}
use Rattle.policy_base.specs.Policies.{PlainPolicy, IsPolicyOf}
use Rattle.policy_base.specs.Governing.{is_origin}
use Rattle.config_base.specs.Configs.{PlainConfig}
use Rattle.evidence_base.specs.Made.{PlainCaseEvidence, number_at}
use Rattle.outcome_base.specs.Outcomes.{Failures, Outcome, route_at, IsStable}
use Rattle.evidence_law.specs.Passes.{Passes}
use Rattle.evidence_law.proofs.CaseOrigins.{no_case_origin}
use Rattle.evidence_law.proofs.GraphForms.{same_run}
use Rattle.evidence_law.proofs.Setting.{network_of, alive_of, lines_of, lines_at, line_of, pairs_of, setup_of, tag_of}
use Rattle.evidence_law.proofs.Stability.{stable_lines}
use Rattle.list_law.proofs.Options.{option_map_parts}
use Rattle.evidence_law.proofs.Surviving.{run-survives, survives-alive}
use Rattle.routing_law.specs.Laws as laws
use Rattle.routing_law.specs.Lines as line
use Rattle.routing_law.specs.Outcome as outcomes
use Rattle.routing_law.proofs.Used.{number_is_greatest, used_paths_are_sound}
use Rattle.settled_law.specs.Greatest.{AreGreatest, NumbersAreGreatest}
use Rattle.settled_law.proofs.SettledLaw.{CaseFound, case_of_class}

module _ (net : PlainNet) (policy : PlainPolicy) (config : PlainConfig) (cs : List PlainCaseEvidence) (rules : IsNet net)
    (kept : IsPolicyOf net policy) (passes : Passes net policy config cs) (f : Failures) (p : PlainPrefix)
    (c : CaseFound net policy config cs rules kept passes f p) (outcome : Outcome) (stable : IsStable net policy config f p outcome) where
  as_lines : line.LinesStable (network_of net (holds c.d.case.origins)) (alive_of net f) (lines_of net config p (suc c.k)) (lines_at outcome)
  as_lines =
      subst (λ (o : ℕ → Bool). line.LinesStable (network_of net o) (alive_of net f) (lines_of net config p (suc c.k)) (lines_at outcome)) (sym c.same)
      (stable_lines net policy config f p outcome (suc c.k) rules c.of_class stable)

  greatest : laws.GreatestNumbers (setup_of net f c.d) (pairs_of c.d) (lines_at outcome)
  greatest = number_is_greatest (setup_of net f c.d) (pairs_of c.d) (lines_of net config p (suc c.k)) (lines_at outcome) c.lines c.numbers as_lines

  used : laws.UsedPaths (setup_of net f c.d) (pairs_of c.d) (lines_of net config p (suc c.k)) (lines_at outcome)
  used = used_paths_are_sound (setup_of net f c.d) (pairs_of c.d) (lines_of net config p (suc c.k)) (lines_at outcome) c.lines as_lines

  pub are_greatest : AreGreatest net policy f p c.d outcome
  are_greatest = record {
    over = λ r n who reached.
        let parts = and_parts (is_router net r) (not (is_origin net policy p r)) who in
        let there : outcomes.ReachedAt (setup_of net f c.d) r n =
        record {
          rest = reached.0;
          runs = same_run c.d.graph (number_at c.d) (r ∷ reached.0) ∙ reached.1;
          lives =
              run-survives net f (holds c.d.case.origins) c.d.case.external c.d.graph c.on.graph c.on.faithful.formed r n reached.0 reached.1
              reached.2;
        } in
        let x = greatest.over r n parts.0 (no_case_origin c.same r parts.1) there in
        let h = option_map_parts line_of (route_at outcome r) x.0 x.1 in
        (h.0, h.1, subst (λ (z : line.LineRoute). number_at c.d n ≤ z.pref) (sym h.2) x.2);
    own = λ r h who at.
        let parts = and_parts (is_router net r) (not (is_origin net policy p r)) who in
        let x = used.routes r (line_of h) parts.0 (no_case_origin c.same r parts.1) (ap (option_map line_of) at) in
        (x.node, sym (same_run c.d.graph (number_at c.d) h.path) ∙ x.runs, survives-alive net f h.path x.lives, ap tag_of x.tag_is, x.pref_is);
  }

pub numbers_are_greatest : NumbersAreGreatest
numbers_are_greatest net policy config cs rules kept passes p f outcome k d prefix stable of_class at =
    let c = case_of_class net policy config cs rules kept passes f p prefix k d of_class at in
    subst (λ (e : PlainCaseEvidence). AreGreatest net policy f p e outcome) c.1 (are_greatest net policy config cs rules kept passes f p c.0 outcome stable)
