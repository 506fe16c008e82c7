-- The graph of a case that failures leave is the ground of what the laws speak of.
use Rattle.std.proofs.Common.{◌≡◌, ℕ, Bool, List, length, refl, sym, ap, ◌∙◌, arith, ltb-true}
use Rattle.std.specs.Prelude.{◌&&◌, not}
use Rattle.std.proofs.lemmas.Bool.{and_from, and_parts}
use Rattle.net_base.specs.declared.loc.LocSet.{LocSet}
use Rattle.net_base.specs.Network.{PlainNet, IsNet, is_router, linked}
use Rattle.net_base.specs.Prefixes.{PlainPrefix}
use Rattle.net_base.specs.Sets.{holds}
use Rattle.policy_base.specs.Governing.{is_origin}
use Rattle.policy_base.specs.Policies.{PlainPolicy, IsPolicyOf}
use Rattle.graph_base.specs.Graphs.{PlainGraph}
use Rattle.graph_base.specs.Runs.{place_of, is_start, has_step}
use Rattle.graph_base.proofs.StartsAndSteps.{start_at-is, step_at-is}
use Rattle.graph_base.proofs.WellFormed.{start_at-of, step_at-of}
use Rattle.config_base.specs.Configs.{PlainConfig}
use Rattle.evidence_base.specs.Made.{PlainCaseEvidence}
use Rattle.outcome_base.specs.Outcomes.{Failures, is_dead, is_dead_link, is_live}
use Rattle.evidence_law.proofs.Setting.{setup_of}
use Rattle.evidence_law.specs.Passes.{Passes}
use Rattle.settled_law.proofs.Fully.{names_differ}
use Rattle.settled_law.proofs.SettledLaw.{CaseFound}
use Rattle.settled_graph.specs.Grounds.{IsGround}
use Rattle.scenarios.specs.Surviving.{AreSurvivors, carries}
use Rattle.scenarios.specs.declared.survivors.Survivors.{Survivors}
use Rattle.settled_outcome.specs.Surviving.{chooses_by, left_by}
use Rattle.settled_outcome.proofs.Surviving.{starts_are, steps_are}

module _ (net : PlainNet) (policy : PlainPolicy) (config : PlainConfig) (cs : List PlainCaseEvidence) (rules : IsNet net)
    (kept : IsPolicyOf net policy) (passes : Passes net policy config cs) (f : Failures) (p : PlainPrefix)
    (c : CaseFound net policy config cs rules kept passes f p) (s : Survivors) (are : AreSurvivors net f s) (origins choosers : LocSet)
    (same : (l : ℕ) → holds origins l ≡ is_origin net policy p l) (choose : (l : ℕ) → holds choosers l ≡ chooses_by net s origins l) where
  abbrev g : PlainGraph
  g = c.d.graph

  pub is_ground : IsGround net (left_by net s g) c.d.numbers choosers (setup_of net f c.d)
  is_ground = record {
    formed = c.lines.formed;
    rules = c.numbers;
    differ = names_differ net (holds c.d.case.origins) rules;
    name = λ v. refl;
    count = refl;
    place = λ n. refl;
    number = λ n. refl;
    choice = λ v.
        ap (λ (o : ℕ → Bool). is_router net v && (not (is_dead f v) && not (o v))) c.same
        ∙ ap (λ o. is_router net v && (not (is_dead f v) && not o)) (sym (same v))
        ∙ ap (λ o. is_router net v && (not o && not (holds origins v))) (sym (are.dead v))
        ∙ sym (choose v);
    within = λ v h. omega (arith, ltb-true v (length net.routers) (and_parts (is_router net v) _ h).0, rules.routers);
    ends = λ u v h. (and_parts (linked net u v && not (is_dead_link f u v) && not (is_dead f u)) (not (is_dead f v)) (and_parts (is_live net f u v) _ h).0).1;
    starts = λ n. (
      λ h.
          let parts = and_parts (is_start g n) (not (is_dead f (place_of g n))) (sym (starts_are net f s are g n) ∙ h) in
          (parts.1, start_at-of net (holds c.d.case.origins) c.d.case.external g c.on.faithful.formed n parts.0),
      λ h. starts_are net f s are g n ∙ and_from (is_start g n) (not (is_dead f (place_of g n))) (start_at-is g (place_of g n) n h.1).0 h.0,
    );
    steps = λ m n. (
      λ h.
          let parts = and_parts (has_step g m n) (carries net f (place_of g m) (place_of g n)) (sym (steps_are net f s are g m n) ∙ h) in
          (parts.1, step_at-of net (holds c.d.case.origins) c.d.case.external g c.on.faithful.formed m n parts.0),
      λ h. steps_are net f s are g m n ∙ and_from (has_step g m n) (carries net f (place_of g m) (place_of g n)) (step_at-is g m (place_of g n) n h.1).0 h.0,
    );
  }
