-- An outcome with ties broken is one of the lines of a class, and the other way round.
use Rattle.std.proofs.Common.{◌≡◌, ℕ, Bool, Some, refl, arith, sym, ap, ◌∙◌, subst}
use Rattle.std.specs.Prelude.{nat_eq, option_map}
use Rattle.std.proofs.lemmas.Bool.{eq-eqb}
use Rattle.std.proofs.lemmas.List.{length-append}
use Rattle.net_base.specs.declared.net.Site.{Site}
use Rattle.net_base.specs.Network.{PlainNet, IsNet, sites, id_of}
use Rattle.net_base.specs.Prefixes.{PlainPrefix}
use Rattle.policy_base.specs.Policies.{PlainPolicy}
use Rattle.policy_base.specs.Governing.{is_origin}
use Rattle.config_base.specs.declared.route.Route.{Route}
use Rattle.config_base.specs.Configs.{PlainConfig}
use Rattle.config_base.specs.Lines.{class_of}
use Rattle.outcome_base.specs.Outcomes.{Failures, Outcome, route_at, given}
use Rattle.evidence_law.proofs.Setting.{network_of, alive_of, lines_of, lines_at, line_of}
use Rattle.evidence_law.proofs.Heard.{given-heard}
use Rattle.evidence_law.proofs.Stability.{choosing, stable_lines}
use Rattle.list_law.proofs.Options.{option_map_parts}
use Rattle.evidence_law.proofs.Existence as exist
use Rattle.evidence_law.proofs.Existence.{held, outcome_of, route_of}
use Rattle.list_law.proofs.Keys.{place_by_key}
use Rattle.list_law.proofs.Items.{slice_get_inside}
use Rattle.routing_law.specs.Lines as line
use Rattle.routing_law.specs.Network as law
use Rattle.settled_law.specs.Settled.{IsFullyStable, IsNoLater}

-- identifiers differ over the network
pub names_differ : (net : PlainNet) (origin : ℕ → Bool) → IsNet net → law.NamesDiffer (network_of net origin)
names_differ net origin rules u v below_u below_v same =
    let all = length-append net.routers net.peers in
    let a = slice_get_inside (sites net) u (omega (arith, all, below_u)) in
    let b = slice_get_inside (sites net) v (omega (arith, all, below_v)) in
    let id_a : id_of net u ≡ a.0.id = rw a.1 refl in
    let id_b : id_of net v ≡ b.0.id = rw b.1 refl in
    let ids : a.0.id ≡ b.0.id = sym id_a ∙ same ∙ id_b in
    place_by_key nat_eq (λ (s : Site). s.id) (sites net) u v a.0 b.0 rules.ids a.1 b.1 (eq-eqb a.0.id b.0.id ids) (eq-eqb b.0.id a.0.id (sym ids))

module _ (net : PlainNet) (policy : PlainPolicy) (config : PlainConfig) (f : Failures) (p : PlainPrefix) (class : ℕ) (rules : IsNet net) (of_class : class_of config p ≡ Some class) where
  abbrev Net : law.Network
  Net = network_of net (is_origin net policy p)

  -- up: what settles in the lines settles in the configuration
  pub fully : (r : line.LineRoutes) → line.LinesFullyStable Net (alive_of net f) (lines_of net config p class) r → IsFullyStable net policy config f p (outcome_of net (λ v. option_map route_of (r v)))
  fully r full = record {
    stable = exist.lines_stable net policy config f p class rules of_class r full.stable;
    first = λ v z h g who at by.
        let mine = exist.choosing net policy config f p class rules of_class r full.stable v who in
        let x = option_map_parts route_of (r v) h (sym (held net (λ u. option_map route_of (r u)) v mine.0) ∙ at) in
        let heard : line.line_heard Net (alive_of net f) (lines_of net config p class) r v z ≡ Some (line_of g) =
        sym (exist.given-line net policy config f p class rules of_class r z v mine.0) ∙ ap (option_map line_of) by in
        let n = full.first v z x.0 (line_of g) mine.1 x.1 heard in
        subst (λ (k : Route). IsNoLater net k g) x.2 (record { higher = n.higher; fewer = n.fewer; lower = n.lower });
  }

  -- down: what settles in the configuration settles in the lines
  pub fully_lines : (outcome : Outcome) → IsFullyStable net policy config f p outcome → line.LinesFullyStable Net (alive_of net f) (lines_of net config p class) (lines_at outcome)
  fully_lines outcome full = record {
    stable = stable_lines net policy config f p outcome class rules of_class full.stable;
    first = λ v u x y chooses has heard.
        let who = choosing net policy config f p outcome class rules of_class v chooses in
        let h = option_map_parts line_of (route_at outcome v) x has in
        let g = option_map_parts line_of (given net policy config f p outcome u v) y (given-heard net policy config f p outcome class rules of_class u v who.0 ∙ heard) in
        let n = full.first v u h.0 g.0 who.1 h.1 g.1 in
        subst (λ (z : line.LineRoute). line.LinesNoLater Net z y) h.2 (subst (line.LinesNoLater Net (line_of h.0)) g.2 (record { higher = n.higher; fewer = n.fewer; lower = n.lower }));
  }
