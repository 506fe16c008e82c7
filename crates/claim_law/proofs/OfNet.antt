-- A configuration that is made of evidence is of its network.
use Rattle.std.proofs.Common.{◌≡◌, ℕ, zero, suc, Bool, true, List, [], ◌∷◌, ◌++◌, length, lt-ltb, Option, Some, refl, arith, sym, ap, ◌∙◌, inl, inr, subst}
use Rattle.std.specs.Prelude.{is_some, slice_get}
use Rattle.std.proofs.lemmas.Bool.{and_parts, or_right, true≢false}
use Rattle.std.proofs.lemmas.Option.{slice_get_within}
use Rattle.list_law.specs.Members.{IsIn}
use Rattle.list_law.proofs.Items.{same_item}
use Rattle.list_law.proofs.Options.{cases_Option, is_some_parts, none_or_some}
use Rattle.net_base.specs.declared.loc.LocSet.{LocSet}
use Rattle.net_base.specs.Locations.{neighbours}
use Rattle.net_base.specs.Network.{PlainNet, IsNet, is_router}
use Rattle.net_base.specs.Prefixes.{PlainPrefix, IsPrefix}
use Rattle.net_base.specs.Sets.{holds}
use Rattle.policy_base.specs.Policies.{PlainPolicy, PlainStatement, IsPolicyOf}
use Rattle.policy_base.specs.Governing.{governing, is_origin, is_origin_by, statement_of}
use Rattle.policy_base.specs.Meaning.{at_last}
use Rattle.policy_base.specs.Permitted.{is_permitted}
use Rattle.policy_base.proofs.KnownCases.{case_known}
use Rattle.graph_base.specs.Runs.{place_of, is_start, start_at}
use Rattle.graph_base.proofs.StartsAndSteps.{start_at-is}
use Rattle.graph_base.proofs.WellFormed.{start_at-of}
use Rattle.config_base.specs.declared.config.Origination.{Origination}
use Rattle.config_base.specs.declared.config.RouterConfig.{RouterConfig}
use Rattle.config_base.specs.declared.config.Session.{Session}
use Rattle.config_base.specs.Configs.{PlainConfig}
use Rattle.config_base.specs.Lines.{class_of}
use Rattle.evidence_base.specs.Made.{PlainCaseEvidence, AreBlocks, IsOriginationAt, case_at, tag_at}
use Rattle.evidence_law.specs.Faithful.{is_run_path, is_walk_to}
use Rattle.evidence_law.specs.Passes.{IsMadeOf, IsCaseGraph}
use Rattle.evidence_law.proofs.CaseOrigins.{case_permits, prefix_permits}
use Rattle.evidence_law.proofs.ClassFound.{originated_by, originated_some}
use Rattle.evidence_law.proofs.ExternalFound.{ungoverned}
use Rattle.evidence_law.proofs.MadeCases.{HasCase, case_listed, case_or_nobody}
use Rattle.evidence_law.proofs.PermittedWalks.{permits_parts}
use Rattle.claim_law.specs.Laws.{MadeConfigurationsAreOfTheirNet}
use Rattle.claim_law.specs.OfNet.{AreBlocksFor, IsOfNet}
use Rattle.claim_law.specs.Walked.{SomeWalkEnds}
use Rattle.claim_law.proofs.Cases.{named, one_case, one_item}

blocks_are_for : (net : PlainNet) (cs : List PlainCaseEvidence) (x : ℕ) (zs : List ℕ) (bs : List Session) → AreBlocks net cs x zs bs → AreBlocksFor net zs bs
blocks_are_for net cs x [] [] h = tt
blocks_are_for net cs x [] (b ∷ bs) h = absurd h
blocks_are_for net cs x (z ∷ zs) [] h = absurd h
blocks_are_for net cs x (z ∷ zs) (b ∷ bs) h = (record { name = h.0.name; asn = h.0.asn; peer = h.0.peer }, blocks_are_for net cs x zs bs h.1)

-- the last place of what ends with one place
last_of : (origin : ℕ → Bool) (above : List ℕ) (x : ℕ) → at_last origin (above ++ x ∷ []) ≡ true → origin x ≡ true
last_of origin [] x h = h
last_of origin (y ∷ []) x h = h
last_of origin (y ∷ z ∷ above) x h = last_of origin (z ∷ above) x h

-- a class with a case has a place in the list
class_place : (cs : List PlainCaseEvidence) (class : ℕ) (c : PlainCaseEvidence) → case_at cs class ≡ Some c → (k : ℕ) × (class ≡ suc k) × (slice_get cs k ≡ Some c)
class_place cs zero c h = absurd cc
class_place cs (suc k) c h = (k, refl, h)

module _ (net : PlainNet) (policy : PlainPolicy) (config : PlainConfig) (cs : List PlainCaseEvidence) (rules : IsNet net) (kept : IsPolicyOf net policy) (made : IsMadeOf net policy config cs) where
  module _ (p : PlainPrefix) (s : PlainStatement) (governs : statement_of policy p ≡ Some s) (prefix : IsPrefix p) where
    -- an origin of the prefix is one of its case
    case_of_origin : (x : ℕ) → is_origin net policy p x ≡ true → HasCase net policy config cs p s
    case_of_origin x own = elim (case_or_nobody net policy config cs rules kept made p prefix s governs) [
      | inl c ↦ c
      | inr nobody ↦ absurd (true≢false (sym own ∙ nobody.0 x))
    ]

    module _ (c : HasCase net policy config cs p s) where
      abbrev Origin : ℕ → Bool
      Origin = holds c.d.case.origins

      graph : IsCaseGraph net s c.d
      graph = made.graphs c.k c.d s c.at c.is.number

      alone : (x : ℕ) → Origin x ≡ true → is_run_path net Origin (x ∷ []) ≡ true
      alone x own = or_right (is_walk_to net Origin (x ∷ [])) (Origin x) own

      -- where a permitted walk ends the graph has a start
      start_where : (x : ℕ) (above : List ℕ) → is_permitted net policy p s (above ++ x ∷ []) ≡ true → (n : ℕ) × (start_at c.d.graph x ≡ Some n)
      start_where x above h =
          let permitted = case_permits net policy p s c.is.same (above ++ x ∷ []) h in
          let ends = and_parts (at_last Origin (above ++ x ∷ [])) _ (permits_parts net Origin s (above ++ x ∷ []) permitted).1 in
          is_some_parts (start_at c.d.graph x) (graph.faithful.has_run above (x ∷ []) (alone x (last_of Origin above x ends.0)) permitted)

      -- and where it has one a permitted walk ends
      walk_where : (x n : ℕ) → start_at c.d.graph x ≡ Some n → (above : List ℕ) × (is_permitted net policy p s (above ++ x ∷ []) ≡ true)
      walk_where x n at =
          let is = start_at-is c.d.graph x n at in
          let own : Origin x ≡ true = subst (λ l. Origin l ≡ true) is.1 (graph.faithful.formed.starts n is.0) in
          let w = graph.faithful.has_no_other (x ∷ []) (alone x own) (ap is_some at) in
          (w.0, prefix_permits net policy p s c.is.same (w.0 ++ x ∷ []) w.1)

  -- ---- the lines of a router

  module _ (x : ℕ) (r : RouterConfig) (there : slice_get config.routers x ≡ Some r) where
    router : is_router net x ≡ true
    router = lt-ltb x (length net.routers) (omega (arith, slice_get_within config.routers x r there, made.lines.count))

    -- each permitted walk that ends here has its line
    has_line : (p : PlainPrefix) → IsPrefix p → SomeWalkEnds net policy p (x ∷ []) → (o : Origination) × IsIn r.own o × (o.prefix ≡ p) × (class_of config p ≡ Some o.class)
    has_line p prefix ends =
        let s = ends.0 in
        let walk = permits_parts net (is_origin net policy p) s (ends.1 ++ x ∷ []) ends.3 in
        let own : is_origin net policy p x ≡ true = last_of (is_origin net policy p) ends.1 x (and_parts (at_last (is_origin net policy p) (ends.1 ++ x ∷ [])) _ walk.1).0 in
        let c = case_of_origin p s ends.2 prefix x own in
        let start = start_where p s ends.2 prefix c x ends.1 ends.3 in
        let is = start_at-is c.d.graph x start.0 start.1 in
        let here : holds c.d.case.origins x ≡ true = ap (λ (o : ℕ → Bool). o x) c.is.same ∙ own in
        let o : Origination = record { class = suc c.k; prefix = p; tag = tag_at c.d start.0 } in
        let line : IsOriginationAt cs x o = record { case = c.d; node = start.0; at_class = c.at; start = is.0; at = is.1; prefix = c.is.announced x router here; tag = refl } in
        (o, ((made.lines.routers x r there).own o).1 line, refl, c.of_class)

    -- the prefix of a line is governed by the statement of its case
    governed : (p : PlainPrefix) (n : ℕ) → governing policy p ≡ Some n → (s : PlainStatement) × (statement_of policy p ≡ Some s)
    governed p n is = elim (cases_Option (statement_of policy p)) [
      | inl none ↦ absurd (none_or_some (governing policy p) n (ungoverned policy.statements p 1 none) is)
      | inr some ↦ some
    ]

    -- the router of a line is an origin of its prefix
    is_own : (o : Origination) (line : IsOriginationAt cs x o) (k : ℕ) → slice_get cs k ≡ Some line.case → is_origin net policy o.prefix x ≡ true
    is_own o line k at =
        let listed = case_listed net policy config cs made k line.case at in
        let s = (case_known net policy k line.case.case listed).statement in
        let formed = (made.graphs k line.case s.0 at s.1).faithful.formed in
        let here : holds line.case.case.origins x ≡ true = subst (λ l. holds line.case.case.origins l ≡ true) line.at (formed.starts line.node line.start) in
        let it = named net policy k line.case.case o.prefix listed line.prefix in
        let some = originated_some policy.origins it.0 o.prefix it.1 it.2 in
        let also = originated_by policy.origins o.prefix some.0 some.1 in
        let origins : line.case.case.origins ≡ some.0 = sym it.4 ∙ one_item net policy kept.rules it.0 also.0 it.1 also.1 (it.2 ∙ sym also.2) ∙ also.3 in
        ap (λ (item : Option LocSet). is_origin_by net item x) some.1 ∙ ap (λ (at : LocSet). holds at x) (sym origins) ∙ here

    start_of : (d : PlainCaseEvidence) (s : PlainStatement) (n : ℕ) → IsCaseGraph net s d → is_start d.graph n ≡ true → place_of d.graph n ≡ x → start_at d.graph x ≡ Some n
    start_of d s n on is at = ap (start_at d.graph) (sym at) ∙ start_at-of net (holds d.case.origins) d.case.external d.graph on.faithful.formed n is

    -- a line stands where a permitted walk ends, under the class of its prefix
    is_line : (o : Origination) → IsIn r.own o → (class_of config o.prefix ≡ Some o.class) × SomeWalkEnds net policy o.prefix (x ∷ [])
    is_line o item =
        let line = ((made.lines.routers x r there).own o).0 item in
        let place = class_place cs o.class line.case line.at_class in
        let listed = case_listed net policy config cs made place.0 line.case place.2 in
        let it = named net policy place.0 line.case.case o.prefix listed line.prefix in
        let prefix : IsPrefix o.prefix = subst IsPrefix it.2 (kept.prefixes it.0 it.1) in
        let g = governed o.prefix line.case.case.statement it.3 in
        let own = is_own o line place.0 place.2 in
        let c = case_of_origin o.prefix g.0 g.1 prefix x own in
        let also = c.is.announced x router (ap (λ (o : ℕ → Bool). o x) c.is.same ∙ own) in
        let one : place.0 ≡ c.k = one_case net policy kept.rules place.0 c.k line.case.case c.d.case o.prefix listed (case_listed net policy config cs made c.k c.d c.at) line.prefix also in
        let same : line.case ≡ c.d = same_item cs place.0 c.k line.case c.d place.2 c.at one in
        let start =
        start_of c.d g.0 line.node (made.graphs c.k c.d g.0 c.at c.is.number) (subst (λ (d : PlainCaseEvidence). is_start d.graph line.node ≡ true) same line.start)
        (subst (λ (d : PlainCaseEvidence). place_of d.graph line.node ≡ x) same line.at) in
        let walk = walk_where o.prefix g.0 g.1 prefix c x line.node start in
        (c.of_class ∙ ap Some (ap suc (sym one) ∙ sym place.1), (g.0, walk.0, g.1, walk.1))

  pub of_net : IsOfNet net policy config
  of_net = record {
    count = made.lines.count;
    routers = λ x r there.
        record {
          site = (made.lines.routers x r there).site;
          sessions = blocks_are_for net cs x (neighbours net x) r.sessions (made.lines.routers x r there).sessions;
          originated = has_line x r there;
          originates = is_line x r there;
        };
  }

pub made_configurations_are_of_their_net : MadeConfigurationsAreOfTheirNet
made_configurations_are_of_their_net net policy config cs rules kept made = of_net net policy config cs rules kept made
