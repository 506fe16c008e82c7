-- Evidence that passes makes the configuration right.
use Rattle.std.proofs.Common.{◌≡◌, ℕ, true, false, List, ◌∷◌, length, Option, Some, None, refl, arith, sym, ap, ◌∙◌, inl, inr}
use Rattle.std.specs.Prelude.{◌&&◌, ◌⊎◌, not, slice_get}
use Rattle.std.specs.Option.{option_and_then}
use Rattle.std.proofs.lemmas.Bool.{and_parts, and_from, cases_Bool, true≢false, not_from_false, lt-ltb}
use Rattle.std.proofs.lemmas.Option.{slice_get_within}
use Rattle.list_law.proofs.Options.{cases_Option, none_or_some}
use Rattle.net_base.specs.Network.{PlainNet, IsNet, is_peer, is_router}
use Rattle.net_base.specs.Prefixes.{PlainPrefix, IsPrefix}
use Rattle.policy_base.specs.Policies.{PlainPolicy, PlainStatement, statement_at, IsPolicyOf}
use Rattle.policy_base.specs.Meaning.{at_last}
use Rattle.policy_base.specs.Governing.{statement_of, is_origin}
use Rattle.policy_base.specs.Permitted.{is_permitted}
use Rattle.config_base.specs.declared.route.Route.{Route}
use Rattle.config_base.specs.Configs.{PlainConfig}
use Rattle.config_base.specs.Lines.{class_of}
use Rattle.evidence_base.specs.Made.{PlainCaseEvidence, number_at}
use Rattle.outcome_base.specs.Outcomes.{Failures, Outcome, is_dead, is_live, route_at, sent, given, offered, IsStable}
use Rattle.outcome_base.specs.Right.{IsRight, IsRightBy, IsBare, IsRightOutcome}
use Rattle.evidence_law.specs.Passes.{IsMadeOf, IsClaimed}
use Rattle.policy_base.proofs.WalkParts.{at_last-never}
use Rattle.evidence_law.specs.Laws.{IsSoundBy, IsSoundOutcome, IsSound, UsedPathsAreAllowed, PassingEvidenceIsRight}
use Rattle.graph_base.specs.Rules.{MeetsRules}
use Rattle.net_base.proofs.RoutersAndPeers.{router_no_peer}
use Rattle.evidence_law.proofs.Heard.{no_gift}
use Rattle.evidence_law.proofs.MadeCases.{HasCase, case_or_nobody, has_no_class}
use Rattle.evidence_law.proofs.SoundCase.{IsCaseAt, sound_case}
use Rattle.evidence_law.proofs.RightCase.{right_case}
use Rattle.evidence_law.proofs.PermittedWalks.{permits_parts}

module _ (net : PlainNet) (policy : PlainPolicy) (config : PlainConfig) (f : Failures) (p : PlainPrefix) (outcome : Outcome) (free : class_of config p ≡ None) where
  -- without a class no router sends anything
  unsent : (r peer : ℕ) → is_peer net r ≡ false → sent net policy config f p outcome r peer ≡ None
  unsent r peer off = rw (free, off) refl

  no_offer : (r peer : ℕ) → offered net policy config f p outcome r peer ≡ None
  no_offer r peer = elim (cases_Bool (is_live net f r peer && is_router net r && is_peer net peer)) [
    | inl t ↦
        let router = (and_parts (is_live net f r peer) (is_router net r) (and_parts (is_live net f r peer && is_router net r) (is_peer net peer) t).0).1 in
        rw (unsent r peer (router_no_peer net r router), t) refl
    | inr t ↦ rw t refl
  ]

  module _ (stable : IsStable net policy config f p outcome) where
    -- and only live origins have routes
    holder : (r : ℕ) (h : Route) → is_router net r ≡ true → route_at outcome r ≡ Some h → (is_origin net policy p r && not (is_dead f r)) ≡ true
    holder r h router at = elim (cases_Bool (is_dead f r)) [
      | inl dead ↦ absurd (none_or_some (route_at outcome r) h (stable.dead r dead) at)
      | inr live ↦ elim (cases_Bool (is_origin net policy p r)) [
        | inl own ↦ and_from (is_origin net policy p r) (not (is_dead f r)) own (not_from_false _ live)
        | inr other ↦
            let who =
            and_from (is_router net r && not (is_origin net policy p r)) (not (is_dead f r))
            (and_from (is_router net r) (not (is_origin net policy p r)) router (not_from_false _ other)) (not_from_false _ live) in
            let by = (stable.chooses r who).given_by h at in
            absurd (none_or_some (given net policy config f p outcome by.0 r) h (no_gift net policy config f p outcome free by.0 r) by.1)
      ]
    ]

    pub bare : length outcome ≡ length net.routers → IsBare net policy config f p outcome
    bare size = record {
      routes = λ r h at.
          let item = mapped_value r h at in
          holder r h (lt-ltb _ _ (omega (arith, slice_get_within outcome r item.0 item.1, size))) at;
      offers = λ r peer. no_offer r peer;
    }
      where
        mapped_value : (r : ℕ) (h : Route) → route_at outcome r ≡ Some h → (o : Option Route) × (slice_get outcome r ≡ Some o)
        mapped_value r h at = elim (cases_Option (slice_get outcome r)) [
          | inl none ↦ absurd (none_or_some (route_at outcome r) h (ap (option_and_then (λ (o : Option Route). o)) none) at)
          | inr some ↦ some
        ]

    -- where nobody is an origin nothing is claimed, and nobody has a route
    pub empty : (s : PlainStatement) → ((l : ℕ) → is_origin net policy p l ≡ false) → IsRightBy net policy config f p s outcome
    empty s none = record {
      used = λ r h claimed at. absurd (unclaimed (r ∷ claimed.starts.0) claimed.starts.1);
      offers = λ r peer path at. absurd (none_or_some (offered net policy config f p outcome r peer) path (no_offer r peer) at);
      sessions = λ r peer path claimed at. absurd (unclaimed (peer ∷ r ∷ claimed.starts.0) claimed.starts.1);
      unrouted = λ r claimed at. absurd (unclaimed (r ∷ claimed.starts.0) claimed.starts.1);
      unoffered = λ r peer claimed at. absurd (unclaimed (peer ∷ r ∷ claimed.starts.0) claimed.starts.1);
      transit = λ r h who at.
          let parts = and_parts (is_router net r) (not (is_origin net policy p r)) who in
          let own = (and_parts (is_origin net policy p r) (not (is_dead f r)) (holder r h parts.0 at)).0 in
          absurd (true≢false (sym own ∙ none r));
      packets = λ r h who at.
          let parts = and_parts (is_router net r) (not (is_origin net policy p r)) who in
          let own = (and_parts (is_origin net policy p r) (not (is_dead f r)) (holder r h parts.0 at)).0 in
          absurd (true≢false (sym own ∙ none r));
    }
      where
        unclaimed : (path : List ℕ) → is_permitted net policy p s path ≡ true → ⊥
        unclaimed path h =
            let ends = (permits_parts net (is_origin net policy p) s path h).1 in
            let last = (and_parts (at_last (is_origin net policy p) path) _ ends).0 in
            true≢false (sym last ∙ at_last-never (is_origin net policy p) path none)

module _ (net : PlainNet) (policy : PlainPolicy) (config : PlainConfig) (cs : List PlainCaseEvidence) (rules : IsNet net) (kept : IsPolicyOf net policy) (made : IsMadeOf net policy config cs) where
  case_at_class : (p : PlainPrefix) (f : Failures) (outcome : Outcome) (s : PlainStatement) → IsStable net policy config f p outcome
      → (c : HasCase net policy config cs p s) → IsCaseAt net policy config f p outcome s cs c.k c.d
  case_at_class p f outcome s stable c = record {
    rules = rules;
    made = made.lines;
    tags = made.tags;
    of_case = c.at;
    of_class = c.of_class;
    on = made.graphs c.k c.d s c.at c.is.number;
    same = c.is.same;
    known = c.is.known;
    announced = c.is.announced;
    stable = stable;
  }

  -- a prefix that a statement governs has its case, or nobody is an origin
  placed : (p : PlainPrefix) (f : Failures) (outcome : Outcome) (s : PlainStatement) → IsPrefix p → IsStable net policy config f p outcome → statement_of policy p ≡ Some s
      → ((k : ℕ) × (d : PlainCaseEvidence) × (slice_get cs k ≡ Some d) × (statement_at policy d.case.statement ≡ Some s) × IsCaseAt net policy config f p outcome s cs k d)
      ⊎ IsRightBy net policy config f p s outcome
  placed p f outcome s prefix stable is = elim (case_or_nobody net policy config cs rules kept made p prefix s is) [
    | inr nobody ↦ inr (empty net policy config f p outcome nobody.1 stable s nobody.0)
    | inl c ↦ inl (c.k, c.d, c.at, c.is.number, case_at_class p f outcome s stable c)
  ]

  sound : (p : PlainPrefix) (f : Failures) (outcome : Outcome) (s : PlainStatement) → IsPrefix p → IsStable net policy config f p outcome
      → statement_of policy p ≡ Some s → IsSoundBy net policy config f p s outcome
  sound p f outcome s prefix stable is = elim (placed p f outcome s prefix stable is) [
    | inl found ↦ sound_case found.4
    | inr none ↦ record { used = λ r h claimed at. (none.used r h claimed at).0; offers = none.offers; transit = none.transit }
  ]

  pub is_sound : IsSound net policy config
  is_sound p f outcome prefix size stable = go (statement_of policy p) refl
    where
      go : (o : Option PlainStatement) → statement_of policy p ≡ o → IsSoundOutcome net policy config f p outcome
      go None is = rw is (bare net policy config f p outcome (has_no_class net policy config cs rules kept made p prefix is) stable size)
      go (Some s) is = rw is (sound p f outcome s prefix stable is)

  Rules : Type 0
  Rules =
      (k : ℕ) (c : PlainCaseEvidence) (s : PlainStatement) → slice_get cs k ≡ Some c → statement_at policy c.case.statement ≡ Some s
      → MeetsRules net (IsClaimed net s c.case) c.case.external c.graph (number_at c)

  right : Rules → (p : PlainPrefix) (f : Failures) (outcome : Outcome) (s : PlainStatement) → IsPrefix p → IsStable net policy config f p outcome
      → statement_of policy p ≡ Some s → IsRightBy net policy config f p s outcome
  unfolding Rules
  right numbers p f outcome s prefix stable is = elim (placed p f outcome s prefix stable is) [
    | inl found ↦ right_case found.4 (numbers found.0 found.1 s found.2 found.3)
    | inr none ↦ none
  ]

  pub is_right : ((k : ℕ) (c : PlainCaseEvidence) (s : PlainStatement) → slice_get cs k ≡ Some c → statement_at policy c.case.statement ≡ Some s
      → MeetsRules net (IsClaimed net s c.case) c.case.external c.graph (number_at c))
      → IsRight net policy config
  unfolding Rules
  is_right numbers p f outcome prefix size stable = go (statement_of policy p) refl
    where
      go : (o : Option PlainStatement) → statement_of policy p ≡ o → IsRightOutcome net policy config f p outcome
      go None is = rw is (bare net policy config f p outcome (has_no_class net policy config cs rules kept made p prefix is) stable size)
      go (Some s) is = rw is (right numbers p f outcome s prefix stable is)

pub used_paths_are_allowed : UsedPathsAreAllowed
used_paths_are_allowed net policy config cs rules kept made = is_sound net policy config cs rules kept made

pub passing_evidence_is_right : PassingEvidenceIsRight
passing_evidence_is_right net policy config cs rules kept passes = is_right net policy config cs rules kept passes.made passes.rules
