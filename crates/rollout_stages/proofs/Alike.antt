-- Two parts that say the same of a prefix: only who originates may differ.
use Rattle.std.proofs.Common.{◌≡◌, ℕ, suc, Bool, true, false, List, [], Some, None, refl, sym, ap, ◌∙◌, subst, inl, inr}
use Rattle.std.specs.Prelude.{◌&&◌, ◌==◌, slice_get}
use Rattle.std.specs.List.{find}
use Rattle.std.proofs.lemmas.Bool.{and_parts, both_ways, cases_Bool, eqb-true, true≢false}
use Rattle.list_law.proofs.Options.{cases_Option, none_or_some, when_parts}
use Rattle.list_law.proofs.Tests.{find_parts}
use Rattle.net_base.specs.declared.numbers.Tag.{Tag}
use Rattle.net_base.specs.Network.{PlainNet, IsNet, is_named, is_router}
use Rattle.net_base.specs.Numbers.{is_tag, no_tag}
use Rattle.net_base.specs.Prefixes.{PlainPrefix, IsPrefix, same_prefix}
use Rattle.net_base.specs.Sets.{holds}
use Rattle.policy_base.specs.Policies.{IsPolicyOf}
use Rattle.policy_base.specs.Governing.{is_origin}
use Rattle.config_base.specs.declared.config.RouterConfig.{RouterConfig}
use Rattle.config_base.specs.declared.config.Origination.{Origination}
use Rattle.config_base.specs.Configs.{IsConfig}
use Rattle.config_base.specs.Lines.{class_of, own_tag, router_at}
use Rattle.graph_base.specs.Runs.{is_start, place_of}
use Rattle.evidence_base.specs.Made.{PlainCaseEvidence, case_at}
use Rattle.outcome_base.specs.Outcomes.{no_failures}
use Rattle.evidence_law.specs.Passes.{Passes}
use Rattle.evidence_law.proofs.Blocks.{router_found}
use Rattle.settled_law.proofs.SettledLaw.{CaseFound, case_or_bare}
use Rattle.rollout_base.specs.Lines.{AreApart, GivesTag, ReadsTag, SaysNoMore, sends, takes}
use Rattle.rollout_base.specs.Mixtures.{Part}
use Rattle.rollout_base.specs.Stages.{SayAlike}
use Rattle.rollout_law.proofs.Standing.{read_stands}

-- who isn't an origin has no tag for an own route
abbrev pub IsUntagged : PlainNet → PlainPrefix → Part → Type 0
IsUntagged net p x = (r : ℕ) → is_origin net x.policy p r ≡ false → own_tag net x.config p r ≡ no_tag

-- ---- by the evidence `originate` lines stand at origins

module _ (net : PlainNet) (x : Part) (cs : List PlainCaseEvidence) (rules : IsNet net) (kept : IsPolicyOf net x.policy)
    (passes : Passes net x.policy x.config cs) (p : PlainPrefix) where
  -- an `originate` line that is found stands at an origin
  found_at_origin : (c : CaseFound net x.policy x.config cs rules kept passes no_failures p) (r : ℕ) (b : RouterConfig) (o : Origination) → is_router net r ≡ true
      → router_at net x.config r ≡ Some b → find (λ (o : Origination). o.class == suc c.k && same_prefix o.prefix p) b.own ≡ Some o → is_origin net x.policy p r ≡ true
  found_at_origin c r b o router at line =
      let f = find_parts (λ (o : Origination). o.class == suc c.k && same_prefix o.prefix p) b.own o line in
      let class = eqb-true o.class (suc c.k) (and_parts (o.class == suc c.k) (same_prefix o.prefix p) f.2).0 in
      let here = router_found net x.policy cs x.config rules passes.made.lines r router in
      let one : Some here.0 ≡ Some b = sym here.1 ∙ at in
      let block : here.0 ≡ b = cc in
      let made = (here.2.own o).0 (f.0, subst (λ (d : RouterConfig). slice_get d.own f.0 ≡ Some o) (sym block) f.1) in
      let same : Some made.case ≡ Some c.d = sym made.at_class ∙ ap (case_at cs) class ∙ c.at in
      let case_is : made.case ≡ c.d = cc in
      let start : is_start c.d.graph made.node ≡ true = subst (λ (d : PlainCaseEvidence). is_start d.graph made.node ≡ true) case_is made.start in
      let place : place_of c.d.graph made.node ≡ r = subst (λ (d : PlainCaseEvidence). place_of d.graph made.node ≡ r) case_is made.at in
      let origin : holds c.d.case.origins (place_of c.d.graph made.node) ≡ true = c.on.faithful.formed.starts made.node start in
      sym (ap (λ (o : ℕ → Bool). o r) c.same) ∙ ap (holds c.d.case.origins) (sym place) ∙ origin

  no_router : (r : ℕ) → router_at net x.config r ≡ None → own_tag net x.config p r ≡ no_tag
  no_router r none = rw none refl

  no_class : (r : ℕ) (b : RouterConfig) → router_at net x.config r ≡ Some b → class_of x.config p ≡ None → own_tag net x.config p r ≡ no_tag
  no_class r b at none = rw (at, none) refl

  no_line : (r class : ℕ) (b : RouterConfig) → router_at net x.config r ≡ Some b → class_of x.config p ≡ Some class
      → find (λ (o : Origination). o.class == class && same_prefix o.prefix p) b.own ≡ None → own_tag net x.config p r ≡ no_tag
  no_line r class b at number none = rw (at, number, none) refl

  pub untagged_elsewhere : IsPrefix p → IsUntagged net p x
  untagged_elsewhere prefix r off = elim (cases_Option (router_at net x.config r)) [
    | inl none ↦ no_router r none
    | inr b ↦ elim (case_or_bare net x.policy x.config cs rules kept passes no_failures p prefix) [
      | inr free ↦ no_class r b.0 b.1 free
      | inl c ↦ elim (cases_Option (find (λ (o : Origination). o.class == suc c.k && same_prefix o.prefix p) b.0.own)) [
        | inl none ↦ no_line r (suc c.k) b.0 b.1 c.of_class none
        | inr o ↦ (
            let router = (when_parts (is_router net r) (find (λ (d : RouterConfig). is_named net d.name r) x.config.routers) b.0 b.1).0 in
            absurd (both_ways (is_origin net x.policy p r) off (found_at_origin c r b.0 o.0 router b.1 o.1)))
      ]
    ]
  ]

-- ---- a part without lines

-- who originates by the policy, and nobody says anything
abbrev pub silenced : Part → Part
silenced x = record { policy = x.policy; config = record { classes = []; routers = [] } }

module _ (net : PlainNet) (p : PlainPrefix) (old new : Part) where
  pub own_bare : (r : ℕ) → own_tag net (silenced new).config p r ≡ no_tag
  own_bare r = elim (cases_Bool (is_router net r)) [
    | inl t ↦ rw t refl
    | inr f ↦ rw f refl
  ]

  pub apart_from_silence : IsConfig old.config → AreApart net p old (silenced new)
  apart_from_silence lawful = record { one = unread; other = unasked }
    where
      unread : (r : ℕ) (t : Tag) → is_router net r ≡ true → GivesTag net p old r t → ReadsTag net p (silenced new) r t → ⊥
      unread r t router gives (inl s) = none_or_some (sends net (silenced new).config p r s.0 t) s.1 refl s.2
      unread r t router gives (inr s) = none_or_some (takes net (silenced new).config p s.0 r s.1 t) s.2 refl s.4

      unasked : (r : ℕ) (t : Tag) → is_router net r ≡ true → GivesTag net p (silenced new) r t → ReadsTag net p old r t → ⊥
      unasked r t router (inl own) reads =
          let bare : t ≡ no_tag = sym own.1 ∙ own_bare r in
          true≢false (sym (read_stands net p old lawful r t router reads).1 ∙ ap is_tag bare)
      unasked r t router (inr g) reads = none_or_some (takes net (silenced new).config p r g.0 g.1 g.2) (t, g.3) refl g.4

  module _ (untagged : IsUntagged net p old) (alike : SayAlike net p old.config new.config) where
    pub says_as_silenced : (r : ℕ) (part : Part) → SaysNoMore net p old new r part → SaysNoMore net p old (silenced new) r part
    says_as_silenced r part says = record {
      own = λ origin. elim (says.own origin) [
        | inl a ↦ inl a
        | inr b ↦ elim (cases_Bool (is_origin net old.policy p r)) [
          | inl also ↦ inl (also, b.1 ∙ sym (alike.own r))
          | inr alone ↦ inr (b.0, b.1 ∙ sym (alike.own r) ∙ untagged r alone ∙ sym (own_bare r))
        ]
      ];
      sent = λ z tag t e. elim (says.sent z tag t e) [
        | inl a ↦ inl a
        | inr b ↦ inl (alike.sent r z tag ∙ b)
      ];
      taken = λ u path tag t pref e. elim (says.taken u path tag t pref e) [
        | inl a ↦ inl a
        | inr b ↦ inl (b.0, alike.taken r u path tag ∙ b.1)
      ];
    }
