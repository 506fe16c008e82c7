-- What a neighbour gives where neither its route nor the link changes.
use Rattle.std.proofs.Common.{◌≡◌, ℕ, true, None, refl, sym, ◌∙◌, inl, inr}
use Rattle.std.specs.Prelude.{◌&&◌, not}
use Rattle.std.proofs.lemmas.Bool.{cases_Bool}
use Rattle.list_law.proofs.Options.{cases_Option}
use Rattle.net_base.specs.Network.{PlainNet, IsNet, is_peer, is_router}
use Rattle.net_base.specs.Prefixes.{PlainPrefix}
use Rattle.policy_base.specs.Policies.{PlainPolicy}
use Rattle.policy_base.specs.Governing.{is_origin}
use Rattle.config_base.specs.Configs.{PlainConfig}
use Rattle.config_base.specs.Lines.{class_of, import_of}
use Rattle.outcome_base.specs.Outcomes.{Failures, Outcome, given, is_live, is_silent, route_at, sent}
use Rattle.evidence_law.proofs.Heard.{given-refused, given-taken, given-unsent, no_gift}
use Rattle.multipath_report.specs.Members.{is_member, is_tied}

module _ (net : PlainNet) (policy : PlainPolicy) (config : PlainConfig) (f h : Failures) (p : PlainPrefix) (before after : Outcome) (rules : IsNet net) (r z : ℕ)
    (live : is_live net f z r ≡ is_live net h z r) (silent : is_silent f r z ≡ is_silent h r z) (sends : route_at before z ≡ route_at after z) where
  sent_same : sent net policy config f p before z r ≡ sent net policy config h p after z r
  sent_same = elim (cases_Bool (is_peer net z)) [
    | inl peer ↦ rw (peer, silent) refl
    | inr off ↦ rw (off, sends) refl
  ]

  given_live : is_live net h z r ≡ true → given net policy config f p before z r ≡ given net policy config h p after z r
  given_live alive = elim (cases_Option (class_of config p)) [
    | inl free ↦ no_gift net policy config f p before free z r ∙ sym (no_gift net policy config h p after free z r)
    | inr c ↦ elim (cases_Option (sent net policy config h p after z r)) [
      | inl none ↦
          given-unsent net policy config f p before c.0 rules c.1 z r (live ∙ alive) (sent_same ∙ none)
          ∙ sym (given-unsent net policy config h p after c.0 rules c.1 z r alive none)
      | inr s ↦ elim (cases_Option (import_of net config c.0 r z s.0.0 s.0.1)) [
        | inl refused ↦
            given-refused net policy config f p before c.0 rules c.1 z r s.0.0 s.0.1 (live ∙ alive) (sent_same ∙ s.1) refused
            ∙ sym (given-refused net policy config h p after c.0 rules c.1 z r s.0.0 s.0.1 alive s.1 refused)
        | inr q ↦
            given-taken net policy config f p before c.0 rules c.1 z r s.0.0 s.0.1 q.0 (live ∙ alive) (sent_same ∙ s.1) q.1
            ∙ sym (given-taken net policy config h p after c.0 rules c.1 z r s.0.0 s.0.1 q.0 alive s.1 q.1)
      ]
    ]
  ]

  pub given_same : given net policy config f p before z r ≡ given net policy config h p after z r
  given_same = elim (cases_Bool (is_live net h z r)) [
    | inl alive ↦ given_live alive
    | inr dead ↦
        let earlier : given net policy config f p before z r ≡ None = rw (live ∙ dead) refl in
        let later : given net policy config h p after z r ≡ None = rw dead refl in
        earlier ∙ sym later
  ]

  pub member_same : route_at before r ≡ route_at after r → is_member net policy config f p before r z ≡ is_member net policy config h p after r z
  member_same holds = λ i. (is_router net r && not (is_origin net policy p r)) && is_tied (holds i) (given_same i)
