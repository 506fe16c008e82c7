-- Where two policies have the same origins of a prefix, neighbours give the same, and the same outcomes are stable.
use Rattle.std.proofs.Common.{◌≡◌, ℕ, true, false, IsTrue, List, ◌∷◌, Some, None, refl, sym, ◌∙◌, subst, inl, inr}
use Rattle.std.specs.Prelude.{◌&&◌, ◌==◌, not, if◌then◌else◌}
use Rattle.std.specs.List.{list_any}
use Rattle.std.proofs.lemmas.Bool.{cases_Bool}
use Rattle.list_law.proofs.Options.{cases_Option}
use Rattle.net_base.specs.declared.numbers.Tag.{Tag}
use Rattle.net_base.specs.Network.{PlainNet, IsNet, is_peer, is_router}
use Rattle.net_base.specs.Prefixes.{PlainPrefix}
use Rattle.policy_base.specs.Policies.{PlainPolicy}
use Rattle.policy_base.specs.Governing.{is_origin}
use Rattle.config_base.specs.Configs.{PlainConfig}
use Rattle.config_base.specs.Lines.{class_of, export_of, import_of}
use Rattle.outcome_base.specs.Outcomes.{Failures, Outcome, is_dead, is_live, route_at, sent, given, offered, Chooses, IsStable}
use Rattle.evidence_law.proofs.Heard.{given-refused, given-taken, given-unsent}

module _ (net : PlainNet) (policy : PlainPolicy) (config : PlainConfig) (f : Failures) (p : PlainPrefix) (outcome : Outcome) (r peer : ℕ)
    (live : (is_live net f r peer && is_router net r && is_peer net peer) ≡ true) where
  offered-unsent : sent net policy config f p outcome r peer ≡ None → offered net policy config f p outcome r peer ≡ None
  offered-unsent none = rw (none, live) refl

  offered-sent : (s : List ℕ × Tag) → sent net policy config f p outcome r peer ≡ Some s
      → offered net policy config f p outcome r peer ≡ (if list_any (λ l. l == peer) s.0 then None else Some (peer ∷ s.0))
  offered-sent s is = rw (is, live) refl

module _ (net : PlainNet) (old new : PlainPolicy) (config : PlainConfig) (f : Failures) (p : PlainPrefix) (outcome : Outcome) (rules : IsNet net)
    (origins : (l : ℕ) → is_origin net old p l ≡ is_origin net new p l) where
  abbrev SameSent : ℕ → ℕ → Type 0
  SameSent u v = sent net old config f p outcome u v ≡ sent net new config f p outcome u v

  sent_by_peer : (u v : ℕ) → is_peer net u ≡ true → SameSent u v
  sent_by_peer u v peer = elim (cases_Bool (is_origin net old p u)) [
    | inl o ↦ (let here : is_origin net new p u ≡ true = sym (origins u) ∙ o in rw (peer, o, here) refl)
    | inr o ↦ (let here : is_origin net new p u ≡ false = sym (origins u) ∙ o in rw (peer, o, here) refl)
  ]

  sent_by_router : (u v : ℕ) → is_peer net u ≡ false → SameSent u v
  sent_by_router u v off = elim (cases_Option (class_of config p)) [
    | inl free ↦ rw (free, off) refl
    | inr class ↦ elim (cases_Option (route_at outcome u)) [
      | inl none ↦ rw (class.1, none, off) refl
      | inr h ↦ elim (cases_Option (export_of net config class.0 u v h.0.tag)) [
        | inl e ↦ rw (class.1, h.1, e, off) refl
        | inr t ↦ rw (class.1, h.1, t.1, off) refl
      ]
    ]
  ]

  sent_same : (u v : ℕ) → SameSent u v
  sent_same u v = elim (cases_Bool (is_peer net u)) [
    | inl peer ↦ sent_by_peer u v peer
    | inr off ↦ sent_by_router u v off
  ]

  abbrev SameGiven : ℕ → ℕ → Type 0
  SameGiven u v = given net old config f p outcome u v ≡ given net new config f p outcome u v

  given_live : (u v class : ℕ) → is_live net f u v ≡ true → class_of config p ≡ Some class → SameGiven u v
  given_live u v class live of_class = elim (cases_Option (sent net old config f p outcome u v)) [
    | inl s ↦
        given-unsent net old config f p outcome class rules of_class u v live s
        ∙ sym (given-unsent net new config f p outcome class rules of_class u v live (sym (sent_same u v) ∙ s))
    | inr s ↦
        let there : sent net new config f p outcome u v ≡ Some s.0 = sym (sent_same u v) ∙ s.1 in
        elim (cases_Option (import_of net config class v u s.0.0 s.0.1)) [
          | inl i ↦
              given-refused net old config f p outcome class rules of_class u v s.0.0 s.0.1 live s.1 i
              ∙ sym (given-refused net new config f p outcome class rules of_class u v s.0.0 s.0.1 live there i)
          | inr q ↦
              given-taken net old config f p outcome class rules of_class u v s.0.0 s.0.1 q.0 live s.1 q.1
              ∙ sym (given-taken net new config f p outcome class rules of_class u v s.0.0 s.0.1 q.0 live there q.1)
        ]
  ]

  pub given_same : (u v : ℕ) → SameGiven u v
  given_same u v = elim (cases_Bool (is_live net f u v)) [
    | inr off ↦ rw off refl
    | inl live ↦ elim (cases_Option (class_of config p)) [
      | inl free ↦ rw (live, free) refl
      | inr class ↦ given_live u v class.0 live class.1
    ]
  ]

  pub offered_same : (r peer : ℕ) → offered net old config f p outcome r peer ≡ offered net new config f p outcome r peer
  offered_same r peer = elim (cases_Bool (is_live net f r peer && is_router net r && is_peer net peer)) [
    | inr off ↦ rw off refl
    | inl live ↦ elim (cases_Option (sent net old config f p outcome r peer)) [
      | inl s ↦ offered-unsent net old config f p outcome r peer live s ∙ sym (offered-unsent net new config f p outcome r peer live (sym (sent_same r peer) ∙ s))
      | inr s ↦ offered-sent net old config f p outcome r peer live s.0 s.1 ∙ sym (offered-sent net new config f p outcome r peer live s.0 (sym (sent_same r peer) ∙ s.1))
    ]
  ]

  choosing : (r : ℕ) → Chooses net old config f p outcome r → Chooses net new config f p outcome r
  choosing r c = record {
    given_by = λ h at. (let by = c.given_by h at in (by.0, sym (given_same by.0 r) ∙ by.1));
    best = λ z g is. c.best z g (given_same z r ∙ is);
  }

  pub stable_same : IsStable net old config f p outcome → IsStable net new config f p outcome
  stable_same stable = record {
    dead = stable.dead;
    own = λ r who. stable.own r (subst (λ o. IsTrue (is_router net r && o && not (is_dead f r))) (sym (origins r)) who);
    chooses = λ r who. choosing r (stable.chooses r (subst (λ o. IsTrue (is_router net r && not o && not (is_dead f r))) (sym (origins r)) who));
  }
