-- An outcome is stable where each router is settled.
use Rattle.std.proofs.Common.{◌≡◌, ℕ, ◌+◌, ◌<◌, subst, Bool, not, length, ap, inl, inr, arith}
use Rattle.std.specs.Prelude.{◌&&◌, option_and_then}
use Rattle.std.proofs.lemmas.Bool.{and_parts, cases_lt, and_from}
use Rattle.std.proofs.lemmas.Option.{slice_get_past}
use borrow.Author.Tests.{ltb-true}
use Rattle.net_base.specs.Network.{PlainNet, is_router}
use Rattle.net_base.specs.Prefixes.{PlainPrefix}
use Rattle.policy_base.specs.Policies.{PlainPolicy}
use Rattle.policy_base.specs.Governing.{is_origin}
use Rattle.config_base.specs.Configs.{PlainConfig}
use Rattle.outcome_base.specs.Outcomes.{Failures, Outcome, is_dead, IsStable}
use Rattle.scenarios.specs.Tests.{IsSettledAt}

module _ (net : PlainNet) (policy : PlainPolicy) (config : PlainConfig) (f : Failures) (p : PlainPrefix) (outcome : Outcome) where
  abbrev Settled : ℕ → Type 0
  Settled = IsSettledAt net policy config f p outcome

  abbrev Stable : Type 0
  Stable = IsStable net policy config f p outcome

  abbrev origin : ℕ → Bool
  origin = is_origin net policy p

  -- all routers settled make the outcome stable
  pub stable-from_settled : length outcome ≡ length net.routers → ((r : ℕ) → r < length net.routers → Settled r) → Stable
  stable-from_settled size all = record {
    dead = λ r dead. elim (cases_lt r (length net.routers)) [
      | inl low ↦ (all r low).dead dead
      | inr high ↦ ap (λ o. option_and_then (λ h. h) o) (slice_get_past outcome r (omega (arith, size)))
    ];
    own = λ r is.
        let a = and_parts (is_router net r && origin r) (not (is_dead f r)) is in
        let b = and_parts (is_router net r) (origin r) a.0 in
        (all r (ltb-true r (length net.routers) b.0)).own (and_from (origin r) (not (is_dead f r)) b.1 a.1);
    chooses = λ r is.
        let a = and_parts (is_router net r && not (origin r)) (not (is_dead f r)) is in
        let b = and_parts (is_router net r) (not (origin r)) a.0 in
        (all r (ltb-true r (length net.routers) b.0)).chooses (and_from (not (origin r)) (not (is_dead f r)) b.1 a.1);
  }

  -- a loop over the routers
  pub settled_more : (i j : ℕ) → j ≡ i → ((r : ℕ) → r < i → Settled r) → Settled j → (r : ℕ) → r < i + 1 → Settled r
  settled_more i j same before here r low = elim (cases_lt r i) [
    | inl lower ↦ before r lower
    | inr last ↦ let at : j ≡ r = omega (arith, same) in subst Settled at here
  ]
