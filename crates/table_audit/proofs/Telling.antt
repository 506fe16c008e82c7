-- A verdict is one, and tells stability.
use Rattle.std.proofs.Common.{◌≡◌, ◌⊎◌, ℕ, Bool, true, length, Some, None, refl, sym, ap, ◌∙◌, subst, arith, inl, inr}
use Rattle.std.specs.Prelude.{◌&&◌, ◌↔◌, not}
use Rattle.std.proofs.lemmas.Bool.{and_parts, and_from, cases_lt, lt-ltb, not-true, true≢false}
use Rattle.net_base.specs.Network.{PlainNet, is_router}
use Rattle.net_base.specs.Prefixes.{PlainPrefix}
use Rattle.policy_base.specs.Policies.{PlainPolicy}
use Rattle.policy_base.specs.Governing.{is_origin}
use Rattle.config_base.specs.declared.route.Route.{Route}
use Rattle.config_base.specs.Configs.{PlainConfig}
use Rattle.config_base.specs.Lines.{own_route}
use Rattle.outcome_base.specs.Outcomes.{Failures, Outcome, is_dead, route_at, given, IsStable}
use Rattle.evidence_law.proofs.RightLaw.{passing_evidence_is_right}
use Rattle.scenarios.specs.Tests.{IsSettledAt}
use Rattle.scenarios.proofs.Settled.{stable-from_settled}
use Rattle.table_audit.specs.declared.verdict.AuditVerdict.{AuditVerdict}
use Rattle.table_audit.specs.declared.verdict.AuditVerdict.TheVariants.{Stable, Dead, Own, NotGiven, Better, Missing}
use Rattle.table_audit.specs.Verdicts.{AreSettled, Fails, IsFirstFailure, IsTopGiver, IsVerdict, StableIsTold, StableTablesAreRight, VerdictsAreOne, is_choosing, is_live_origin, router_of}

module _ (net : PlainNet) (policy : PlainPolicy) (config : PlainConfig) (f : Failures) (p : PlainPrefix) (outcome : Outcome) where
  abbrev Settled : ℕ → Type 0
  Settled = IsSettledAt net policy config f p outcome

  abbrev Failing : AuditVerdict → Type 0
  Failing = Fails net policy config f p outcome

  -- a router that fails isn't settled
  pub unsettled : (v : AuditVerdict) (r : ℕ) → router_of v ≡ Some r → Failing v → Settled r → ⊥
  unsettled Stable r named fails settled = fails
  unsettled (Dead q) r named fails settled = let same : q ≡ r = cc in
      fails.1 (subst (λ (l : ℕ). route_at outcome l ≡ None) (sym same) (settled.dead (subst (λ (l : ℕ). is_dead f l ≡ true) same fails.0)))
  unsettled (Own q) r named fails settled = let same : q ≡ r = cc in
      fails.1 (subst (λ (l : ℕ). route_at outcome l ≡ Some (own_route net config p l)) (sym same)
      (settled.own (subst (λ (l : ℕ). is_live_origin net policy f p l ≡ true) same fails.0)))
  unsettled (NotGiven q) r named fails settled =
      let same : q ≡ r = cc in
      let here = subst Settled (sym same) settled in
      let by = (here.chooses fails.0).given_by fails.1 fails.2 in
      fails.3 by.0 by.1
  unsettled (Better q z pref) r named fails settled =
      let same : q ≡ r = cc in
      let here = subst Settled (sym same) settled in
      let top = (here.chooses fails.0).best z fails.2 fails.6.gives in
      let one : Some top.0 ≡ Some fails.1 = sym top.1 ∙ fails.4 in
      let equal : top.0 ≡ fails.1 = cc in
      absurd (omega (arith, top.2, ap (λ (h : Route). h.pref) equal, fails.7, fails.8))
  unsettled (Missing q z) r named fails settled =
      let same : q ≡ r = cc in
      let here = subst Settled (sym same) settled in
      let top = (here.chooses fails.0).best z fails.2 fails.3.gives in
      let clash : None ≡ Some top.0 = sym fails.1 ∙ top.1 in
      absurd (cc)

  -- each router is settled in a stable outcome
  pub settled_where_stable : IsStable net policy config f p outcome → AreSettled net policy config f p outcome
  settled_where_stable stable r router = record {
    dead = λ dead. stable.dead r dead;
    own = λ own.
        let parts = and_parts (is_origin net policy p r) (not (is_dead f r)) own in
        stable.own r (and_from (is_router net r && is_origin net policy p r) (not (is_dead f r)) (and_from (is_router net r) (is_origin net policy p r) router parts.0) parts.1);
    chooses = λ choosing.
        let parts = and_parts (not (is_origin net policy p r)) (not (is_dead f r)) choosing in
        stable.chooses r (and_from (is_router net r && not (is_origin net policy p r)) (not (is_dead f r)) (and_from (is_router net r) (not (is_origin net policy p r)) router parts.0) parts.1);
  }

  -- all are settled, or the verdict names the first router that isn't
  by_parts : (v : AuditVerdict) → IsVerdict net policy config f p outcome v → ((v ≡ Stable) × AreSettled net policy config f p outcome) ⊎ ((r : ℕ) × IsFirstFailure net policy config f p outcome v r)
  by_parts Stable x = inl (refl, x)
  by_parts (Dead q) x = inr x
  by_parts (Own q) x = inr x
  by_parts (NotGiven q) x = inr x
  by_parts (Better q z pref) x = inr x
  by_parts (Missing q z) x = inr x

  not_all : (v : AuditVerdict) (r : ℕ) → IsFirstFailure net policy config f p outcome v r → AreSettled net policy config f p outcome → ⊥
  not_all v r x all = unsettled v r x.named x.fails (all r x.router)

  unnamed : (v : AuditVerdict) (r : ℕ) → IsFirstFailure net policy config f p outcome v r → v ≡ Stable → ⊥
  unnamed v r x same = let clash : None ≡ Some r = sym (ap router_of same) ∙ x.named in absurd (cc)

  told : (v : AuditVerdict) → length outcome ≡ length net.routers → IsVerdict net policy config f p outcome v → ((v ≡ Stable) ↔ IsStable net policy config f p outcome)
  told v size x = elim (by_parts v x) [
    | inl all ↦ (λ same. stable-from_settled net policy config f p outcome size (λ r below. all.1 r (lt-ltb r (length net.routers) below)), λ stable. all.0)
    | inr first ↦ (λ same. absurd (unnamed v first.0 first.1 same), λ stable. absurd (not_all v first.0 first.1 (settled_where_stable stable)))
  ]

  -- ---- a router fails in one way

  live_not_dead : (r q : ℕ) → r ≡ q → is_dead f r ≡ true → (b : Bool) → (b && not (is_dead f q)) ≡ true → ⊥
  live_not_dead r q same dead b h = true≢false (sym (subst (λ (l : ℕ). is_dead f l ≡ true) same dead) ∙ not-true _ (and_parts b (not (is_dead f q)) h).1)

  origin_not_choosing : (r q : ℕ) → r ≡ q → is_live_origin net policy f p r ≡ true → is_choosing net policy f p q ≡ true → ⊥
  origin_not_choosing r q same own h =
      let origin = subst (λ (l : ℕ). is_origin net policy p l ≡ true) same (and_parts (is_origin net policy p r) (not (is_dead f r)) own).0 in
      true≢false (sym origin ∙ not-true _ (and_parts (not (is_origin net policy p q)) (not (is_dead f q)) h).0)

  held_not_none : (r q : ℕ) → r ≡ q → (h : Route) → route_at outcome r ≡ Some h → route_at outcome q ≡ None → ⊥
  held_not_none r q same h held none = let clash : Some h ≡ None = sym held ∙ ap (route_at outcome) same ∙ none in absurd (cc)

  -- who gives the highest is one
  top_one : (r q z y : ℕ) (g k : Route) → r ≡ q → IsTopGiver net policy config f p outcome r z g → IsTopGiver net policy config f p outcome q y k → (z ≡ y) × (g.pref ≡ k.pref)
  top_one r q z y g k same one other =
      let there = subst (λ (l : ℕ). given net policy config f p outcome z l ≡ Some g) same one.gives in
      let here = subst (λ (l : ℕ). given net policy config f p outcome y l ≡ Some k) (sym same) other.gives in
      let low = other.highest z g there in
      let high = one.highest y k here in
      let pref : g.pref ≡ k.pref = omega (arith, low, high) in
      let first = one.least y k here (sym pref) in
      let second = other.least z g there pref in
      (omega (arith, first, second), pref)

  fails_one : (a b : AuditVerdict) (r : ℕ) → router_of a ≡ Some r → router_of b ≡ Some r → Failing a → Failing b → a ≡ b
  fails_one Stable b r e d x y = absurd x
  fails_one (Dead q) Stable r e d x w = absurd w
  fails_one (Dead q) (Dead l) r e d x w = let same : q ≡ l = cc (e, d) in ap (λ (k : ℕ). Dead k) same
  fails_one (Dead q) (Own l) r e d x w = let same : q ≡ l = cc (e, d) in absurd (live_not_dead q l same x.0 (is_origin net policy p l) w.0)
  fails_one (Dead q) (NotGiven l) r e d x w = let same : q ≡ l = cc (e, d) in absurd (live_not_dead q l same x.0 (not (is_origin net policy p l)) w.0)
  fails_one (Dead q) (Better l y' high) r e d x w = let same : q ≡ l = cc (e, d) in absurd (live_not_dead q l same x.0 (not (is_origin net policy p l)) w.0)
  fails_one (Dead q) (Missing l y') r e d x w = let same : q ≡ l = cc (e, d) in absurd (live_not_dead q l same x.0 (not (is_origin net policy p l)) w.0)
  fails_one (Own q) Stable r e d x w = absurd w
  fails_one (Own q) (Dead l) r e d x w = let same : q ≡ l = cc (e, d) in absurd (live_not_dead l q (sym same) w.0 (is_origin net policy p q) x.0)
  fails_one (Own q) (Own l) r e d x w = let same : q ≡ l = cc (e, d) in ap (λ (k : ℕ). Own k) same
  fails_one (Own q) (NotGiven l) r e d x w = let same : q ≡ l = cc (e, d) in absurd (origin_not_choosing q l same x.0 w.0)
  fails_one (Own q) (Better l y' high) r e d x w = let same : q ≡ l = cc (e, d) in absurd (origin_not_choosing q l same x.0 w.0)
  fails_one (Own q) (Missing l y') r e d x w = let same : q ≡ l = cc (e, d) in absurd (origin_not_choosing q l same x.0 w.0)
  fails_one (NotGiven q) Stable r e d x w = absurd w
  fails_one (NotGiven q) (Dead l) r e d x w = let same : q ≡ l = cc (e, d) in absurd (live_not_dead l q (sym same) w.0 (not (is_origin net policy p q)) x.0)
  fails_one (NotGiven q) (Own l) r e d x w = let same : q ≡ l = cc (e, d) in absurd (origin_not_choosing l q (sym same) w.0 x.0)
  fails_one (NotGiven q) (NotGiven l) r e d x w = let same : q ≡ l = cc (e, d) in ap (λ (k : ℕ). NotGiven k) same
  fails_one (NotGiven q) (Better l y' high) r e d x w = let same : q ≡ l = cc (e, d) in
      let held : Some x.1 ≡ Some w.1 = sym x.2 ∙ ap (route_at outcome) same ∙ w.4 in
      let one : x.1 ≡ w.1 = cc in
      absurd (x.3 w.3 (ap (given net policy config f p outcome w.3) same ∙ w.5 ∙ ap Some (sym one)))
  fails_one (NotGiven q) (Missing l y') r e d x w = let same : q ≡ l = cc (e, d) in absurd (held_not_none q l same x.1 x.2 w.1)
  fails_one (Better q z pref) Stable r e d x w = absurd w
  fails_one (Better q z pref) (Dead l) r e d x w = let same : q ≡ l = cc (e, d) in absurd (live_not_dead l q (sym same) w.0 (not (is_origin net policy p q)) x.0)
  fails_one (Better q z pref) (Own l) r e d x w = let same : q ≡ l = cc (e, d) in absurd (origin_not_choosing l q (sym same) w.0 x.0)
  fails_one (Better q z pref) (NotGiven l) r e d x w = let same : q ≡ l = cc (e, d) in
      let held : Some w.1 ≡ Some x.1 = sym w.2 ∙ ap (route_at outcome) (sym same) ∙ x.4 in
      let one : w.1 ≡ x.1 = cc in
      absurd (w.3 x.3 (ap (given net policy config f p outcome x.3) (sym same) ∙ x.5 ∙ ap Some (sym one)))
  fails_one (Better q z pref) (Better l y' high) r e d x w = let same : q ≡ l = cc (e, d) in
      let top = top_one q l z y' x.2 w.2 same x.6 w.6 in
      let pref_is : pref ≡ high = sym x.7 ∙ top.1 ∙ w.7 in
      λ i. Better (same i) (top.0 i) (pref_is i)
  fails_one (Better q z pref) (Missing l y') r e d x w = let same : q ≡ l = cc (e, d) in absurd (held_not_none q l same x.1 x.4 w.1)
  fails_one (Missing q z) Stable r e d x w = absurd w
  fails_one (Missing q z) (Dead l) r e d x w = let same : q ≡ l = cc (e, d) in absurd (live_not_dead l q (sym same) w.0 (not (is_origin net policy p q)) x.0)
  fails_one (Missing q z) (Own l) r e d x w = let same : q ≡ l = cc (e, d) in absurd (origin_not_choosing l q (sym same) w.0 x.0)
  fails_one (Missing q z) (NotGiven l) r e d x w = let same : q ≡ l = cc (e, d) in absurd (held_not_none l q (sym same) w.1 w.2 x.1)
  fails_one (Missing q z) (Better l y' high) r e d x w = let same : q ≡ l = cc (e, d) in absurd (held_not_none l q (sym same) w.1 w.4 x.1)
  fails_one (Missing q z) (Missing l y') r e d x w = let same : q ≡ l = cc (e, d) in let top = top_one q l z y' x.2 w.2 same x.3 w.3 in λ i. Missing (same i) (top.0 i)

  -- the first router that fails is one
  first_one : (a b : AuditVerdict) (r q : ℕ) → IsFirstFailure net policy config f p outcome a r → IsFirstFailure net policy config f p outcome b q → a ≡ b
  first_one a b r q x y = elim (cases_lt r q) [
    | inl low ↦ absurd (unsettled a r x.named x.fails (y.before r low))
    | inr high ↦ elim (cases_lt q r) [
      | inl low ↦ absurd (unsettled b q y.named y.fails (x.before q low))
      | inr both ↦ (let same : q ≡ r = omega (arith, high, both) in fails_one a b r x.named (y.named ∙ ap Some same) x.fails y.fails)
    ]
  ]

  verdict_one : (a b : AuditVerdict) → IsVerdict net policy config f p outcome a → IsVerdict net policy config f p outcome b → a ≡ b
  verdict_one a b x y = elim (by_parts a x) [
    | inl all ↦ elim (by_parts b y) [
      | inl too ↦ all.0 ∙ sym too.0
      | inr first ↦ absurd (not_all b first.0 first.1 all.1)
    ]
    | inr first ↦ elim (by_parts b y) [
      | inl all ↦ absurd (not_all a first.0 first.1 all.1)
      | inr other ↦ first_one a b first.0 other.0 first.1 other.1
    ]
  ]

pub stable_is_told : StableIsTold
stable_is_told net policy config f p outcome v size x = told net policy config f p outcome v size x

pub verdicts_are_one : VerdictsAreOne
verdicts_are_one net policy config f p outcome a b x y = verdict_one net policy config f p outcome a b x y

pub stable_tables_are_right : StableTablesAreRight
stable_tables_are_right net policy config cs rules kept passes p f outcome prefix size all =
    passing_evidence_is_right net policy config cs rules kept passes p f outcome prefix size ((told net policy config f p outcome Stable size all).0 refl)
