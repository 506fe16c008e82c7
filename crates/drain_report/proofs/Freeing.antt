-- What is free is what nothing goes over.
use Rattle.std.proofs.Common.{◌≡◌, ℕ, true, false, List, ◌∷◌, length, Some, None, refl, sym, ap, ap₂, ◌∙◌, inl, inr, subst}
use Rattle.std.specs.Prelude.{not}
use Rattle.std.proofs.lemmas.Bool.{and_from, and_parts, cases_Bool, false_from_ne_true, not-true, not_from_false, true≢false}
use Rattle.list_law.proofs.Changed.{filter_same}
use Rattle.list_law.proofs.Options.{cases_Option}
use Rattle.list_law.proofs.Truth.{same_tests}
use Rattle.net_base.specs.Network.{PlainNet, IsNet, is_router}
use Rattle.net_base.specs.Prefixes.{PlainPrefix, IsPrefix}
use Rattle.policy_base.specs.Policies.{PlainPolicy, IsPolicyOf}
use Rattle.config_base.specs.Configs.{PlainConfig}
use Rattle.evidence_base.specs.Made.{PlainCaseEvidence}
use Rattle.evidence_law.specs.Passes.{Passes}
use Rattle.evidence_law.proofs.Hops.{begins, offer_parts}
use Rattle.outcome_base.specs.Outcomes.{Failures, Outcome, is_live, offered, sent}
use Rattle.settled_law.specs.Settled.{IsFullyStable}
use Rattle.impact_law.specs.Cuts.{is_cut, live_cuts, with_cut}
use Rattle.impact_law.specs.declared.impact.Cut.{Cut}
use Rattle.drain_report.specs.declared.drained.Drain.{Drain}
use Rattle.drain_report.specs.DrainFree.{IsFree}
use Rattle.drain_report.specs.Laws.{FreeIsUnused, DrainsAreOne}
use Rattle.drain_report.specs.Uses.{IsOffRoutes, IsUnused, goes_over}
use Rattle.drain_report.proofs.Cutting.{cuts_flip, cuts_off, live_from, live_parts, more_off, spares_ends, step_off}
use Rattle.drain_report.proofs.Keeping.{after as left, after-size, others_hold, same_sent, still_settled}
use Rattle.drain_report.proofs.Moving.{cuts_on_a_route_move_it}

-- ---- offers

-- what a peer is offered over what the cut spares is what it was
same_offered : (net : PlainNet) (policy : PlainPolicy) (config : PlainConfig) (f g : Failures) (p : PlainPrefix) (a b : Outcome) (r peer : ℕ) → is_live net g r peer ≡ is_live net f r peer
    → sent net policy config g p a r peer ≡ sent net policy config f p b r peer → offered net policy config g p a r peer ≡ offered net policy config f p b r peer
same_offered net policy config f g p a b r peer live same = rw (same, live) refl

not_offered : (net : PlainNet) (policy : PlainPolicy) (config : PlainConfig) (f : Failures) (p : PlainPrefix) (outcome : Outcome) (r peer : ℕ) → is_live net f r peer ≡ false
    → offered net policy config f p outcome r peer ≡ None
not_offered net policy config f p outcome r peer dead = rw dead refl

module _ (net : PlainNet) (policy : PlainPolicy) (config : PlainConfig) (f : Failures) (p : PlainPrefix) (rules : IsNet net) (cut : Cut) (before : Outcome)
    (size : length before ≡ length net.routers) (settled : IsFullyStable net policy config f p before) where
  abbrev g : Failures
  g = with_cut cut f

  -- what a peer is offered goes over the router and its link to the peer
  pub offer_begins : (r peer : ℕ) (path : List ℕ) → offered net policy config f p before r peer ≡ Some path → (rest : List ℕ) × (path ≡ peer ∷ r ∷ rest)
  offer_begins r peer path h =
      let x = offer_parts net policy config f p before rules r peer path h in
      let y = begins net policy config f p before rules settled.stable r x.route x.router x.held in
      (y.0, x.is ∙ ap (λ (q : List ℕ). peer ∷ q) y.1)

  module _ (unused : IsUnused net policy config f p before cut) where
    abbrev after : Outcome
    after = left net policy config f p rules cut before size settled

    -- where the cut is between them nothing was offered
    unoffered : (r peer : ℕ) → cuts_off cut r peer ≡ true → offered net policy config f p before r peer ≡ None
    unoffered r peer at = elim (cases_Option (offered net policy config f p before r peer)) [
      | inl none ↦ none
      | inr path ↦
          let x = offer_begins r peer path.0 path.1 in
          let off = step_off cut peer r x.0 (subst (λ (q : List ℕ). goes_over cut q ≡ false) x.1 (unused.offers r peer path.0 path.1)) in
          absurd (true≢false (sym at ∙ cuts_flip cut r peer ∙ off))
    ]

    same_live : (r peer : ℕ) → cuts_off cut r peer ≡ false → is_live net g r peer ≡ is_live net f r peer
    same_live r peer off = same_tests _ _ (λ h. (live_parts net cut f r peer h).0) (λ h. live_from net cut f r peer h off)

    keeps_offers : (r peer : ℕ) → offered net policy config g p after r peer ≡ offered net policy config f p before r peer
    keeps_offers r peer = elim (cases_Bool (cuts_off cut r peer)) [
      | inr off ↦
          same_offered net policy config f g p after before r peer (same_live r peer off)
          (same_sent net policy config cut f p after before r peer (others_hold net policy config f p rules cut before size settled r (spares_ends cut r peer off).0))
      | inl at ↦
          let dead = false_from_ne_true (is_live net g r peer) (λ live. true≢false (sym at ∙ (live_parts net cut f r peer live).1)) in
          not_offered net policy config g p after r peer dead ∙ sym (unoffered r peer at)
    ]

    pub unused_free : IsFree net policy config f p before cut
    unused_free = record {
      after = after;
      size = after-size net policy config f p rules cut before size settled;
      settled = still_settled net policy config f p rules cut before size settled unused.routes;
      routes = λ r other. others_hold net policy config f p rules cut before size settled r (not-true _ (and_parts (is_router net r) (not (is_cut cut r)) other).1);
      offers = keeps_offers;
    }

  -- where routes don't go over the cut, and the offer stays, it doesn't either
  offer_off : (after : Outcome) (r peer : ℕ) (path : List ℕ) → IsOffRoutes net before cut → offered net policy config f p before r peer ≡ Some path
      → offered net policy config g p after r peer ≡ Some path → goes_over cut path ≡ false
  offer_off after r peer path off was now =
      let x = offer_parts net policy config f p before rules r peer path was in
      let apart = (live_parts net cut f r peer (offer_parts net policy config g p after rules r peer path now).live).1 in
      let clear = off r x.route (and_from (is_router net r) (not (is_cut cut r)) x.router (not_from_false _ (spares_ends cut r peer apart).0)) x.held in
      let y = begins net policy config f p before rules settled.stable r x.route x.router x.held in
      let rest = more_off cut peer r y.0 (cuts_flip cut peer r ∙ apart) (subst (λ (q : List ℕ). goes_over cut q ≡ false) y.1 clear) in
      subst (λ (q : List ℕ). goes_over cut q ≡ false) (sym (x.is ∙ ap (λ (q : List ℕ). peer ∷ q) y.1)) rest

  pub free_unused : (cs : List PlainCaseEvidence) → IsPolicyOf net policy → Passes net policy config cs → IsPrefix p
      → IsFree net policy config f p before cut → IsUnused net policy config f p before cut
  free_unused cs fits passes prefix free =
      let off : IsOffRoutes net before cut = λ r h other at. false_from_ne_true (goes_over cut h.path)
      (λ over. cuts_on_a_route_move_it net policy config cs rules fits passes p f cut before free.after prefix settled free.settled r h other at over (free.routes r other)) in
      record { routes = off; offers = λ r peer path was. offer_off free.after r peer path off was (free.offers r peer ∙ was) }

pub free_is_unused : FreeIsUnused
free_is_unused net policy config cs rules fits passes p f cut outcome prefix size settled = (
  λ free. free_unused net policy config f p rules cut outcome size settled cs fits passes prefix free,
  λ unused. unused_free net policy config f p rules cut outcome size settled unused,
)

-- ---- one drain

drain_of : List Cut → ℕ → Drain
drain_of free live = record { free = free; live = live }

same_drain : (a b : Drain) → a.free ≡ b.free → a.live ≡ b.live → a ≡ b
unfolding drain_of
same_drain a b one other = ap₂ drain_of one other

pub drains_are_one : DrainsAreOne
drains_are_one net policy config f p outcome a b x y =
    let same = filter_same x.is_listed y.is_listed (live_cuts net f)
    (λ cut at. same_tests _ _ (λ h. (y.each cut at).1 ((x.each cut at).0 h)) (λ h. (x.each cut at).1 ((y.each cut at).0 h))) in
    same_drain a b (x.free ∙ same ∙ sym y.free) (x.live ∙ sym y.live)
