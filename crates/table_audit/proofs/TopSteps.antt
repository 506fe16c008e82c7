-- Who gives most, link by link.
use Rattle.std.proofs.Common.{◌≡◌, ◌⊎◌, ℕ, ◌+◌, ◌<◌, ◌≤◌, Bool, true, false, List, length, Option, Some, None, refl, sym, ap, ◌∙◌, subst, arith, inl, inr}
use Rattle.std.specs.Prelude.{◌&&◌, ◌||◌, ◌==◌, nat_lt, slice_get, IfSome}
use Rattle.std.proofs.lemmas.Bool.{and_parts, and_from, or_cases, or_parts, cases_Bool, cases_lt, ltb-true, ltb-false, eqb-true, eq-eqb, true≢false}
use Rattle.std.proofs.lemmas.Option.{slice_get_within}
use Rattle.net_base.specs.Network.{joins}
use Rattle.policy_base.specs.Policies.{policy_of}
use Rattle.config_base.specs.declared.route.Route.{Route}
use Rattle.list_law.proofs.Options.{cases_Option}
use Rattle.list_law.proofs.Tests.{list_any_parts}
use Rattle.scenarios.specs.Tests.{far_end}
use Rattle.scenarios.proofs.Choosing.{far, linked_if}
use Rattle.scenarios.specs.Scenarios.{failures_of}
use Rattle.scenarios.specs.Situations.{given_in}
use Rattle.scenarios.specs.declared.situation.Situation.{Situation}
use Rattle.table_audit.specs.Situated.{IsTopGiverIn}
use Rattle.table_audit.specs.Tops.{IsTopUntil, Top, better, next_top, with_end, with_gift}

abbrev rises : ℕ × ℕ → ℕ → ℕ → Bool
rises best from pref = nat_lt best.1 pref || (best.1 == pref && nat_lt from best.0)

risen : (best : ℕ × ℕ) (from pref : ℕ) → rises best from pref ≡ true → (best.1 ≤ pref) × (best.1 ≡ pref → from ≤ best.0)
risen best from pref h = elim (or_cases (nat_lt best.1 pref) (best.1 == pref && nat_lt from best.0) h) [
  | inl more ↦ (let low = ltb-true best.1 pref more in (omega (arith, low), λ same. absurd (omega (arith, low, same))))
  | inr both ↦ (
      let parts = and_parts (best.1 == pref) (nat_lt from best.0) both in
      let same = eqb-true best.1 pref parts.0 in
      let low = ltb-true from best.0 parts.1 in
      (omega (arith, same), λ e. omega (arith, low)))
]

stayed : (best : ℕ × ℕ) (from pref : ℕ) → rises best from pref ≡ false → (pref ≤ best.1) × (pref ≡ best.1 → best.0 ≤ from)
stayed best from pref h =
    let parts = or_parts (nat_lt best.1 pref) (best.1 == pref && nat_lt from best.0) h in (
      ltb-false best.1 pref parts.0,
      λ same. elim (cases_Bool (nat_lt from best.0)) [
        | inl low ↦ absurd (true≢false (sym (and_from (best.1 == pref) (nat_lt from best.0) (eq-eqb best.1 pref (sym same)) low) ∙ parts.1))
        | inr high ↦ ltb-false from best.0 high
      ],
    )

-- who gives most stands over a gift
abbrev Over : Top → ℕ → ℕ → Type 0
Over top z pref = (t : ℕ × ℕ) × (top ≡ Some t) × (pref ≤ t.1) × (pref ≡ t.1 → t.0 ≤ z)

over_new : (top : Top) (z pref : ℕ) → Over (better top z pref) z pref
over_new None z pref = ((z, pref), refl, omega arith, λ e. omega arith)
over_new (Some best) z pref = elim (cases_Bool (rises best z pref)) [
  | inl up ↦ ((z, pref), rw up refl, omega arith, λ e. omega arith)
  | inr off ↦ (let s = stayed best z pref off in (best, rw off refl, s.0, s.1))
]

over_old : (top : Top) (z pref y old : ℕ) → Over top y old → Over (better top z pref) y old
over_old None z pref y old x = absurd (cc (x.1))
over_old (Some best) z pref y old x =
    let one : Some best ≡ Some x.0 = x.1 in
    let same : x.0 ≡ best = cc in
    let low : old ≤ best.1 = subst (λ (t : ℕ × ℕ). old ≤ t.1) same x.2 in
    let least : old ≡ best.1 → best.0 ≤ y = subst (λ (t : ℕ × ℕ). old ≡ t.1 → t.0 ≤ y) same x.3 in
    elim (cases_Bool (rises best z pref)) [
      | inl up ↦
          (let r = risen best z pref up in (
            (z, pref),
            rw up refl,
            omega (arith, low, r.0),
            λ e. let a = least (omega (arith, low, r.0, e)) in let b = r.1 (omega (arith, low, r.0, e)) in omega (arith, a, b),
          ))
      | inr off ↦ (best, rw off refl, low, least)
    ]

better_is : (top : Top) (z pref : ℕ) (t : ℕ × ℕ) → better top z pref ≡ Some t → (top ≡ Some t) ⊎ ((z, pref) ≡ t)
better_is None z pref t h = (let one : Some (z, pref) ≡ Some t = h in let same : (z, pref) ≡ t = cc in inr same)
better_is (Some best) z pref t h = elim (cases_Bool (rises best z pref)) [
  | inl up ↦ (let one : Some (z, pref) ≡ Some t = sym (rw up refl) ∙ h in let same : (z, pref) ≡ t = cc in inr same)
  | inr off ↦ inl (sym (rw off refl) ∙ h)
]

module _ (gives : ℕ → Option Route) (at : ℕ) (links : List (ℕ × ℕ)) where
  module _ (i : ℕ) (top : Top) (link : ℕ × ℕ) (here : slice_get links i ≡ Some link) (x : IsTopUntil gives at links i top) where
    -- what holds of the links before and of this one holds of all up to it
    both : (new : Top) → ((z : ℕ) (g : Route) → Over top z g.pref → Over new z g.pref) → ((z : ℕ) (g : Route) → far_end at link ≡ Some z → gives z ≡ Some g → Over new z g.pref)
        → (j z : ℕ) (l : ℕ × ℕ) (g : Route) → j < i + 1 → slice_get links j ≡ Some l → far_end at l ≡ Some z → gives z ≡ Some g → Over new z g.pref
    both new old this j z l g low there end gift = elim (cases_lt j i) [
      | inl before ↦ old z g (x.over j z l g before there end gift)
      | inr last ↦ (
          let same : j ≡ i = omega (arith, low, last) in
          let one : Some l ≡ Some link = sym there ∙ ap (slice_get links) same ∙ here in
          let is : l ≡ link = cc in
          this z g (ap (far_end at) (sym is) ∙ end) gift)
    ]

    by_gift : (y : ℕ) → far_end at link ≡ Some y → (o : Option Route) → gives y ≡ o → IsTopUntil gives at links (i + 1) (with_gift top y o)
    by_gift y end None none = record {
      gift = x.gift;
      over = both top (λ z g o. o) (λ z g e gift.
          let one : Some z ≡ Some y = sym e ∙ end in
          let same : z ≡ y = cc in
          let clash : None ≡ Some g = sym none ∙ ap gives (sym same) ∙ gift in
          absurd (cc));
    }
    by_gift y end (Some k) some = record {
      gift = λ t h. elim (better_is top y k.pref t h) [
        | inl old ↦ x.gift t old
        | inr new ↦ (k, ap (λ (u : ℕ × ℕ). gives u.0) (sym new) ∙ some, ap (λ (u : ℕ × ℕ). u.1) new)
      ];
      over = both (better top y k.pref) (λ z g o. over_old top y k.pref z g.pref o) (λ z g e gift.
          let one : Some z ≡ Some y = sym e ∙ end in
          let same : z ≡ y = cc in
          let is : Some g ≡ Some k = sym gift ∙ ap gives same ∙ some in
          let equal : g ≡ k = cc in
          subst (λ (u : ℕ). Over (better top y k.pref) u g.pref) (sym same) (subst (λ (h : Route). Over (better top y k.pref) y h.pref) (sym equal) (over_new top y k.pref)));
    }

    by_end : (o : Option ℕ) → far_end at link ≡ o → IsTopUntil gives at links (i + 1) (with_end gives top o)
    by_end None none = record {
      gift = x.gift;
      over = both top (λ z g o. o) (λ z g e gift. let clash : None ≡ Some z = sym none ∙ e in absurd (cc));
    }
    by_end (Some y) end = by_gift y end (gives y) refl

    pub one_more : IsTopUntil gives at links (i + 1) (next_top gives at top link)
    unfolding next_top
    one_more = by_end (far_end at link) refl

module _ (s : Situation) (at : ℕ) where
  abbrev Gives : ℕ → Option Route
  Gives z = given_in s z at

  abbrev IsTop : ℕ → Route → Type 0
  IsTop = IsTopGiverIn s at

  -- each gift comes over a link
  over_all : (top : Top) → IsTopUntil Gives at s.net.now.links (length s.net.now.links) top → (z : ℕ) (g : Route) → Gives z ≡ Some g → Over top z g.pref
  over_all top x z g gift =
      let over = linked_if s.net.now (policy_of s.policy.now) s.config.now (failures_of s.scenario.now) s.scenario.now.prefix s.outcome.now.routes at z g gift in
      let found = list_any_parts (joins z at) s.net.now.links over in
      x.over found.0 z found.1 g (slice_get_within s.net.now.links found.0 found.1 found.2) found.2 (far z at found.1 found.3) gift

  pub none_gives : (top : Top) → IsTopUntil Gives at s.net.now.links (length s.net.now.links) top → top ≡ None → (z : ℕ) → Gives z ≡ None
  none_gives top x none z = elim (cases_Option (Gives z)) [
    | inl is ↦ is
    | inr has ↦ (let o = over_all top x z has.0 has.1 in let clash : None ≡ Some o.0 = sym none ∙ o.1 in absurd (cc))
  ]

  top_gives : (top : Top) → IsTopUntil Gives at s.net.now.links (length s.net.now.links) top → (t : ℕ × ℕ) → top ≡ Some t → (g : Route) × IsTop t.0 g × (g.pref ≡ t.1)
  top_gives top x t is =
      let gift = x.gift t is in (
        gift.0,
        record {
          gives = gift.1;
          highest = λ y k by. let o = over_all top x y k by in
              let one : Some o.0 ≡ Some t = sym o.1 ∙ is in
              let same : o.0 ≡ t = cc in
              let low = subst (λ (u : ℕ × ℕ). k.pref ≤ u.1) same o.2 in
              omega (arith, low, gift.2);
          least = λ y k by equal.
              let o = over_all top x y k by in
              let one : Some o.0 ≡ Some t = sym o.1 ∙ is in
              let same : o.0 ≡ t = cc in
              (subst (λ (u : ℕ × ℕ). k.pref ≡ u.1 → u.0 ≤ y) same o.3) (equal ∙ gift.2);
        },
        gift.2,
      )

  pub top_gives_if : (top : Top) → IsTopUntil Gives at s.net.now.links (length s.net.now.links) top → IfSome top (λ (t : ℕ × ℕ). (g : Route) × IsTop t.0 g × (g.pref ≡ t.1))
  top_gives_if None x = tt
  top_gives_if (Some t) x = top_gives (Some t) x t refl
