-- Of the neighbours whose routes are first one has the lowest identifier, and what it gives is the router's choice by name.
use Rattle.std.proofs.Common.{◌≡◌, ℕ, ◌<◌, ◌≤◌, zero, suc, Bool, true, false, ◌⊎◌, List, [], ◌∷◌, Option, Some, None, refl, sym, ap, ◌∙◌, subst, inl, inr, arith}
use Rattle.std.specs.Prelude.{◌&&◌, not, nat_lt}
use Rattle.std.specs.List.{list_any}
use Rattle.std.specs.Option.{option_and_then}
use Rattle.std.proofs.lemmas.Bool.{and_from, and_parts, cases_Bool, cases_lt, false_from_ne_true, ltb-false, ltb-true, not-true, not_from_false, true≢false}
use Rattle.std.proofs.lemmas.Option.{same_Some}
use Rattle.list_law.specs.Members.{IsIn}
use Rattle.list_law.proofs.Members.{IsIn-cons_cases, list_any-from_IsIn, list_any_member}
use Rattle.list_law.proofs.Options.{none_from, none_or_some, option_and_then_parts}
use Rattle.list_law.proofs.Tests.{find_parts, list_any-not_found}
use Rattle.net_base.specs.Locations.{neighbours}
use Rattle.net_base.specs.Network.{PlainNet, IsNet, id_of, is_router, linked}
use Rattle.net_base.specs.Prefixes.{PlainPrefix}
use Rattle.net_base.proofs.Links.{linked_known}
use Rattle.net_base.proofs.Neighbours.{linked_neighbour}
use Rattle.policy_base.specs.Policies.{PlainPolicy}
use Rattle.config_base.specs.Configs.{PlainConfig}
use Rattle.config_base.specs.Lines.{class_of}
use Rattle.outcome_base.specs.Announcements.{FullRoute, Sent, taken_under}
use Rattle.outcome_law.proofs.Inside.{taken-parts}
use Rattle.routing_law.specs.Network.{giver}
use Rattle.settled_law.proofs.Fully.{names_differ}
use Rattle.motion_law.specs.Ever.{MayHold, MayHold as may}
use Rattle.motion_law.specs.Motion.{Motion, gift, is_top}
use Rattle.motion_law.proofs.Within.{AreKinds}
use Rattle.motion_rest.proofs.Choices.{NotAfter, some_top, top_from, top_parts}
use Rattle.named_rest.specs.Named.{IsNoLaterUnder, is_lowest, lowest, lowest_gift}

-- locations with the same identifier are one
pub same_id : (net : PlainNet) → IsNet net → (r a b : ℕ) → linked net r a ≡ true → linked net r b ≡ true → id_of net a ≡ id_of net b → a ≡ b
same_id net rules r a b on on' same =
    let ka = ltb-true a _ (linked_known net r a rules on).1 in
    let kb = ltb-true b _ (linked_known net r b rules on').1 in
    names_differ net (λ l. false) rules a b ka kb same

module _ (net : PlainNet) (policy : PlainPolicy) (config : PlainConfig) (p : PlainPrefix) where
  -- a route that may be held begins with its holder
  begins : (r : ℕ) (t : FullRoute) → MayHold net policy config p r t → (rest : List ℕ) × (t.route.path ≡ r ∷ rest)
  begins r t (may.own who) = ([], refl)
  begins r t (may.of_peer peer k a who at_peer here takes) =
      let m : Sent = record { path = peer ∷ []; behind = a.behind; tag = a.tag } in
      (m.path, (taken-parts net config k r peer m t takes).1)
  begins r t (may.of_router u k y s who at_router held here out takes) =
      let m : Sent = record { path = y.route.path; behind = y.behind; tag = s } in
      (m.path, (taken-parts net config k r u m t takes).1)

  module _ (rules : IsNet net) (w : Motion) (r : ℕ) where
    abbrev G : ℕ → Option FullRoute
    G u = gift net policy config p w r u

    abbrev Top : ℕ → Type 0
    Top u = is_top net policy config p w r u ≡ true

    -- who gave a route stands second on its path
    pub gift_giver : AreKinds net policy config p rules w → (u : ℕ) (t : FullRoute) → G u ≡ Some t → giver t.route.path ≡ u
    gift_giver kinds u t e =
        let class = option_and_then_parts (λ k. option_and_then (taken_under net config k r u) (w.heard u r)) (class_of config p) t e in
        let m = option_and_then_parts (taken_under net config class.0 r u) (w.heard u r) t class.2 in
        let on = kinds.heard u r m.0 m.1 in
        let path = (taken-parts net config class.0 r u m.0 t m.2).1 in
        elim (cases_Bool (is_router net u)) [
          | inl from ↦ (
              let s = on.router from in
              let b = begins u s.of s.held in
              ap giver path ∙ ap (λ (q : List ℕ). giver (r ∷ q)) (s.path ∙ b.1))
          | inr off ↦ (
              let x = on.peer off in
              ap giver path ∙ ap (λ (z : Sent). giver (r ∷ z.path)) x.2)
        ]

    -- ---- who has the lowest identifier

    abbrev lower : ℕ → ℕ → Bool
    lower u z = is_top net policy config p w r z && nat_lt (id_of net z) (id_of net u)

    pub lowest_parts : (u : ℕ) → is_lowest net policy config p w r u ≡ true → Top u × ((z : ℕ) → Top z → id_of net u ≤ id_of net z)
    lowest_parts u h =
        let a = and_parts (is_top net policy config p w r u) (not (list_any (lower u) (neighbours net r))) h in
        (a.0, λ z top. least z top (not-true _ a.1))
      where
        least : (z : ℕ) → Top z → list_any (lower u) (neighbours net r) ≡ false → id_of net u ≤ id_of net z
        least z top none =
            let at = linked_neighbour net r z rules (top_parts net policy config p rules w r z top).0 in
            let off : nat_lt (id_of net z) (id_of net u) ≡ false =
            false_from_ne_true (nat_lt (id_of net z) (id_of net u)) (λ h. true≢false (sym (list_any-from_IsIn (lower u) (neighbours net r) z at (and_from (is_top net policy config p w r z) _ top h)) ∙ none)) in
            ltb-false (id_of net z) (id_of net u) off

    lowest_from : (u : ℕ) → Top u → ((z : ℕ) → IsIn (neighbours net r) z → Top z → id_of net u ≤ id_of net z) → is_lowest net policy config p w r u ≡ true
    lowest_from u top least =
        and_from (is_top net policy config p w r u) _ top (not_from_false _ (false_from_ne_true (list_any (lower u) (neighbours net r)) (λ h.
        let m = list_any_member (lower u) (neighbours net r) h in
        let b = and_parts (is_top net policy config p w r m.0) (nat_lt (id_of net m.0) (id_of net u)) m.2 in
        let l = ltb-true (id_of net m.0) (id_of net u) b.1 in
        let n = least m.0 m.1 b.0 in
        absurd (omega (arith, l, n)))))

    record Least (us : List ℕ) : Type 0 where
      who : ℕ
      among : IsIn us who
      top : Top who
      least : (z : ℕ) → IsIn us z → Top z → id_of net who ≤ id_of net z

    some_least : (us : List ℕ) → ((z : ℕ) → IsIn us z → Top z → ⊥) ⊎ Least us
    some_least [] = inl (λ z at top. let no = at.1 in absurd (cc))
    some_least (u ∷ us) = by (cases_Bool (is_top net policy config p w r u)) (some_least us)
      where
        by : (is_top net policy config p w r u ≡ true) ⊎ (is_top net policy config p w r u ≡ false) → ((z : ℕ) → IsIn us z → Top z → ⊥) ⊎ Least us → ((z : ℕ) → IsIn (u ∷ us) z → Top z → ⊥) ⊎ Least (u ∷ us)
        by (inr off) (inl none) = inl (λ z at top. each z top (IsIn-cons_cases u us z at))
          where
            each : (z : ℕ) → Top z → (u ≡ z) ⊎ IsIn us z → ⊥
            each z top (inl same) = true≢false (sym top ∙ ap (is_top net policy config p w r) (sym same) ∙ off)
            each z top (inr later) = none z later top
        by (inr off) (inr l) = inr (record { who = l.who; among = (suc l.among.0, l.among.1); top = l.top; least = λ z at top. each z top (IsIn-cons_cases u us z at) })
          where
            each : (z : ℕ) → Top z → (u ≡ z) ⊎ IsIn us z → id_of net l.who ≤ id_of net z
            each z top (inl same) = absurd (true≢false (sym top ∙ ap (is_top net policy config p w r) (sym same) ∙ off))
            each z top (inr later) = l.least z later top
        by (inl on) (inl none) = inr (record { who = u; among = (zero, refl); top = on; least = λ z at top. each z top (IsIn-cons_cases u us z at) })
          where
            each : (z : ℕ) → Top z → (u ≡ z) ⊎ IsIn us z → id_of net u ≤ id_of net z
            each z top (inl same) = (let e = ap (id_of net) same in omega (arith, e))
            each z top (inr later) = absurd (none z later top)
        by (inl on) (inr l) = pick (cases_lt (id_of net u) (id_of net l.who))
          where
            pick : (id_of net u < id_of net l.who) ⊎ (id_of net l.who ≤ id_of net u) → ((z : ℕ) → IsIn (u ∷ us) z → Top z → ⊥) ⊎ Least (u ∷ us)
            pick (inl less) = inr (record { who = u; among = (zero, refl); top = on; least = λ z at top. each z top (IsIn-cons_cases u us z at) })
              where
                each : (z : ℕ) → Top z → (u ≡ z) ⊎ IsIn us z → id_of net u ≤ id_of net z
                each z top (inl same) = (let e = ap (id_of net) same in omega (arith, e))
                each z top (inr later) = (let m = l.least z later top in omega (arith, less, m))
            pick (inr more) = inr (record { who = l.who; among = (suc l.among.0, l.among.1); top = l.top; least = λ z at top. each z top (IsIn-cons_cases u us z at) })
              where
                each : (z : ℕ) → Top z → (u ≡ z) ⊎ IsIn us z → id_of net l.who ≤ id_of net z
                each z top (inl same) = (let e = ap (id_of net) same in omega (arith, e, more))
                each z top (inr later) = l.least z later top

    pub lowest_is : (z : ℕ) → Top z → (u : ℕ) × (lowest net policy config p w r ≡ Some u) × (is_lowest net policy config p w r u ≡ true)
    lowest_is z top = by (some_least (neighbours net r))
      where
        at : IsIn (neighbours net r) z
        at = linked_neighbour net r z rules (top_parts net policy config p rules w r z top).0

        found : Least (neighbours net r) → (o : Option ℕ) → lowest net policy config p w r ≡ o → (u : ℕ) × (lowest net policy config p w r ≡ Some u) × (is_lowest net policy config p w r u ≡ true)
        found l (Some u) e = (u, e, (find_parts (is_lowest net policy config p w r) (neighbours net r) u e).2)
        found l None e =
            let any = list_any-not_found (is_lowest net policy config p w r) (neighbours net r) e in
            absurd (true≢false (sym (list_any-from_IsIn (is_lowest net policy config p w r) (neighbours net r) l.who l.among (lowest_from l.who l.top l.least)) ∙ any))

        by : ((x : ℕ) → IsIn (neighbours net r) x → Top x → ⊥) ⊎ Least (neighbours net r) → (u : ℕ) × (lowest net policy config p w r ≡ Some u) × (is_lowest net policy config p w r u ≡ true)
        by (inl none) = absurd (none z at top)
        by (inr l) = found l (lowest net policy config p w r) refl

    -- the gift of the lowest: it's given by a neighbour whose route is first, and no such neighbour has a lower identifier
    pub gift_parts : (x : FullRoute) → lowest_gift net policy config p w r ≡ Some x → (u : ℕ) × Top u × (G u ≡ Some x) × ((z : ℕ) → Top z → id_of net u ≤ id_of net z)
    gift_parts x e =
        let a = option_and_then_parts (gift net policy config p w r) (lowest net policy config p w r) x e in
        let b = lowest_parts a.0 (find_parts (is_lowest net policy config p w r) (neighbours net r) a.0 a.1).2 in
        (a.0, b.0, a.2, b.1)

    -- so it comes no later than what any neighbour gives
    pub gift_first : AreKinds net policy config p rules w → (x : FullRoute) → lowest_gift net policy config p w r ≡ Some x → (z : ℕ) (y : FullRoute) → linked net r z ≡ true → G z ≡ Some y → IsNoLaterUnder net x y
    gift_first kinds x e z y on g =
        let a = gift_parts x e in
        let t = top_parts net policy config p rules w r a.0 a.1 in
        let same : t.1 ≡ x = same_Some t.1 x (sym t.2 ∙ a.2) in
        let first : (z : ℕ) (y : FullRoute) → linked net r z ≡ true → G z ≡ Some y → NotAfter x y = λ z y on g. subst (λ (q : FullRoute). NotAfter q y) same (t.3 z y on g) in
        let n = first z y on g in
        record {
          higher = n.higher;
          fewer = n.fewer;
          lower = λ q l.
              let top : Top z = top_from net policy config p rules w r z y on g (λ v o on' g'.
              let m = first v o on' g' in
              let high = m.higher in
              record { higher = omega (arith, high, q); fewer = λ k. (let s = m.fewer (omega (arith, k, q)) in omega (arith, s, l)) }) in
              let least = a.3 z top in
              let by_x = ap (id_of net) (gift_giver kinds a.0 x a.2) in
              let by_y = ap (id_of net) (gift_giver kinds z y g) in
              omega (arith, least, by_x, by_y);
        }

    -- and none only where nobody gives any
    pub gift_none : lowest_gift net policy config p w r ≡ None → (z : ℕ) → linked net r z ≡ true → G z ≡ None
    gift_none e z on = none_from (G z) (λ y g.
        let t = some_top net policy config p rules w r z y on g in
        let l = lowest_is t.0 t.1 in
        let parts = top_parts net policy config p rules w r l.0 (lowest_parts l.0 l.2).0 in
        none_or_some (lowest_gift net policy config p w r) parts.1 e (ap (option_and_then (gift net policy config p w r)) l.1 ∙ parts.2))
