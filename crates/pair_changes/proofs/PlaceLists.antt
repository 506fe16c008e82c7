-- The places that are listed are those of the pair, in order.
use Rattle.std.proofs.Common.{◌≡◌, append_assoc, ℕ, suc, ◌+◌, ◌<◌, ◌≤◌, get_or, take, Bool, true, false, List, [], ◌∷◌, ◌++◌, length, map, filter, Option, Some, None, refl, sym, ap, ◌∙◌, subst, arith, inl, inr, ltb-true}
use Rattle.std.specs.Prelude.{◌&&◌, ◌||◌, ◌==◌, not, if◌then◌else◌}
use Rattle.std.proofs.lemmas.Bool.{and_from, and_parts, cases_Bool, eq-eqb, eqb-true, leb-true, or_cases}
use Rattle.std.proofs.lemmas.List.{map-append}
use Rattle.std.proofs.lemmas.List.Elements.{filter-append}
use Rattle.group_law.proofs.Taken.{take_next}
use Rattle.list_law.specs.Members.{IsIn}
use Rattle.list_law.proofs.Members.{AllByRecursion-IsIn, IsIn-append_cases, IsIn-append_left, IsIn-append_right, IsIn-filter, IsIn-filter_parts, IsIn-map, IsIn-map_parts, IsIn-nil, list_any-from_IsIn, list_any_member}
use Rattle.net_base.specs.Locations.{numbers_below}
use Rattle.net_base.specs.Network.{Ascend, IsBefore, IsLink, IsNet, PlainNet, is_location, is_peer, is_router, joins, linked}
use Rattle.net_base.proofs.NumbersBelow.{In-numbers_below}
use Rattle.policy_base.specs.Governing.{is_origin_by}
use Rattle.compare_base.specs.declared.cases.CasePair.{CasePair}
use Rattle.compare_base.specs.declared.rows.Place.{Place}
use Rattle.compare_base.specs.Cases.{is_originated, is_place}
use Rattle.pair_changes.specs.Changes.{ComesFirst}
use Rattle.pair_changes.specs.Places.{ArePlaces, is_session, places_in, router_place, router_places, session_place, session_places}
use Rattle.pair_changes.proofs.InOrder.{InOrder, order_append, order_cons, order_filter, order_map, order_none, order_numbers}

order_ascent : (links : List (ℕ × ℕ)) → Ascend links → InOrder IsBefore links
order_ascent [] up = order_none IsBefore
order_ascent (e ∷ links) up = order_cons IsBefore e links (λ z at. AllByRecursion-IsIn (IsBefore e) links z up.0 at) (order_ascent links up.1)

module _ (net : PlainNet) (rules : IsNet net) (cases : CasePair) where
  abbrev is_source : ℕ → Bool
  is_source r = is_place net cases r None

  abbrev routers : List Place
  routers = router_places net cases (length net.routers)

  abbrev sessions : List Place
  sessions = if is_originated cases then session_places net net.links else []

  abbrev IsPlaceHere : Place → Type 0
  IsPlaceHere q = is_place net cases q.router q.peer ≡ true

  joins_itself : (link : ℕ × ℕ) → joins link.0 link.1 link ≡ true
  joins_itself link =
      ap (λ (b : Bool). b || (link.0 == link.1 && link.1 == link.0)) (and_from (link.0 == link.0) (link.1 == link.1) (eq-eqb link.0 link.0 refl) (eq-eqb link.1 link.1 refl))

  session_is : (place : Place) → IsIn (session_places net net.links) place → is_originated cases ≡ true → IsPlaceHere place
  session_is place at on =
      let e = IsIn-map_parts session_place (filter (is_session net) net.links) place at in
      let parts = IsIn-filter_parts (is_session net) net.links e.0 e.1 in
      let ends = and_parts (is_router net e.0.0) (is_peer net e.0.1) parts.1 in
      let joined : linked net e.0.0 e.0.1 ≡ true = list_any-from_IsIn (joins e.0.0 e.0.1) net.links e.0 parts.0 (joins_itself e.0) in
      subst (λ (q : Place). IsPlaceHere q) e.2 (and_from _ _ (and_from _ _ (and_from _ _ on ends.0) ends.1) joined)

  router_is : (place : Place) → IsIn routers place → IsPlaceHere place
  router_is place at =
      let r = IsIn-map_parts router_place (filter is_source (numbers_below (length net.routers))) place at in
      let parts = IsIn-filter_parts is_source (numbers_below (length net.routers)) r.0 r.1 in
      subst (λ (q : Place). IsPlaceHere q) r.2 parts.1

  each : (place : Place) → IsIn (places_in net cases) place → IsPlaceHere place
  each place at = elim (IsIn-append_cases routers sessions place at) [
    | inl t ↦ router_is place t
    | inr t ↦ elim (cases_Bool (is_originated cases)) [
      | inl on ↦ session_is place (subst (λ (b : Bool). IsIn (if b then session_places net net.links else []) place) on t) on
      | inr off ↦ absurd (IsIn-nil place (subst (λ (b : Bool). IsIn (if b then session_places net net.links else []) place) off t))
    ]
  ]

  -- a link of a router and a peer has the router first
  ends_are : (r peer : ℕ) (link : ℕ × ℕ) → IsLink net link → is_router net r ≡ true → is_peer net peer ≡ true → joins r peer link ≡ true → link ≡ (r, peer)
  ends_are r peer link is at_router at_peer on = elim (or_cases (link.0 == r && link.1 == peer) (link.0 == peer && link.1 == r) on) [
    | inl t ↦ let parts = and_parts (link.0 == r) (link.1 == peer) t in λ i. (eqb-true link.0 r parts.0 i, eqb-true link.1 peer parts.1 i)
    | inr t ↦
        let parts = and_parts (link.0 == peer) (link.1 == r) t in
        let low : r < length net.routers = ltb-true r (length net.routers) at_router in
        let high : length net.routers ≤ peer = leb-true (length net.routers) peer (and_parts _ (is_location net peer) at_peer).0 in
        absurd (omega (arith, is.0, low, high, eqb-true link.0 peer parts.0, eqb-true link.1 r parts.1))
  ]

  all : (r : ℕ) (peer : Option ℕ) → is_place net cases r peer ≡ true → IsIn (places_in net cases) (record { router = r; peer = peer })
  all r None is =
      let old_off = not (is_origin_by net cases.old.origins r) in
      let new_off = not (is_origin_by net cases.new.origins r) in
      let low = ltb-true r (length net.routers) (and_parts (is_router net r) old_off (and_parts (is_router net r && old_off) new_off is).0).0 in
      IsIn-append_left routers sessions (router_place r) (IsIn-map router_place (filter is_source (numbers_below (length net.routers))) r
      (IsIn-filter is_source (numbers_below (length net.routers)) r (In-numbers_below r (length net.routers) low) is))
  all r (Some peer) is =
      let third = and_parts (is_originated cases && is_router net r && is_peer net peer) (linked net r peer) is in
      let second = and_parts (is_originated cases && is_router net r) (is_peer net peer) third.0 in
      let first = and_parts (is_originated cases) (is_router net r) second.0 in
      let link = list_any_member (joins r peer) net.links third.1 in
      let same : link.0 ≡ (r, peer) = ends_are r peer link.0 (AllByRecursion-IsIn (IsLink net) net.links link.0 rules.links link.1) first.1 second.1 link.2 in
      let there : IsIn net.links (r, peer) = subst (IsIn net.links) same link.1 in
      let session : IsIn (session_places net net.links) (session_place (r, peer)) =
      IsIn-map session_place (filter (is_session net) net.links) (r, peer) (IsIn-filter (is_session net) net.links (r, peer) there (and_from _ _ first.1 second.1)) in
      IsIn-append_right routers sessions (session_place (r, peer)) (subst (λ (b : Bool). IsIn (if b then session_places net net.links else []) (session_place (r, peer))) (sym first.0) session)

  session_order : (on : Bool) → InOrder ComesFirst (if on then session_places net net.links else [])
  session_order true = order_map ComesFirst session_place (filter (is_session net) net.links) (order_filter IsBefore (is_session net) net.links (order_ascent net.links rules.order))
  session_order false = order_none ComesFirst

  in_order : InOrder ComesFirst (places_in net cases)
  in_order =
      order_append ComesFirst routers sessions
      (order_map ComesFirst router_place (filter is_source (numbers_below (length net.routers))) (order_filter (λ (i j : ℕ). i < j) is_source (numbers_below (length net.routers)) (order_numbers (length net.routers))))
      (session_order (is_originated cases)) cross
    where
      cross_of : (on : Bool) (x y : Place) → IsIn routers x → IsIn (if on then session_places net net.links else []) y → ComesFirst x y
      cross_of false x y h k = absurd (IsIn-nil y k)
      cross_of true x y h k =
          let r = IsIn-map_parts router_place (filter is_source (numbers_below (length net.routers))) x h in
          let e = IsIn-map_parts session_place (filter (is_session net) net.links) y k in
          subst (λ (z : Place). ComesFirst z y) r.2 (subst (λ (z : Place). ComesFirst (router_place r.0) z) e.2 tt)

      cross : (x y : Place) → IsIn routers x → IsIn sessions y → ComesFirst x y
      cross = cross_of (is_originated cases)

  pub are_places : ArePlaces net cases (places_in net cases)
  are_places = record { those = λ place. (each place, all place.router place.peer); order = in_order }

-- ---- one more

pub routers_next : (net : PlainNet) (cases : CasePair) (n r : ℕ) (is_one : Bool) (place : Place) → r ≡ n → is_one ≡ is_place net cases r None → place ≡ router_place r
    → router_places net cases (n + 1) ≡ router_places net cases n ++ (if is_one then place ∷ [] else [])
routers_next net cases n r is_one place same one is_place_of =
    ap (λ k. router_places net cases k) (next n)
    ∙ ap (map router_place) (filter-append (λ k. is_place net cases k None) (numbers_below n) (n ∷ []))
    ∙ map-append router_place (filter (λ k. is_place net cases k None) (numbers_below n)) (filter (λ k. is_place net cases k None) (n ∷ []))
    ∙ ap (λ ps. router_places net cases n ++ ps) (last (is_place net cases n None) refl)
  where
    next : (k : ℕ) → k + 1 ≡ suc k
    next k = omega arith

    tested : (b : Bool) → is_place net cases n None ≡ b → is_one ≡ b
    tested b is = one ∙ ap (λ k. is_place net cases k None) same ∙ is

    chosen : (b : Bool) → map router_place (if b then n ∷ [] else []) ≡ (if b then place ∷ [] else [])
    chosen true = ap (λ (q : Place). q ∷ []) (ap router_place (sym same) ∙ sym is_place_of)
    chosen false = refl

    last : (b : Bool) → is_place net cases n None ≡ b → map router_place (filter (λ k. is_place net cases k None) (n ∷ [])) ≡ (if is_one then place ∷ [] else [])
    last b is = ap (λ (c : Bool). map router_place (if c then n ∷ [] else [])) is ∙ chosen b ∙ ap (λ (c : Bool). if c then place ∷ [] else []) (sym (tested b is))

pub sessions_next : (net : PlainNet) (links : List (ℕ × ℕ)) (n : ℕ) (link : ℕ × ℕ) (is_one : Bool) (place : Place) → n < length links → link ≡ get_or links n link
    → is_one ≡ is_session net link → place ≡ session_place link
    → session_places net (take (n + 1) links) ≡ session_places net (take n links) ++ (if is_one then place ∷ [] else [])
sessions_next net links n link is_one place within read one is_place_of =
    ap (session_places net) (take_next links n link within read)
    ∙ ap (map session_place) (filter-append (is_session net) (take n links) (link ∷ []))
    ∙ map-append session_place (filter (is_session net) (take n links)) (filter (is_session net) (link ∷ []))
    ∙ ap (λ ps. session_places net (take n links) ++ ps) (last (is_session net link) refl)
  where
    chosen : (b : Bool) → map session_place (if b then link ∷ [] else []) ≡ (if b then place ∷ [] else [])
    chosen true = ap (λ (q : Place). q ∷ []) (sym is_place_of)
    chosen false = refl

    last : (b : Bool) → is_session net link ≡ b → map session_place (filter (is_session net) (link ∷ [])) ≡ (if is_one then place ∷ [] else [])
    last b is = ap (λ (c : Bool). map session_place (if c then link ∷ [] else [])) is ∙ chosen b ∙ ap (λ (c : Bool). if c then place ∷ [] else []) (sym (one ∙ is))

-- what is behind others, with more
pub behind_next : {A : Type 0} (old items after xs longer more : List A) → after ≡ items ++ more → items ≡ old ++ xs → longer ≡ xs ++ more → after ≡ old ++ longer
behind_next old items after xs longer more is so_far grown =
    is ∙ ap (λ ys. ys ++ more) so_far ∙ append_assoc old xs more ∙ ap (λ ys. old ++ ys) (sym grown)

-- routers and then sessions are all places
pub listed : (net : PlainNet) (cases : CasePair) (n : ℕ) (none first items : List Place) → IsNet net → n ≡ length net.routers → none ≡ [] → first ≡ none ++ router_places net cases n
    → items ≡ first ++ (if is_originated cases then session_places net net.links else []) → ArePlaces net cases items
listed net cases n none first items rules all empty routers_are is =
    subst (ArePlaces net cases) (sym (is ∙ ap (λ ps. ps ++ (if is_originated cases then session_places net net.links else [])) first_is)) (are_places net rules cases)
  where
    first_is : first ≡ router_places net cases (length net.routers)
    first_is = routers_are ∙ ap (λ ps. ps ++ router_places net cases n) empty ∙ ap (router_places net cases) all
