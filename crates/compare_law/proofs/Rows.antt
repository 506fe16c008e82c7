-- Whether two policies say the same of a prefix is decided by its origins and the rows of its places.
use Rattle.std.proofs.Common.{◌≡◌, ◌≢◌, ℕ, ◌≤◌, ◌↔◌, true, false, IsTrue, List, [], ◌∷◌, ◌++◌, Option, Some, None, refl, sym, ap, ◌∙◌, subst, arith, inl, inr}
use Rattle.std.specs.Prelude.{◌&&◌, ◌||◌, not, is_some, nat_le, length}
use Rattle.std.specs.List.{list_any}
use Rattle.std.proofs.lemmas.Bool.{and_from, and_parts, cases_Bool, leb-true, lt-ltb, not-true, not_from_false, or_left, or_parts, or_right, true≢false}
use Rattle.list_law.proofs.Options.{cases_Option, is_some_from}
use Rattle.list_law.proofs.Each.{AllByRecursion_at}
use Rattle.list_law.proofs.Tests.{list_any_parts}
use Rattle.list_law.proofs.Truth.{same_tests}
use Rattle.net_base.specs.Network.{PlainNet, IsLink, IsNet, is_location, is_peer, is_router, joins, linked}
use Rattle.net_base.specs.Prefixes.{PlainPrefix}
use Rattle.net_base.proofs.Links.{joins_ends, linked_flips, linked_known}
use Rattle.net_base.proofs.RoutersAndPeers.{router_or_peer}
use Rattle.policy_base.specs.Policies.{PlainPolicy, PlainStatement}
use Rattle.policy_base.specs.Meaning.{at_first, at_last, front, rank_of}
use Rattle.policy_base.specs.Walks.{is_walk, steps_linked}
use Rattle.policy_base.specs.Governing.{is_origin, is_origin_by, originated_at, statement_of}
use Rattle.policy_base.specs.Permitted.{ends_at_origin, from_holds, is_case_walk}
use Rattle.policy_base.proofs.WalkParts.{walk_parts}
use Rattle.compare_base.specs.declared.rows.Row.{Row}
use Rattle.compare_base.specs.Cases.{is_originated, is_place, pair_for}
use Rattle.impact_law.specs.Impacts.{begin_at}
use Rattle.compare_base.specs.Ranks.{rank_by, rank_for, HasRow, IsAlike}
use Rattle.compare_law.specs.Laws.{RowsAgree, RowsDecide}
use Rattle.compare_law.proofs.Ranked.{is_some-rank_by}

-- ---- walks with a rank

module _ (net : PlainNet) (policy : PlainPolicy) (p : PlainPrefix) where
  pub ranked_walk : (o : Option PlainStatement) (path : List ℕ) → is_some (rank_by net policy p o path) ≡ true → is_case_walk net policy p path ≡ true
  ranked_walk None path has = absurd (true≢false (sym has))
  ranked_walk (Some s) path has =
      let is = sym (is_some-rank_by net policy p s path) ∙ has in
      let first = and_parts (is_case_walk net policy p path && at_first (from_holds s.from) path) (is_some (rank_of net s.ranked path)) is in
      (and_parts (is_case_walk net policy p path) (at_first (from_holds s.from) path) first.0).0

  -- it has two places, the first of which is no origin and is linked to the second
  pub record IsBegun (path : List ℕ) : Type 0 where
    pub first : ℕ
    pub second : ℕ
    pub rest : List ℕ
    pub is : path ≡ first ∷ second ∷ rest
    pub outside : is_origin net policy p first ≡ false
    pub link : linked net first second ≡ true

  two_places : (path : List ℕ) → is_case_walk net policy p path ≡ true → IsBegun path
  two_places [] walk = absurd (true≢false (sym walk))
  two_places (l ∷ []) walk = absurd (true≢false (sym walk))
  two_places (l ∷ k ∷ ls) walk =
      let path = l ∷ k ∷ ls in
      let parts = and_parts (is_walk net path) (ends_at_origin (is_origin net policy p) path) walk in
      let none = not-true _ (and_parts (at_last (is_origin net policy p) path) (not (list_any (is_origin net policy p) (front path))) parts.1).1 in
      record {
        first = l;
        second = k;
        rest = ls;
        is = refl;
        outside = (or_parts (is_origin net policy p l) (list_any (is_origin net policy p) (front (k ∷ ls))) none).0;
        link = (and_parts (linked net l k) (steps_linked net (k ∷ ls)) (walk_parts net path parts.0).0).0;
      }

  pub begun : (path : List ℕ) → is_some (rank_for net policy p path) ≡ true → IsBegun path
  begun path has = two_places path (ranked_walk (statement_of policy p) path has)

  first_outside : (l : ℕ) (ls : List ℕ) → is_some (rank_for net policy p (l ∷ ls)) ≡ true → is_origin net policy p l ≡ false
  unfolding two_places
  first_outside l [] has = absurd (true≢false (sym (ranked_walk (statement_of policy p) (l ∷ []) has)))
  first_outside l (k ∷ ls) has = (two_places (l ∷ k ∷ ls) (ranked_walk (statement_of policy p) (l ∷ k ∷ ls) has)).outside

  first_link : (l k : ℕ) (ls : List ℕ) → is_some (rank_for net policy p (l ∷ k ∷ ls)) ≡ true → linked net l k ≡ true
  unfolding two_places
  first_link l k ls has = (two_places (l ∷ k ∷ ls) (ranked_walk (statement_of policy p) (l ∷ k ∷ ls) has)).link

  -- a peer that is no origin of the prefix: routers originate it
  peer_outside : (l : ℕ) → is_peer net l ≡ true → is_origin net policy p l ≡ false → is_some (originated_at policy.origins p) ≡ true
  peer_outside l peer outside = elim (cases_Option (originated_at policy.origins p)) [
    | inl bare ↦ absurd (true≢false (sym peer ∙ ap (λ o. is_origin_by net o l) (sym bare) ∙ outside))
    | inr at ↦ is_some_from (originated_at policy.origins p) at.0 at.1
  ]

-- ---- places

-- what a peer is linked to is a router
router_beside : (net : PlainNet) → IsNet net → (l k : ℕ) → linked net l k ≡ true → is_peer net l ≡ true → is_router net k ≡ true
router_beside net rules l k h peer =
    let found = list_any_parts (joins l k) net.links h in
    let link = AllByRecursion_at (IsLink net) net.links found.0 found.1 rules.links found.2 in
    let past = leb-true (length net.routers) l (and_parts (nat_le (length net.routers) l) (is_location net l) peer).0 in
    elim (joins_ends l k found.1 found.3) [
      | inl t ↦ absurd (omega (arith, t.0, link.2, past))
      | inr t ↦ lt-ltb k (length net.routers) (omega (arith, t.0, link.2))
    ]

module _ (net : PlainNet) (old new : PlainPolicy) (p : PlainPrefix) (rules : IsNet net) (origins : (l : ℕ) → is_origin net old p l ≡ is_origin net new p l) where
  place_of_router : (r : ℕ) → is_router net r ≡ true → is_origin net old p r ≡ false → is_place net (pair_for old new p) r None ≡ true
  place_of_router r router outside =
      and_from (is_router net r && not (is_origin net old p r)) (not (is_origin net new p r)) (and_from (is_router net r) (not (is_origin net old p r)) router (not_from_false _ outside))
      (not_from_false _ (sym (origins r) ∙ outside))

  place_of_session : (r peer : ℕ) → is_router net r ≡ true → is_peer net peer ≡ true → linked net peer r ≡ true → is_origin net old p peer ≡ false
      → is_place net (pair_for old new p) r (Some peer) ≡ true
  place_of_session r peer router at_peer link outside =
      let originated : is_originated (pair_for old new p) ≡ true = or_left (is_some (originated_at old.origins p)) (is_some (originated_at new.origins p)) (peer_outside net old p peer at_peer outside) in
      and_from (is_originated (pair_for old new p) && is_router net r && is_peer net peer) (linked net r peer)
      (and_from (is_originated (pair_for old new p) && is_router net r) (is_peer net peer) (and_from (is_originated (pair_for old new p)) (is_router net r) originated router) at_peer)
      (linked_flips net r peer ∙ link)

  -- where a walk begins that either policy permits
  pub record IsAtPlace (path : List ℕ) : Type 0 where
    pub router : ℕ
    pub peer : Option ℕ
    pub place : is_place net (pair_for old new p) router peer ≡ true
    pub rest : List ℕ
    pub is : path ≡ begin_at router peer ++ rest

  -- two locations that are linked, of which the first is no origin
  at_place : (l k : ℕ) (ls : List ℕ) → is_origin net old p l ≡ false → linked net l k ≡ true → IsAtPlace (l ∷ k ∷ ls)
  at_place l k ls outside link = elim (cases_Bool (is_peer net l)) [
    | inl peer ↦ record { router = k; peer = Some l; place = place_of_session k l (router_beside net rules l k link peer) peer link outside; rest = ls; is = refl }
    | inr off ↦ record {
      router = l;
      peer = None;
      place = place_of_router l (router_or_peer net l (linked_known net l k rules link).0 off) outside;
      rest = k ∷ ls;
      is = refl;
    }
  ]

  old_place : (path : List ℕ) → is_some (rank_for net old p path) ≡ true → IsAtPlace path
  old_place path has = (let x = begun net old p path has in subst IsAtPlace (sym x.is) (at_place x.first x.second x.rest x.outside x.link))

  new_place : (path : List ℕ) → is_some (rank_for net new p path) ≡ true → IsAtPlace path
  new_place path has = (let x = begun net new p path has in subst IsAtPlace (sym x.is) (at_place x.first x.second x.rest (origins x.first ∙ x.outside) x.link))

  -- ---- rows

  row_of : List ℕ → Row
  row_of path = record { old = rank_for net old p path; new = rank_for net new p path }

  -- a row with a rank isn't the empty one
  not_empty : (path : List ℕ) → (is_some (rank_for net old p path) || is_some (rank_for net new p path)) ≡ true → row_of path ≢ record { old = None; new = None }
  unfolding row_of
  not_empty path has same =
      let in_old : rank_for net old p path ≡ None = ap (λ (row : Row). row.old) same in
      let in_new : rank_for net new p path ≡ None = ap (λ (row : Row). row.new) same in
      true≢false (sym has ∙ ap (λ o. is_some o || is_some (rank_for net new p path)) in_old ∙ ap is_some in_new)

  has_row : (path : List ℕ) (r : ℕ) (peer : Option ℕ) (rest : List ℕ) → path ≡ begin_at r peer ++ rest
      → (is_some (rank_for net old p path) || is_some (rank_for net new p path)) ≡ true → HasRow net old new p r peer (row_of path)
  unfolding row_of
  has_row path r peer rest is has = (rest, ap (rank_for net old p) (sym is), ap (rank_for net new p) (sym is), not_empty path has)

  module _ (agree : (r : ℕ) (peer : Option ℕ) → IsTrue (is_place net (pair_for old new p) r peer) → RowsAgree net old new p r peer) where
    permitted_there : (path : List ℕ) → is_some (rank_for net old p path) ≡ true → is_some (rank_for net new p path) ≡ true
    unfolding row_of
    permitted_there path has =
        let at = old_place path has in
        let row = has_row path at.router at.peer at.rest at.is (or_left (is_some (rank_for net old p path)) (is_some (rank_for net new p path)) has) in
        sym ((agree at.router at.peer at.place).both (row_of path) row) ∙ has

    permitted_here : (path : List ℕ) → is_some (rank_for net new p path) ≡ true → is_some (rank_for net old p path) ≡ true
    unfolding row_of
    permitted_here path has =
        let at = new_place path has in
        let row = has_row path at.router at.peer at.rest at.is (or_right (is_some (rank_for net old p path)) (is_some (rank_for net new p path)) has) in
        (agree at.router at.peer at.place).both (row_of path) row ∙ has

    order_at : (r : ℕ) (peer : Option ℕ) → is_place net (pair_for old new p) r peer ≡ true → (u v : List ℕ) (a b c d : ℕ)
        → rank_for net old p (begin_at r peer ++ u) ≡ Some a → rank_for net old p (begin_at r peer ++ v) ≡ Some b
        → rank_for net new p (begin_at r peer ++ u) ≡ Some c → rank_for net new p (begin_at r peer ++ v) ≡ Some d → (a ≤ b) ↔ (c ≤ d)
    unfolding row_of
    order_at r peer place u v a b c d at_a at_b at_c at_d =
        let one = begin_at r peer ++ u in
        let two = begin_at r peer ++ v in
        (agree r peer place).order (row_of one) (row_of two) a b c d
        (has_row one r peer u refl (or_left (is_some (rank_for net old p one)) (is_some (rank_for net new p one)) (is_some_from (rank_for net old p one) a at_a)))
        (has_row two r peer v refl (or_left (is_some (rank_for net old p two)) (is_some (rank_for net new p two)) (is_some_from (rank_for net old p two) b at_b)))
        at_a at_b at_c at_d

    in_order : (r : ℕ) (peer : Option ℕ) (u v : List ℕ) (a b c d : ℕ) → is_router net r ≡ true
        → rank_for net old p (begin_at r peer ++ u) ≡ Some a → rank_for net old p (begin_at r peer ++ v) ≡ Some b
        → rank_for net new p (begin_at r peer ++ u) ≡ Some c → rank_for net new p (begin_at r peer ++ v) ≡ Some d → (a ≤ b) ↔ (c ≤ d)
    in_order r None u v a b c d router at_a at_b at_c at_d =
        order_at r None (place_of_router r router (first_outside net old p r u (is_some_from (rank_for net old p (r ∷ u)) a at_a))) u v a b c d at_a at_b at_c at_d
    in_order r (Some q) u v a b c d router at_a at_b at_c at_d =
        let has = is_some_from (rank_for net old p (q ∷ r ∷ u)) a at_a in
        let outside = first_outside net old p q (r ∷ u) has in
        let link = first_link net old p q r u has in
        elim (cases_Bool (is_peer net q)) [
          | inl peer ↦ order_at r (Some q) (place_of_session r q router peer link outside) u v a b c d at_a at_b at_c at_d
          | inr off ↦ order_at q None (place_of_router q (router_or_peer net q (linked_known net q r rules link).0 off) outside) (r ∷ u) (r ∷ v) a b c d at_a at_b at_c at_d
        ]

    pub alike_by_rows : IsAlike net old new p
    alike_by_rows = record {
      origins = origins;
      permitted = λ path. same_tests (is_some (rank_for net old p path)) (is_some (rank_for net new p path)) (permitted_there path) (permitted_here path);
      order = in_order;
    }

-- ---- the other way

router_of_place : (net : PlainNet) (old new : PlainPolicy) (p : PlainPrefix) (r : ℕ) (peer : Option ℕ) → is_place net (pair_for old new p) r peer ≡ true → is_router net r ≡ true
router_of_place net old new p r None place =
    (and_parts (is_router net r) (not (is_origin net old p r)) (and_parts (is_router net r && not (is_origin net old p r)) (not (is_origin net new p r)) place).0).0
router_of_place net old new p r (Some peer) place =
    let pair = pair_for old new p in
    let last = and_parts (is_originated pair && is_router net r && is_peer net peer) (linked net r peer) place in
    (and_parts (is_originated pair) (is_router net r) (and_parts (is_originated pair && is_router net r) (is_peer net peer) last.0).0).1

rows_by_alike : (net : PlainNet) (old new : PlainPolicy) (p : PlainPrefix) → IsAlike net old new p → (r : ℕ) (peer : Option ℕ) → is_place net (pair_for old new p) r peer ≡ true
    → RowsAgree net old new p r peer
rows_by_alike net old new p alike r peer place = record {
  both = λ row has. ap is_some (sym has.1) ∙ alike.permitted (begin_at r peer ++ has.0) ∙ ap is_some has.2;
  order = λ x y a b c d one two at_a at_b at_c at_d.
      alike.order r peer one.0 two.0 a b c d (router_of_place net old new p r peer place) (one.1 ∙ at_a) (two.1 ∙ at_b) (one.2 ∙ at_c) (two.2 ∙ at_d);
}

pub rows_decide : RowsDecide
rows_decide net old new p rules =
    (λ alike. (alike.origins, rows_by_alike net old new p alike), λ parts. alike_by_rows net old new p rules parts.0 parts.1)
