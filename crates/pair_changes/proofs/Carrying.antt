-- The routers over which permitted walks go are those at which a graph has nodes.
use Rattle.std.proofs.Common.{◌≡◌, ℕ, zero, suc, ◌<◌, Bool, true, List, [], ◌∷◌, ◌++◌, length, refl, sym, ap, ◌∙◌, subst, inl, inr, Option, Some, None, ltb-true}
use Rattle.std.specs.Prelude.{◌&&◌, ◌==◌, is_some, not, option_map, slice_get, unwrap_or}
use Rattle.std.proofs.lemmas.Bool.{and_from, and_parts, cases_Bool, eq-eqb, eqb-true, not-true, true≢false}
use Rattle.std.proofs.lemmas.Option.{slice_get_within}
use Rattle.list_law.specs.Members.{IsIn}
use Rattle.list_law.proofs.Items.{slice_get_inside}
use Rattle.list_law.proofs.Members.{IsIn-append_right, IsIn-filter, IsIn-filter_parts, list_any-from_IsIn, list_any_member}
use Rattle.list_law.proofs.Options.{is_some_parts, option_and_then_parts}
use Rattle.net_base.specs.declared.loc.LocSet.{LocSet}
use Rattle.net_base.specs.Locations.{numbers_below}
use Rattle.net_base.specs.Network.{PlainNet, is_router}
use Rattle.net_base.specs.Prefixes.{PlainPrefix}
use Rattle.net_base.specs.Sets.{holds}
use Rattle.net_base.proofs.NumbersBelow.{In-numbers_below}
use Rattle.policy_base.specs.Governing.{is_origin_by}
use Rattle.policy_base.specs.Policies.{PlainPolicy}
use Rattle.graph_base.specs.declared.graph.Node.{Node}
use Rattle.graph_base.specs.Graphs.{IsGraph, PlainGraph}
use Rattle.graph_base.specs.Runs.{place_of, rank_at, run}
use Rattle.graph_base.proofs.RunSteps.{last_step, run_begins, run_inside}
use Rattle.compare_base.specs.Cases.{is_place, pair_for}
use Rattle.compare_base.specs.Ranks.{rank_for}
use Rattle.pair_changes.specs.Carriers.{all_in_one_alone, has_node_at, in_one_alone}
use Rattle.pair_changes.specs.Changes.{AreCarriers, Carries, CarriesAlone}
use Rattle.pair_changes.specs.Shown.{ShowsWalks}
use Rattle.pair_changes.proofs.InOrder.{order_filter, order_numbers}

split_at : {A : Type 0} (xs : List A) (i : ℕ) (x : A) → slice_get xs i ≡ Some x → (above below : List A) × (xs ≡ above ++ x ∷ below)
split_at [] i x at = absurd cc
split_at (y ∷ ys) zero x at = ([], ys, (let same : y ≡ x = cc in ap (λ z. z ∷ ys) same))
split_at (y ∷ ys) (suc i) x at = let rest = split_at ys i x at in (y ∷ rest.0, rest.1, ap (λ zs. y ∷ zs) rest.2)

module _ (net : PlainNet) (policy : PlainPolicy) (p : PlainPrefix) (g : PlainGraph) (rules : IsGraph g) (shows : ShowsWalks net policy p g) where
  -- a walk that leads to a node goes over one from each of its places
  run_below : (above : List ℕ) (l m : ℕ) (ls : List ℕ) → run g (above ++ l ∷ ls) ≡ Some m → (n : ℕ) × (run g (l ∷ ls) ≡ Some n)
  run_below [] l m ls ran = (m, ran)
  run_below (k ∷ []) l m ls ran = let before = last_step g k l m ls ran in (before.0, before.1)
  run_below (k ∷ j ∷ above) l m ls ran = let before = last_step g k j m (above ++ l ∷ ls) ran in run_below (j ∷ above) l before.0 ls before.1

  node_there : (r : ℕ) → Carries net policy p r → (n : ℕ) × (n < length g.nodes) × (place_of g n ≡ r)
  node_there r carries =
      let parts = split_at carries.0 carries.1.0 r carries.1.1 in
      let rank = is_some_parts (rank_for net policy p carries.0) carries.2 in
      let end = option_and_then_parts (rank_at g) (run g carries.0) rank.0 (sym (shows.ranks carries.0) ∙ rank.1) in
      let node = run_below parts.0 r end.0 parts.1 (ap (run g) (sym parts.2) ∙ end.1) in
      (node.0, run_inside g rules (r ∷ parts.1) node.0 node.1, run_begins g r node.0 parts.1 node.1)

  carries_there : (r n : ℕ) → n < length g.nodes → place_of g n ≡ r → Carries net policy p r
  carries_there r n within at =
      let walk = shows.needed n within in
      by walk.0 walk.1 walk.2 walk.3
    where
      by : (above path : List ℕ) → run g path ≡ Some n → is_some (rank_for net policy p (above ++ path)) ≡ true → Carries net policy p r
      by above [] ran some = absurd cc
      by above (l ∷ ls) ran some =
          let same : l ≡ r = sym (run_begins g l n ls ran) ∙ at in
          (above ++ l ∷ ls, subst (λ k. IsIn (above ++ l ∷ ls) k) same (IsIn-append_right above (l ∷ ls) l (0, refl)), some)

  place_is : (n : ℕ) (node : Node) → slice_get g.nodes n ≡ Some node → place_of g n ≡ node.loc
  place_is n node at = ap (λ (o : Option Node). unwrap_or (option_map (λ (x : Node). x.loc) o) 0) at

  pub carries_has : (r : ℕ) → is_router net r ≡ true → Carries net policy p r → has_node_at net g.nodes r ≡ true
  carries_has r router carries =
      let n = node_there r carries in
      let node = slice_get_inside g.nodes n.0 n.1 in
      let same : node.0.loc ≡ r = sym (place_is n.0 node.0 node.1) ∙ n.2 in
      list_any-from_IsIn (λ (x : Node). is_router net x.loc && r == x.loc) g.nodes node.0 (n.0, node.1)
      (and_from _ _ (ap (is_router net) same ∙ router) (eq-eqb r node.0.loc (sym same)))

  pub has_carries : (r : ℕ) → has_node_at net g.nodes r ≡ true → Carries net policy p r
  has_carries r has =
      let node = list_any_member (λ (x : Node). is_router net x.loc && r == x.loc) g.nodes has in
      let parts = and_parts (is_router net node.0.loc) (r == node.0.loc) node.2 in
      carries_there r node.1.0 (slice_get_within g.nodes node.1.0 node.0 node.1.1) (place_is node.1.0 node.0 node.1.1 ∙ sym (eqb-true r node.0.loc parts.1))

module _ (net : PlainNet) (old new : PlainPolicy) (p : PlainPrefix) (one other : PlainPolicy) (g h : PlainGraph) (rules_g : IsGraph g) (rules_h : IsGraph h)
    (shows_one : ShowsWalks net one p g) (shows_other : ShowsWalks net other p h) (in_one in_other : LocSet)
    (those_one : (r : ℕ) → holds in_one r ≡ has_node_at net g.nodes r) (those_other : (r : ℕ) → holds in_other r ≡ has_node_at net h.nodes r) where
  abbrev all : List ℕ
  all = all_in_one_alone net (pair_for old new p) in_one in_other

  abbrev is_alone : ℕ → Bool
  is_alone = in_one_alone net (pair_for old new p) in_one in_other

  router_of : (r : ℕ) → is_place net (pair_for old new p) r None ≡ true → is_router net r ≡ true
  router_of r is =
      let old_off = not (is_origin_by net (pair_for old new p).old.origins r) in
      let new_off = not (is_origin_by net (pair_for old new p).new.origins r) in
      (and_parts (is_router net r) old_off (and_parts (is_router net r && old_off) new_off is).0).0

  alone_is : (r : ℕ) → is_alone r ≡ true → CarriesAlone net old new p one other r
  alone_is r is =
      let first = and_parts (is_place net (pair_for old new p) r None) (holds in_one r && not (holds in_other r)) is in
      let second = and_parts (holds in_one r) (not (holds in_other r)) first.1 in
      record {
        is_place = first.0;
        in_one = has_carries net one p g rules_g shows_one r (sym (those_one r) ∙ second.0);
        not_in_other = λ carries. absurd (true≢false (sym (those_other r ∙ carries_has net other p h rules_h shows_other r (router_of r first.0) carries) ∙ not-true (holds in_other r) second.1));
      }

  is_alone_from : (r : ℕ) → CarriesAlone net old new p one other r → is_alone r ≡ true
  is_alone_from r alone =
      and_from _ _ alone.is_place (and_from _ _ (those_one r ∙ carries_has net one p g rules_g shows_one r (router_of r alone.is_place) alone.in_one) not_there)
    where
      not_there : not (holds in_other r) ≡ true
      not_there = elim (cases_Bool (holds in_other r)) [
        | inl t ↦ absurd (alone.not_in_other (has_carries net other p h rules_h shows_other r (sym (those_other r) ∙ t)))
        | inr t ↦ ap not t
      ]

  pub are_carriers : AreCarriers net old new p one other all
  are_carriers = record {
    those = λ r. (
      λ at. alone_is r (IsIn-filter_parts is_alone (numbers_below (length net.routers)) r at).1,
      λ alone. IsIn-filter is_alone (numbers_below (length net.routers)) r
          (In-numbers_below r (length net.routers) (ltb-true r (length net.routers) (router_of r alone.is_place))) (is_alone_from r alone),
    );
    order = order_filter (λ (i j : ℕ). i < j) is_alone (numbers_below (length net.routers)) (order_numbers (length net.routers));
  }
