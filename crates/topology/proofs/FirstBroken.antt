-- The fault that is told has the least number of a rule that is broken.
use Rattle.std.proofs.Common.{◌≡◌, ℕ, ◌+◌, List, [], ◌++◌, length, map, Result, Ok, Err, false, ◌||◌, ◌&&◌, not, refl, sym, ap, ◌∙◌, map-id}
use Rattle.std.specs.Prelude.{IsTrue, ◌==◌, nat_le, position}
use Rattle.std.specs.List.{list_any, AllByRecursion, IsDistinct}
use Rattle.std.specs.Str.{bytes_eq}
use Rattle.list_law.proofs.Positions.{list_any-at_position, list_any-no_position}
use Rattle.list_law.proofs.Each.{AllByRecursion-append, AllByRecursion-append_parts, AllByRecursion-from_list_any, list_any_breaks, AllByRecursion-not, AllByRecursion-from_not}
use Rattle.net_base.specs.NameRule.{is_name}
use Rattle.net_base.specs.Network.{PlainNet, IsNet, same_ends}
use Rattle.net_base.specs.Steps.{◌>>=◌, each_from}
use Rattle.topology.specs.declared.parts.Kind.TheVariants as kind
use Rattle.topology.specs.declared.fault.TopoFault.{TopoFault}
use Rattle.topology.specs.declared.fault.TopoFault.TheVariants.{LinkTwice, SelfLink, PeerLink}
use Rattle.topology.specs.declared.sites.Number.TheVariants as which
use Rattle.topology.specs.Faults.{number_of}
use Rattle.topology.specs.Laws.{entries, is_among, rules, same_link}
use Rattle.topology.specs.Rules.{named, site_of, counted, names_differ, numbers_differ, names_of, joined, links_differ, ends_differ, routers_linked, links_of, ascending}
use Rattle.topology.specs.Rules.{judged, network_of, is_lawful_as}
use Rattle.topology.specs.Shape.{each, Entry, Ends, Topology, IsIdentifier}
use Rattle.topology.proofs.Distinct.{all_unlike-distinct}
use Rattle.topology.proofs.EntryFaults.{counted_breaks, named_breaks, all_named, site_breaks, all_lawful, names_break, names_keep, asns_break, ids_break, numbers_keep}
use Rattle.topology.proofs.LinkNames.{AllJoin, all_join, distinct_alike, any_join, to_itself, ends_known, joined-breaks, routers_first}
use Rattle.topology.proofs.Networks.{each_named, counted_holds, judged_steps, kept_IsNet}
use Rattle.topology.proofs.Outcomes.{no_fault-err, all_unlike-breaks, all_nothing}
use Rattle.json_values.specs.TextRules.{KeepsBelow}
use Rattle.json_values.proofs.FirstRule.{below_3, broken, next, Outcome}
use Rattle.net_base.proofs.Links.{same_ends-swap}
use Rattle.net_base.proofs.StepOutcomes.{bind_case, each_from-breaks}
use Rattle.topology.proofs.Results.{no_fault-ok}

-- ---- rules 10 to 12

module _ (names : List (List ℕ)) (es : List Ends) (ps : List (ℕ × ℕ)) (j : AllJoin names es ps) where
  links_break : (e : TopoFault) → links_differ ps ≡ Err e → (IsDistinct same_link es → ⊥) × (number_of e ≡ 10)
  unfolding links_differ
  links_break e h =
      let q = all_unlike-breaks (λ (p : ℕ × ℕ). p) same_ends same_ends-swap (λ place _ _. LinkTwice place) (λ f. number_of f ≡ 10) (λ k a b. refl) [] ps e h in
      ((λ d. q.0 (rw (map-id ps) ((distinct_alike names es ps j).0 d)) (all_nothing same_ends (map (λ (p : ℕ × ℕ). p) ps))), q.1)

  links_keep : links_differ ps ≡ Ok tt → IsDistinct same_link es
  unfolding links_differ
  links_keep h = (distinct_alike names es ps j).1 (rw (map-id ps) at (all_unlike-distinct (λ (p : ℕ × ℕ). p) same_ends same_ends-swap (λ place _ _. LinkTwice place) [] ps tt h).0)

  ends_same : list_any (λ l. l.0 == l.1) ps ≡ list_any (λ l. bytes_eq l.from l.to) es
  ends_same = any_join names (λ l. l.0 == l.1) (λ l. bytes_eq l.from l.to) (to_itself names) es ps j

  ends_break : (e : TopoFault) → ends_differ ps ≡ Err e → (AllByRecursion (λ l. bytes_eq l.from l.to ≡ false) es → ⊥) × (number_of e ≡ 11)
  unfolding ends_differ
  ends_break e h =
      let q = no_fault-err (λ i. SelfLink (i + 1)) (position (λ (l : ℕ × ℕ). l.0 == l.1) ps) e h in
      ((λ a. list_any_breaks (λ l. bytes_eq l.from l.to) es (sym ends_same ∙ list_any-at_position (λ l. l.0 == l.1) ps q.0 q.1) a), ap number_of (sym q.2))

  ends_keep : ends_differ ps ≡ Ok tt → AllByRecursion (λ l. bytes_eq l.from l.to ≡ false) es
  unfolding ends_differ
  ends_keep h = AllByRecursion-from_list_any (λ l. bytes_eq l.from l.to) es (sym ends_same ∙ list_any-no_position (λ (l : ℕ × ℕ). l.0 == l.1) ps (no_fault-ok _ _ _ h))

module _ (rs qs : List Entry) (es : List Ends) (ps : List (ℕ × ℕ)) (j : AllJoin (names_of (rs ++ qs)) es ps) where
  router_ends : list_any (λ l. nat_le (length rs) l.0) ps ≡ list_any (λ l. not (is_among rs l.from || is_among rs l.to)) es
  router_ends = any_join (names_of (rs ++ qs)) (λ l. nat_le (length rs) l.0) (λ l. not (is_among rs l.from || is_among rs l.to)) (routers_first rs qs) es ps j

  routers_break : (e : TopoFault) → routers_linked (length rs) ps ≡ Err e → (AllByRecursion (λ l. IsTrue (is_among rs l.from || is_among rs l.to)) es → ⊥) × (number_of e ≡ 12)
  unfolding routers_linked
  routers_break e h =
      let q = no_fault-err (λ i. PeerLink (i + 1)) (position (λ (l : ℕ × ℕ). nat_le (length rs) l.0) ps) e h in (
        (λ a. list_any_breaks (λ l. not (is_among rs l.from || is_among rs l.to)) es
            (sym router_ends ∙ list_any-at_position (λ l. nat_le (length rs) l.0) ps q.0 q.1)
            (AllByRecursion-not (λ l. is_among rs l.from || is_among rs l.to) es a)),
        ap number_of
            (sym q.2),
      )

  routers_keep : routers_linked (length rs) ps ≡ Ok tt → AllByRecursion (λ l. IsTrue (is_among rs l.from || is_among rs l.to)) es
  unfolding routers_linked
  routers_keep h =
      AllByRecursion-from_not (λ l. is_among rs l.from || is_among rs l.to) es
      (AllByRecursion-from_list_any (λ l. not (is_among rs l.from || is_among rs l.to)) es (sym router_ends ∙ list_any-no_position (λ (l : ℕ × ℕ). nat_le (length rs) l.0) ps (no_fault-ok _ _ _ h)))

-- ---- one rule after the other

links_outcome : (t : Topology) → KeepsBelow (rules t) 9 → (y : Result (List (ℕ × ℕ)) TopoFault) → links_of (names_of (entries t)) (length t.routers) t.links ≡ y → Outcome (rules t) number_of y
unfolding links_of
links_outcome t below y h =
    let names = names_of (entries t) in
    bind_case (Outcome (rules t) number_of y) (each_from (joined names) 1 t.links)
    (λ links. links_differ links >>= (λ _. ends_differ links >>= (λ _. routers_linked (length t.routers) links >>= (λ _. Ok (ascending links))))) y h
    (λ e p same. broken (rules t) number_of 9 y e below
    (each_from-breaks (λ (l : Ends). IsTrue (list_any (bytes_eq l.from) names && list_any (bytes_eq l.to) names)) (λ f. number_of f ≡ 9) (joined names) (joined-breaks names) 1 t.links e p) same)
    (λ ps p g.
    let j = all_join names 1 t.links ps p in
    let below_10 = next (rules t) 9 below (ends_known names t.links ps j) in
    bind_case (Outcome (rules t) number_of y) (links_differ ps) (λ _. ends_differ ps >>= (λ _. routers_linked (length t.routers) ps >>= (λ _. Ok (ascending ps)))) y g
    (λ e p same. broken (rules t) number_of 10 y e below_10 (links_break names t.links ps j e p) same)
    (λ _ p g.
    let below_11 = next (rules t) 10 below_10 (links_keep names t.links ps j p) in
    bind_case (Outcome (rules t) number_of y) (ends_differ ps) (λ _. routers_linked (length t.routers) ps >>= (λ _. Ok (ascending ps))) y g
    (λ e p same. broken (rules t) number_of 11 y e below_11 (ends_break names t.links ps j e p) same)
    (λ _ p g.
    let below_12 = next (rules t) 11 below_11 (ends_keep names t.links ps j p) in
    bind_case (Outcome (rules t) number_of y) (routers_linked (length t.routers) ps) (λ _. Ok (ascending ps)) y g
    (λ e p same. broken (rules t) number_of 12 y e below_12 (routers_break t.routers t.peers t.links ps j e p) same)
    (λ _ p g. rw (← g) (next (rules t) 12 below_12 (routers_keep t.routers t.peers t.links ps j p))))))

-- the rules from the names on, of entries that have names
named_outcome : (t : Topology) → KeepsBelow (rules t) 5 → (y : Result PlainNet TopoFault)
    → (names_differ (entries t) >>= (λ _. each (site_of kind.Routers) t.routers >>= (λ router_sites. each (site_of kind.Peers) t.peers >>= (λ peer_sites.
    numbers_differ which.As (entries t) >>= (λ _. numbers_differ which.Id (entries t) >>= (λ _. links_of (names_of (entries t)) (length t.routers) t.links >>= (λ links.
    Ok (record { routers = router_sites; peers = peer_sites; links = links })))))))) ≡ y → Outcome (rules t) number_of y
unfolding each
named_outcome t below y h =
    bind_case (Outcome (rules t) number_of y) (names_differ (entries t)) _ y h
    (λ e p same. broken (rules t) number_of 5 y e below (names_break (entries t) e p) same)
    (λ _ p g.
    let below_6 = next (rules t) 5 below (names_keep (entries t) p) in
    bind_case (Outcome (rules t) number_of y) (each_from (λ _. site_of kind.Routers) 1 t.routers) _ y g
    (λ e p same. let q =
    each_from-breaks (λ (x : Entry). IsTrue (is_lawful_as kind.Routers x.asn)) (λ f. number_of f ≡ 6) (λ _. site_of kind.Routers)
    (λ _. site_breaks kind.Routers) 1 t.routers e p in
    broken (rules t) number_of 6 y e below_6 ((λ k. q.0 k.0), q.1) same)
    (λ ss rp g.
    bind_case (Outcome (rules t) number_of y) (each_from (λ _. site_of kind.Peers) 1 t.peers) _ y g
    (λ e p same. let q = each_from-breaks (λ (x : Entry). IsTrue (is_lawful_as kind.Peers x.asn)) (λ f. number_of f ≡ 6) (λ _. site_of kind.Peers) (λ _. site_breaks kind.Peers) 1 t.peers e p in
    broken (rules t) number_of 6 y e below_6 ((λ k. q.0 k.1), q.1) same)
    (λ qs pp g.
    let below_7 = next (rules t) 6 below_6 (all_lawful kind.Routers 1 t.routers ss rp, all_lawful kind.Peers 1 t.peers qs pp) in
    bind_case (Outcome (rules t) number_of y) (numbers_differ which.As (entries t)) _ y g
    (λ e p same. broken (rules t) number_of 7 y e below_7 (asns_break (entries t) e p) same)
    (λ _ p g.
    let below_8 = next (rules t) 7 below_7 (numbers_keep which.As (entries t) p) in
    bind_case (Outcome (rules t) number_of y) (numbers_differ which.Id (entries t)) _ y g
    (λ e p same. broken (rules t) number_of 8 y e below_8 (ids_break (entries t) e p) same)
    (λ _ p g.
    let below_9 = next (rules t) 8 below_8 (numbers_keep which.Id (entries t) p) in
    bind_case (Outcome (rules t) number_of y) (links_of (names_of (entries t)) (length t.routers) t.links) _ y g
    (λ e p same. rw same (links_outcome t below_9 (Err e) p))
    (λ links p g. rw (← g) (links_outcome t below_9 (Ok links) p)))))))

pub judged_outcome : (t : Topology) (y : Result PlainNet TopoFault) → judged t ≡ y → Outcome (rules t) number_of y
unfolding judged network_of
judged_outcome t y h =
    let lawful = λ (x : Entry). IsTrue (is_name x.name) in
    bind_case (Outcome (rules t) number_of y) (counted t) _ y h
    (λ e p same. broken (rules t) number_of 3 y e (below_3 (rules t)) (counted_breaks t e p) same)
    (λ _ p g.
    let below_4 = next (rules t) 3 (below_3 (rules t)) (counted_holds t p) in
    bind_case (Outcome (rules t) number_of y) (each_from (named kind.Routers) 1 t.routers) _ y g
    (λ e p same. let q = each_from-breaks lawful (λ f. number_of f ≡ 4) (named kind.Routers) (named_breaks kind.Routers) 1 t.routers e p in
    broken (rules t) number_of 4 y e below_4 ((λ k. q.0 (AllByRecursion-append_parts lawful t.routers t.peers k).0), q.1) same)
    (λ rs rp g.
    bind_case (Outcome (rules t) number_of y) (each_from (named kind.Peers) 1 t.peers) _ y g
    (λ e p same. let q = each_from-breaks lawful (λ f. number_of f ≡ 4) (named kind.Peers) (named_breaks kind.Peers) 1 t.peers e p in
    broken (rules t) number_of 4 y e below_4 ((λ k. q.0 (AllByRecursion-append_parts lawful t.routers t.peers k).1), q.1) same)
    (λ ps pp g. named_outcome t (next (rules t) 4 below_4 (AllByRecursion-append lawful t.routers t.peers (all_named kind.Routers 1 t.routers rs rp) (all_named kind.Peers 1 t.peers ps pp))) y
    (rw (each_named kind.Routers t.routers rs rp, each_named kind.Peers t.peers ps pp) at g))))

-- a topology that breaks no rule is a network
pub judged_net : (t : Topology) (net : PlainNet) → AllByRecursion (λ e. IsIdentifier e.id) t.routers → AllByRecursion (λ e. IsIdentifier e.id) t.peers → judged t ≡ Ok net → IsNet net
judged_net t net router_ids peer_ids h = kept_IsNet t net (judged_steps t net h) router_ids peer_ids
