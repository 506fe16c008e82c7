-- The written configuration is that of the cases, and keeps what every configuration keeps.
use Rattle.std.proofs.Common.{◌≡◌, ◌≢◌, ℕ, ◌+◌, ◌<◌, ◌≤◌, ◌^◌, true, false, List, [], ◌∷◌, length, map, filter, Option, Some, None, refl, sym, ap, ◌∙◌, subst, arith, inl, inr, All}
use Rattle.std.specs.Prelude.{◌↔◌, nat_eq, slice_get, option_map}
use Rattle.std.specs.Option.{option_map_or}
use Rattle.std.specs.List.{AllByRecursion, IsDistinct}
use Rattle.std.specs.List.Sorted.{IsStrictlySortedBy}
use Rattle.std.specs.Str.{bytes_eq}
use Rattle.std.proofs.lemmas.Bool.{cases_Bool, eqb-true, lt-ltb}
use Rattle.std.proofs.lemmas.List.{length-map}
use Rattle.std.proofs.lemmas.List.Elements.{All-contains}
use Rattle.std.proofs.lemmas.List.Kept.{IsStrictlySortedBy-filter}
use Rattle.std.proofs.lemmas.Option.{slice_get_within, slice_get-map}
use Rattle.net_base.specs.declared.net.Site.{Site}
use Rattle.net_base.specs.Numbers.{is_tag, no_tag}
use Rattle.net_base.specs.Prefixes.{PlainPattern}
use Rattle.net_base.specs.Network.{PlainNet, IsNet, is_peer, asn_of, id_of}
use Rattle.policy_base.specs.Policies.{PlainPolicy}
use Rattle.net_base.specs.Locations.{numbers_below, neighbours}
use Rattle.graph_base.specs.Runs.{place_of}
use Rattle.config_base.specs.declared.config.RouterConfig.{RouterConfig}
use Rattle.config_base.specs.declared.config.Session.{Session}
use Rattle.config_base.specs.declared.config.Import.{Import}
use Rattle.config_base.specs.declared.config.Export.{Export}
use Rattle.config_base.specs.Configs.{Ascend, tag_key, origination_key, IsClass, HasTag, IsImport, IsExport, IsOrigination, IsSession, IsRouter, IsConfig}
use Rattle.evidence_base.specs.Made.{PlainCaseEvidence, tag_at, case_at, patterns_of, AreBlocks, IsBlock, IsRouterBlock, IsConfigOf, AreTags}
use Rattle.list_law.specs.Members.{IsIn}
use Rattle.list_law.proofs.Members.{AllByRecursion-from_IsIn, Contains-from_IsIn, IsIn-filter_parts, IsIn-map_parts}
use Rattle.list_law.proofs.Changed.{map-map}
use Rattle.list_law.proofs.Keys.{IsDistinct-sorted_keys}
use Rattle.config_maker.specs.declared.hop.Hop.{Hop}
use Rattle.config_maker.specs.declared.hop.Announced.{Announced}
use Rattle.config_maker.specs.Conditions.{AreGraphs, AreSingle}
use Rattle.config_maker.specs.Hops.{HasPref, hop_order, announced_order, hops_from, announced_from, goes, stands}
use Rattle.config_maker.specs.Writing.{export_line, import_line, own_line, session_of, router_of, routers_of}
use Rattle.net_base.specs.Network.{name_of}
use Rattle.config_maker.proofs.Made.{IsAnnounced, class_place, is_hop, is_announced, exports_are, imports_are, own_are}
use Rattle.config_maker.proofs.Ascending.{ascends, IsBetween, hop_up, announced_up, step_within, start_within}
use Rattle.net_base.proofs.NumbersBelow.{length-numbers_below, number_got, numbers-below, sorted_numbers}
use Rattle.net_base.proofs.Neighbours.{neighbour_known, sorted_neighbours}
use Rattle.net_base.proofs.RoutersAndPeers.{router_no_peer}
use Rattle.net_base.proofs.SiteNumbers.{apart_sites, identifier_fits, number_fits, router_number}
use Rattle.net_base.proofs.Sites.{site_at}
use Rattle.config_maker.proofs.Runs.{goes_parts}

module _ (net : PlainNet) (rules : IsNet net) (cs : List PlainCaseEvidence)
    (graphs : AreGraphs cs)
    (single : AreSingle net cs) (tags : AreTags net cs)
    (hops : List Hop) (hops_are : (h : Hop) → IsIn hops h ↔ IsIn (hops_from 1 cs) h) (hops_up : IsStrictlySortedBy hop_order hops)
    (all : List Announced) (all_are : (a : Announced) → IsIn all a ↔ IsIn (announced_from 1 cs) a) (all_up : IsStrictlySortedBy announced_order all) where
  abbrev total : ℕ
  total = length net.routers + length net.peers

  abbrev routers : ℕ
  routers = length net.routers

  -- ---- the lines between two locations

  between : (x z : ℕ) → AllByRecursion (IsBetween net cs graphs single tags x z) (filter (goes x z) hops)
  between x z =
      AllByRecursion-from_IsIn (IsBetween net cs graphs single tags x z) (filter (goes x z) hops)
      (λ h at. let found = IsIn-filter_parts (goes x z) hops h at in (is_hop cs hops hops_are h found.0, found.1))

  hops_ascend : (x z : ℕ) → Ascend (map (λ (h : Hop). tag_key h.class h.tag) (filter (goes x z) hops))
  hops_ascend x z =
      ascends (λ (h : Hop). tag_key h.class h.tag) (IsBetween net cs graphs single tags x z) hop_order (hop_up net cs graphs single tags x z) (filter (goes x z) hops) (between x z)
      (IsStrictlySortedBy-filter hop_order (goes x z) hops hops_up)

  imports_ascend : (x z : ℕ) → Ascend (map (λ (r : Import). tag_key r.class r.tag) (map import_line (filter (goes x z) hops)))
  imports_ascend x z = subst Ascend (sym (map-map (λ (r : Import). tag_key r.class r.tag) import_line (filter (goes x z) hops))) (hops_ascend x z)

  exports_ascend : (x z : ℕ) → Ascend (map (λ (e : Export). tag_key e.class e.tag) (map export_line (filter (goes x z) hops)))
  exports_ascend x z = subst Ascend (sym (map-map (λ (e : Export). tag_key e.class e.tag) export_line (filter (goes x z) hops))) (hops_ascend x z)

  abbrev Stands : ℕ → Announced → Type 0
  Stands x a = IsAnnounced cs a × (stands x a ≡ true)

  standing : (x : ℕ) → AllByRecursion (Stands x) (filter (stands x) all)
  standing x = AllByRecursion-from_IsIn (Stands x) (filter (stands x) all) (λ a at. let found = IsIn-filter_parts (stands x) all a at in (is_announced cs all all_are a found.0, found.1))

  own_ascend : (x : ℕ) → Ascend (map origination_key (map own_line (filter (stands x) all)))
  own_ascend x =
      subst Ascend (sym (map-map origination_key own_line (filter (stands x) all)))
      (ascends (λ (a : Announced). record { first = a.class; second = a.prefix.bits; third = a.prefix.len }) (Stands x) announced_order
      (announced_up net cs graphs single tags x) (filter (stands x) all) (standing x)
      (IsStrictlySortedBy-filter announced_order (stands x) all all_up))

  -- ---- the configuration of the cases

  block : (x z : ℕ) → z < total → IsBlock net cs x z (session_of net hops x z)
  block x z known =
      let site = site_at net z (lt-ltb z (length net.routers + length net.peers) known) in
      record {
        name = ap (option_map (λ (s : Site). s.name)) site.1 ∙ ap Some (sym (ap (λ (o : Option Site). option_map_or (λ (s : Site). s.name) o []) site.1));
        asn = refl;
        peer = refl;
        imports = imports_are cs hops hops_are net graphs tags x z;
        import_order = imports_ascend z x;
        exports = exports_are cs hops hops_are net single x z;
        export_order = exports_ascend x z;
      }

  blocks : (x : ℕ) (zs : List ℕ) → AllByRecursion (λ z. z < total) zs → AreBlocks net cs x zs (map (session_of net hops x) zs)
  blocks x [] low = tt
  blocks x (z ∷ zs) low = (block x z low.0, blocks x zs low.1)

  router_block : (x : ℕ) → x < routers → IsRouterBlock net cs x (router_of net hops all x)
  router_block x at_router =
      let site = site_at net x (lt-ltb x (length net.routers + length net.peers) (omega (arith, at_router))) in
      let name : site.0.name ≡ name_of net x = sym (ap (λ (o : Option Site). option_map_or (λ (s : Site). s.name) o []) site.1) in
      let asn : site.0.asn ≡ asn_of net x = sym (ap (λ (o : Option Site). option_map_or (λ (s : Site). s.asn) o 0) site.1) in
      let id : site.0.id ≡ id_of net x = sym (ap (λ (o : Option Site). option_map_or (λ (s : Site). s.id) o 0) site.1) in
      record {
        site = site.1 ∙ (λ i. Some (record { name = name i; asn = asn i; id = id i }));
        own = own_are cs all all_are x;
        own_order = own_ascend x;
        sessions = blocks x (neighbours net x) (AllByRecursion-from_IsIn (λ z. z < total) (neighbours net x) (neighbour_known net x));
      }

  pub config_of_cases : (policy : PlainPolicy) (classes : List (List PlainPattern)) → classes ≡ map (λ (c : PlainCaseEvidence). patterns_of policy c.case) cs
      → IsConfigOf net policy cs (record { classes = classes; routers = routers_of net hops all })
  config_of_cases policy classes are = record {
    classes = are;
    count = length-map (numbers_below routers) (router_of net hops all) ∙ length-numbers_below routers;
    routers = λ x r at.
        let found = some_of (slice_get (numbers_below routers) x) (router_of net hops all) r (sym (slice_get-map (router_of net hops all) (numbers_below routers) x) ∙ at) in
        let got = number_got routers x found.0 found.1 in
        subst (IsRouterBlock net cs x) (ap (router_of net hops all) (sym got.0) ∙ found.2) (router_block x got.1);
  }
    where
      some_of : (o : Option ℕ) (f : ℕ → RouterConfig) (r : RouterConfig) → option_map f o ≡ Some r → (y : ℕ) × (o ≡ Some y) × (f y ≡ r)
      some_of None f r e = absurd cc
      some_of (Some y) f r e = (y, refl, cc)

  -- ---- what every configuration keeps

  module _ (count : ℕ) (few : length cs ≤ count) (fits : All HasPref (hops_from 1 cs)) where
    class_fits : (class : ℕ) (c : PlainCaseEvidence) → case_at cs class ≡ Some c → IsClass count class
    class_fits class c at =
        let place = class_place cs class c at in
        let within = slice_get_within cs place.0 c place.2 in
        (omega (arith, place.1), omega (arith, place.1, within, few))

    -- the tag of a node at a router is a tag
    tag_fits : (l class n : ℕ) (c : PlainCaseEvidence) → case_at cs class ≡ Some c → n < length c.graph.nodes → place_of c.graph n ≡ l → is_peer net l ≡ false → is_tag (tag_at c n) ≡ true
    tag_fits l class n c at within here no_peer =
        let place = class_place cs class c at in
        (tags.at_routers place.0 n c place.2 within (ap (is_peer net) here ∙ no_peer)).0

    tag_none : (l class n : ℕ) (c : PlainCaseEvidence) → case_at cs class ≡ Some c → n < length c.graph.nodes → place_of c.graph n ≡ l → is_peer net l ≡ true → tag_at c n ≡ no_tag
    tag_none l class n c at within here peer =
        let place = class_place cs class c at in
        tags.at_peers place.0 n c place.2 within (ap (is_peer net) here ∙ peer)

    import_fits : (x z : ℕ) → x < routers → (h : Hop) → IsBetween net cs graphs single tags z x h → HasPref h → IsImport count (session_of net hops x z) (import_line h)
    import_fits x z at_router h of_h pref =
        let is = of_h.0 in
        let ends = goes_parts z x h of_h.1 in
        let place = class_place cs h.class is.case is.step.at_class in
        let within = step_within net cs graphs single tags place.0 is.case place.2 is.node is.next is.step.step in
        let from = is.step.from ∙ ends.0 in
        let to = is.step.to ∙ ends.1 in
        let tag : HasTag (session_of net hops x z) h.tag = elim (cases_Bool (is_peer net z)) [
          | inl t ↦ rw t (is.tag ∙ tag_none z h.class is.node is.case is.step.at_class within.0 from t)
          | inr t ↦ rw t (ap is_tag is.tag ∙ tag_fits z h.class is.node is.case is.step.at_class within.0 from t)
        ] in (
          class_fits h.class is.case is.step.at_class,
          tag,
          ap is_tag is.set
              ∙ tag_fits x h.class is.next is.case is.step.at_class within.1 to (router_no_peer net x (lt-ltb x (length net.routers) at_router)),
          pref,
        )

    export_fits : (x z : ℕ) → x < routers → (h : Hop) → IsBetween net cs graphs single tags x z h → IsExport count (export_line h)
    export_fits x z at_router h of_h =
        let is = of_h.0 in
        let ends = goes_parts x z h of_h.1 in
        let place = class_place cs h.class is.case is.step.at_class in
        let within = step_within net cs graphs single tags place.0 is.case place.2 is.node is.next is.step.step in (
          class_fits h.class is.case is.step.at_class,
          ap is_tag is.tag
              ∙ tag_fits x h.class is.node is.case is.step.at_class within.0 (is.step.from ∙ ends.0)
              (router_no_peer net x (lt-ltb x (length net.routers) at_router)),
        )

    pref_fits : (h : Hop) → IsIn hops h → HasPref h
    pref_fits h at = All-contains HasPref (hops_from 1 cs) h fits (Contains-from_IsIn (hops_from 1 cs) h ((hops_are h).0 at))

    session_kept : (x z : ℕ) → x < routers → z < total → IsSession count (session_of net hops x z)
    session_kept x z at_router known = record {
      number = number_fits net rules z known;
      imports = AllByRecursion-from_IsIn (IsImport count (session_of net hops x z)) (map import_line (filter (goes z x) hops)) (λ rule at.
          let line = IsIn-map_parts import_line (filter (goes z x) hops) rule at in
          let found = IsIn-filter_parts (goes z x) hops line.0 line.1 in
          subst (IsImport count (session_of net hops x z)) line.2 (import_fits x z at_router line.0 (is_hop cs hops hops_are line.0 found.0, found.1) (pref_fits line.0 found.0)));
      import_order = imports_ascend z x;
      exports = AllByRecursion-from_IsIn (IsExport count) (map export_line (filter (goes x z) hops)) (λ e at.
          let line = IsIn-map_parts export_line (filter (goes x z) hops) e at in
          let found = IsIn-filter_parts (goes x z) hops line.0 line.1 in
          subst (IsExport count) line.2 (export_fits x z at_router line.0 (is_hop cs hops hops_are line.0 found.0, found.1)));
      export_order = exports_ascend x z;
    }

    -- ---- the block of a router

    own_fits : (x : ℕ) → x < routers → (a : Announced) → IsAnnounced cs a → a.at ≡ x → IsOrigination count (own_line a)
    own_fits x at_router a is here =
        let place = class_place cs a.class is.case is.at_class in
        let within = start_within net cs graphs single tags place.0 is.case place.2 is.node is.start in (
          class_fits a.class is.case is.at_class,
          ap is_tag is.tag
              ∙ tag_fits x a.class is.node is.case is.at_class within (is.place ∙ here)
              (router_no_peer net x (lt-ltb x (length net.routers) at_router)),
        )

    names_apart : (a b : ℕ) → a < b → b < total → bytes_eq (name_of net a) (name_of net b) ≡ false
    names_apart = apart_sites net bytes_eq (λ (s : Site). s.name) [] rules.names

    router_kept : (x : ℕ) → x < routers → IsRouter count (router_of net hops all x)
    router_kept x at_router = record {
      number = router_number net rules x at_router;
      identifier = identifier_fits net rules x (omega (arith, at_router));
      own = AllByRecursion-from_IsIn (IsOrigination count) (map own_line (filter (stands x) all)) (λ o at.
          let line = IsIn-map_parts own_line (filter (stands x) all) o at in
          let found = IsIn-filter_parts (stands x) all line.0 line.1 in
          subst (IsOrigination count) line.2 (own_fits x at_router line.0 (is_announced cs all all_are line.0 found.0) (eqb-true line.0.at x found.1)));
      own_order = own_ascend x;
      sessions = AllByRecursion-from_IsIn (IsSession count) (map (session_of net hops x) (neighbours net x)) (λ b at.
          let found = IsIn-map_parts (session_of net hops x) (neighbours net x) b at in
          subst (IsSession count) found.2 (session_kept x found.0 at_router (neighbour_known net x found.0 found.1)));
      names = subst (IsDistinct bytes_eq) (sym (map-map (λ (s : Session). s.name) (session_of net hops x) (neighbours net x)))
          (IsDistinct-sorted_keys bytes_eq (name_of net) total (neighbours net x) (sorted_neighbours net x)
          (AllByRecursion-from_IsIn (λ z. z < total) (neighbours net x) (neighbour_known net x)) names_apart);
    }

    -- ---- all blocks

    each_router : (r : RouterConfig) → IsIn (routers_of net hops all) r → IsRouter count r
    each_router r at =
        let found = IsIn-map_parts (router_of net hops all) (numbers_below routers) r at in
        let got = number_got routers found.1.0 found.0 found.1.1 in
        subst (IsRouter count) found.2 (router_kept found.0 (omega (arith, got.0, got.1)))

    pub config_kept : (classes : List (List PlainPattern)) → length classes ≡ count → count < 2 ^ 32 → AllByRecursion (λ (ps : List PlainPattern). ps ≢ []) classes
        → IsConfig (record { classes = classes; routers = routers_of net hops all })
    config_kept classes long low patterns = record {
      count = omega (arith, long, low);
      patterns = patterns;
      routers = subst (λ n. AllByRecursion (IsRouter n) (routers_of net hops all)) (sym long) (AllByRecursion-from_IsIn (IsRouter count) (routers_of net hops all) each_router);
      names = subst (IsDistinct bytes_eq) (sym (map-map (λ (r : RouterConfig). r.name) (router_of net hops all) (numbers_below routers)))
          (IsDistinct-sorted_keys bytes_eq (name_of net) routers (numbers_below routers) (sorted_numbers routers) (numbers-below routers)
          (λ a b less within. names_apart a b less (omega (arith, within))));
      asns = subst (IsDistinct nat_eq) (sym (map-map (λ (r : RouterConfig). r.asn) (router_of net hops all) (numbers_below routers)))
          (IsDistinct-sorted_keys nat_eq (asn_of net) routers (numbers_below routers) (sorted_numbers routers) (numbers-below routers)
          (λ a b less within. apart_sites net nat_eq (λ (s : Site). s.asn) 0 rules.asns a b less (omega (arith, within))));
      ids = subst (IsDistinct nat_eq) (sym (map-map (λ (r : RouterConfig). r.id) (router_of net hops all) (numbers_below routers)))
          (IsDistinct-sorted_keys nat_eq (id_of net) routers (numbers_below routers) (sorted_numbers routers) (numbers-below routers)
          (λ a b less within. apart_sites net nat_eq (λ (s : Site). s.id) 0 rules.ids a b less (omega (arith, within))));
    }
