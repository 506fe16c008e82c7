-- The gathered steps and starts are those of the cases, and their lines are the lines of the blocks.
use Rattle.std.proofs.Common.{◌≡◌, ℕ, zero, suc, ◌+◌, ◌<◌, true, List, [], ◌∷◌, length, map, filter, Some, refl, sym, ap, ◌∙◌, subst, arith, inl, inr}
use Rattle.std.specs.Prelude.{◌↔◌, IsTrue, slice_get, if◌then◌else◌}
use Rattle.std.proofs.lemmas.Bool.{cases_Bool, and_from, eqb-true, eq-eqb}
use Rattle.net_base.specs.Numbers.{no_tag}
use Rattle.net_base.specs.Network.{PlainNet, is_peer}
use Rattle.net_base.specs.Prefixes.{PlainPrefix}
use Rattle.graph_base.specs.Graphs.{IsGraph}
use Rattle.graph_base.specs.Runs.{place_of, is_listener, is_start}
use Rattle.config_base.specs.declared.config.Import.{Import}
use Rattle.config_base.specs.declared.config.Export.{Export}
use Rattle.config_base.specs.declared.config.Origination.{Origination}
use Rattle.evidence_base.specs.Made.{PlainCaseEvidence, number_at, tag_at, case_at, IsStep, IsExportTo, IsImportFrom, IsOriginationAt, AreTags}
use Rattle.list_law.specs.Members.{IsIn}
use Rattle.list_law.proofs.Members.{AllByRecursion-IsIn, IsIn-append_cases, IsIn-append_left, IsIn-append_right, IsIn-filter, IsIn-filter_parts, IsIn-flat_map}
use Rattle.list_law.proofs.Members.{IsIn-flat_map_parts, IsIn-map, IsIn-map_parts}
use Rattle.config_maker.specs.declared.hop.Hop.{Hop}
use Rattle.config_maker.specs.declared.hop.Announced.{Announced}
use Rattle.config_maker.specs.Conditions.{IsSingle}
use Rattle.config_maker.specs.Hops.{tag_in, hop_of, hops_from, announced_of, announced_at, announced_by, announced_from, goes, stands}
use Rattle.config_maker.specs.Writing.{export_line, import_line, own_line}
use Rattle.graph_base.proofs.StartsAndSteps.{in_start, in_step, start_in, step_in}
use Rattle.config_maker.proofs.Runs.{goes_parts}

-- a class with a case is a number from 1
pub class_place : (cs : List PlainCaseEvidence) (class : ℕ) (c : PlainCaseEvidence) → case_at cs class ≡ Some c → (k : ℕ) × (class ≡ suc k) × (slice_get cs k ≡ Some c)
class_place cs zero c h = absurd cc
class_place cs (suc k) c h = (k, refl, h)

-- ---- hops

-- a hop is a step of the graph of its class
pub record IsHop (cs : List PlainCaseEvidence) (h : Hop) : Type 0 where
  pub case : PlainCaseEvidence
  pub node : ℕ
  pub next : ℕ
  pub step : IsStep cs h.class h.from h.to case node next
  pub tag : h.tag ≡ tag_at case node
  pub set : h.set ≡ tag_at case next
  pub pref : h.pref ≡ number_at case next

abbrev hop : ℕ → PlainCaseEvidence → ℕ × ℕ → Hop
hop class c s = hop_of class c.graph c.numbers c.tags s

hops_of_case : (k : ℕ) (cs : List PlainCaseEvidence) (h : Hop) → IsIn (hops_from k cs) h
    → (i : ℕ) × (c : PlainCaseEvidence) × (s : ℕ × ℕ) × (slice_get cs i ≡ Some c) × IsIn c.graph.steps s × (hop (k + i) c s ≡ h)
hops_of_case k [] h at = absurd (let gone : slice_get [] at.0 ≡ Some h = at.1 in cc)
hops_of_case k (c ∷ cs) h at = elim (IsIn-append_cases (map (hop k c) c.graph.steps) (hops_from (k + 1) cs) h at) [
  | inl t ↦
      let found = IsIn-map_parts (hop k c) c.graph.steps h t in
      let same : k + 0 ≡ k = omega arith in
      (0, c, found.0, refl, found.1, ap (λ class. hop class c found.0) same ∙ found.2)
  | inr t ↦
      let later = hops_of_case (k + 1) cs h t in
      let same : k + suc later.0 ≡ k + 1 + later.0 = omega arith in
      (suc later.0, later.1, later.2, later.3, later.4, ap (λ class. hop class later.1 later.2) same ∙ later.5)
]

hops_with_case : (k : ℕ) (cs : List PlainCaseEvidence) (i : ℕ) (c : PlainCaseEvidence) (s : ℕ × ℕ) → slice_get cs i ≡ Some c → IsIn c.graph.steps s → IsIn (hops_from k cs) (hop (k + i) c s)
hops_with_case k [] i c s at step = absurd cc
hops_with_case k (d ∷ cs) zero c s at step =
    let is : d ≡ c = cc in
    let same : k ≡ k + 0 = omega arith in
    let here = IsIn-map (hop k c) c.graph.steps s step in
    let there : IsIn (map (hop k d) d.graph.steps) (hop k c s) = subst (λ e. IsIn (map (hop k e) e.graph.steps) (hop k c s)) (sym is) here in
    subst (λ class. IsIn (hops_from k (d ∷ cs)) (hop class c s)) same (IsIn-append_left (map (hop k d) d.graph.steps) (hops_from (k + 1) cs) (hop k c s) there)
hops_with_case k (d ∷ cs) (suc i) c s at step =
    let same : k + 1 + i ≡ k + suc i = omega arith in
    let later = hops_with_case (k + 1) cs i c s at step in
    subst (λ class. IsIn (hops_from k (d ∷ cs)) (hop class c s)) same (IsIn-append_right (map (hop k d) d.graph.steps) (hops_from (k + 1) cs) (hop (k + 1 + i) c s) later)

pub hop_made : (cs : List PlainCaseEvidence) (h : Hop) → IsIn (hops_from 1 cs) h → IsHop cs h
hop_made cs h at =
    let found = hops_of_case 1 cs h at in
    let i = found.0 in
    let c = found.1 in
    let s = found.2 in
    let class : 1 + i ≡ suc i = omega arith in
    subst (IsHop cs) found.5
    (record {
      case = c;
      node = s.0;
      next = s.1;
      step = record { at_class = ap (case_at cs) class ∙ found.3; step = in_step c.graph s.0 s.1 found.4; from = refl; to = refl };
      tag = refl;
      set = refl;
      pref = refl;
    })

pub made_hop : (cs : List PlainCaseEvidence) (h : Hop) → IsHop cs h → IsIn (hops_from 1 cs) h
made_hop cs h is =
    let place = class_place cs h.class is.case is.step.at_class in
    let here = hops_with_case 1 cs place.0 is.case (is.node, is.next) place.2 (step_in is.case.graph is.node is.next is.step.step) in
    let class : 1 + place.0 ≡ h.class = omega (arith, place.1) in
    let same : hop (1 + place.0) is.case (is.node, is.next) ≡ h =
    λ i. record { from = is.step.from i; to = is.step.to i; class = class i; tag = sym is.tag i; set = sym is.set i; pref = sym is.pref i } in
    subst (IsIn (hops_from 1 cs)) same here

-- ---- what is announced

pub record IsAnnounced (cs : List PlainCaseEvidence) (a : Announced) : Type 0 where
  pub case : PlainCaseEvidence
  pub node : ℕ
  pub at_class : case_at cs a.class ≡ Some case
  pub start : IsTrue (is_start case.graph node)
  pub place : place_of case.graph node ≡ a.at
  pub prefix : IsIn case.case.prefixes a.prefix
  pub tag : a.tag ≡ tag_at case node

abbrev announced : ℕ → PlainCaseEvidence → ℕ → PlainPrefix → Announced
announced class c n p = announced_of class (place_of c.graph n) (tag_in c.tags n) p

abbrev all_of : ℕ → PlainCaseEvidence → List Announced
all_of k c = announced_by k c.case.prefixes c.graph c.tags

announced_of_case : (k : ℕ) (cs : List PlainCaseEvidence) (a : Announced) → IsIn (announced_from k cs) a
    → (i : ℕ) × (c : PlainCaseEvidence) × (n : ℕ) × (p : PlainPrefix) × (slice_get cs i ≡ Some c) × IsIn c.graph.starts n × IsIn c.case.prefixes p × (announced (k + i) c n p ≡ a)
announced_of_case k [] a at = absurd (let gone : slice_get [] at.0 ≡ Some a = at.1 in cc)
announced_of_case k (c ∷ cs) a at = elim (IsIn-append_cases (all_of k c) (announced_from (k + 1) cs) a at) [
  | inl t ↦
      let start = IsIn-flat_map_parts (announced_at k c.case.prefixes c.graph c.tags) c.graph.starts a t in
      let found = IsIn-map_parts (announced k c start.0) c.case.prefixes a start.2 in
      let same : k + 0 ≡ k = omega arith in
      (0, c, start.0, found.0, refl, start.1, found.1, ap (λ class. announced class c start.0 found.0) same ∙ found.2)
  | inr t ↦
      let later = announced_of_case (k + 1) cs a t in
      let same : k + suc later.0 ≡ k + 1 + later.0 = omega arith in
      (suc later.0, later.1, later.2, later.3, later.4, later.5, later.6, ap (λ class. announced class later.1 later.2 later.3) same ∙ later.7)
]

announced_with_case : (k : ℕ) (cs : List PlainCaseEvidence) (i : ℕ) (c : PlainCaseEvidence) (n : ℕ) (p : PlainPrefix) → slice_get cs i ≡ Some c → IsIn c.graph.starts n → IsIn c.case.prefixes p
    → IsIn (announced_from k cs) (announced (k + i) c n p)
announced_with_case k [] i c n p at start prefix = absurd cc
announced_with_case k (d ∷ cs) zero c n p at start prefix =
    let is : d ≡ c = cc in
    let same : k ≡ k + 0 = omega arith in
    let here : IsIn (all_of k c) (announced k c n p) =
    IsIn-flat_map (announced_at k c.case.prefixes c.graph c.tags) c.graph.starts n (announced k c n p) start (IsIn-map (announced k c n) c.case.prefixes p prefix) in
    let there : IsIn (all_of k d) (announced k c n p) = subst (λ e. IsIn (all_of k e) (announced k c n p)) (sym is) here in
    subst (λ class. IsIn (announced_from k (d ∷ cs)) (announced class c n p)) same (IsIn-append_left (all_of k d) (announced_from (k + 1) cs) (announced k c n p) there)
announced_with_case k (d ∷ cs) (suc i) c n p at start prefix =
    let same : k + 1 + i ≡ k + suc i = omega arith in
    let later = announced_with_case (k + 1) cs i c n p at start prefix in
    subst (λ class. IsIn (announced_from k (d ∷ cs)) (announced class c n p)) same (IsIn-append_right (all_of k d) (announced_from (k + 1) cs) (announced (k + 1 + i) c n p) later)

pub announced_made : (cs : List PlainCaseEvidence) (a : Announced) → IsIn (announced_from 1 cs) a → IsAnnounced cs a
announced_made cs a at =
    let found = announced_of_case 1 cs a at in
    let c = found.1 in
    let class : 1 + found.0 ≡ suc found.0 = omega arith in
    subst (IsAnnounced cs) found.7
    (record { case = c; node = found.2; at_class = ap (case_at cs) class ∙ found.4; start = in_start c.graph found.2 found.5; place = refl; prefix = found.6; tag = refl })

pub made_announced : (cs : List PlainCaseEvidence) (a : Announced) → IsAnnounced cs a → IsIn (announced_from 1 cs) a
made_announced cs a is =
    let place = class_place cs a.class is.case is.at_class in
    let here = announced_with_case 1 cs place.0 is.case is.node a.prefix place.2 (start_in is.case.graph is.node is.start) is.prefix in
    let class : 1 + place.0 ≡ a.class = omega (arith, place.1) in
    let same : announced (1 + place.0) is.case is.node a.prefix ≡ a = λ i. record { at = is.place i; class = class i; prefix = a.prefix; tag = sym is.tag i } in
    subst (IsIn (announced_from 1 cs)) same here

-- ---- lines

module _ (cs : List PlainCaseEvidence) (hops : List Hop) (are : (h : Hop) → IsIn hops h ↔ IsIn (hops_from 1 cs) h) where
  pub is_hop : (h : Hop) → IsIn hops h → IsHop cs h
  is_hop h at = hop_made cs h ((are h).0 at)

  hop_is : (h : Hop) → IsHop cs h → IsIn hops h
  hop_is h is = (are h).1 (made_hop cs h is)

  step_to : (x z : ℕ) (h : Hop) (is : IsHop cs h) → goes x z h ≡ true → IsStep cs h.class x z is.case is.node is.next
  step_to x z h is e = let parts = goes_parts x z h e in record { at_class = is.step.at_class; step = is.step.step; from = is.step.from ∙ parts.0; to = is.step.to ∙ parts.1 }

  there : (x z : ℕ) (h : Hop) → IsHop cs h → h.from ≡ x → h.to ≡ z → IsIn (filter (goes x z) hops) h
  there x z h is from to = IsIn-filter (goes x z) hops h (hop_is h is) (and_from _ _ (eq-eqb h.from x from) (eq-eqb h.to z to))

  module _ (net : PlainNet) (single : (k : ℕ) (c : PlainCaseEvidence) → slice_get cs k ≡ Some c → IsSingle net c.graph) where
    heard : (class x z n m : ℕ) (c : PlainCaseEvidence) → IsStep cs class x z c n m → is_peer net z ≡ true → is_listener c.graph m ≡ true
    heard class x z n m c step peer =
        let place = class_place cs class c step.at_class in
        (single place.0 c place.2).heard n m step.step (ap (is_peer net) step.to ∙ peer)

    pub exports_are : (x z : ℕ) (e : Export) → IsIn (map export_line (filter (goes x z) hops)) e ↔ IsExportTo net cs x z e
    exports_are x z e = (to, from)
      where
        to : IsIn (map export_line (filter (goes x z) hops)) e → IsExportTo net cs x z e
        to at =
            let line = IsIn-map_parts export_line (filter (goes x z) hops) e at in
            let found = IsIn-filter_parts (goes x z) hops line.0 line.1 in
            let is = is_hop line.0 found.0 in
            let step = step_to x z line.0 is found.1 in
            subst (IsExportTo net cs x z) line.2 (record { case = is.case; node = is.node; next = is.next; step = step; heard = heard line.0.class x z is.node is.next is.case step; tag = is.tag })

        from : IsExportTo net cs x z e → IsIn (map export_line (filter (goes x z) hops)) e
        from is =
            let h : Hop = record { from = x; to = z; class = e.class; tag = e.tag; set = tag_at is.case is.next; pref = number_at is.case is.next } in
            IsIn-map export_line (filter (goes x z) hops) h (there x z h (record { case = is.case; node = is.node; next = is.next; step = is.step; tag = is.tag; set = refl; pref = refl }) refl refl)

  module _ (net : PlainNet) (graphs : (k : ℕ) (c : PlainCaseEvidence) → slice_get cs k ≡ Some c → IsGraph c.graph) (tags : AreTags net cs) where
    -- what a peer sends has no tag, and so has its node
    bare : (class x z n m : ℕ) (c : PlainCaseEvidence) → IsStep cs class x z c n m → tag_at c n ≡ (if is_peer net x then no_tag else tag_at c n)
    bare class x z n m c step = elim (cases_Bool (is_peer net x)) [
      | inl t ↦
          let place = class_place cs class c step.at_class in
          let within = (AllByRecursion-IsIn (λ (s : ℕ × ℕ). (s.0 < length c.graph.nodes) × (s.1 < length c.graph.nodes)) c.graph.steps (n, m)
          (graphs place.0 c place.2).steps (step_in c.graph n m step.step)).0 in
          let none = tags.at_peers place.0 n c place.2 within (ap (is_peer net) step.from ∙ t) in
          rw t none
      | inr t ↦ rw t refl
    ]

    pub imports_are : (x z : ℕ) (rule : Import) → IsIn (map import_line (filter (goes z x) hops)) rule ↔ IsImportFrom net cs z x rule
    imports_are x z rule = (to, from)
      where
        to : IsIn (map import_line (filter (goes z x) hops)) rule → IsImportFrom net cs z x rule
        to at =
            let line = IsIn-map_parts import_line (filter (goes z x) hops) rule at in
            let found = IsIn-filter_parts (goes z x) hops line.0 line.1 in
            let is = is_hop line.0 found.0 in
            let step = step_to z x line.0 is found.1 in
            subst (IsImportFrom net cs z x) line.2
            (record { case = is.case; node = is.node; next = is.next; step = step; tag = is.tag ∙ bare line.0.class z x is.node is.next is.case step; set = is.set; pref = is.pref })

        from : IsImportFrom net cs z x rule → IsIn (map import_line (filter (goes z x) hops)) rule
        from is =
            let h : Hop = record { from = z; to = x; class = rule.class; tag = rule.tag; set = rule.set; pref = rule.pref } in
            let tag = is.tag ∙ sym (bare rule.class z x is.node is.next is.case is.step) in
            IsIn-map import_line (filter (goes z x) hops) h (there z x h (record { case = is.case; node = is.node; next = is.next; step = is.step; tag = tag; set = is.set; pref = is.pref }) refl refl)

module _ (cs : List PlainCaseEvidence) (all : List Announced) (are : (a : Announced) → IsIn all a ↔ IsIn (announced_from 1 cs) a) where
  pub is_announced : (a : Announced) → IsIn all a → IsAnnounced cs a
  is_announced a at = announced_made cs a ((are a).0 at)

  pub own_are : (x : ℕ) (o : Origination) → IsIn (map own_line (filter (stands x) all)) o ↔ IsOriginationAt cs x o
  own_are x o = (to, from)
    where
      to : IsIn (map own_line (filter (stands x) all)) o → IsOriginationAt cs x o
      to at =
          let line = IsIn-map_parts own_line (filter (stands x) all) o at in
          let found = IsIn-filter_parts (stands x) all line.0 line.1 in
          let is = is_announced line.0 found.0 in
          subst (IsOriginationAt cs x) line.2 (record {
            case = is.case;
            node = is.node;
            at_class = is.at_class;
            start = is.start;
            at = is.place ∙ eqb-true line.0.at x found.1;
            prefix = is.prefix;
            tag = is.tag;
          })

      from : IsOriginationAt cs x o → IsIn (map own_line (filter (stands x) all)) o
      from is =
          let a : Announced = record { at = x; class = o.class; prefix = o.prefix; tag = o.tag } in
          let here = made_announced cs a (record { case = is.case; node = is.node; at_class = is.at_class; start = is.start; place = is.at; prefix = is.prefix; tag = is.tag }) in
          IsIn-map own_line (filter (stands x) all) a (IsIn-filter (stands x) all a ((are a).1 here) (eq-eqb x x refl))
