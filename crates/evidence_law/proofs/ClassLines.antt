-- The lines of a class say what the steps of its graph say.
use Rattle.std.proofs.Common.{◌≡◌, ℕ, suc, Bool, true, false, List, [], Option, Some, refl, sym, ap, ◌∙◌, inl, inr, subst}
use Rattle.std.specs.Prelude.{◌↔◌, ◌||◌, ◌==◌, option_map, slice_get, if◌then◌else◌}
use Rattle.std.proofs.lemmas.Bool.{and_parts, and_from, or_cases, or_left, eqb-true, eq-eqb, true≢false}
use Rattle.std.proofs.lemmas.Map.Keys.{any_passes_from_place}
use Rattle.net_base.specs.declared.numbers.Tag.{Tag}
use Rattle.net_base.specs.Network.{PlainNet, IsNet, is_location, is_peer, is_router, linked}
use Rattle.net_base.specs.Numbers.{no_tag}
use Rattle.net_base.specs.Prefixes.{PlainPrefix, same_prefix}
use Rattle.policy_base.specs.Policies.{PlainPolicy}
use Rattle.graph_base.specs.Graphs.{IsGraph}
use Rattle.graph_base.specs.Runs.{place_of, is_start, has_step, start_at, step_at}
use Rattle.graph_base.specs.Rules.{IsWellFormed}
use Rattle.config_base.specs.declared.config.Session.{Session}
use Rattle.config_base.specs.declared.config.Import.{Import}
use Rattle.config_base.specs.declared.config.Export.{Export}
use Rattle.config_base.specs.declared.config.Origination.{Origination}
use Rattle.config_base.specs.Configs.{PlainConfig}
use Rattle.config_base.specs.Lines.{class_of, same_tag, block_at, export_of, import_of}
use Rattle.evidence_base.specs.Made.{PlainCaseEvidence, IsStep, IsExportTo, IsImportFrom, IsOriginationAt, IsConfigOf, AreTags, case_at, tag_at, number_at}
use Rattle.list_law.specs.Members.{IsIn}
use Rattle.list_law.proofs.Tests.{find_from, find_parts, list_any_parts}
use Rattle.list_law.proofs.Options.{is_some_parts, option_and_then_parts, option_map_parts}
use Rattle.evidence_law.proofs.Setting.{network_of, graph_of, lines_of, pair_of, tag_of, gift_of}
use Rattle.net_base.proofs.Links.{linked_flips, linked_known}
use Rattle.net_base.proofs.RoutersAndPeers.{router_no_peer}
use Rattle.evidence_law.proofs.GraphForms.{well_formed}
use Rattle.evidence_law.proofs.GraphRanks.{peer_of}
use Rattle.evidence_law.proofs.Blocks.{router_found, block_found, block_only}
use Rattle.evidence_law.proofs.Spelled.{exports_tag, imports_tag, names_prefix, is_exported, was_exported, gift, import_some, imported_by, own_by}
use Rattle.routing_law.specs.Spells as law
use Rattle.routing_law.specs.Lines as line
use Rattle.graph_base.proofs.StartsAndSteps.{step_nodes, start_at-is, step_at-is}
use Rattle.graph_base.proofs.WellFormed.{heard_at_peers, linked_parts, start_at-of, step_at-of}
use Rattle.config_base.proofs.SameTags.{same_tag-is, is-same_tag}

module _ (net : PlainNet) (policy : PlainPolicy) (cs : List PlainCaseEvidence) (config : PlainConfig) (p : PlainPrefix) (rules : IsNet net)
    (made : IsConfigOf net policy cs config) (tags : AreTags net cs)
    (k : ℕ) (c : PlainCaseEvidence) (of_case : slice_get cs k ≡ Some c) (of_class : class_of config p ≡ Some (suc k)) (graph_rules : IsGraph c.graph)
    (origin : ℕ → Bool) (external : Bool) (formed : IsWellFormed net origin external c.graph) where
  abbrev Over : ℕ → ℕ → ℕ → ℕ → Type 0
  Over u v n m = law.StepOver (graph_of c.graph (number_at c)) u v n m

  -- a step of a class with this number is one of this case
  of_this : (class x z n m : ℕ) (d : PlainCaseEvidence) → class ≡ suc k → IsStep cs class x z d n m → d ≡ c
  of_this class x z n m d same step =
      let there : Some d ≡ Some c = sym step.at_class ∙ ap (case_at cs) same ∙ of_case in cc

  over_of : (class u v n m : ℕ) (d : PlainCaseEvidence) → class ≡ suc k → IsStep cs class u v d n m → Over u v n m
  over_of class u v n m d same step =
      let is = of_this class u v n m d same step in
      let has : has_step c.graph n m ≡ true = subst (λ (e : PlainCaseEvidence). has_step e.graph n m ≡ true) is step.step in
      let from : place_of c.graph n ≡ u = subst (λ (e : PlainCaseEvidence). place_of e.graph n ≡ u) is step.from in
      let to : place_of c.graph m ≡ v = subst (λ (e : PlainCaseEvidence). place_of e.graph m ≡ v) is step.to in
      record { node = (step_nodes c.graph n m graph_rules has).0; place = from; step = ap (step_at c.graph n) (sym to) ∙ step_at-of net origin external c.graph formed n m has }

  -- a step over a link
  link_of : (u v n m : ℕ) → Over u v n m → (linked net u v ≡ true) × IsStep cs (suc k) u v c n m
  link_of u v n m over =
      let is = step_at-is c.graph n v m over.step in
      let link = (linked_parts net c.graph n m (formed.links n m is.0)).0 in
      let one : linked net u (place_of c.graph m) ≡ true = subst (λ l. linked net l (place_of c.graph m) ≡ true) over.place link in
      (subst (λ l. linked net u l ≡ true) is.1 one, record { at_class = of_case; step = is.0; from = over.place; to = is.1 })

  one_next : (n v m l : ℕ) → step_at c.graph n v ≡ Some m → step_at c.graph n v ≡ Some l → l ≡ m
  one_next n v m l a b = let same : Some l ≡ Some m = sym b ∙ a in cc

  -- ---- exports

  pub exports : (u v n m : ℕ) → is_router net u ≡ true → Over u v n m → (lines_of net config p (suc k)).exported u v (pair_of (tag_at c n)) ≡ true
  exports u v n m router over =
      let step = link_of u v n m over in
      let b = block_found net policy cs config rules made u v router step.0 in
      let e : Export = record { class = suc k; tag = tag_at c n } in
      let line : IsExportTo net cs u v e =
      record {
        case = c;
        node = n;
        next = m;
        step = step.1;
        heard = λ peer. heard_at_peers net origin external c.graph graph_rules formed n m step.1.step
            (ap (is_peer net) step.1.to ∙ peer);
        tag = refl;
      } in
      let there = (b.2.exports e).1 line in
      let test = and_from (suc k == suc k) (same_tag (tag_at c n) (tag_at c n)) (eq-eqb (suc k) (suc k) refl) (is-same_tag (tag_at c n) (tag_at c n) refl) in
      is_exported net config (suc k) u v b.0 b.1 (tag_at c n) (any_passes_from_place (exports_tag (suc k) (tag_at c n)) b.0.exports there.0 e there.1 test)

  pub exports_only : (u v : ℕ) (t : line.Tag) → is_router net u ≡ true → (lines_of net config p (suc k)).exported u v t ≡ true → (n m : ℕ) × Over u v n m × (pair_of (tag_at c n) ≡ t)
  exports_only u v t router h =
      let y = is_some_parts (export_of net config (suc k) u v (tag_of t)) h in
      let b = option_and_then_parts _ (block_at net config u v) y.0 y.1 in
      let block = block_only net policy cs config rules made u v b.0 router b.1 in
      let e = list_any_parts (exports_tag (suc k) (tag_of t)) b.0.exports (was_exported net config (suc k) u v b.0 b.1 (tag_of t) h) in
      let parts = and_parts (e.1.class == suc k) (same_tag e.1.tag (tag_of t)) e.3 in
      let line = (block.1.exports e.1).0 (e.0, e.2) in
      let class = eqb-true e.1.class (suc k) parts.0 in
      let is = of_this e.1.class u v line.node line.next line.case class line.step in
      let same : tag_at c line.node ≡ tag_of t = sym (line.tag ∙ ap (λ (d : PlainCaseEvidence). tag_at d line.node) is) ∙ same_tag-is e.1.tag (tag_of t) parts.1 in
      (line.node, line.next, over_of e.1.class u v line.node line.next line.case class line.step, ap pair_of same)

  -- ---- imports

  -- the import of a step, by its parts
  import_made : (u v n m : ℕ) (b : Session) (rule : Import) → ((r : Import) → IsIn b.imports r ↔ IsImportFrom net cs u v r) → IsIn b.imports rule → rule.class ≡ suc k
      → (a l : ℕ) × Over u v a l × (rule.tag ≡ (if is_peer net u then no_tag else tag_at c a)) × (gift rule ≡ (tag_at c l, number_at c l))
  import_made u v n m b rule each there class =
      let line = (each rule).0 there in
      let is = of_this rule.class u v line.node line.next line.case class line.step in
      let tag : rule.tag ≡ (if is_peer net u then no_tag else tag_at c line.node) = line.tag ∙ ap (λ (d : PlainCaseEvidence). if is_peer net u then no_tag else tag_at d line.node) is in
      let set : rule.set ≡ tag_at c line.next = line.set ∙ ap (λ (d : PlainCaseEvidence). tag_at d line.next) is in
      let pref : rule.pref ≡ number_at c line.next = line.pref ∙ ap (λ (d : PlainCaseEvidence). number_at d line.next) is in
      (line.node, line.next, over_of rule.class u v line.node line.next line.case class line.step, tag, λ i. (set i, pref i))

  -- the first import that a step's tag meets, and the step that it's made of
  import_found : (u v n m : ℕ) (tag : Tag) → is_router net v ≡ true → Over u v n m → (is_peer net u || same_tag (if is_peer net u then no_tag else tag_at c n) tag) ≡ true
      → (a l : ℕ) × Over u v a l × ((is_peer net u || same_tag (if is_peer net u then no_tag else tag_at c a) tag) ≡ true)
      × (import_of net config (suc k) v u [] tag ≡ Some (tag_at c l, number_at c l))
  import_found u v n m tag router over meets =
      let step = link_of u v n m over in
      let b = block_found net policy cs config rules made v u router (linked_flips net v u ∙ step.0) in
      let rule : Import = record { class = suc k; tag = if is_peer net u then no_tag else tag_at c n; set = tag_at c m; pref = number_at c m } in
      let line : IsImportFrom net cs u v rule = record { case = c; node = n; next = m; step = step.1; tag = refl; set = refl; pref = refl } in
      let there = (b.2.imports rule).1 line in
      let test = and_from (suc k == suc k) (is_peer net u || same_tag rule.tag tag) (eq-eqb (suc k) (suc k) refl) meets in
      let found = find_from (imports_tag net u (suc k) tag) b.0.imports there.0 rule there.1 test in
      let back = find_parts (imports_tag net u (suc k) tag) b.0.imports found.0 found.1 in
      let parts = and_parts (found.0.class == suc k) (is_peer net u || same_tag found.0.tag tag) back.2 in
      let by = import_made u v n m b.0 found.0 b.2.imports (back.0, back.1) (eqb-true found.0.class (suc k) parts.0) in
      let met = subst (λ (t : Tag). (is_peer net u || same_tag t tag) ≡ true) by.3 parts.1 in
      (by.0, by.1, by.2, met, import_some net config (suc k) v u tag b.0 found.0 b.1 found.1 ∙ ap Some by.4)

  -- at a router the tag tells the node
  tag_tells : (u v n m a l : ℕ) → is_router net u ≡ true → Over u v n m → Over u v a l → same_tag (tag_at c a) (tag_at c n) ≡ true → a ≡ n
  tag_tells u v n m a l router one other same =
      let off : is_peer net (place_of c.graph a) ≡ false = ap (is_peer net) other.place ∙ router_no_peer net u router in
      (tags.differ k k a n c c of_case of_case other.node one.node off (other.place ∙ sym one.place) (same_tag-is (tag_at c a) (tag_at c n) same)).1

  -- there is one start at a peer
  peer_tells : (u v n m a l : ℕ) → is_router net u ≡ false → Over u v n m → Over u v a l → a ≡ n
  peer_tells u v n m a l off one other =
      let first = start_at-of net origin external c.graph formed n (starts u v n m off one) in
      let second = start_at-of net origin external c.graph formed a (starts u v a l off other) in
      let same : Some a ≡ Some n = sym second ∙ ap (start_at c.graph) (other.place ∙ sym one.place) ∙ first in
      cc
    where
      starts : (u v n m : ℕ) → is_router net u ≡ false → Over u v n m → is_start c.graph n ≡ true
      starts u v n m off over =
          let is = step_at-is c.graph n v m over.step in
          elim (or_cases (is_start c.graph n) (is_router net (place_of c.graph n)) (formed.from n m is.0)) [
            | inl t ↦ t
            | inr t ↦ absurd (true≢false (sym t ∙ ap (is_router net) over.place ∙ off))
          ]

  untagged : (b : Bool) (t u v : Tag) → b ≡ false → (b || same_tag (if b then v else t) u) ≡ true → same_tag t u ≡ true
  untagged true t u v off h = absurd (true≢false off)
  untagged false t u v off h = h

  tagged : (b : Bool) (t v : Tag) → (b || same_tag (if b then v else t) t) ≡ true
  tagged true t v = refl
  tagged false t v = is-same_tag t t refl

  next_same : (n a v m l : ℕ) → a ≡ n → step_at c.graph n v ≡ Some m → step_at c.graph a v ≡ Some l → l ≡ m
  next_same n a v m l same here there = one_next n v m l here (ap (λ x. step_at c.graph x v) (sym same) ∙ there)

  given_pair : (o : Option (Tag × ℕ)) (l m : ℕ) → o ≡ Some (tag_at c l, number_at c l) → l ≡ m → option_map gift_of o ≡ Some (pair_of (tag_at c m), number_at c m)
  given_pair o l m h same = ap (option_map gift_of) h ∙ ap (λ x. Some (pair_of (tag_at c x), number_at c x)) same

  pub imports : (u v n m : ℕ) → is_router net u ≡ true → is_router net v ≡ true → Over u v n m
      → (lines_of net config p (suc k)).imported v u (pair_of (tag_at c n)) ≡ Some (pair_of (tag_at c m), number_at c m)
  imports u v n m from to over =
      let found = import_found u v n m (tag_at c n) to over (tagged (is_peer net u) (tag_at c n) no_tag) in
      let same = untagged (is_peer net u) (tag_at c found.0) (tag_at c n) no_tag (router_no_peer net u from) found.3 in
      let node = tag_tells u v n m found.0 found.1 from over found.2 same in
      given_pair (import_of net config (suc k) v u [] (tag_at c n)) found.1 m found.4 (next_same n found.0 v m found.1 node over.step found.2.step)

  pub peers : (u v n m : ℕ) → is_router net u ≡ false → is_router net v ≡ true → is_peer net u ≡ true → Over u v n m
      → (lines_of net config p (suc k)).from_peer v u ≡ Some (pair_of (tag_at c m), number_at c m)
  peers u v n m off to peer over =
      let found = import_found u v n m no_tag to over (or_left (is_peer net u) _ peer) in
      let node = peer_tells u v n m found.0 found.1 off over found.2 in
      given_pair (import_of net config (suc k) v u [] no_tag) found.1 m found.4 (next_same n found.0 v m found.1 node over.step found.2.step)

  -- and each import is that of a step
  import_only : (u v : ℕ) (tag : Tag) (q : Tag × ℕ) → is_router net v ≡ true → import_of net config (suc k) v u [] tag ≡ Some q
      → (n m : ℕ) × Over u v n m × ((is_peer net u || same_tag (if is_peer net u then no_tag else tag_at c n) tag) ≡ true) × (q ≡ (tag_at c m, number_at c m))
  import_only u v tag q to h =
      let by = imported_by net config (suc k) v u tag q h in
      let block = block_only net policy cs config rules made v u by.0 to by.2 in
      let back = find_parts (imports_tag net u (suc k) tag) by.0.imports by.1 by.3 in
      let parts = and_parts (by.1.class == suc k) (is_peer net u || same_tag by.1.tag tag) back.2 in
      let of_step = import_made u v 0 0 by.0 by.1 block.1.imports (back.0, back.1) (eqb-true by.1.class (suc k) parts.0) in
      let met = subst (λ (t : Tag). (is_peer net u || same_tag t tag) ≡ true) of_step.3 parts.1 in
      (of_step.0, of_step.1, of_step.2, met, sym by.4 ∙ of_step.4)

  -- ---- all lines

  peer_at : (u v n m : ℕ) → is_router net u ≡ false → Over u v n m → is_peer net u ≡ true
  peer_at u v n m off over = peer_of net u (linked_known net u v rules (link_of u v n m over).0).0 off

  -- the tag of an origin's own route is that of its start
  pub own_tags : (v s : ℕ) → is_router net v ≡ true → start_at c.graph v ≡ Some s → IsIn c.case.prefixes p → (lines_of net config p (suc k)).own v ≡ pair_of (tag_at c s)
  own_tags v s router start prefix =
      let is = start_at-is c.graph v s start in
      let r = router_found net policy cs config rules made v router in
      let o : Origination = record { class = suc k; prefix = p; tag = tag_at c s } in
      let line : IsOriginationAt cs v o = record { case = c; node = s; at_class = of_case; start = is.0; at = is.1; prefix = prefix; tag = refl } in
      let there = (r.2.own o).1 line in
      let test = and_from (suc k == suc k) (same_prefix p p) (eq-eqb (suc k) (suc k) refl) (and_from (p.bits == p.bits) (p.len == p.len) (eq-eqb _ _ refl) (eq-eqb _ _ refl)) in
      let found = find_from (names_prefix p (suc k)) r.0.own there.0 o there.1 test in
      let back = find_parts (names_prefix p (suc k)) r.0.own found.0 found.1 in
      let class = eqb-true found.0.class (suc k) (and_parts (found.0.class == suc k) (same_prefix found.0.prefix p) back.2).0 in
      let made_of = (r.2.own found.0).0 (back.0, back.1) in
      let same : Some made_of.case ≡ Some c = sym made_of.at_class ∙ ap (case_at cs) class ∙ of_case in
      let case_is : made_of.case ≡ c = cc in
      let node : start_at c.graph v ≡ Some made_of.node =
      one_start v made_of.node (subst (λ (d : PlainCaseEvidence). is_start d.graph made_of.node ≡ true) case_is made_of.start)
      (subst (λ (d : PlainCaseEvidence). place_of d.graph made_of.node ≡ v) case_is made_of.at) in
      let one : Some made_of.node ≡ Some s = sym node ∙ start in
      let node_is : made_of.node ≡ s = cc in
      let tag : found.0.tag ≡ tag_at c s = made_of.tag ∙ ap (λ (d : PlainCaseEvidence). tag_at d made_of.node) case_is ∙ ap (tag_at c) node_is in
      ap pair_of (own_by net config p (suc k) v r.0 found.0 of_class r.1 found.1 ∙ tag)
    where
      one_start : (v n : ℕ) → is_start c.graph n ≡ true → place_of c.graph n ≡ v → start_at c.graph v ≡ Some n
      one_start v n is at = ap (start_at c.graph) (sym at) ∙ start_at-of net origin external c.graph formed n is

  -- The lines of the class are those of the steps, where origins at routers announce the prefix by the case.
  pub spells : ((v : ℕ) → is_router net v ≡ true → origin v ≡ true → IsIn c.case.prefixes p)
      → law.Spells (network_of net origin) (graph_of c.graph (number_at c)) (λ n. pair_of (tag_at c n)) (lines_of net config p (suc k))
  spells announced = record {
    own = λ v s router start.
        let is = start_at-is c.graph v s start in
        let at : origin v ≡ true = subst (λ l. origin l ≡ true) is.1 (formed.starts s is.0) in
        own_tags v s router start (announced v router at);
    exports = λ u v n m router over. exports u v n m router over;
    exports_only = λ u v t router h. exports_only u v t router h;
    imports = λ u v n m from to over. imports u v n m from to over;
    imports_only = λ u v t q from to h.
        let q' = option_map_parts gift_of (import_of net config (suc k) v u [] (tag_of t)) q h in
        let by = import_only u v (tag_of t) q'.0 to q'.1 in
        let same = untagged (is_peer net u) (tag_at c by.0) (tag_of t) no_tag (router_no_peer net u from) by.3 in
        (by.0, by.1, by.2, ap pair_of (same_tag-is (tag_at c by.0) (tag_of t) same), sym q'.2 ∙ ap gift_of by.4);
    peers = λ u v n m off to over. peers u v n m off to (peer_at u v n m off over) over;
    peers_only = λ u v q off to h.
        let q' = option_map_parts gift_of (import_of net config (suc k) v u [] no_tag) q h in
        let by = import_only u v no_tag q'.0 to q'.1 in
        (by.0, by.1, by.2, sym q'.2 ∙ ap gift_of by.4);
  }

  pub written : ((v : ℕ) → is_router net v ≡ true → origin v ≡ true → IsIn c.case.prefixes p) → ((l : ℕ) → origin l ≡ true → is_location net l ≡ true)
      → law.Written (network_of net origin) (graph_of c.graph (number_at c)) (λ n. pair_of (tag_at c n)) (lines_of net config p (suc k))
  written announced known = record {
    formed = well_formed net origin external c.graph (number_at c) rules graph_rules known formed;
    tags = λ m n node other router place same.
        let off : is_peer net (place_of c.graph m) ≡ false = router_no_peer net (place_of c.graph m) router in
        let tag : tag_at c m ≡ tag_at c n = ap tag_of same in
        (tags.differ k k m n c c of_case of_case node other off place tag).1;
    lines = spells announced;
  }
