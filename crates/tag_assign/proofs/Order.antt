-- Of two nodes at one location the later one has the greater count.
use Rattle.std.proofs.Common.{◌≡◌, ℕ, zero, suc, ◌+◌, ◌<◌, ◌≤◌, ◌^◌, true, false, cond, List, [], ◌∷◌, ◌++◌, length, map, Option, Some, refl, sym, ap, ◌∙◌, subst, arith}
use Rattle.std.proofs.Common.{append_assoc, append-nil, inl, inr, take}
use Rattle.std.specs.Prelude.{◌==◌, ◌⊎◌, IsTrue, nat_le, option_map, unwrap_or, slice_get}
use Rattle.std.specs.List.{AllByRecursion}
use Rattle.std.specs.Option.{option_map_or}
use Rattle.std.proofs.lemmas.Bool.{cases_lt, cases_order, eq-eqb, ltb-true, leb-true, le-leb, le-ltb, lt-ltb, and_parts, and_from, true≢false}
use Rattle.std.proofs.lemmas.List.Sums.{sum_by-append, sum_by-cons, count_by-le-length}
use Rattle.std.proofs.lemmas.Option.{slice_get_cases}
use Rattle.net_base.specs.declared.net.Site.{Site}
use Rattle.net_base.specs.declared.numbers.Tag.{Tag}
use Rattle.net_base.specs.Numbers.{is_tag, no_tag, is_router_as}
use Rattle.net_base.proofs.NumberRanges.{tag-made}
use Rattle.net_base.specs.Network.{PlainNet, IsNet, is_router, is_peer, is_location, asn_of}
use Rattle.graph_base.specs.declared.graph.Node.{Node}
use Rattle.graph_base.specs.Graphs.{PlainGraph}
use Rattle.graph_base.specs.Runs.{place_of}
use Rattle.evidence_base.specs.Made.{PlainCaseEvidence, AreTags, tag_at}
use Rattle.tag_assign.specs.Tagging.{count_at, tag_for, tags_after, graph_tags_after, tags_of, all_nodes}
use Rattle.tag_assign.specs.Law.{graphs_of, AreAtLocations, TagsKeepTheirRule}

-- all nodes that stand before the n-th one of a case
abbrev nodes_of : List PlainCaseEvidence → List Node
nodes_of cs = all_nodes (graphs_of cs)

abbrev nodes_before : List PlainCaseEvidence → ℕ → PlainCaseEvidence → ℕ → List Node
nodes_before cs k c n = nodes_of (take k cs) ++ take n c.graph.nodes

joined : (l : ℕ) (front back : List Node) → count_at l (front ++ back) ≡ count_at l front + count_at l back
joined l front back = sum_by-append (λ (n : Node). cond (n.loc == l) 1 0) front back

-- ---- the tag of a node

tag_after-at : (net : PlainNet) (before nodes : List Node) (n : ℕ) (node : Node) → slice_get nodes n ≡ Some node
    → slice_get (tags_after net before nodes) n ≡ Some (tag_for net node.loc (count_at node.loc (before ++ take n nodes) + 1))
tag_after-at net before [] n node at = absurd cc
tag_after-at net before (m ∷ nodes) zero node at =
    let same : m ≡ node = cc in
    ap (λ (o : Node). Some (tag_for net o.loc (count_at o.loc before + 1))) same ∙ ap (λ (ns : List Node). Some (tag_for net node.loc (count_at node.loc ns + 1))) (sym (append-nil before))
tag_after-at net before (m ∷ nodes) (suc n) node at =
    tag_after-at net (before ++ m ∷ []) nodes n node at
    ∙ ap (λ (ns : List Node). Some (tag_for net node.loc (count_at node.loc ns + 1))) (append_assoc before (m ∷ []) (take n nodes))

case_tags : (net : PlainNet) (before : List Node) (cs : List PlainCaseEvidence) (k : ℕ) (c : PlainCaseEvidence)
    → map (λ (d : PlainCaseEvidence). d.tags) cs ≡ graph_tags_after net before (graphs_of cs) → slice_get cs k ≡ Some c → c.tags ≡ tags_after net (before ++ nodes_of (take k cs)) c.graph.nodes
case_tags net before [] k c are at = absurd cc
case_tags net before (d ∷ cs) zero c are at =
    let same : d ≡ c = cc in
    let first : d.tags ≡ tags_after net before d.graph.nodes = cc in
    subst (λ (e : PlainCaseEvidence). e.tags ≡ tags_after net (before ++ []) e.graph.nodes) same (first ∙ ap (λ (ns : List Node). tags_after net ns d.graph.nodes) (sym (append-nil before)))
case_tags net before (d ∷ cs) (suc k) c are at =
    let later : map (λ (e : PlainCaseEvidence). e.tags) cs ≡ graph_tags_after net (before ++ d.graph.nodes) (graphs_of cs) = cc in
    case_tags net (before ++ d.graph.nodes) cs k c later at
    ∙ ap (λ (ns : List Node). tags_after net ns c.graph.nodes) (append_assoc before d.graph.nodes (nodes_of (take k cs)))

node_at : (g : PlainGraph) (n : ℕ) → n < length g.nodes → (node : Node) × (slice_get g.nodes n ≡ Some node) × (place_of g n ≡ node.loc)
node_at g n within = elim (slice_get_cases g.nodes n).1 [
  | inl t ↦ (t.0, t.2, ap (λ (o : Option Node). unwrap_or (option_map (λ (x : Node). x.loc) o) 0) t.2)
  | inr t ↦ absurd (omega (arith, t.0))
]

-- ---- counts

counted-cons : (l : ℕ) (node : Node) (nodes : List Node) → count_at l (node ∷ nodes) ≡ cond (node.loc == l) 1 0 + count_at l nodes
counted-cons l node nodes = sum_by-cons (λ (n : Node). cond (n.loc == l) 1 0) node nodes

counted-here : (l : ℕ) (node : Node) (nodes : List Node) → (node.loc == l) ≡ true → count_at l (node ∷ nodes) ≡ 1 + count_at l nodes
counted-here l node nodes here = counted-cons l node nodes ∙ ap {B = ℕ} (λ b. cond b 1 0 + count_at l nodes) here

-- a node counts among those up to it
counted-take : (l : ℕ) (nodes : List Node) (m n : ℕ) (node : Node) → slice_get nodes m ≡ Some node → node.loc ≡ l → m < n → count_at l (take m nodes) + 1 ≤ count_at l (take n nodes)
counted-take l [] m n node at is less = absurd cc
counted-take l (x ∷ nodes) m zero node at is less = absurd (omega arith)
counted-take l (x ∷ nodes) zero (suc n) node at is less =
    let same : x ≡ node = cc in
    let here : (x.loc == l) ≡ true = eq-eqb x.loc l (ap (λ (o : Node). o.loc) same ∙ is) in
    omega (arith, counted-here l x (take n nodes) here)
counted-take l (x ∷ nodes) (suc m) (suc n) node at is less = omega (arith, counted-cons l x (take m nodes), counted-cons l x (take n nodes), counted-take l nodes m n node at is (omega arith))

counted-all : (l : ℕ) (nodes : List Node) (m : ℕ) (node : Node) → slice_get nodes m ≡ Some node → node.loc ≡ l → count_at l (take m nodes) + 1 ≤ count_at l nodes
counted-all l [] m node at is = absurd cc
counted-all l (x ∷ nodes) zero node at is =
    let same : x ≡ node = cc in
    let here : (x.loc == l) ≡ true = eq-eqb x.loc l (ap (λ (o : Node). o.loc) same ∙ is) in
    omega (arith, counted-here l x nodes here)
counted-all l (x ∷ nodes) (suc m) node at is = omega (arith, counted-cons l x (take m nodes), counted-cons l x nodes, counted-all l nodes m node at is)

-- the nodes of a case count among those of the cases up to it
counted-cases : (l : ℕ) (cs : List PlainCaseEvidence) (j k : ℕ) (c : PlainCaseEvidence) → slice_get cs j ≡ Some c → j < k
    → count_at l (nodes_of (take j cs)) + count_at l c.graph.nodes ≤ count_at l (nodes_of (take k cs))
counted-cases l [] j k c at less = absurd cc
counted-cases l (d ∷ cs) j zero c at less = absurd (omega arith)
counted-cases l (d ∷ cs) zero (suc k) c at less =
    let same : d ≡ c = cc in
    omega (arith, joined l d.graph.nodes (nodes_of (take k cs)), ap (λ (e : PlainCaseEvidence). count_at l e.graph.nodes) same)
counted-cases l (d ∷ cs) (suc j) (suc k) c at less =
    omega (arith, joined l d.graph.nodes (nodes_of (take j cs)), joined l d.graph.nodes (nodes_of (take k cs)), counted-cases l cs j k c at (omega arith))

counted-whole : (l : ℕ) (cs : List PlainCaseEvidence) (j : ℕ) (c : PlainCaseEvidence) → slice_get cs j ≡ Some c
    → count_at l (nodes_of (take j cs)) + count_at l c.graph.nodes ≤ count_at l (nodes_of cs)
counted-whole l [] j c at = absurd cc
counted-whole l (d ∷ cs) zero c at =
    let same : d ≡ c = cc in
    omega (arith, joined l d.graph.nodes (nodes_of cs), ap (λ (e : PlainCaseEvidence). count_at l e.graph.nodes) same)
counted-whole l (d ∷ cs) (suc j) c at = omega (arith, joined l d.graph.nodes (nodes_of (take j cs)), joined l d.graph.nodes (nodes_of cs), counted-whole l cs j c at)

-- ---- the law

-- the first items of joined lists keep what those of the first list keep
kept_at : (P : Site → Type 0) (xs ys : List Site) (i : ℕ) → AllByRecursion P xs → i < length xs → (s : Site) × (slice_get (xs ++ ys) i ≡ Some s) × P s
kept_at P [] ys i all within = absurd (omega arith)
kept_at P (x ∷ xs) ys zero all within = (x, refl, all.0)
kept_at P (x ∷ xs) ys (suc i) all within = kept_at P xs ys i all.1 (omega arith)

module _ (net : PlainNet) (cs : List PlainCaseEvidence) (rules : IsNet net) (placed : AreAtLocations net cs) (fewer : length (nodes_of cs) < 2 ^ 32)
    (are : map (λ (c : PlainCaseEvidence). c.tags) cs ≡ tags_of net (graphs_of cs)) where
  tag-is : (k n : ℕ) (c : PlainCaseEvidence) → slice_get cs k ≡ Some c → n < length c.graph.nodes
      → tag_at c n ≡ tag_for net (place_of c.graph n) (count_at (place_of c.graph n) (nodes_before cs k c n) + 1)
  tag-is k n c at within =
      let node = node_at c.graph n within in
      let tags = case_tags net [] cs k c are at in
      let here = tag_after-at net (nodes_of (take k cs)) c.graph.nodes n node.0 node.1 in
      ap (λ (ts : List Tag). unwrap_or (slice_get ts n) no_tag) tags
      ∙ ap (λ (o : Option Tag). unwrap_or o no_tag) here
      ∙ ap (λ (l : ℕ). tag_for net l (count_at l (nodes_before cs k c n) + 1)) (sym node.2)

  router_at : (k n : ℕ) (c : PlainCaseEvidence) → slice_get cs k ≡ Some c → n < length c.graph.nodes → is_peer net (place_of c.graph n) ≡ false → is_router net (place_of c.graph n) ≡ true
  router_at k n c at within no_peer = elim (cases_lt (place_of c.graph n) (length net.routers)) [
    | inl t ↦ lt-ltb _ _ t
    | inr t ↦ absurd (true≢false (sym (and_from _ _ (le-leb _ _ t) (placed k n c at within)) ∙ no_peer))
  ]

  router_tag : (k n : ℕ) (c : PlainCaseEvidence) → slice_get cs k ≡ Some c → n < length c.graph.nodes → is_peer net (place_of c.graph n) ≡ false
      → tag_at c n ≡ record { asn = asn_of net (place_of c.graph n); value = count_at (place_of c.graph n) (nodes_before cs k c n) + 1 }
  router_tag k n c at within no_peer = tag-is k n c at within ∙ (rw (router_at k n c at within no_peer) refl)

  few : (k n : ℕ) (c : PlainCaseEvidence) → slice_get cs k ≡ Some c → n < length c.graph.nodes → count_at (place_of c.graph n) (nodes_before cs k c n) + 1 < 2 ^ 32
  few k n c at within =
      let l = place_of c.graph n in
      let node = node_at c.graph n within in
      let all : count_at l (nodes_before cs k c n) + 1 ≤ count_at l (nodes_of cs)
      = omega (arith, joined l (nodes_of (take k cs)) (take n c.graph.nodes), counted-all l c.graph.nodes n node.0 node.1 (sym node.2), counted-whole l cs k c at) in
      omega (arith, all, count_by-le-length (λ (m : Node). m.loc == l) (nodes_of cs), fewer)

  asn_fits : (l : ℕ) → is_router net l ≡ true → is_router_as (asn_of net l) ≡ true
  asn_fits l router =
      let site = kept_at (λ (s : Site). IsTrue (is_router_as s.asn)) net.routers net.peers l rules.router_asns (ltb-true _ _ router) in
      ap (λ (o : Option Site). is_router_as (option_map_or (λ (s : Site). s.asn) o 0)) site.1 ∙ site.2

  -- an earlier node at a location has a lesser count
  lesser : (j k m n : ℕ) (c d : PlainCaseEvidence) → slice_get cs j ≡ Some c → slice_get cs k ≡ Some d → m < length c.graph.nodes → place_of c.graph m ≡ place_of d.graph n
      → (j < k) ⊎ ((j ≡ k) × (m < n)) → count_at (place_of d.graph n) (nodes_before cs j c m) + 1 ≤ count_at (place_of d.graph n) (nodes_before cs k d n)
  lesser j k m n c d at_j at_k within same before =
      let l = place_of d.graph n in
      let node = node_at c.graph m within in
      let here = sym node.2 ∙ same in
      let front = joined l (nodes_of (take j cs)) (take m c.graph.nodes) in
      let back = joined l (nodes_of (take k cs)) (take n d.graph.nodes) in
      elim before [
        | inl t ↦ omega (arith, front, back, counted-all l c.graph.nodes m node.0 node.1 here, counted-cases l cs j k c at_j t)
        | inr t ↦
            let one : Some c ≡ Some d = sym at_j ∙ ap (slice_get cs) t.0 ∙ at_k in
            let is : c ≡ d = cc in
            let more = counted-take l c.graph.nodes m n node.0 node.1 here t.1 in
            let more_d = subst (λ (e : PlainCaseEvidence). count_at l (take m c.graph.nodes) + 1 ≤ count_at l (take n e.graph.nodes)) is more in
            omega (arith, front, back, more_d, ap (λ (i : ℕ). count_at l (nodes_of (take i cs))) t.0)
      ]

  one_node : (j k m n : ℕ) (c d : PlainCaseEvidence) → slice_get cs j ≡ Some c → slice_get cs k ≡ Some d → m < length c.graph.nodes → n < length d.graph.nodes
      → place_of c.graph m ≡ place_of d.graph n → count_at (place_of d.graph n) (nodes_before cs j c m) ≡ count_at (place_of d.graph n) (nodes_before cs k d n) → (j ≡ k) × (m ≡ n)
  one_node j k m n c d at_j at_k within_m within_n same counts =
      let l = place_of d.graph n in
      let later : (k < j) ⊎ ((k ≡ j) × (n < m)) → ⊥ = λ h.
      let less = lesser k j n m d c at_k at_j within_n (sym same) h in
      let less_l = subst (λ (p : ℕ). count_at p (nodes_before cs k d n) + 1 ≤ count_at p (nodes_before cs j c m)) same less in
      omega (arith, less_l, counts) in
      let earlier : (j < k) ⊎ ((j ≡ k) × (m < n)) → ⊥ = λ h. omega (arith, lesser j k m n c d at_j at_k within_m same h, counts) in
      let cases : j ≡ k = elim (cases_order j k) [
        | inl t ↦ t
        | inr t ↦ elim t [ inl u ↦ absurd (earlier (inl u)) | inr u ↦ absurd (later (inl u)) ]
      ] in
      let nodes : m ≡ n = elim (cases_order m n) [
        | inl t ↦ t
        | inr t ↦ elim t [ inl u ↦ absurd (earlier (inr (cases, u))) | inr u ↦ absurd (later (inr (sym cases, u))) ]
      ] in
      (cases, nodes)

  pub are_tags : AreTags net cs
  are_tags = record {
    at_routers = λ k n c at within no_peer.
        let l = place_of c.graph n in
        let is = router_tag k n c at within no_peer in
        let value = count_at l (nodes_before cs k c n) + 1 in
        let fits = tag-made (record { asn = asn_of net l; value = value }) (asn_fits l (router_at k n c at within no_peer)) (omega arith) (few k n c at within) in
        (ap is_tag is ∙ fits, ap (λ (t : Tag). t.asn) is);
    at_peers = λ k n c at within peer.
        let past = and_parts (nat_le (length net.routers) (place_of c.graph n)) (is_location net (place_of c.graph n)) peer in
        let no_router : is_router net (place_of c.graph n) ≡ false = le-ltb _ _ (leb-true _ _ past.0) in
        tag-is k n c at within ∙ (rw no_router refl);
    differ = λ j k m n c d at_j at_k within_m within_n no_peer same tags.
        let no_peer_d = subst (λ (l : ℕ). is_peer net l ≡ false) same no_peer in
        let is_c = router_tag j m c at_j within_m no_peer in
        let is_d = router_tag k n d at_k within_n no_peer_d in
        let values : count_at (place_of c.graph m) (nodes_before cs j c m) + 1 ≡ count_at (place_of d.graph n) (nodes_before cs k d n) + 1 = ap (λ (t : Tag). t.value) (sym is_c ∙ tags ∙ is_d) in
        let moved = ap (λ (l : ℕ). count_at l (nodes_before cs j c m)) same in
        one_node j k m n c d at_j at_k within_m within_n same (omega (arith, values, moved));
  }

pub tagging : TagsKeepTheirRule
tagging net cs rules placed fewer are = are_tags net cs rules placed fewer are
