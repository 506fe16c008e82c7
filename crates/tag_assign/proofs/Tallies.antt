-- Counters and tags after one more node.
use Rattle.std.proofs.Common.{◌≡◌, ℕ, ◌+◌, ◌<◌, ◌≤◌, ◌^◌, true, cond, List, [], ◌∷◌, ◌++◌, length, refl, sym, ap, ◌∙◌, subst, arith, append_assoc, append-nil, length-set}
use Rattle.std.proofs.Common.{get_or, get_or-set_same, get_or-set_other, inl, inr, take}
use Rattle.std.specs.Prelude.{◌==◌, if◌then◌else◌, slice_index, slice_set}
use Rattle.std.proofs.lemmas.Bool.{cases_Bool, cases_eq, eq-eqb, ltb-true, ltb-false, ne_eqb}
use Rattle.std.proofs.lemmas.Grind.{flat_map-append}
use Rattle.std.proofs.lemmas.List.Folds.{length-flat_map-take}
use Rattle.std.proofs.lemmas.List.Sums.{sum_by_push, count_by-le-length}
use Rattle.net_base.specs.declared.numbers.Tag.{Tag}
use Rattle.net_base.specs.Network.{PlainNet, is_router}
use Rattle.graph_base.specs.declared.graph.Node.{Node}
use Rattle.graph_base.specs.Graphs.{PlainGraph}
use Rattle.tag_assign.specs.Counts.{HasCounts, HaveRoom}
use Rattle.tag_assign.specs.Tagging.{count_at, tag_for, tags_after, graph_tags_after, tags_of, all_nodes}

count-push : (r : ℕ) (nodes : List Node) (node : Node) → count_at r (nodes ++ node ∷ []) ≡ count_at r nodes + cond (node.loc == r) 1 0
count-push r nodes node = sum_by_push (λ (n : Node). cond (n.loc == r) 1 0) nodes node

count-here : (nodes : List Node) (node : Node) → count_at node.loc (nodes ++ node ∷ []) ≡ count_at node.loc nodes + 1
count-here nodes node = count-push node.loc nodes node ∙ ap (λ b. count_at node.loc nodes + cond b 1 0) (eq-eqb node.loc node.loc refl)

count-elsewhere : (r : ℕ) (nodes : List Node) (node : Node) → (node.loc ≡ r → ⊥) → count_at r (nodes ++ node ∷ []) ≡ count_at r nodes
count-elsewhere r nodes node other = omega (arith, count-push r nodes node ∙ ap (λ b. count_at r nodes + cond b 1 0) (ne_eqb node.loc r other))

-- the counters after one more node
counts-next : (net : PlainNet) (counts : List ℕ) (nodes : List Node) (node : Node) → length counts ≡ length net.routers → HasCounts counts nodes
    → HasCounts (if is_router net node.loc then slice_set counts node.loc (slice_index counts node.loc + 1) else counts) (nodes ++ node ∷ [])
counts-next net counts nodes node same has = elim (cases_Bool (is_router net node.loc)) [
  | inl t ↦ rw t (at_router (ltb-true _ _ t))
  | inr t ↦ rw t (elsewhere (ltb-false _ _ t))
]
  where
    at_router : node.loc < length net.routers → HasCounts (slice_set counts node.loc (slice_index counts node.loc + 1)) (nodes ++ node ∷ [])
    at_router here r within =
        let long = length-set counts node.loc (slice_index counts node.loc + 1) in
        let inside : node.loc < length counts = omega arith in
        elim (cases_eq r node.loc) [
          | inl t ↦
              let old = has node.loc inside in
              let now = get_or-set_same counts node.loc (slice_index counts node.loc + 1) 0 inside in
              subst (λ (l : ℕ). slice_index (slice_set counts node.loc (slice_index counts node.loc + 1)) l ≡ count_at l (nodes ++ node ∷ [])) (sym t)
              (now ∙ ap (λ n. n + 1) old ∙ sym (count-here nodes node))
          | inr t ↦
              let other = get_or-set_other counts node.loc r (slice_index counts node.loc + 1) 0 t in
              other ∙ has r (omega arith) ∙ sym (count-elsewhere r nodes node (λ e. t (sym e)))
        ]

    elsewhere : length net.routers ≤ node.loc → HasCounts counts (nodes ++ node ∷ [])
    elsewhere past r within = has r within ∙ sym (count-elsewhere r nodes node (λ e. absurd (omega arith)))

-- and their room
room-next : (net : PlainNet) (counts : List ℕ) (at left : ℕ) → length counts ≡ length net.routers → HaveRoom counts (left + 1)
    → HaveRoom (if is_router net at then slice_set counts at (slice_index counts at + 1) else counts) left
room-next net counts at left same has = elim (cases_Bool (is_router net at)) [
  | inl t ↦ rw t (at_router (ltb-true _ _ t))
  | inr t ↦ rw t (λ r within. omega (arith, has r within))
]
  where
    at_router : at < length net.routers → HaveRoom (slice_set counts at (slice_index counts at + 1)) left
    at_router here r within =
        let long = length-set counts at (slice_index counts at + 1) in
        let inside : at < length counts = omega arith in
        elim (cases_eq r at) [
          | inl t ↦
              let now = get_or-set_same counts at (slice_index counts at + 1) 0 inside in
              subst (λ (l : ℕ). slice_index (slice_set counts at (slice_index counts at + 1)) l + left < 2 ^ 32) (sym t) (omega (arith, now, has at inside))
          | inr t ↦
              let other = get_or-set_other counts at r (slice_index counts at + 1) 0 t in
              omega (arith, other, has r (omega arith))
        ]

-- the tags after one more node
tags-next : (net : PlainNet) (before nodes : List Node) (node : Node)
    → tags_after net before (nodes ++ node ∷ []) ≡ tags_after net before nodes ++ tag_for net node.loc (count_at node.loc (before ++ nodes) + 1) ∷ []
tags-next net before [] node = ap (λ (ns : List Node). tag_for net node.loc (count_at node.loc ns + 1) ∷ []) (sym (append-nil before))
tags-next net before (n ∷ nodes) node =
    let rest = tags-next net (before ++ n ∷ []) nodes node in
    let joined = append_assoc before (n ∷ []) nodes in
    ap (λ (ts : List Tag). tag_for net n.loc (count_at n.loc before + 1) ∷ ts)
    (rest ∙ ap (λ (ns : List Node). tags_after net (before ++ n ∷ []) nodes ++ tag_for net node.loc (count_at node.loc ns + 1) ∷ []) joined)

-- ---- a turn of the loop

module _ (net : PlainNet) (counts after : List ℕ) (node : Node) (same : length counts ≡ length net.routers)
    (is : after ≡ (if is_router net node.loc then slice_set counts node.loc (slice_index counts node.loc + 1) else counts)) where
  pub room-step : (left : ℕ) → HaveRoom counts (left + 1) → HaveRoom after left
  room-step left room = subst (λ (cs : List ℕ). HaveRoom cs left) (sym is) (room-next net counts node.loc left same room)

  module _ (before nodes more : List Node) (is_more : more ≡ nodes ++ node ∷ []) (has : HasCounts counts (before ++ nodes)) where
    joined : before ++ more ≡ (before ++ nodes) ++ node ∷ []
    joined = ap (λ (ns : List Node). before ++ ns) is_more ∙ sym (append_assoc before nodes (node ∷ []))

    pub counts-step : HasCounts after (before ++ more)
    counts-step =
        subst (λ (ns : List Node). HasCounts after ns) (sym joined)
        (subst (λ (cs : List ℕ). HasCounts cs ((before ++ nodes) ++ node ∷ [])) (sym is) (counts-next net counts (before ++ nodes) node same has))

    number : is_router net node.loc ≡ true → slice_index counts node.loc + 1 ≡ count_at node.loc (before ++ nodes) + 1
    number router = ap (λ n. n + 1) (has node.loc (omega (arith, ltb-true _ _ router)))

    pub tags-step : (tags : List Tag) (tag : Tag) → tags ≡ tags_after net before nodes → tag ≡ tag_for net node.loc (slice_index counts node.loc + 1) → tags ++ tag ∷ [] ≡ tags_after net before more
    tags-step tags tag old new = elim (cases_Bool (is_router net node.loc)) [
      | inl t ↦ finish (new ∙ ap (tag_for net node.loc) (number t))
      | inr t ↦ finish (new ∙ (rw t refl))
    ]
      where
        finish : tag ≡ tag_for net node.loc (count_at node.loc (before ++ nodes) + 1) → tags ++ tag ∷ [] ≡ tags_after net before more
        finish e = rw (old, e) (sym (tags-next net before nodes node) ∙ ap (tags_after net before) (sym is_more))

-- ---- whole graphs

pub nodes-snoc : (graphs more : List PlainGraph) (g : PlainGraph) → more ≡ graphs ++ g ∷ [] → all_nodes more ≡ all_nodes graphs ++ g.nodes
nodes-snoc graphs more g is =
    ap all_nodes is ∙ flat_map-append (λ (h : PlainGraph). h.nodes) graphs (g ∷ []) ∙ ap (λ (ns : List Node). all_nodes graphs ++ ns) (append-nil g.nodes)

graph_tags-snoc : (net : PlainNet) (before : List Node) (graphs : List PlainGraph) (g : PlainGraph)
    → graph_tags_after net before (graphs ++ g ∷ []) ≡ graph_tags_after net before graphs ++ tags_after net (before ++ all_nodes graphs) g.nodes ∷ []
graph_tags-snoc net before [] g = ap (λ (ns : List Node). tags_after net ns g.nodes ∷ []) (sym (append-nil before))
graph_tags-snoc net before (h ∷ graphs) g =
    ap (λ (ts : List (List Tag)). tags_after net before h.nodes ∷ ts)
    (graph_tags-snoc net (before ++ h.nodes) graphs g
    ∙ ap (λ (ns : List Node). graph_tags_after net (before ++ h.nodes) graphs ++ tags_after net ns g.nodes ∷ []) (append_assoc before h.nodes (all_nodes graphs)))

pub graph_tags-step : (net : PlainNet) (graphs more : List PlainGraph) (g : PlainGraph) (tags : List (List Tag)) (new : List Tag) → more ≡ graphs ++ g ∷ []
    → tags ≡ tags_of net graphs → new ≡ tags_after net (all_nodes graphs) g.nodes → tags ++ new ∷ [] ≡ tags_of net more
graph_tags-step net graphs more g tags new is old e = rw (old, e) (sym (graph_tags-snoc net [] graphs g) ∙ ap (tags_of net) (sym is))

-- the nodes so far and those of the next graph are within all
pub room-graphs : (counts : List ℕ) (graphs : List PlainGraph) (i : ℕ) (g : PlainGraph) → i < length graphs → g ≡ get_or graphs i g
    → HasCounts counts (all_nodes (take i graphs)) → length (all_nodes graphs) < 2 ^ 32
    → HaveRoom counts (length g.nodes)
room-graphs counts graphs i g within at has few r inside =
    let here = ap (λ (h : PlainGraph). length h.nodes) at in
    omega (arith, here, has r inside, count_by-le-length (λ (n : Node). n.loc == r) (all_nodes (take i graphs)), length-flat_map-take (λ (h : PlainGraph). h.nodes) graphs i g within, few)
