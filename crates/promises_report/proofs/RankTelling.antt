-- The nodes of a case's graph tell which ranks the permitted walks of each source have.
use Rattle.std.proofs.Common.{◌≡◌, ℕ, ◌<◌, ◌==◌, Bool, true, false, List, [], ◌∷◌, length, Some, None, Option, refl, sym, ap, ◌∙◌}
use Rattle.std.specs.Prelude.{◌↔◌, ◌&&◌, IsTrue, not, option_and_then}
use Rattle.std.specs.List.{list_any}
use Rattle.std.proofs.lemmas.Bool.{and_parts, and_from, eq-eqb, eqb-true, not-true, not_from_false, or_left, or_parts}
use Rattle.list_law.proofs.Members.{list_any_member, list_any-from_IsIn}
use Rattle.list_law.proofs.Options.{is_some_from, is_some_parts, option_map_or_equal}
use Rattle.net_base.specs.Locations.{numbers_below}
use Rattle.net_base.specs.Network.{PlainNet, is_peer, is_router}
use Rattle.net_base.specs.Sets.{holds}
use Rattle.net_base.proofs.NumbersBelow.{In-numbers_below, below_from_In}
use Rattle.policy_base.specs.Meaning.{front, rank_of}
use Rattle.policy_base.specs.Permitted.{from_holds}
use Rattle.policy_base.specs.Policies.{PlainStatement}
use Rattle.graph_base.specs.Graphs.{PlainGraph}
use Rattle.graph_base.specs.Runs.{has_step, place_of, rank_at, run, step_at}
use Rattle.graph_base.proofs.Determined.{step_at-step}
use Rattle.graph_base.proofs.RunSteps.{last_step, run_begins, run_inside}
use Rattle.graph_base.proofs.StartsAndSteps.{in_step, step_in, step_nodes}
use Rattle.evidence_base.specs.Made.{PlainCaseEvidence}
use Rattle.evidence_law.specs.Faithful.{is_walk_to, may_start, permits}
use Rattle.evidence_law.specs.Passes.{IsCaseGraph}
use Rattle.evidence_law.proofs.PermittedWalks.{permits_parts}
use Rattle.graph_law.proofs.Claimed.{claimed_where_ranked, ranked_may, ranked_permits, run_from}
use Rattle.promises_report.specs.Claims.{HasWalk, is_site}
use Rattle.promises_report.specs.NodeRanks.{has_rank_in, is_rank, tells_router, tells_session}

-- where a permitted walk begins is no origin
pub begins_late : (net : PlainNet) (origin : ℕ → Bool) (s : PlainStatement) (l k : ℕ) (rest : List ℕ) → permits net origin s (l ∷ k ∷ rest) ≡ true → not (origin l) ≡ true
begins_late net origin s l k rest permitted =
    let walk = permits_parts net origin s (l ∷ k ∷ rest) permitted in
    let ends = and_parts _ (not (list_any origin (front (l ∷ k ∷ rest)))) walk.1 in
    not_from_false _ (or_parts (origin l) (list_any origin (front (k ∷ rest))) (not-true _ ends.1)).0

module _ (net : PlainNet) (s : PlainStatement) (d : PlainCaseEvidence) (on : IsCaseGraph net s d) where
  abbrev Origin : ℕ → Bool
  Origin = holds d.case.origins

  abbrev g : PlainGraph
  g = d.graph

  is_this : (q n : ℕ) → rank_at g q ≡ Some n → is_rank n (rank_at g q) ≡ true
  is_this q n rank = ap (is_rank n) rank ∙ eq-eqb n n refl

  -- a node with a rank is where a walk may start
  may_there : (l q n : ℕ) → q < length g.nodes → place_of g q ≡ l → rank_at g q ≡ Some n → may_start Origin s l ≡ true
  may_there l q n node at rank = ap (may_start Origin s) (sym at) ∙ ranked_may net s d.case g on.graph on.faithful q node (is_some_from (rank_at g q) n rank)

  router_has : (r n : ℕ) → is_router net r ≡ true → has_rank_in g r None n ≡ true → HasWalk net s d.case r None n
  router_has r n router h =
      let m = list_any_member (tells_router g r n) (numbers_below (length g.nodes)) h in
      let q = m.0 in
      let node : q < length g.nodes = below_from_In q (length g.nodes) m.1 in
      let parts = and_parts (place_of g q == r) (is_rank n (rank_at g q)) m.2 in
      let at : place_of g q ≡ r = eqb-true _ _ parts.0 in
      let rank : rank_at g q ≡ Some n = option_map_or_equal (rank_at g q) n parts.1 in
      let has = is_some_from (rank_at g q) n rank in
      let may = may_there r q n node at rank in
      let ended = on.faithful.is_ended q node in
      let from = run_from net s d.case g on.graph on.faithful r q ended.0 at may ended.2 in
      let permitted = ranked_permits net s d.case g on.graph on.faithful r q ended.0 at may ended.2 has in
      record {
        source = (claimed_where_ranked net s d.case g on.graph on.faithful r).0 (router, (q, (node, at, has)));
        rest = from.0;
        permitted = ap (permits net Origin s) (sym from.1) ∙ permitted;
        rank = ap (rank_of net s.ranked) (sym from.1) ∙ (from.3 ∙ rank);
      }

  session_has : (r peer n : ℕ) → (is_router net r && is_peer net peer) ≡ true → has_rank_in g r (Some peer) n ≡ true → HasWalk net s d.case r (Some peer) n
  session_has r peer n site h =
      let m = list_any_member (tells_session g r peer n) g.steps h in
      let t = m.0 in
      let last = and_parts (place_of g t.0 == r && place_of g t.1 == peer) (is_rank n (rank_at g t.1)) m.2 in
      let ends = and_parts (place_of g t.0 == r) (place_of g t.1 == peer) last.0 in
      let step : has_step g t.0 t.1 ≡ true = in_step g t.0 t.1 m.1 in
      let nodes = step_nodes g t.0 t.1 on.graph step in
      let ended = on.faithful.is_ended t.0 nodes.0 in
      by t.0 t.1 step nodes.1 (eqb-true _ _ ends.0) (eqb-true _ _ ends.1) (option_map_or_equal (rank_at g t.1) n last.1) ended.0 ended.2
    where
      by : (m q : ℕ) → has_step g m q ≡ true → q < length g.nodes → place_of g m ≡ r → place_of g q ≡ peer → rank_at g q ≡ Some n
          → (path : List ℕ) → run g path ≡ Some m → HasWalk net s d.case r (Some peer) n
      by m q step node from to rank [] walk = absurd cc
      by m q step node from to rank (l ∷ ls) walk =
          let here : l ≡ r = sym (run_begins g l m ls walk) ∙ from in
          let below : run g (r ∷ ls) ≡ Some m = ap (λ k. run g (k ∷ ls)) (sym here) ∙ walk in
          let path = peer ∷ r ∷ ls in
          let stepping : step_at g m peer ≡ Some q = ap (step_at g m) (sym to) ∙ step_at-step g m q on.faithful.formed.one_step step in
          let whole : run g path ≡ Some q = ap (option_and_then (λ k. step_at g k peer)) below ∙ stepping in
          let may = may_there peer q n node to rank in
          let external : d.case.external ≡ false = on.faithful.formed.into m q (and_from (has_step g m q) (is_peer net (place_of g q)) step (ap (is_peer net) to ∙ (and_parts (is_router net r) (is_peer net peer) site).1)) in
          let walk_from = run_from net s d.case g on.graph on.faithful peer q path to may whole in
          let permitted = ranked_permits net s d.case g on.graph on.faithful peer q path to may whole (is_some_from (rank_at g q) n rank) in
          record {
            source = record { at = (external, site); from = (and_parts (from_holds s.from peer) (not (Origin peer)) may).0; starts = (ls, permitted) };
            rest = ls;
            permitted = permitted;
            rank = walk_from.3 ∙ rank;
          }

  -- the node of a permitted walk
  walk_node : (l : ℕ) (ls : List ℕ) (n : ℕ) → may_start Origin s l ≡ true → permits net Origin s (l ∷ ls) ≡ true → rank_of net s.ranked (l ∷ ls) ≡ Some n
      → (q : ℕ) × (run g (l ∷ ls) ≡ Some q) × (rank_at g q ≡ Some n)
  walk_node l ls n may permitted rank =
      let parts = permits_parts net Origin s (l ∷ ls) permitted in
      let walk : is_walk_to net Origin (l ∷ ls) ≡ true = and_from _ _ parts.0 parts.1 in
      let found = is_some_parts (run g (l ∷ ls)) (on.faithful.has_run [] (l ∷ ls) (or_left (is_walk_to net Origin (l ∷ ls)) _ walk) permitted) in
      let at = run_begins g l found.0 ls found.1 in
      (found.0, found.1, on.faithful.ranks (l ∷ ls) found.0 found.1 (ap (may_start Origin s) at ∙ may) ∙ rank)

  has_router : (r n : ℕ) → HasWalk net s d.case r None n → has_rank_in g r None n ≡ true
  has_router r n h =
      let x = walk_node r h.rest n h.source.may h.permitted h.rank in
      let node = run_inside g on.graph (r ∷ h.rest) x.0 x.1 in
      let at = run_begins g r x.0 h.rest x.1 in
      list_any-from_IsIn (tells_router g r n) (numbers_below (length g.nodes)) x.0 (In-numbers_below x.0 (length g.nodes) node)
      (and_from (place_of g x.0 == r) (is_rank n (rank_at g x.0)) (eq-eqb _ _ at) (is_this x.0 n x.2))

  has_session : (r peer n : ℕ) → HasWalk net s d.case r (Some peer) n → has_rank_in g r (Some peer) n ≡ true
  has_session r peer n h =
      let late = begins_late net Origin s peer r h.rest h.permitted in
      let x = walk_node peer (r ∷ h.rest) n (and_from (from_holds s.from peer) (not (Origin peer)) h.source.from late) h.permitted h.rank in
      let y = last_step g peer r x.0 h.rest x.1 in
      let at = run_begins g r y.0 h.rest y.1 in
      list_any-from_IsIn (tells_session g r peer n) g.steps (y.0, x.0) (step_in g y.0 x.0 y.2)
      (and_from (place_of g y.0 == r && place_of g x.0 == peer) (is_rank n (rank_at g x.0))
      (and_from (place_of g y.0 == r) (place_of g x.0 == peer) (eq-eqb _ _ at) (eq-eqb _ _ y.3)) (is_this x.0 n x.2))

  pub ranks_told : (r : ℕ) (peer : Option ℕ) (n : ℕ) → IsTrue (is_site net r peer) → IsTrue (has_rank_in g r peer n) ↔ HasWalk net s d.case r peer n
  ranks_told r None n site = (router_has r n site, has_router r n)
  ranks_told r (Some peer) n site = (session_has r peer n site, has_session r peer n)
