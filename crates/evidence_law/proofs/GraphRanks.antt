-- The ranks of a faithful graph, as the laws of routing see them.
use Rattle.std.proofs.Common.{◌≡◌, ℕ, ◌<◌, Bool, true, false, List, [], ◌∷◌, length, Option, Some, None, refl, sym, ap, ◌∙◌, subst}
use Rattle.std.specs.Prelude.{◌&&◌, not, is_some, if◌then◌else◌}
use Rattle.std.proofs.lemmas.Bool.{and_parts, and_from, or_left, true≢false, not-true, ltb-false, le-leb}
use Rattle.list_law.proofs.Options.{is_some_from, is_some_parts, when_parts}
use Rattle.net_base.specs.Network.{PlainNet, IsNet, is_peer, is_router, is_location}
use Rattle.net_base.specs.Sets.{holds}
use Rattle.policy_base.specs.declared.case.Case.{Case}
use Rattle.policy_base.specs.Policies.{PlainStatement}
use Rattle.policy_base.specs.Meaning.{rank_of, at_first}
use Rattle.policy_base.specs.Permitted.{from_holds}
use Rattle.graph_base.specs.Graphs.{PlainGraph, IsGraph}
use Rattle.graph_base.specs.Runs.{place_of, is_start, has_step, is_listener, rank_at, step_at, run}
use Rattle.graph_base.specs.Rules.{MeetsRules}
use Rattle.evidence_law.specs.Faithful.{IsFaithful, is_walk_to, is_origin_alone, may_start, permits}
use Rattle.evidence_law.specs.Passes.{IsClaimed}
use Rattle.evidence_law.proofs.Setting.{network_of, graph_of}
use Rattle.evidence_law.proofs.GraphForms.{same_run, over}
use Rattle.evidence_law.proofs.RunWalks.{run_walk}
use Rattle.routing_law.specs.Graph as law
use Rattle.net_base.proofs.Links.{linked_known}
use Rattle.graph_base.proofs.StartsAndSteps.{step_nodes, start_at-is, step_at-is}
use Rattle.graph_base.proofs.WellFormed.{linked_parts, step_at-of}
use Rattle.graph_base.proofs.RunSteps.{run_begins}

-- the ranks of permitted walks, those of nodes, and where walks may start
abbrev pub ranks_of : PlainNet → PlainStatement → (ℕ → Bool) → PlainGraph → law.Ranks
ranks_of net s origin g = record {
  of_path = λ path. if permits net origin s path then rank_of net s.ranked path else None;
  of_node = rank_at g;
  source = may_start origin s;
}

-- a router or a peer
pub peer_of : (net : PlainNet) (l : ℕ) → is_location net l ≡ true → is_router net l ≡ false → is_peer net l ≡ true
peer_of net l known off = and_from _ _ (le-leb _ _ (ltb-false _ _ off)) known

if_some : (b : Bool) (o : Option ℕ) → b ≡ true → (if b && is_some o then o else None) ≡ o
if_some b None h = rw (h) refl
if_some b (Some x) h = rw (h) refl

module _ (net : PlainNet) (s : PlainStatement) (c : Case) (g : PlainGraph) (number : ℕ → ℕ) (net_rules : IsNet net) (graph_rules : IsGraph g)
    (faithful : IsFaithful net s (holds c.origins) c.external g) where
  abbrev pub Origin : ℕ → Bool
  Origin = holds c.origins

  -- a walk with a run, from where walks may start, has the rank of the run's node
  pub rank_of_run : (v n : ℕ) (rest : List ℕ) → may_start Origin s v ≡ true → run g (v ∷ rest) ≡ Some n
      → (rank_at g n ≡ rank_of net s.ranked (v ∷ rest)) × ((is_walk_to net Origin (v ∷ rest) && from_holds s.from v) ≡ true)
  rank_of_run v n [] may h =
      let parts = and_parts (from_holds s.from v) (not (Origin v)) may in
      let at = run_begins g v n [] h in
      let is = start_at-is g v n h in
      let here : Origin v ≡ true = subst (λ l. Origin l ≡ true) is.1 (faithful.formed.starts n is.0) in
      absurd (true≢false (sym here ∙ not-true (Origin v) parts.1))
  rank_of_run v n (k ∷ ls) may h =
      let at = run_begins g v n (k ∷ ls) h in
      let there : may_start Origin s (place_of g n) ≡ true = ap (may_start Origin s) at ∙ may in
      let parts = and_parts (from_holds s.from v) (not (Origin v)) may in
      (faithful.ranks (v ∷ k ∷ ls) n h there, and_from (is_walk_to net Origin (v ∷ k ∷ ls)) (from_holds s.from v) (run_walk net Origin c.external g graph_rules faithful.formed v k n ls h) parts.0)

  -- a ranked node where walks may start has a permitted walk
  pub ranked_walk : (n i : ℕ) → n < length g.nodes → may_start Origin s (place_of g n) ≡ true → rank_at g n ≡ Some i
      → (rest : List ℕ) × (permits net Origin s (place_of g n ∷ rest) ≡ true)
  ranked_walk n i node may ranked = go (faithful.is_ended n node).0 (faithful.is_ended n node).2
    where
      go : (path : List ℕ) → run g path ≡ Some n → (rest : List ℕ) × (permits net Origin s (place_of g n ∷ rest) ≡ true)
      go [] h = absurd (cc)
      go (l ∷ ls) h =
          let at = run_begins g l n ls h in
          let there : run g (place_of g n ∷ ls) ≡ Some n = ap (λ z. run g (z ∷ ls)) at ∙ h in
          let r = rank_of_run (place_of g n) n ls may there in
          (ls, and_from (is_walk_to net Origin (place_of g n ∷ ls) && from_holds s.from (place_of g n)) (is_some (rank_of net s.ranked (place_of g n ∷ ls))) r.1 (is_some_from _ i (sym r.0 ∙ ranked)))

  pub meets_ranks : MeetsRules net (IsClaimed net s c) c.external g number → law.MeetsRanks (network_of net Origin) (graph_of g number) (ranks_of net s Origin g)
  meets_ranks rules = record {
    has_run = λ p i h.
        let ok = when_parts (permits net Origin s p) (rank_of net s.ranked p) i h in
        let first = and_parts (is_walk_to net Origin p && at_first (from_holds s.from) p) (is_some (rank_of net s.ranked p)) ok.0 in
        let walk = and_parts (is_walk_to net Origin p) (at_first (from_holds s.from) p) first.0 in
        let n = is_some_parts (run g p) (faithful.has_run [] p (or_left (is_walk_to net Origin p) (is_origin_alone Origin p) walk.0) ok.0) in
        (n.0, same_run g number p ∙ n.1);
    same_rank = λ v rest n may h.
        let r = rank_of_run v n rest may (sym (same_run g number (v ∷ rest)) ∙ h) in
        r.0 ∙ sym (if_some (is_walk_to net Origin (v ∷ rest) && from_holds s.from v) (rank_of net s.ranked (v ∷ rest)) r.1);
    ranks = λ m n i router may a ranked.
        let walk = ranked_walk n i a.other may ranked in
        rules.rank m n i (over net g number m n router a) (record { at_router = router; may = may; starts = walk }) ranked;
    listeners = λ m n p l i router a off h ranked.
        let is = step_at-is g n p l h in
        let link = linked_parts net g n l (faithful.formed.links n l is.0) in
        let known = (linked_known net (place_of g n) (place_of g l) net_rules link.0).1 in
        let peer : is_peer net (place_of g l) ≡ true = peer_of net (place_of g l) known (ap (is_router net) is.1 ∙ off) in
        let nodes = step_nodes g n l graph_rules is.0 in
        let external = faithful.formed.into n l (and_from (has_step g n l) (is_peer net (place_of g l)) is.0 peer) in
        let hears : is_listener g l ≡ true = faithful.formed.listeners l nodes.1 ∙ and_from (is_peer net (place_of g l)) (not (is_start g l)) peer (ap not link.1) in
        let found = rules.listener m n l i external (over net g number m n router a) (and_from (has_step g n l) (is_listener g l) is.0 hears) ranked in
        let parts = and_parts (has_step g m found.0) (is_listener g found.0) found.2 in
        let there : step_at g m p ≡ Some found.0 = ap (step_at g m) (sym (found.3 ∙ is.1)) ∙ step_at-of net Origin c.external g faithful.formed m found.0 parts.0 in
        (found.0, found.1, there, found.4, found.5);
  }
