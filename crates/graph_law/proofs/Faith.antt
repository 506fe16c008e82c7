-- The trimmed graph is faithful.
use Rattle.std.proofs.Common.{◌≡◌, ◌↔◌, ℕ, ◌<◌, Bool, true, false, not, ◌&&◌, IsTrue, IsSome, List, [], ◌∷◌, ◌++◌, length, Some, None, is_some, sym, ap, ◌∙◌, subst}
use Rattle.std.proofs.lemmas.Bool.{and_parts, and_from, or_left, false≢true, not-true, not_from_true, not_from_false}
use Rattle.list_law.proofs.Options.{is_some_parts}
use Rattle.net_base.specs.Network.{PlainNet, IsNet}
use Rattle.policy_base.specs.Policies.{PlainStatement}
use Rattle.policy_base.specs.Meaning.{at_first, rank_of}
use Rattle.policy_base.specs.Permitted.{from_holds}
use Rattle.path_exprs.specs.Forward.{expressions}
use Rattle.graph_base.specs.Graphs.{PlainGraph}
use Rattle.graph_base.specs.Runs.{place_of, rank_at, has_step, run}
use Rattle.graph_base.specs.Rules.{IsWellFormed}
use Rattle.evidence_law.specs.Faithful.{is_walk_to, is_run_path, permits, may_start, IsFaithful}
use Rattle.walk_states.specs.Built.{IsBuilt, graph_over}
use Rattle.path_exprs.specs.Standings.{Plan, Standing, AreStandings}
use Rattle.list_law.specs.Counts.{kept_below}
use Rattle.reach_prune.specs.Trimmed.{CanBeRanked, IsTrimmed, graph_kept}
use Rattle.policy_base.specs.CaseOrigins.{AreOrigins}
use Rattle.graph_base.specs.Walks.{IsEnteredFromBefore}
use Rattle.graph_law.specs.Ways.{left_after}
use Rattle.graph_law.proofs.Left.{ranked-alive}
use Rattle.graph_law.proofs.RunPaths.{GoesTo, goes_from_run_path, walk_from_places, run_path_from_places}
use Rattle.graph_law.proofs.Nodes.{place_at, standing_at}
use Rattle.graph_law.proofs.WellBuilt.{well_formed, entered}
use Rattle.graph_law.proofs.Follow.{goes_from_runs}
use Rattle.graph_law.proofs.BuiltRuns.{inside, ended, run_from_alive}
use Rattle.graph_law.proofs.Kept.{rank_kept, node_from_kept}
use Rattle.graph_law.proofs.KeptFormed.{place_from, kept_well_formed, kept_entered}
use Rattle.graph_law.proofs.KeptRuns.{run_kept, run_from_kept, run_passes, run_goes_on}
use Rattle.graph_law.proofs.Ranks.{rank_of_walk, alive_all_along, rank_of_node, rank-elsewhere, rank_at_start, starts_from_rank}
use Rattle.graph_base.proofs.RunSteps.{RunsTo, runs_from_run, run_from_runs, runs_inside}

-- what a permitted walk is
record IsPermitted (net : PlainNet) (origin : ℕ → Bool) (s : PlainStatement) (path : List ℕ) : Type 0 where
  pub walk : is_walk_to net origin path ≡ true
  pub from : at_first (from_holds s.from) path ≡ true
  pub ranked : is_some (rank_of net s.ranked path) ≡ true

permitted_parts : (net : PlainNet) (origin : ℕ → Bool) (s : PlainStatement) (path : List ℕ) → permits net origin s path ≡ true → IsPermitted net origin s path
permitted_parts net origin s path h =
    let a = and_parts (is_walk_to net origin path && at_first (from_holds s.from) path) (is_some (rank_of net s.ranked path)) h in
    let b = and_parts (is_walk_to net origin path) (at_first (from_holds s.from) path) a.0 in
    record { walk = b.0; from = b.1; ranked = a.1 }

-- what the origin of a case is, and what its statement says, in the plan
pub record IsPlanOf (net : PlainNet) (s : PlainStatement) (plan : Plan) : Type 0 where
  pub rules : IsNet net
  pub origins : AreOrigins net plan.origin plan.external
  pub expressions : plan.expressions ≡ expressions net s.ranked
  pub from : plan.from ≡ s.from

module _ (net : PlainNet) (plan : Plan) (xs : List Standing) (are : AreStandings net plan xs) (keep : ℕ → Bool)
    (kept : (n : ℕ) → n < length (graph_over net plan xs).nodes → IsTrue (keep n) ↔ CanBeRanked (graph_over net plan xs) n)
  where
    -- what steps to a kept node is kept
    pub kept_before : (m n : ℕ) → has_step (graph_over net plan xs) m n ≡ true → keep n ≡ true → keep m ≡ true
    kept_before m n step h =
        let c = (kept n ((inside net plan xs are).steps m n step)).0 h in
        (kept m ((inside net plan xs are).sources m n step)).1 (c.0, (n ∷ c.1.0, (step, c.1.1)), c.2)

module _ (net : PlainNet) (s : PlainStatement) (plan : Plan) (of : IsPlanOf net s plan) (xs : List Standing) (are : AreStandings net plan xs) where
  goes-of_run : (path : List ℕ) (n : ℕ) → RunsTo (graph_over net plan xs) path n → GoesTo net plan.origin path
  goes-of_run path n r = goes_from_runs net plan.origin plan.external (graph_over net plan xs) (well_formed net plan xs are) (inside net plan xs are) path n r

  may_start-plan : (l : ℕ) → may_start plan.origin s l ≡ (from_holds plan.from l && not (plan.origin l))
  may_start-plan l = ap (λ f. from_holds f l && not (plan.origin l)) (sym of.from)

  -- the rank of the node of a walk
  rank_of_run : (l k : ℕ) (ls : List ℕ) (n : ℕ) → RunsTo (graph_over net plan xs) (l ∷ k ∷ ls) n → may_start plan.origin s l ≡ true →
      rank_at (graph_over net plan xs) n ≡ rank_of net s.ranked (l ∷ k ∷ ls)
  rank_of_run l k ls n r h =
      rank_at_start net plan xs are l (k ∷ ls) n r (sym (may_start-plan l) ∙ h)
      ∙ rank_of_walk net of.rules plan s.ranked of.expressions l k ls (goes-of_run (l ∷ k ∷ ls) n r)

  no_start_at_origin : (l : ℕ) → plan.origin l ≡ true → may_start plan.origin s l ≡ true → ⊥
  no_start_at_origin l o h =
      false≢true (sym (not_from_true (plan.origin l) o) ∙ (and_parts (from_holds s.from l) (not (plan.origin l)) h).1)

  -- a permitted walk has a run, to a node with a rank
  run_of_permitted : (path : List ℕ) → permits net plan.origin s path ≡ true → (n : ℕ) × RunsTo (graph_over net plan xs) path n × IsSome (rank_at (graph_over net plan xs) n)
  run_of_permitted [] h = absurd (false≢true (permitted_parts net plan.origin s [] h).walk)
  run_of_permitted (l ∷ []) h = absurd (false≢true (permitted_parts net plan.origin s (l ∷ []) h).walk)
  run_of_permitted (l ∷ k ∷ ls) h =
      let p = permitted_parts net plan.origin s (l ∷ k ∷ ls) h in
      let goes = goes_from_run_path net plan.origin (l ∷ k ∷ ls) (or_left (is_walk_to net plan.origin (l ∷ k ∷ ls)) false p.walk) in
      let left = rank_of_walk net of.rules plan s.ranked of.expressions l k ls goes in
      let rank = is_some_parts (rank_of net s.ranked (l ∷ k ∷ ls)) p.ranked in
      let alive = alive_all_along net plan l (k ∷ ls) (ranked-alive (left_after net plan (l ∷ k ∷ ls)) [] rank.0 (left ∙ rank.1)) in
      let r = run_from_alive net plan xs are of.rules of.origins (l ∷ k ∷ ls) goes alive in
      let start = and_from (from_holds s.from l) (not (plan.origin l)) p.from (not_from_false (plan.origin l) (no_origin l k ls goes)) in
      (r.0, r.1, ap is_some (rank_of_run l k ls r.0 r.1 start) ∙ p.ranked)
    where
      no_origin : (l k : ℕ) (ls : List ℕ) → GoesTo net plan.origin (l ∷ k ∷ ls) → plan.origin l ≡ false
      no_origin l k [] g = g.1
      no_origin l k (j ∷ ls) g = g.1

  -- and a run to a node with a rank is that of a permitted walk
  permitted_from_rank : (path : List ℕ) (n : ℕ) → RunsTo (graph_over net plan xs) path n → IsSome (rank_at (graph_over net plan xs) n) → permits net plan.origin s path ≡ true
  permitted_from_rank [] n r ranked = absurd r
  permitted_from_rank (l ∷ []) n r ranked =
      absurd (no_start_at_origin l (goes-of_run (l ∷ []) n r) (may_start-plan l ∙ starts_from_rank net plan xs are l [] n r ranked))
  permitted_from_rank (l ∷ k ∷ ls) n r ranked =
      let start = may_start-plan l ∙ starts_from_rank net plan xs are l (k ∷ ls) n r ranked in
      and_from (is_walk_to net plan.origin (l ∷ k ∷ ls) && from_holds s.from l) (is_some (rank_of net s.ranked (l ∷ k ∷ ls)))
      (and_from (is_walk_to net plan.origin (l ∷ k ∷ ls)) (from_holds s.from l) (walk_from_places net plan.origin l k ls (goes-of_run (l ∷ k ∷ ls) n r))
      (and_parts (from_holds s.from l) (not (plan.origin l)) start).0)
      (ap is_some (sym (rank_of_run l k ls n r start)) ∙ ranked)

  module _ (keep : ℕ → Bool) (kept : (n : ℕ) → n < length (graph_over net plan xs).nodes → IsTrue (keep n) ↔ CanBeRanked (graph_over net plan xs) n) where
    formed : IsWellFormed net plan.origin plan.external (graph_kept keep (graph_over net plan xs))
    formed = kept_well_formed keep (graph_over net plan xs) net plan.origin plan.external (well_formed net plan xs are)

    trimmed_run : (path : List ℕ) (n : ℕ) → RunsTo (graph_over net plan xs) path n → keep n ≡ true → run (graph_kept keep (graph_over net plan xs)) path ≡ Some (kept_below keep n)
    trimmed_run path n r h =
        run_from_runs net plan.origin plan.external (graph_kept keep (graph_over net plan xs)) formed path (kept_below keep n)
        (run_kept keep (graph_over net plan xs) (kept_before net plan xs are keep kept) path n r h)

    whole_run : (path : List ℕ) (i : ℕ) → run (graph_kept keep (graph_over net plan xs)) path ≡ Some i →
        (n : ℕ) × RunsTo (graph_over net plan xs) path n × (keep n ≡ true) × (i ≡ kept_below keep n)
    whole_run path i h = run_from_kept keep (graph_over net plan xs) path i (runs_from_run (graph_kept keep (graph_over net plan xs)) path i h)

    has_run : (above path : List ℕ) → IsTrue (is_run_path net plan.origin path) → IsTrue (permits net plan.origin s (above ++ path)) →
        IsSome (run (graph_kept keep (graph_over net plan xs)) path)
    has_run above [] h p = absurd (goes_from_run_path net plan.origin [] h)
    has_run above (l ∷ ls) h p =
        let whole = run_of_permitted (above ++ l ∷ ls) p in
        let part = run_passes (graph_over net plan xs) above l ls whole.0 whole.1 in
        let in_graph = runs_inside (graph_over net plan xs) (inside net plan xs are) (l ∷ ls) part.0 part.1 in
        ap is_some (trimmed_run (l ∷ ls) part.0 part.1 ((kept part.0 in_graph).1 (whole.0, part.2, whole.2)))

    has_no_other : (path : List ℕ) → IsTrue (is_run_path net plan.origin path) → IsSome (run (graph_kept keep (graph_over net plan xs)) path) →
        (above : List ℕ) × IsTrue (permits net plan.origin s (above ++ path))
    has_no_other [] h some = absurd (goes_from_run_path net plan.origin [] h)
    has_no_other (l ∷ ls) h some =
        let o = is_some_parts (run (graph_kept keep (graph_over net plan xs)) (l ∷ ls)) some in
        let r = whole_run (l ∷ ls) o.0 o.1 in
        let c = (kept r.0 (runs_inside (graph_over net plan xs) (inside net plan xs are) (l ∷ ls) r.0 r.1)).0 r.2 in
        let on = run_goes_on (graph_over net plan xs) c.1.0 r.0 c.0 l ls r.1 c.1.1 in
        (on.0, permitted_from_rank (on.0 ++ l ∷ ls) c.0 on.1 c.2)

    is_ended : (i : ℕ) → i < length (graph_kept keep (graph_over net plan xs)).nodes →
        (path : List ℕ) × IsTrue (is_run_path net plan.origin path) × (run (graph_kept keep (graph_over net plan xs)) path ≡ Some i)
    is_ended i lt =
        let f = node_from_kept keep (graph_over net plan xs) i lt in
        let e = ended net plan xs are f.0 f.1 in
        (e.0 ∷ e.1, run_path_from_places net plan.origin (e.0 ∷ e.1) (goes-of_run (e.0 ∷ e.1) f.0 e.2), trimmed_run (e.0 ∷ e.1) f.0 e.2 f.2 ∙ ap Some (sym f.3))

    rank_from : (i n : ℕ) → keep n ≡ true → i ≡ kept_below keep n → rank_at (graph_kept keep (graph_over net plan xs)) i ≡ rank_at (graph_over net plan xs) n
    rank_from i n h e = ap (rank_at (graph_kept keep (graph_over net plan xs))) e ∙ rank_kept keep (graph_over net plan xs) n h

    rank_at_run : (path : List ℕ) (n : ℕ) → RunsTo (graph_over net plan xs) path n → IsTrue (may_start plan.origin s (place_of (graph_over net plan xs) n)) →
        rank_at (graph_over net plan xs) n ≡ rank_of net s.ranked path
    rank_at_run [] n r h = absurd r
    rank_at_run (l ∷ []) n r h = absurd (no_start_at_origin l (goes-of_run (l ∷ []) n r) (ap (may_start plan.origin s) (sym r.1) ∙ h))
    rank_at_run (l ∷ k ∷ ls) n r h = rank_of_run l k ls n r (ap (may_start plan.origin s) (sym r.3) ∙ h)

    ranks : (path : List ℕ) (i : ℕ) → run (graph_kept keep (graph_over net plan xs)) path ≡ Some i →
        IsTrue (may_start plan.origin s (place_of (graph_kept keep (graph_over net plan xs)) i)) →
        rank_at (graph_kept keep (graph_over net plan xs)) i ≡ rank_of net s.ranked path
    ranks path i e h =
        let r = whole_run path i e in
        rank_from i r.0 r.2 r.3 ∙ rank_at_run path r.0 r.1 (ap (may_start plan.origin s) (sym (place_from keep (graph_over net plan xs) i r.0 r.2 r.3)) ∙ h)

    unranked : (i : ℕ) → i < length (graph_kept keep (graph_over net plan xs)).nodes → IsTrue (not (may_start plan.origin s (place_of (graph_kept keep (graph_over net plan xs)) i))) →
        rank_at (graph_kept keep (graph_over net plan xs)) i ≡ None
    unranked i lt h =
        let f = node_from_kept keep (graph_over net plan xs) i lt in
        let x = standing_at net plan xs are f.0 f.1 in
        let at : place_of (graph_kept keep (graph_over net plan xs)) i ≡ x.0.at = place_from keep (graph_over net plan xs) i f.0 f.2 f.3 ∙ place_at net plan xs are f.0 x.0 x.1 in
        rank_from i f.0 f.2 f.3 ∙ rank_of_node net plan xs are f.0 x.0 x.1
        ∙ rank-elsewhere plan x.0 (sym (may_start-plan x.0.at) ∙ ap (may_start plan.origin s) (sym at) ∙ not-true (may_start plan.origin s (place_of (graph_kept keep (graph_over net plan xs)) i)) h)

    pub faithful : IsFaithful net s plan.origin plan.external (graph_kept keep (graph_over net plan xs))
    faithful = record {
      formed = formed;
      has_run = has_run;
      has_no_other = has_no_other;
      is_ended = is_ended;
      ranks = ranks;
      unranked = unranked;
    }

-- the same of any graph that is built, and of what is left of it
pub built_is_faithful : (net : PlainNet) (s : PlainStatement) (plan : Plan) (g t : PlainGraph) → IsPlanOf net s plan → IsBuilt net plan g → IsTrimmed g t →
    IsFaithful net s plan.origin plan.external t
built_is_faithful net s plan g t of built trimmed =
    subst (IsFaithful net s plan.origin plan.external) (sym whole.2) (faithful net s plan of built.0 built.1 whole.0 whole.1)
  where
    whole : IsTrimmed (graph_over net plan built.0) t
    whole = subst (λ h. IsTrimmed h t) built.2 trimmed

pub trimmed_is_entered : (net : PlainNet) (plan : Plan) (g t : PlainGraph) → IsBuilt net plan g → IsTrimmed g t → IsEnteredFromBefore t
trimmed_is_entered net plan g t built trimmed =
    subst IsEnteredFromBefore (sym whole.2)
    (kept_entered whole.0 (graph_over net plan built.0) (entered net plan built.0 built.1) (kept_before net plan built.0 built.1 whole.0 whole.1))
  where
    whole : IsTrimmed (graph_over net plan built.0) t
    whole = subst (λ h. IsTrimmed h t) built.2 trimmed
