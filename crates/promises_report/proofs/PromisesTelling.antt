-- The tops of a case's graph tell what is promised for it.
use Rattle.std.proofs.Common.{◌≡◌, ℕ, ◌≤◌, Bool, true, List, [], ◌∷◌, ◌++◌, Option, Some, None, refl, sym, ap, ◌∙◌, inl, inr, subst}
use Rattle.std.specs.Prelude.{not, is_some, slice_get}
use Rattle.std.specs.Option.{option_and_then}
use Rattle.std.proofs.lemmas.Bool.{and_parts, and_from, not-true}
use Rattle.list_law.proofs.Options.{cases_Option, is_some_from, is_some_parts, none_or_some, option_and_then_parts, when_parts}
use Rattle.net_base.specs.Network.{PlainNet, IsNet, is_location, is_peer, is_router}
use Rattle.net_base.specs.Sets.{holds}
use Rattle.net_base.proofs.RoutersAndPeers.{peer_no_router}
use Rattle.policy_base.specs.declared.case.Case.{Case}
use Rattle.policy_base.specs.CaseOrigins.{AreOrigins}
use Rattle.policy_base.specs.Meaning.{rank_of}
use Rattle.policy_base.specs.Permitted.{from_holds}
use Rattle.policy_base.specs.Policies.{IsPolicyOf, PlainPolicy, PlainStatement}
use Rattle.policy_base.specs.Walks.{is_loop_free}
use Rattle.policy_base.proofs.KnownCases.{case_known, known_origins, origins_known}
use Rattle.policy_base.proofs.WalkParts.{walk_parts}
use Rattle.graph_base.specs.Graphs.{PlainGraph}
use Rattle.graph_base.specs.Rules.{MeetsRules}
use Rattle.graph_base.specs.Runs.{rank_at, run, step_at}
use Rattle.graph_base.proofs.RunSteps.{run_begins, run_inside}
use Rattle.config_base.specs.Configs.{PlainConfig}
use Rattle.evidence_base.specs.Made.{PlainCaseEvidence, number_at}
use Rattle.evidence_law.specs.Faithful.{may_start, permits}
use Rattle.evidence_law.specs.Passes.{IsCaseGraph, IsClaimed, Passes}
use Rattle.evidence_law.proofs.CaseOrigins.{same_free}
use Rattle.evidence_law.proofs.GraphForms.{meets_rules, same_run, well_formed}
use Rattle.evidence_law.proofs.GraphRanks.{meets_ranks, ranks_of}
use Rattle.evidence_law.proofs.MadeCases.{case_listed}
use Rattle.evidence_law.proofs.PermittedWalks.{permits_parts}
use Rattle.evidence_law.proofs.RunWalks.{runs_are_walks}
use Rattle.evidence_law.proofs.Setting.{alive_of, setup_of}
use Rattle.evidence_law.proofs.Surviving.{alive-survives, run-survives}
use Rattle.graph_law.proofs.Claimed.{claimed_where_ranked, ranked_may, ranked_permits}
use Rattle.routing_law.specs.Graph as graph
use Rattle.routing_law.specs.Network as law
use Rattle.routing_law.specs.Outcome as outcomes
use Rattle.routing_law.specs.Settling.{Tops}
use Rattle.routing_law.proofs.Reach.{tops}
use Rattle.routing_law.proofs.Runs.{run_more, run_passes}
use Rattle.settled_law.specs.Greatest.{IsReachedAt}
use Rattle.impact_law.specs.BestRanks.{AreTops, IsTopAt, rank_of_node}
use Rattle.impact_law.specs.Impacts.{begin_at}
use Rattle.impact_law.specs.Nodes.{IsLeast, IsTop}
use Rattle.outcome_base.specs.Outcomes.{no_failures}
use Rattle.impact_law.proofs.Support.{survives_all}
use Rattle.impact_law.proofs.Tops.{routers, sessions}
use Rattle.promises_report.specs.Claims.{IsClaimedOver, IsLeastRank, IsPassed, IsPlace, IsSourceIn}
use Rattle.promises_report.specs.Laws.{ClaimedSourcesHaveRanks, TopsTellPromises, told_by}
use Rattle.promises_report.specs.Promises.{ArePromises, IsPromised}
use Rattle.promises_report.proofs.RankTelling.{begins_late, ranks_told}

-- a source is at a place of its case
pub source_place : (net : PlainNet) (s : PlainStatement) (c : Case) (r : ℕ) (peer : Option ℕ) → IsSourceIn net s c r peer → IsPlace net c r peer
source_place net s c r None claimed =
    and_from (is_router net r) (not (holds c.origins r)) claimed.at_router (and_parts (from_holds s.from r) (not (holds c.origins r)) claimed.may).1
source_place net s c r (Some peer) claimed = claimed.at

module _ (net : PlainNet) (rules : IsNet net) (s : PlainStatement) (d : PlainCaseEvidence) (on : IsCaseGraph net s d)
    (known : (l : ℕ) → holds d.case.origins l ≡ true → is_location net l ≡ true)
    (numbers : MeetsRules net (IsClaimed net s d.case) d.case.external d.graph (number_at d)) where
  abbrev Origin : ℕ → Bool
  Origin = holds d.case.origins

  abbrev g : PlainGraph
  g = d.graph

  -- ---- as the laws of routing see the case

  abbrev w : outcomes.Setup
  w = setup_of net no_failures d

  abbrev Ranks : graph.Ranks
  Ranks = ranks_of net s Origin g

  formed : graph.WellFormed w.net w.graph
  formed = well_formed net Origin d.case.external g (number_at d) rules on.graph known on.faithful.formed

  ruled : graph.MeetsRules w.net w.graph
  ruled = meets_rules net Origin d.case.external g (number_at d) rules on.graph known on.faithful.formed (IsClaimed net s d.case) numbers

  ranked : graph.MeetsRanks w.net w.graph Ranks
  ranked = meets_ranks net s d.case g (number_at d) rules on.graph on.faithful numbers

  reached_law : (r n : ℕ) → IsReachedAt net no_failures d r n → outcomes.ReachedAt w r n
  reached_law r n at = record {
    rest = at.0;
    runs = same_run g (number_at d) (r ∷ at.0) ∙ at.1;
    lives = run-survives net no_failures Origin d.case.external g on.graph on.faithful.formed r n at.0 at.1 at.2;
  }

  law_reached : (r n : ℕ) → outcomes.ReachedAt w r n → IsReachedAt net no_failures d r n
  law_reached r n at = (at.rest, sym (same_run g (number_at d) (r ∷ at.rest)) ∙ at.runs, survives_all net (r ∷ at.rest))

  top_law : (r n : ℕ) → IsTopAt net no_failures d r n → IsTop w r n
  top_law r n top = record { reached = reached_law r n top.reached; over = λ m at. top.over m (law_reached r m at) }

  -- ---- permitted walks

  -- a permitted walk survives where nothing has failed
  alive : (l : ℕ) (ls : List ℕ) → permits net Origin s (l ∷ ls) ≡ true → law.survives (alive_of net no_failures) (l ∷ ls) ≡ true
  alive l ls permitted =
      let walk = walk_parts net (l ∷ ls) (permits_parts net Origin s (l ∷ ls) permitted).0 in
      alive-survives net no_failures l ls walk.0 walk.1 (survives_all net (l ∷ ls))

  -- it has a rank
  rank_there : (path : List ℕ) → permits net Origin s path ≡ true → (i : ℕ) × (rank_of net s.ranked path ≡ Some i)
  rank_there path permitted = is_some_parts (rank_of net s.ranked path) (permits_parts net Origin s path permitted).3

  ranked_path : (path : List ℕ) (i : ℕ) → permits net Origin s path ≡ true → rank_of net s.ranked path ≡ Some i → Ranks.of_path path ≡ Some i
  ranked_path path i permitted rank = rw permitted rank

  -- and a run
  runs : (path : List ℕ) → permits net Origin s path ≡ true → (m : ℕ) × (graph.run w.graph path ≡ Some m)
  runs path permitted = let i = rank_there path permitted in let a = ranked.has_run path i.0 (ranked_path path i.0 permitted i.1) in (a.0, a.1)

  -- ---- the least rank of allowed paths

  -- where a permitted walk begins so, some rank is the least
  some_least : (l : ℕ) (ls rest : List ℕ) (o : Option ℕ) → IsLeast w Ranks (λ more. l ∷ ls ++ more) o → permits net Origin s (l ∷ ls ++ rest) ≡ true → (n : ℕ) × (o ≡ Some n)
  some_least l ls rest o x permitted =
      let i = rank_there (l ∷ ls ++ rest) permitted in
      let b = x.least rest i.0 (ranked_path (l ∷ ls ++ rest) i.0 permitted i.1) (alive l (ls ++ rest) permitted) in
      (b.0, b.1)

  least : (l : ℕ) (ls : List ℕ) (n : ℕ) → IsLeast w Ranks (λ more. l ∷ ls ++ more) (Some n) → IsLeastRank net s d.case (l ∷ ls) n
  least l ls n x =
      let m = x.met n refl in
      let parts = when_parts (permits net Origin s (l ∷ ls ++ m.0)) (rank_of net s.ranked (l ∷ ls ++ m.0)) n m.1 in
      record {
        path = (m.0, and_from (permits net Origin s (l ∷ ls ++ m.0)) (is_loop_free (l ∷ ls ++ m.0)) parts.0 (sym (same_free (l ∷ ls ++ m.0)) ∙ m.2), parts.1);
        least = λ rest i allowed rank.
            let permitted = (and_parts (permits net Origin s (l ∷ ls ++ rest)) (is_loop_free (l ∷ ls ++ rest)) allowed).0 in
            let b = x.least rest i (ranked_path (l ∷ ls ++ rest) i permitted rank) (alive l (ls ++ rest) permitted) in
            let one : Some n ≡ Some b.0 = b.1 in
            let same : b.0 ≡ n = cc in
            subst (λ j. j ≤ i) same b.2;
      }

  -- ---- routers

  router_least : (r n : ℕ) → IsClaimed net s d.case r → IsTopAt net no_failures d r n → IsLeast w Ranks (λ more. r ∷ more) (rank_at g n)
  router_least r n claimed top = routers w Ranks formed ruled ranked r n claimed.at_router claimed.may (top_law r n top)

  router_rank : (r n : ℕ) → IsClaimed net s d.case r → IsTopAt net no_failures d r n → (j : ℕ) × (rank_at g n ≡ Some j) × IsLeastRank net s d.case (r ∷ []) j
  router_rank r n claimed top =
      let x = router_least r n claimed top in
      let b = some_least r [] claimed.starts.0 (rank_at g n) x claimed.starts.1 in
      (b.0, b.1, least r [] b.0 (subst (λ (o : Option ℕ). IsLeast w Ranks (λ more. r ∷ more) o) b.1 x))

  router_claimed : (r n j : ℕ) → is_router net r ≡ true → IsTopAt net no_failures d r n → rank_at g n ≡ Some j → IsClaimed net s d.case r
  router_claimed r n j router top rank =
      let here = run_begins g r n top.reached.0 top.reached.1 in
      let node = run_inside g on.graph (r ∷ top.reached.0) n top.reached.1 in
      (claimed_where_ranked net s d.case g on.graph on.faithful r).0 (router, (n, (node, here, is_some_from (rank_at g n) j rank)))

  -- ---- sessions

  session_least : (r peer n : ℕ) → IsClaimedOver net s d.case r peer → IsTopAt net no_failures d r n
      → IsLeast w Ranks (λ more. peer ∷ r ∷ more) (option_and_then (rank_at g) (step_at g n peer))
  session_least r peer n claimed top =
      let at = and_parts (is_router net r) (is_peer net peer) claimed.at.1 in
      let late = begins_late net Origin s peer r claimed.starts.0 claimed.starts.1 in
      let lives = and_parts true _ (alive peer (r ∷ claimed.starts.0) claimed.starts.1) in
      let over = and_parts ((alive_of net no_failures).carries r peer) (law.survives (alive_of net no_failures) (r ∷ claimed.starts.0)) lives.1 in
      sessions w Ranks formed ruled ranked r peer n at.0 (peer_no_router net peer at.1) (not-true _ late)
      (and_from (from_holds s.from peer) (not (Origin peer)) claimed.from late) refl over.0 (top_law r n top)

  session_rank : (r peer n : ℕ) → IsClaimedOver net s d.case r peer → IsTopAt net no_failures d r n
      → (j : ℕ) × (option_and_then (rank_at g) (step_at g n peer) ≡ Some j) × IsLeastRank net s d.case (peer ∷ r ∷ []) j
  session_rank r peer n claimed top =
      let x = session_least r peer n claimed top in
      let o = option_and_then (rank_at g) (step_at g n peer) in
      let b = some_least peer (r ∷ []) claimed.starts.0 o x claimed.starts.1 in
      (b.0, b.1, least peer (r ∷ []) b.0 (subst (λ (o : Option ℕ). IsLeast w Ranks (λ more. peer ∷ r ∷ more) o) b.1 x))

  session_claimed : (r peer n j : ℕ) → IsPlace net d.case r (Some peer) → IsTopAt net no_failures d r n
      → option_and_then (rank_at g) (step_at g n peer) ≡ Some j → IsClaimedOver net s d.case r peer
  session_claimed r peer n j at top rank =
      let step = option_and_then_parts (rank_at g) (step_at g n peer) j rank in
      let path = peer ∷ r ∷ top.reached.0 in
      let walk : run g path ≡ Some step.0 = ap (option_and_then (λ m. step_at g m peer)) top.reached.1 ∙ step.1 in
      let here = run_begins g peer step.0 (r ∷ top.reached.0) walk in
      let node = run_inside g on.graph path step.0 walk in
      let has = is_some_from (rank_at g step.0) j step.2 in
      let may : may_start Origin s peer ≡ true = ap (may_start Origin s) (sym here) ∙ ranked_may net s d.case g on.graph on.faithful step.0 node has in
      record {
        at = at;
        from = (and_parts (from_holds s.from peer) (not (Origin peer)) may).0;
        starts = (top.reached.0, ranked_permits net s d.case g on.graph on.faithful peer step.0 path here may walk has);
      }

  -- ---- where nothing is reached nothing is claimed

  none_starts : (r : ℕ) (rest : List ℕ) → ((n : ℕ) → ¬ IsReachedAt net no_failures d r n) → permits net Origin s (r ∷ rest) ≡ true → ⊥
  none_starts r rest none permitted =
      let m = runs (r ∷ rest) permitted in
      none m.0 (rest, sym (same_run g (number_at d) (r ∷ rest)) ∙ m.1, survives_all net (r ∷ rest))

  none_over : (r peer : ℕ) (rest : List ℕ) → ((n : ℕ) → ¬ IsReachedAt net no_failures d r n) → permits net Origin s (peer ∷ r ∷ rest) ≡ true → ⊥
  none_over r peer rest none permitted =
      let m = runs (peer ∷ r ∷ rest) permitted in
      let b = run_more w.graph peer r rest m.0 m.1 in
      none b.0 (rest, sym (same_run g (number_at d) (r ∷ rest)) ∙ b.1, survives_all net (r ∷ rest))

  -- ---- which routers permitted walks pass

  passed : (r n : ℕ) → IsReachedAt net no_failures d r n → IsPassed net s d.case r
  passed r n at =
      let path = r ∷ at.0 in
      let a = on.faithful.has_no_other path (runs_are_walks net Origin d.case.external g on.graph on.faithful.formed path n at.1) (is_some_from (run g path) n at.1) in
      (a.0, at.0, a.1)

  stands : (r : ℕ) → IsPassed net s d.case r → (n : ℕ) × IsReachedAt net no_failures d r n
  stands r p =
      let m = runs (p.0 ++ r ∷ p.1) p.2 in
      let k = run_passes w.graph p.0 p.1 r m.0 m.1 in
      (k.0, (p.1, sym (same_run g (number_at d) (r ∷ p.1)) ∙ k.1, survives_all net (r ∷ p.1)))

  -- ---- the promises

  -- a top tells the rank of its router and of its sessions
  node_tells : (r n : ℕ) (peer : Option ℕ) → IsPlace net d.case r peer → IsTopAt net no_failures d r n → (o : Option ℕ) → rank_of_node g peer n ≡ o → IsPromised net s d.case r peer o
  node_tells r n None at top None is = λ claimed. let b = router_rank r n claimed top in none_or_some (rank_at g n) b.0 is b.1
  node_tells r n None at top (Some j) is =
      let claimed = router_claimed r n j (and_parts (is_router net r) (not (Origin r)) at).0 top is in
      let b = router_rank r n claimed top in
      let one : Some b.0 ≡ Some j = sym b.1 ∙ is in
      let same : b.0 ≡ j = cc in
      (claimed, subst (IsLeastRank net s d.case (r ∷ [])) same b.2)
  node_tells r n (Some peer) at top None is =
      λ claimed. let b = session_rank r peer n claimed top in none_or_some (option_and_then (rank_at g) (step_at g n peer)) b.0 is b.1
  node_tells r n (Some peer) at top (Some j) is =
      let claimed = session_claimed r peer n j at top is in
      let b = session_rank r peer n claimed top in
      let one : Some b.0 ≡ Some j = sym b.1 ∙ is in
      let same : b.0 ≡ j = cc in
      (claimed, subst (IsLeastRank net s d.case (peer ∷ r ∷ [])) same b.2)

  module _ (top : ℕ → Option ℕ) (tops : AreTops net no_failures d top) where
    -- a place tells what its router's top tells, and is not claimed without one
    place_tells : (r : ℕ) (peer : Option ℕ) → IsPlace net d.case r peer → (o : Option ℕ) → top r ≡ o → IsPromised net s d.case r peer (option_and_then (rank_of_node g peer) o)
    place_tells r None at None is =
        λ claimed. none_starts r claimed.starts.0 (tops.none r (and_parts (is_router net r) (not (Origin r)) at).0 is) claimed.starts.1
    place_tells r None at (Some n) is = node_tells r n None at (tops.some r n is) (rank_at g n) refl
    place_tells r (Some peer) at None is =
        λ claimed. none_over r peer claimed.starts.0 (tops.none r (and_parts (is_router net r) (is_peer net peer) at.1).0 is) claimed.starts.1
    place_tells r (Some peer) at (Some n) is = node_tells r n (Some peer) at (tops.some r n is) (option_and_then (rank_at g) (step_at g n peer)) refl

    top_there : (r : ℕ) → is_router net r ≡ true → IsPassed net s d.case r → is_some (top r) ≡ true
    top_there r at p = elim (cases_Option (top r)) [
      | inl none ↦ (let n = stands r p in absurd (tops.none r at none n.0 n.1))
      | inr some ↦ is_some_from (top r) some.0 some.1
    ]

    pub promised : ArePromises net s d.case (told_by g top)
    promised = record {
      ranks = λ r peer at. place_tells r peer at (top r) refl;
      walks = λ r at. (λ h. let n = is_some_parts (top r) h in passed r n.0 (tops.some r n.0 n.1).reached, top_there r at);
      have = ranks_told net s d on;
    }

  -- ---- there are tops

  all_tops : Tops w
  all_tops = tops w formed

  tops_here : AreTops net no_failures d all_tops.top
  tops_here = record {
    some = λ r n is. record {
      reached = law_reached r n (all_tops.is_reached r n is);
      over = λ m at.
          let o = all_tops.over r m (reached_law r m at) in
          let one : Some o.0 ≡ Some n = sym o.1 ∙ is in
          let same : o.0 ≡ n = cc in
          subst (λ k. number_at d m ≤ number_at d k) same o.2;
    };
    none = λ r router is n at. let o = all_tops.over r n (reached_law r n at) in none_or_some (all_tops.top r) o.0 is o.1;
  }

  pub source_rank : (r : ℕ) (peer : Option ℕ) → IsSourceIn net s d.case r peer → (n : ℕ) × IsLeastRank net s d.case (begin_at r peer) n
  source_rank r peer source = by ((told_by g all_tops.top).rank r peer) ((promised all_tops.top tops_here).ranks r peer (source_place net s d.case r peer source))
    where
      by : (o : Option ℕ) → IsPromised net s d.case r peer o → (n : ℕ) × IsLeastRank net s d.case (begin_at r peer) n
      by None none = absurd (none source)
      by (Some n) is = (n, is.1)

-- ---- each case of a policy

module _ (net : PlainNet) (policy : PlainPolicy) (config : PlainConfig) (cs : List PlainCaseEvidence) (rules : IsNet net)
    (kept : IsPolicyOf net policy) (passes : Passes net policy config cs) (k : ℕ) (d : PlainCaseEvidence) (at : slice_get cs k ≡ Some d) where
  pub origins : AreOrigins net (holds d.case.origins) d.case.external
  origins = known_origins net policy d.case rules kept.routers (case_known net policy k d.case (case_listed net policy config cs passes.made k d at))

  pub known : (l : ℕ) → holds d.case.origins l ≡ true → is_location net l ≡ true
  known = origins_known net (holds d.case.origins) d.case.external origins

pub tops_tell_promises : TopsTellPromises
tops_tell_promises net policy config cs rules kept passes k d s at number top tops =
    promised net rules s d (passes.made.graphs k d s at number) (known net policy config cs rules kept passes k d at) (passes.rules k d s at number) top tops

pub claimed_sources_have_ranks : ClaimedSourcesHaveRanks
claimed_sources_have_ranks net policy config cs rules kept passes k d s at number r peer source =
    source_rank net rules s d (passes.made.graphs k d s at number) (known net policy config cs rules kept passes k d at) (passes.rules k d s at number) r peer source
