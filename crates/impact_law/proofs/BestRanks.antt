-- Best ranks over the real types.
use Rattle.std.proofs.Common.{◌≡◌, ℕ, ◌≤◌, suc, Bool, true, false, List, [], ◌∷◌, ◌++◌, Option, Some, None, refl, sym, ap, ◌∙◌, inl, inr, subst, arith}
use Rattle.std.specs.Prelude.{◌&&◌, not}
use Rattle.std.proofs.lemmas.Option.{same_Some}
use Rattle.std.specs.Option.{option_and_then}
use Rattle.std.specs.List.{list_any}
use Rattle.std.proofs.lemmas.Bool.{and_parts, and_from, or_parts, cases_Bool, not-true, not_from_false, true≢false}
use Rattle.net_base.specs.Network.{PlainNet, IsNet, is_peer, is_router, linked}
use Rattle.net_base.specs.Sets.{holds}
use Rattle.net_base.specs.Prefixes.{PlainPrefix}
use Rattle.policy_base.specs.Policies.{PlainPolicy, PlainStatement, IsPolicyOf}
use Rattle.policy_base.specs.Meaning.{at_last, front, rank_of}
use Rattle.policy_base.specs.Governing.{is_origin}
use Rattle.policy_base.specs.Permitted.{from_holds, is_permitted, IsClaimedRouter, IsClaimedSession}
use Rattle.graph_base.specs.Runs.{rank_at, step_at}
use Rattle.config_base.specs.Configs.{PlainConfig}
use Rattle.config_base.specs.Lines.{class_of}
use Rattle.evidence_base.specs.Made.{PlainCaseEvidence, number_at}
use Rattle.evidence_law.specs.Faithful.{may_start, permits}
use Rattle.outcome_base.specs.Outcomes.{Failures, is_dead, is_dead_link, is_live, is_silent}
use Rattle.evidence_law.specs.Passes.{Passes}
use Rattle.outcome_base.specs.Right.{NoneSurvives}
use Rattle.evidence_law.proofs.CaseOrigins.{case_permits, good, good_parts}
use Rattle.evidence_law.proofs.MadeCases.{case_or_nobody}
use Rattle.evidence_law.proofs.GraphForms.{same_run}
use Rattle.evidence_law.proofs.GraphRanks.{ranks_of, meets_ranks}
use Rattle.net_base.proofs.RoutersAndPeers.{router_no_peer, peer_no_router}
use Rattle.evidence_law.proofs.Setting.{network_of, alive_of, setup_of}
use Rattle.list_law.proofs.Options.{is_some_parts, when_parts, none_or_some}
use Rattle.policy_base.proofs.WalkParts.{at_last-never}
use Rattle.evidence_law.proofs.PermittedWalks.{permits_parts}
use Rattle.evidence_law.proofs.Surviving.{run-survives, survives-alive}
use Rattle.routing_law.specs.Graph as graph
use Rattle.routing_law.specs.Network as law
use Rattle.routing_law.specs.Outcome as outcomes
use Rattle.routing_law.proofs.Runs.{run_more}
use Rattle.settled_law.specs.Greatest.{IsReachedAt}
use Rattle.settled_law.proofs.SettledLaw.{CaseFound, case_of_class}
use Rattle.impact_law.specs.Nodes.{IsTop, IsLeast}
use Rattle.impact_law.specs.BestRanks.{AreToldByTops, BestRanksAreOne, IsBestRank, IsTopAt, NothingIsClaimedWithoutAClass, TopsTellBestRanks, TopsThatAreReachedStay, rank_over}
use Rattle.impact_law.proofs.Tops.{routers, sessions}

module _ (net : PlainNet) (policy : PlainPolicy) (config : PlainConfig) (cs : List PlainCaseEvidence) (rules : IsNet net)
    (kept : IsPolicyOf net policy) (passes : Passes net policy config cs) (f : Failures) (p : PlainPrefix)
    (c : CaseFound net policy config cs rules kept passes f p) where
  abbrev Origin : ℕ → Bool
  Origin = holds c.d.case.origins

  abbrev Ranks : graph.Ranks
  Ranks = ranks_of net c.s Origin c.d.graph

  ranked : graph.MeetsRanks (network_of net Origin) (setup_of net f c.d).graph Ranks
  ranked = meets_ranks net c.s c.d.case c.d.graph (number_at c.d) rules c.on.graph c.on.faithful (passes.rules c.k c.d c.s c.at c.number)

  ranked_path : (path : List ℕ) (i : ℕ) → permits net Origin c.s path ≡ true → rank_of net c.s.ranked path ≡ Some i → Ranks.of_path path ≡ Some i
  ranked_path path i permitted rank = rw permitted rank

  best : (l : ℕ) (ls : List ℕ) (o : Option ℕ) → IsLeast (setup_of net f c.d) Ranks (λ rest. l ∷ ls ++ rest) o → IsBestRank net policy f p c.s (l ∷ ls) o
  best l ls None x = λ rest fine.
      let parts = good_parts net policy p c.s c.same f l (ls ++ rest) fine in
      let rank = is_some_parts (rank_of net c.s.ranked (l ∷ ls ++ rest)) (permits_parts net Origin c.s (l ∷ ls ++ rest) parts.0).3 in
      let b = x.least rest rank.0 (ranked_path (l ∷ ls ++ rest) rank.0 parts.0 rank.1) parts.1 in
      absurd (cc (b.1))
  best l ls (Some n) x =
      let m = x.met n refl in
      let parts = when_parts (permits net Origin c.s (l ∷ ls ++ m.0)) (rank_of net c.s.ranked (l ∷ ls ++ m.0)) n m.1 in (
        (m.0, good net policy p c.s c.same f (l ∷ ls ++ m.0) parts.0 m.2 m.3, parts.1),
        λ rest i fine rank.
            let both = good_parts net policy p c.s c.same f l (ls ++ rest) fine in
            let b = x.least rest i (ranked_path (l ∷ ls ++ rest) i both.0 rank) both.1 in
            let one : Some n ≡ Some b.0 = b.1 in
            let same : b.0 ≡ n = cc in
            subst (λ j. j ≤ i) same b.2,
      )

  -- ---- what is reached

  pub to_law : (r n : ℕ) → IsReachedAt net f c.d r n → outcomes.ReachedAt (setup_of net f c.d) r n
  to_law r n at =
      record {
        rest = at.0;
        runs = same_run c.d.graph (number_at c.d) (r ∷ at.0) ∙ at.1;
        lives = run-survives net f Origin c.d.case.external c.d.graph c.on.graph c.on.faithful.formed r n at.0 at.1 at.2;
      }

  pub from_law : (r n : ℕ) → outcomes.ReachedAt (setup_of net f c.d) r n → IsReachedAt net f c.d r n
  from_law r n at = (at.rest, sym (same_run c.d.graph (number_at c.d) (r ∷ at.rest)) ∙ at.runs, survives-alive net f (r ∷ at.rest) at.lives)

  top_law : (r n : ℕ) → IsTopAt net f c.d r n → IsTop (setup_of net f c.d) r n
  top_law r n top = record { reached = to_law r n top.reached; over = λ m at. top.over m (from_law r m at) }

  -- ---- sources

  may : (r : ℕ) → IsClaimedRouter net policy p c.s r → may_start Origin c.s r ≡ true
  may r claimed = and_from (from_holds c.s.from r) (not (Origin r)) claimed.from (ap (λ (o : ℕ → Bool). not (o r)) c.same ∙ claimed.no_origin)

  session_may : (r peer : ℕ) → IsClaimedSession net policy p c.s r peer → may_start Origin c.s peer ≡ true
  session_may r peer claimed =
      let walk = permits_parts net Origin c.s (peer ∷ r ∷ claimed.starts.0) (case_permits net policy p c.s c.same (peer ∷ r ∷ claimed.starts.0) claimed.starts.1) in
      let ends = and_parts _ (not (list_any Origin (front (peer ∷ r ∷ claimed.starts.0)))) walk.1 in
      let none = or_parts (Origin peer) (list_any Origin (front (r ∷ claimed.starts.0))) (not-true _ ends.1) in
      and_from (from_holds c.s.from peer) (not (Origin peer)) claimed.from (not_from_false _ none.0)

  router : (r n : ℕ) → IsClaimedRouter net policy p c.s r → IsTopAt net f c.d r n → IsBestRank net policy f p c.s (r ∷ []) (rank_at c.d.graph n)
  router r n claimed top =
      best r [] (rank_at c.d.graph n) (routers (setup_of net f c.d) Ranks c.lines.formed c.numbers ranked r n claimed.at_router (may r claimed) (top_law r n top))

  no_router : (r : ℕ) → IsClaimedRouter net policy p c.s r → ((n : ℕ) → ¬ IsReachedAt net f c.d r n) → NoneSurvives net policy f p c.s (r ∷ [])
  no_router r claimed none rest fine =
      let parts = good_parts net policy p c.s c.same f r rest fine in
      let rank = is_some_parts (rank_of net c.s.ranked (r ∷ rest)) (permits_parts net Origin c.s (r ∷ rest) parts.0).3 in
      let a = ranked.has_run (r ∷ rest) rank.0 (ranked_path (r ∷ rest) rank.0 parts.0 rank.1) in
      none a.0 (from_law r a.0 (record { rest = rest; runs = a.1; lives = parts.1 }))

  -- what lives of a session
  carried : (r peer : ℕ) → is_router net r ≡ true → is_live net f r peer ≡ true → ((alive_of net f).carries r peer ≡ true) × (not (is_dead f peer) ≡ true)
  carried r peer at live =
      let quiet : (is_peer net r && is_silent f peer r) ≡ false = ap (λ b. b && is_silent f peer r) (router_no_peer net r at) in (
        and_from (is_live net f r peer) (not (is_peer net r && is_silent f peer r)) live (not_from_false _ quiet),
        (and_parts (linked net r peer && not (is_dead_link f r peer) && not (is_dead f r)) (not (is_dead f peer)) live).1,
      )

  -- a path over a session that survives has a live link
  over_live : (r peer : ℕ) (rest : List ℕ) → law.survives (alive_of net f) (peer ∷ r ∷ rest) ≡ true → is_live net f r peer ≡ true
  over_live r peer rest h =
      let a = and_parts (not (is_dead f peer)) _ h in
      let b = and_parts ((alive_of net f).carries r peer) (law.survives (alive_of net f) (r ∷ rest)) a.1 in
      (and_parts (is_live net f r peer) (not (is_peer net r && is_silent f peer r)) b.0).0

  session : (r peer n : ℕ) → IsClaimedSession net policy p c.s r peer → IsTopAt net f c.d r n → IsBestRank net policy f p c.s (peer ∷ r ∷ []) (rank_over net f c.d n r peer)
  session r peer n claimed top = elim (cases_Bool (is_live net f r peer)) [
    | inl live ↦ (
        let over = carried r peer claimed.at_router live in
        let start = session_may r peer claimed in
        let off = not-true _ (and_parts (from_holds c.s.from peer) (not (Origin peer)) start).1 in
        rw live (best peer (r ∷ []) (option_and_then (rank_at c.d.graph) (step_at c.d.graph n peer))
        (sessions (setup_of net f c.d) Ranks c.lines.formed c.numbers ranked r peer n claimed.at_router (peer_no_router net peer claimed.at_peer) off start over.1 over.0 (top_law r n top))))
    | inr dead ↦ rw dead (λ rest fine. absurd (true≢false (sym (over_live r peer rest (good_parts net policy p c.s c.same f peer (r ∷ rest) fine).1) ∙ dead)))
  ]

  no_session : (r peer : ℕ) → IsClaimedSession net policy p c.s r peer → ((n : ℕ) → ¬ IsReachedAt net f c.d r n) → NoneSurvives net policy f p c.s (peer ∷ r ∷ [])
  no_session r peer claimed none rest fine =
      let parts = good_parts net policy p c.s c.same f peer (r ∷ rest) fine in
      let rank = is_some_parts (rank_of net c.s.ranked (peer ∷ r ∷ rest)) (permits_parts net Origin c.s (peer ∷ r ∷ rest) parts.0).3 in
      let a = ranked.has_run (peer ∷ r ∷ rest) rank.0 (ranked_path (peer ∷ r ∷ rest) rank.0 parts.0 rank.1) in
      let b = run_more (setup_of net f c.d).graph peer r rest a.0 a.1 in
      let over = and_parts ((alive_of net f).carries r peer) (law.survives (alive_of net f) (r ∷ rest)) (and_parts (not (is_dead f peer)) _ parts.1).1 in
      none b.0 (from_law r b.0 (record { rest = rest; runs = b.1; lives = over.1 }))

  pub told : AreToldByTops net policy f p c.s c.d
  told = record { router = router; no_router = no_router; session = session; no_session = no_session }

pub tops_tell_best_ranks : TopsTellBestRanks
tops_tell_best_ranks net policy config cs rules kept passes p f s k d prefix governs of_class at =
    let c = case_of_class net policy config cs rules kept passes f p prefix k d of_class at in
    let same_s = same_Some c.0.s s (sym c.0.governs ∙ governs) in
    subst (λ (t : PlainStatement). AreToldByTops net policy f p t d) same_s
    (subst (λ (e : PlainCaseEvidence). AreToldByTops net policy f p c.0.s e) c.1 (told net policy config cs rules kept passes f p c.0))

pub tops_that_are_reached_stay : TopsThatAreReachedStay
tops_that_are_reached_stay net f g c r n fewer top reached = record { reached = reached; over = λ m at. top.over m (at.0, at.1, fewer (r ∷ at.0) at.2) }

pub best_ranks_are_one : BestRanksAreOne
best_ranks_are_one net policy f p s begin None None a b = refl
best_ranks_are_one net policy f p s begin None (Some n) a b = absurd (a b.0.0 b.0.1)
best_ranks_are_one net policy f p s begin (Some m) None a b = absurd (b a.0.0 a.0.1)
best_ranks_are_one net policy f p s begin (Some m) (Some n) a b =
    let one = a.1 b.0.0 n b.0.1 b.0.2 in
    let other = b.1 a.0.0 m a.0.1 a.0.2 in
    ap Some (omega (arith, one, other))

-- where nobody is an origin no walk is permitted
unclaimed : (net : PlainNet) (policy : PlainPolicy) (p : PlainPrefix) (s : PlainStatement) → ((l : ℕ) → is_origin net policy p l ≡ false)
    → (path : List ℕ) → is_permitted net policy p s path ≡ true → ⊥
unclaimed net policy p s none path h =
    let ends = (permits_parts net (is_origin net policy p) s path h).1 in
    let last = (and_parts (at_last (is_origin net policy p) path) _ ends).0 in
    true≢false (sym last ∙ at_last-never (is_origin net policy p) path none)

pub nothing_is_claimed : NothingIsClaimedWithoutAClass
nothing_is_claimed net policy config cs rules kept passes p s prefix governs free = elim (case_or_nobody net policy config cs rules kept passes.made p prefix s governs) [
  | inr nobody ↦ (
    λ r claimed. unclaimed net policy p s nobody.0 (r ∷ claimed.starts.0) claimed.starts.1,
    λ r peer claimed. unclaimed net policy p s nobody.0 (peer ∷ r ∷ claimed.starts.0) claimed.starts.1,
  )
  | inl c ↦ absurd (none_or_some (class_of config p) (suc c.k) free c.of_class)
]
