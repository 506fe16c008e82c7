-- What a cut spares is still reached, and tells the same ranks.
use Rattle.std.proofs.Common.{◌≡◌, ℕ, zero, suc, ◌<◌, Bool, true, false, List, [], ◌∷◌, Option, Some, None, refl, sym, ap, ◌∙◌, subst, arith}
use Rattle.std.specs.Prelude.{◌&&◌, ◌||◌, ◌==◌, not, if◌then◌else◌}
use Rattle.std.specs.Option.{option_and_then}
use Rattle.std.specs.List.{list_any}
use Rattle.std.proofs.lemmas.Bool.{and_from, or_parts, not-true}
use Rattle.std.proofs.Math.Bool.{and-true}
use Rattle.net_base.specs.Network.{PlainNet, is_peer, linked}
use Rattle.net_base.specs.Sets.{holds}
use Rattle.net_base.specs.Prefixes.{PlainPrefix}
use Rattle.policy_base.specs.Policies.{PlainPolicy, PlainStatement}
use Rattle.policy_base.specs.Permitted.{IsClaimedRouter, IsClaimedSession}
use Rattle.graph_base.specs.Graphs.{IsGraph}
use Rattle.graph_base.specs.Rules.{IsWellFormed}
use Rattle.graph_base.specs.Runs.{place_of, step_at, run, rank_at}
use Rattle.evidence_base.specs.Made.{PlainCaseEvidence}
use Rattle.outcome_base.specs.Outcomes.{Failures, is_dead, is_dead_link, is_live, is_silent, passes_live, ends_heard, survives, no_failures}
use Rattle.graph_base.proofs.RunSteps.{run_begins}
use Rattle.graph_base.proofs.WellFormed.{start_at-of, step_at-of}
use Rattle.settled_law.specs.Greatest.{IsReachedAt}
use Rattle.settled_law.proofs.SettledLaw.{case_of_class}
use Rattle.impact_law.specs.BestRanks.{AreToldByTops, IsBestRank, IsTopAt, rank_over}
use Rattle.impact_law.specs.Support.{CutsOffTheSupportChangeNothing, IsSpared, IsSupport, IsTopOf}
use Rattle.impact_law.proofs.BestRanks.{best_ranks_are_one, tops_tell_best_ranks, tops_that_are_reached_stay}

-- without silent sessions every path ends heard
pub heard_all : (net : PlainNet) (f : Failures) → f.silent ≡ [] → (path : List ℕ) → ends_heard net f path ≡ true
heard_all net f none [] = refl
heard_all net f none (l ∷ []) = refl
heard_all net f none (r ∷ p ∷ []) =
    let quiet : is_silent f r p ≡ false = ap (λ (xs : List (ℕ × ℕ)). list_any (λ (s : ℕ × ℕ). s.0 == r && s.1 == p) xs) none in
    off (is_peer net p) (is_silent f r p) quiet
  where
    off : (b c : Bool) → c ≡ false → not (b && c) ≡ true
    off true c h = ap not h
    off false c h = refl
heard_all net f none (l ∷ k ∷ j ∷ ls) = heard_all net f none (k ∷ j ∷ ls)

-- without failures every path survives
alive_all : (path : List ℕ) → passes_live no_failures path ≡ true
alive_all [] = refl
alive_all (l ∷ []) = refl
alive_all (l ∷ k ∷ ls) = alive_all (k ∷ ls)

pub survives_all : (net : PlainNet) (path : List ℕ) → survives net no_failures path ≡ true
survives_all net path = and_from (passes_live no_failures path) (ends_heard net no_failures path) (alive_all path) (heard_all net no_failures refl path)

module _ (net : PlainNet) (f : Failures) (c : PlainCaseEvidence) (origin : ℕ → Bool) (external : Bool) (formed : IsWellFormed net origin external c.graph)
    (on : ℕ → Bool) (parent : ℕ → Option ℕ) (time : ℕ → ℕ) (support : IsSupport c.graph on parent time) (spared : IsSpared f c.graph on parent) where
  -- each node of the support ends a run over what is spared
  abbrev Way : ℕ → Type 0
  Way n = (rest : List ℕ) × (run c.graph (place_of c.graph n ∷ rest) ≡ Some n) × (passes_live f (place_of c.graph n ∷ rest) ≡ true)

  way : (fuel n : ℕ) → time n < fuel → on n ≡ true → Way n
  way zero n below at = absurd (omega (arith, below))
  way (suc fuel) n below at = by (parent n) refl (way fuel)
    where
      by : (o : Option ℕ) → parent n ≡ o → ((m : ℕ) → time m < fuel → on m ≡ true → Way m) → Way n
      by None is again = ([], start_at-of net origin external c.graph formed n (support.first n at is), spared.place n at)
      by (Some m) is again =
          let l = support.later n m at is in
          let w = again m (omega (arith, below, l.2)) l.0 in
          let dead = not (is_dead f (place_of c.graph n)) in
          let cut = not (is_dead_link f (place_of c.graph n) (place_of c.graph m)) in (
            place_of c.graph m ∷ w.0,
            ap (option_and_then (λ k. step_at c.graph k (place_of c.graph n))) w.1 ∙ step_at-of net origin external c.graph formed m n l.1,
            and_from (dead && cut) (passes_live f (place_of c.graph m ∷ w.0)) (and_from dead cut (spared.place n at) (spared.link n m at is)) w.2,
          )

  pub still_reached : f.silent ≡ [] → (n : ℕ) → on n ≡ true → IsReachedAt net f c (place_of c.graph n) n
  still_reached quiet n at =
      let w = way (suc (time n)) n (omega arith) at in
      (w.0, w.1, and_from (passes_live f (place_of c.graph n ∷ w.0)) (ends_heard net f (place_of c.graph n ∷ w.0)) w.2 (heard_all net f quiet (place_of c.graph n ∷ w.0)))

  pub top_stays : f.silent ≡ [] → (r n : ℕ) → place_of c.graph n ≡ r → IsTopAt net no_failures c r n → on n ≡ true → IsTopAt net f c r n
  top_stays quiet r n here top at = tops_that_are_reached_stay net no_failures f c r n (λ path h. survives_all net path) top (subst (λ l. IsReachedAt net f c l n) here (still_reached quiet n at))

-- a session whose link and ends are spared lives as it did
live_spared : (net : PlainNet) (f : Failures) (r peer : ℕ) → not (is_dead f r || is_dead f peer || is_dead_link f r peer) ≡ true → is_live net f r peer ≡ is_live net no_failures r peer
live_spared net f r peer h =
    let all = or_parts (is_dead f r || is_dead f peer) (is_dead_link f r peer) (not-true _ h) in
    let ends = or_parts (is_dead f r) (is_dead f peer) all.0 in
    let mine : is_live net f r peer ≡ linked net r peer = rw (all.1, ends.0, ends.1) (ap (λ b. b && true && true) (and-true (linked net r peer))
    ∙ ap (λ b. b && true) (and-true (linked net r peer)) ∙ and-true (linked net r peer)) in
    let before : is_live net no_failures r peer ≡ linked net r peer = ap (λ b. b && true && true) (and-true (linked net r peer))
    ∙ ap (λ b. b && true) (and-true (linked net r peer)) ∙ and-true (linked net r peer) in
    mine ∙ sym before

module _ (net : PlainNet) (policy : PlainPolicy) (p : PlainPrefix) (f : Failures) (s : PlainStatement) (c : PlainCaseEvidence) (origin : ℕ → Bool)
    (external : Bool) (graph : IsGraph c.graph) (formed : IsWellFormed net origin external c.graph)
    (on : ℕ → Bool) (parent : ℕ → Option ℕ) (time : ℕ → ℕ) (support : IsSupport c.graph on parent time) (spared : IsSpared f c.graph on parent) (quiet : f.silent ≡ [])
    (before : AreToldByTops net policy no_failures p s c) (after : AreToldByTops net policy f p s c) where
  -- a router at which nothing is reached before has nothing after
  nothing : (r : ℕ) → ((n : ℕ) → ¬ IsReachedAt net no_failures c r n) → (n : ℕ) → ¬ IsReachedAt net f c r n
  nothing r none n at = none n (at.0, at.1, survives_all net (r ∷ at.0))

  stays : (r n : ℕ) → IsTopAt net no_failures c r n → on n ≡ true → IsTopAt net f c r n
  stays r n top at = top_stays net f c origin external formed on parent time support spared quiet r n (run_begins c.graph r n top.reached.0 top.reached.1) top at

  router : (r : ℕ) (rank : Option ℕ) → IsClaimedRouter net policy p s r → (o : Option ℕ) → IsTopOf net c on r o
      → IsBestRank net policy no_failures p s (r ∷ []) rank → IsBestRank net policy f p s (r ∷ []) rank
  router r rank claimed None none h =
      let same = best_ranks_are_one net policy no_failures p s (r ∷ []) rank None h (before.no_router r claimed none) in
      subst (λ (o : Option ℕ). IsBestRank net policy f p s (r ∷ []) o) (sym same) (after.no_router r claimed (nothing r none))
  router r rank claimed (Some n) top h =
      let same = best_ranks_are_one net policy no_failures p s (r ∷ []) rank (rank_at c.graph n) h (before.router r n claimed top.0) in
      subst (λ (o : Option ℕ). IsBestRank net policy f p s (r ∷ []) o) (sym same) (after.router r n claimed (stays r n top.0 top.1))

  session : (r peer : ℕ) (rank : Option ℕ) → IsClaimedSession net policy p s r peer → not (is_dead f r || is_dead f peer || is_dead_link f r peer) ≡ true → (o : Option ℕ) → IsTopOf net c on r o
      → IsBestRank net policy no_failures p s (peer ∷ r ∷ []) rank → IsBestRank net policy f p s (peer ∷ r ∷ []) rank
  session r peer rank claimed live None none h =
      let same = best_ranks_are_one net policy no_failures p s (peer ∷ r ∷ []) rank None h (before.no_session r peer claimed none) in
      subst (λ (o : Option ℕ). IsBestRank net policy f p s (peer ∷ r ∷ []) o) (sym same) (after.no_session r peer claimed (nothing r none))
  session r peer rank claimed live (Some n) top h =
      let was = best_ranks_are_one net policy no_failures p s (peer ∷ r ∷ []) rank (rank_over net no_failures c n r peer) h (before.session r peer n claimed top.0) in
      let same : rank_over net f c n r peer ≡ rank_over net no_failures c n r peer =
      ap (λ b. if b then option_and_then (rank_at c.graph) (step_at c.graph n peer) else None) (live_spared net f r peer live) in
      subst (λ (o : Option ℕ). IsBestRank net policy f p s (peer ∷ r ∷ []) o) (same ∙ sym was) (after.session r peer n claimed (stays r n top.0 top.1))

pub cuts_off_the_support_change_nothing : CutsOffTheSupportChangeNothing
cuts_off_the_support_change_nothing net policy config cs rules kept passes p f s k d prefix governs of_class at on parent time support spared quiet top of_routers of_sessions =
    let before = tops_tell_best_ranks net policy config cs rules kept passes p no_failures s k d prefix governs of_class at in
    let after = tops_tell_best_ranks net policy config cs rules kept passes p f s k d prefix governs of_class at in
    let c = case_of_class net policy config cs rules kept passes f p prefix k d of_class at in
    let graph = subst (λ (e : PlainCaseEvidence). IsGraph e.graph) c.1 c.0.on.graph in
    let formed = subst (λ (e : PlainCaseEvidence). IsWellFormed net (holds e.case.origins) e.case.external e.graph) c.1 c.0.on.faithful.formed in
    record {
      router =
          λ r rank claimed h. router net policy p f s d (holds d.case.origins) d.case.external graph formed on parent time support spared quiet
          before after r rank claimed (top r) (of_routers r claimed) h;
      session =
          λ r peer rank claimed live h. session net policy p f s d (holds d.case.origins) d.case.external graph formed on parent time support
          spared quiet before after r peer rank claimed live (top r) (of_sessions r peer claimed) h;
    }
