-- The nodes of a case's graph: their places and their ranks.
use Rattle.std.proofs.Common.{◌≡◌, ◌≢◌, ℕ, ◌+◌, ◌<◌, ◌≤◌, Bool, true, List, [], ◌∷◌, length, Option, Some, refl, sym, ap, ◌∙◌, arith, inl, inr}
use Rattle.std.specs.Prelude.{unwrap_or, option_map, option_and_then}
use Rattle.std.specs.List.{AllByRecursion}
use Rattle.std.proofs.lemmas.Bool.{cases_Bool, ltb-true, not_from_false}
use Rattle.std.proofs.lemmas.Option.{slice_get_within}
use Rattle.list_law.proofs.Members.{AllByRecursion-from_IsIn}
use Rattle.net_base.specs.Network.{PlainNet, IsNet, is_location}
use Rattle.policy_base.specs.Meaning.{PathTest, alternatives, place_of as first_place, rank_of}
use Rattle.policy_base.specs.Policies.{PlainStatement, Ranking}
use Rattle.graph_base.specs.declared.graph.Node.{Node}
use Rattle.graph_base.specs.Graphs.{PlainGraph, IsGraph}
use Rattle.graph_base.specs.Runs.{place_of, rank_at, run}
use Rattle.policy_base.specs.CaseOrigins.{AreOrigins}
use Rattle.evidence_law.specs.Faithful.{IsFaithful, may_start}
use Rattle.graph_base.proofs.StartsAndSteps.{start_at-is}
use Rattle.graph_base.proofs.RunSteps.{last_step}
use Rattle.graph_base.proofs.WellFormed.{linked_parts}
use Rattle.net_base.proofs.Links.{linked_known}
use Rattle.policy_base.proofs.KnownCases.{origins_known}

-- a place is counted from k
place_counts : (tests : List PathTest) (path : List ℕ) (k m : ℕ) → first_place tests path k ≡ Some m → k ≤ m
place_counts [] path k m h = absurd cc
place_counts (p ∷ ps) path k m h = elim (cases_Bool (p path)) [
  | inl t ↦ let here : Some k ≡ Some m = sym (rw t refl) ∙ h in let same : k ≡ m = cc in omega (arith, same)
  | inr t ↦ let later : first_place ps path (k + 1) ≡ Some m = sym (rw t refl) ∙ h in omega (arith, place_counts ps path (k + 1) m later)
]

-- a rank is counted from 1
rank_counts : (net : PlainNet) (ranked : Ranking) (path : List ℕ) → rank_of net ranked path ≢ Some 0
rank_counts net ranked path h = absurd (omega (arith, place_counts (alternatives net ranked) path 1 0 h))

module _ (net : PlainNet) (rules : IsNet net) (s : PlainStatement) (origin : ℕ → Bool) (external : Bool) (origins : AreOrigins net origin external) (g : PlainGraph) (graph : IsGraph g)
    (faithful : IsFaithful net s origin external g) where
  -- the node in which a run ends is at a location
  run_at : (path : List ℕ) (n : ℕ) → run g path ≡ Some n → is_location net (place_of g n) ≡ true
  run_at [] n h = absurd cc
  run_at (l ∷ []) n h = let start = start_at-is g l n h in origins_known net origin external origins (place_of g n) (faithful.formed.starts n start.0)
  run_at (l ∷ k ∷ ls) n h =
      let last = last_step g l k n ls h in
      let link = (linked_parts net g last.0 n (faithful.formed.links last.0 n last.2)).0 in
      (linked_known net (place_of g last.0) (place_of g n) rules link).1

  pub node_located : (n : ℕ) → n < length g.nodes → is_location net (place_of g n) ≡ true
  node_located n within = let ended = faithful.is_ended n within in run_at ended.0 n ended.2

  node_counts : (n : ℕ) → n < length g.nodes → rank_at g n ≢ Some 0
  node_counts n within h =
      let ended = faithful.is_ended n within in
      elim (cases_Bool (may_start origin s (place_of g n))) [
        | inl t ↦ rank_counts net s.ranked ended.0 (sym (faithful.ranks ended.0 n ended.2 t) ∙ h)
        | inr t ↦ let none = faithful.unranked n within (not_from_false _ t) in absurd cc
      ]

  -- places of nodes are below 768, and their ranks aren't 0
  pub places : AllByRecursion (λ (n : Node). n.loc < 768) g.nodes
  places = AllByRecursion-from_IsIn (λ (n : Node). n.loc < 768) g.nodes (λ node (n, at).
      let here : place_of g n ≡ node.loc = ap (λ (o : Option Node). unwrap_or (option_map (λ (x : Node). x.loc) o) 0) at in
      omega (arith, here, ltb-true _ _ (node_located n (slice_get_within g.nodes n node at)), rules.routers, rules.peers))

  pub ranks : AllByRecursion (λ (n : Node). n.rank ≢ Some 0) g.nodes
  ranks = AllByRecursion-from_IsIn (λ (n : Node). n.rank ≢ Some 0) g.nodes (λ node (n, at) zero_rank.
      let here : rank_at g n ≡ node.rank = ap (λ (o : Option Node). option_and_then (λ (x : Node). x.rank) o) at in
      node_counts n (slice_get_within g.nodes n node at) (here ∙ zero_rank))
