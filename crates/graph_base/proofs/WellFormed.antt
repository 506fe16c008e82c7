-- What the rules of a well-formed graph say of its starts, its steps and its nodes.
use Rattle.std.proofs.Common.{◌≡◌, ℕ, ◌<◌, Bool, true, false, not, List, [], ◌∷◌, length, Some, inl, inr, sym, ap, ◌∙◌}
use Rattle.std.specs.Prelude.{◌&&◌}
use Rattle.std.proofs.lemmas.Bool.{and_from, and_parts, both_ways, not-true, or_cases}
use Rattle.net_base.specs.Network.{PlainNet, is_peer, is_router, linked}
use Rattle.graph_base.specs.Graphs.{PlainGraph, IsGraph}
use Rattle.graph_base.specs.Rules.{IsWellFormed}
use Rattle.graph_base.specs.Runs.{place_of, is_listener, is_start, has_step, start_at, step_at, IsTrail, Reaches}
use Rattle.graph_base.proofs.Determined.{start_at-start, step_at-step}
use Rattle.graph_base.proofs.StartsAndSteps.{step_nodes}

pub linked_parts : (net : PlainNet) (g : PlainGraph) (m n : ℕ) → (linked net (place_of g m) (place_of g n) && not (is_start g n)) ≡ true
    → (linked net (place_of g m) (place_of g n) ≡ true) × (is_start g n ≡ false)
linked_parts net g m n h = let parts = and_parts (linked net (place_of g m) (place_of g n)) (not (is_start g n)) h in (parts.0, not-true _ parts.1)

-- a step into a peer is one to a node that hears
pub heard_at_peers : (net : PlainNet) (origin : ℕ → Bool) (external : Bool) (g : PlainGraph) → IsGraph g → IsWellFormed net origin external g
    → (m n : ℕ) → has_step g m n ≡ true → is_peer net (place_of g n) ≡ true
    → is_listener g n ≡ true
heard_at_peers net origin external g rules formed m n step peer =
    let no_start = (linked_parts net g m n (formed.links m n step)).1 in
    formed.listeners n (step_nodes g m n rules step).1 ∙ and_from (is_peer net (place_of g n)) (not (is_start g n)) peer (ap not no_start)

-- where steps lead on from a node, some step leads to the last
entered : (g : PlainGraph) (a b c : ℕ) (via : List ℕ) → IsTrail g a (c ∷ via) b → (m : ℕ) × (has_step g m b ≡ true)
entered g a b c [] trail = (a, ap (has_step g a) (sym trail.1) ∙ trail.0)
entered g a b c (d ∷ via) trail = entered g c b d via trail.1

module _ (net : PlainNet) (origin : ℕ → Bool) (external : Bool) (g : PlainGraph) (formed : IsWellFormed net origin external g) where
  -- ---- by their locations

  pub start_at-of : (n : ℕ) → is_start g n ≡ true → start_at g (place_of g n) ≡ Some n
  start_at-of n h = start_at-start g n formed.one_start h

  pub step_at-of : (n m : ℕ) → has_step g n m ≡ true → step_at g n (place_of g m) ≡ Some m
  step_at-of n m h = step_at-step g n m formed.one_step h

  -- at most one start is at a location, and a node steps to at most one node there
  pub one_start : (m n : ℕ) → is_start g m ≡ true → is_start g n ≡ true → place_of g m ≡ place_of g n → m ≡ n
  one_start m n a b e = let at : Some m ≡ Some n = sym (start_at-of m a) ∙ ap (start_at g) e ∙ start_at-of n b in cc

  pub one_step : (k m n : ℕ) → has_step g k m ≡ true → has_step g k n ≡ true → place_of g m ≡ place_of g n → m ≡ n
  one_step k m n a b e = let at : Some m ≡ Some n = sym (step_at-of k m a) ∙ ap (step_at g k) e ∙ step_at-of k n b in cc

  -- ---- starts alone

  pub no_step_to_start : (m n : ℕ) → has_step g m n ≡ true → is_start g n ≡ true → ⊥
  no_step_to_start m n st start = both_ways _ (not-true _ (and_parts (linked net (place_of g m) (place_of g n)) _ (formed.links m n st)).1) start

  pub only_itself : (k n : ℕ) → is_start g n ≡ true → Reaches g k n → k ≡ n
  only_itself k n start ([], trail) = trail
  only_itself k n start (c ∷ via, trail) = let x : (m : ℕ) × (has_step g m n ≡ true) = entered g k n c via trail in absurd (no_step_to_start x.0 n x.1 start)

  pub start_there : (m n : ℕ) → m < length g.nodes → is_start g n ≡ true → place_of g m ≡ place_of g n → is_start g m ≡ true
  start_there m n lt start e = formed.alone m lt (ap origin e ∙ formed.starts n start)

  -- away from the routers a node with steps is the only one at its location
  pub alone_with_steps : (m n t : ℕ) → m < length g.nodes → place_of g m ≡ place_of g n → is_router net (place_of g n) ≡ false → has_step g n t ≡ true → (m ≡ n) × (is_start g n ≡ true)
  alone_with_steps m n t lt e away st = elim (or_cases (is_start g n) (is_router net (place_of g n)) (formed.from n t st)) [
    | inl start ↦ (one_start m n (start_there m n lt start e) start e, start)
    | inr router ↦ absurd (both_ways _ away router)
  ]
