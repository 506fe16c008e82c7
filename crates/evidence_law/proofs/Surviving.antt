-- A walk survives by the failures exactly where it survives by what they leave alive.
use Rattle.std.proofs.Common.{◌≡◌, ℕ, Bool, true, false, List, [], ◌∷◌, Some, refl, ap, ◌∙◌}
use Rattle.std.specs.Prelude.{◌&&◌, not}
use Rattle.std.specs.List.{list_any}
use Rattle.std.proofs.lemmas.Bool.{and_parts, and_from, or_parts, not-true, not_from_false}
use Rattle.net_base.specs.Network.{PlainNet, is_peer, linked}
use Rattle.policy_base.specs.Meaning.{front}
use Rattle.policy_base.specs.Walks.{steps_linked}
use Rattle.graph_base.specs.Graphs.{PlainGraph, IsGraph}
use Rattle.graph_base.specs.Rules.{IsWellFormed}
use Rattle.graph_base.specs.Runs.{run}
use Rattle.outcome_base.specs.Outcomes.{Failures, is_dead, is_dead_link, is_silent, is_live, passes_live, ends_heard, survives}
use Rattle.evidence_law.proofs.RunWalks.{run_inner, run_linked}
use Rattle.evidence_law.proofs.Setting.{alive_of}
use Rattle.routing_law.specs.Network as law
use Rattle.net_base.proofs.Links.{any_flips, linked_flips}

module _ (net : PlainNet) (f : Failures) where
  -- ---- what is alive survives

  passes_alive : (path : List ℕ) → law.survives (alive_of net f) path ≡ true → passes_live f path ≡ true
  passes_alive [] h = refl
  passes_alive (v ∷ []) h = h
  passes_alive (v ∷ u ∷ p) h =
      let parts = and_parts (not (is_dead f v)) _ h in
      let rest = and_parts (is_live net f u v && not (is_peer net u && is_silent f v u)) (law.survives (alive_of net f) (u ∷ p)) parts.1 in
      let live = (and_parts (is_live net f u v) (not (is_peer net u && is_silent f v u)) rest.0).0 in
      let link =
      (and_parts (linked net u v) (not (is_dead_link f u v))
      (and_parts (linked net u v && not (is_dead_link f u v)) (not (is_dead f u)) (and_parts (linked net u v && not (is_dead_link f u v) && not (is_dead f u)) (not (is_dead f v)) live).0).0).1
      in
      let other : not (is_dead_link f v u) ≡ true = ap not (any_flips v u f.dead_links) ∙ link in
      and_from (not (is_dead f v) && not (is_dead_link f v u)) (passes_live f (u ∷ p)) (and_from (not (is_dead f v)) (not (is_dead_link f v u)) parts.0 other) (passes_alive (u ∷ p) rest.1)

  ends_alive : (path : List ℕ) → law.survives (alive_of net f) path ≡ true → ends_heard net f path ≡ true
  ends_alive [] h = refl
  ends_alive (l ∷ []) h = refl
  ends_alive (r ∷ p ∷ []) h =
      let parts = and_parts (not (is_dead f r)) _ h in
      let rest = and_parts (is_live net f p r && not (is_peer net p && is_silent f r p)) (law.survives (alive_of net f) (p ∷ [])) parts.1 in
      (and_parts (is_live net f p r) (not (is_peer net p && is_silent f r p)) rest.0).1
  ends_alive (l ∷ k ∷ j ∷ ls) h =
      let parts = and_parts (not (is_dead f l)) _ h in
      let rest = and_parts (is_live net f k l && not (is_peer net k && is_silent f l k)) (law.survives (alive_of net f) (k ∷ j ∷ ls)) parts.1 in
      ends_alive (k ∷ j ∷ ls) rest.1

  pub survives-alive : (path : List ℕ) → law.survives (alive_of net f) path ≡ true → survives net f path ≡ true
  survives-alive path h = and_from (passes_live f path) (ends_heard net f path) (passes_alive path h) (ends_alive path h)

  -- ---- and a walk that survives is alive

  dead_parts : (v u : ℕ) (p : List ℕ) → passes_live f (v ∷ u ∷ p) ≡ true → (not (is_dead f v) ≡ true) × (not (is_dead_link f v u) ≡ true) × (passes_live f (u ∷ p) ≡ true)
  dead_parts v u p h =
      let parts = and_parts (not (is_dead f v) && not (is_dead_link f v u)) (passes_live f (u ∷ p)) h in
      let first = and_parts (not (is_dead f v)) (not (is_dead_link f v u)) parts.0 in
      (first.0, first.1, parts.1)

  pub head_alive : (u : ℕ) (p : List ℕ) → passes_live f (u ∷ p) ≡ true → not (is_dead f u) ≡ true
  head_alive u [] h = h
  head_alive u (w ∷ p) h = (dead_parts u w p h).0

  -- what comes from u is heard, where u is no peer or is the last place
  carried : (v u : ℕ) (p : List ℕ) → linked net v u ≡ true → passes_live f (v ∷ u ∷ p) ≡ true → (is_peer net u && is_silent f v u) ≡ false → (alive_of net f).carries u v ≡ true
  carried v u p link passes quiet =
      let parts = dead_parts v u p passes in
      let l = linked_flips net u v ∙ link in
      let d : not (is_dead_link f u v) ≡ true = ap not (any_flips u v f.dead_links) ∙ parts.1 in
      let live = and_from (linked net u v && not (is_dead_link f u v) && not (is_dead f u)) (not (is_dead f v))
      (and_from (linked net u v && not (is_dead_link f u v)) (not (is_dead f u)) (and_from (linked net u v) (not (is_dead_link f u v)) l d) (head_alive u p parts.2)) parts.0 in
      and_from (is_live net f u v) (not (is_peer net u && is_silent f v u)) live (not_from_false _ quiet)

  silent_off : (b c : Bool) → b ≡ false → (b && c) ≡ false
  silent_off b c h = ap (λ x. x && c) h

  alive_walk : (v : ℕ) (rest : List ℕ) → steps_linked net (v ∷ rest) ≡ true → list_any (is_peer net) (front rest) ≡ false → passes_live f (v ∷ rest) ≡ true → ends_heard net f (v ∷ rest) ≡ true
      → law.survives (alive_of net f) (v ∷ rest) ≡ true
  alive_walk v [] linked_all peers passes heard = passes
  alive_walk v (u ∷ []) linked_all peers passes heard =
      let link = (and_parts (linked net v u) true linked_all).0 in
      let quiet : (is_peer net u && is_silent f v u) ≡ false = not-true _ heard in
      let parts = dead_parts v u [] passes in
      and_from (not (is_dead f v)) _ parts.0 (and_from ((alive_of net f).carries u v) (not (is_dead f u)) (carried v u [] link passes quiet) parts.2)
  alive_walk v (u ∷ w ∷ p) linked_all peers passes heard =
      let steps = and_parts (linked net v u) (steps_linked net (u ∷ w ∷ p)) linked_all in
      let none = or_parts (is_peer net u) (list_any (is_peer net) (front (w ∷ p))) peers in
      let parts = dead_parts v u (w ∷ p) passes in
      let there = carried v u (w ∷ p) steps.0 passes (silent_off (is_peer net u) (is_silent f v u) none.0) in
      and_from (not (is_dead f v)) _ parts.0 (and_from ((alive_of net f).carries u v) (law.survives (alive_of net f) (u ∷ w ∷ p)) there (alive_walk u (w ∷ p) steps.1 none.1 parts.2 heard))

  pub alive-survives : (v : ℕ) (rest : List ℕ) → steps_linked net (v ∷ rest) ≡ true → list_any (is_peer net) (front rest) ≡ false → survives net f (v ∷ rest) ≡ true
      → law.survives (alive_of net f) (v ∷ rest) ≡ true
  alive-survives v rest linked_all peers h =
      let parts = and_parts (passes_live f (v ∷ rest)) (ends_heard net f (v ∷ rest)) h in
      alive_walk v rest linked_all peers parts.0 parts.1

  -- a path that has a run is a walk
  pub run-survives : (origin : ℕ → Bool) (external : Bool) (g : PlainGraph) → IsGraph g → IsWellFormed net origin external g
      → (r n : ℕ) (rest : List ℕ) → run g (r ∷ rest) ≡ Some n → survives net f (r ∷ rest) ≡ true
      → law.survives (alive_of net f) (r ∷ rest) ≡ true
  run-survives origin external g ok formed r n rest runs h =
      alive-survives r rest (run_linked net origin external g ok formed (r ∷ rest) n runs) (run_inner net origin external g ok formed r n rest runs) h
