-- The rank of a node is that of the walks that lead to it.
use Rattle.std.proofs.Common.{◌≡◌, ℕ, ◌≤◌, Bool, true, false, cond, not, ◌&&◌, List, [], ◌∷◌, ◌++◌, length, reverse, slice_get, Some, None, is_some, refl, sym, ap, ◌∙◌, arith}
use Rattle.std.specs.List.{list_all}
use Rattle.std.proofs.lemmas.Bool.{and_parts, and_from, false≢true, not_from_false}
use Rattle.std.proofs.lemmas.List.{reverse-append, reverse-reverse}
use Rattle.net_base.specs.Network.{PlainNet, IsNet, is_location}
use Rattle.policy_base.specs.Policies.{Ranking}
use Rattle.policy_base.specs.Meaning.{rank_of}
use Rattle.policy_base.specs.Permitted.{from_holds}
use Rattle.net_base.specs.NetSets.{locations}
use Rattle.path_exprs.specs.Runs.{first_with}
use Rattle.net_base.proofs.NetSetLaws.{all_held}
use Rattle.path_law.proofs.RunLaws.{first_with-reverse}
use Rattle.path_exprs.specs.Forward.{expressions}
use Rattle.path_law.proofs.RankedLaws.{held-alternatives, first_with-rank}
use Rattle.graph_base.specs.Runs.{rank_at}
use Rattle.graph_base.proofs.NodesRead.{rank_at-node}
use Rattle.walk_states.specs.Built.{node_of, rank_of_standing, graph_over}
use Rattle.path_exprs.specs.Standings.{Plan, Standing, AreStandings, is_dead}
use Rattle.graph_law.specs.Ways.{left_after, standing_after, stays_alive}
use Rattle.graph_law.proofs.Left.{left_after-more, dead-derivative}
use Rattle.graph_law.proofs.RunPaths.{GoesTo, goes_from_rest, goes_link}
use Rattle.graph_law.proofs.Nodes.{node_at}
use Rattle.graph_law.proofs.BuiltRuns.{standing_of_run}
use Rattle.graph_base.proofs.RunSteps.{RunsTo}
use Rattle.net_base.proofs.Links.{linked_flips, linked_known}

list_all-push : (p : ℕ → Bool) (xs : List ℕ) (x : ℕ) → list_all p xs ≡ true → p x ≡ true → list_all p (xs ++ x ∷ []) ≡ true
list_all-push p [] x h k = and_from (p x) true k refl
list_all-push p (y ∷ ys) x h k =
    let parts = and_parts (p y) (list_all p ys) h in
    and_from (p y) (list_all p (ys ++ x ∷ [])) parts.0 (list_all-push p ys x parts.1 k)

list_all-reverse : (p : ℕ → Bool) (xs : List ℕ) → list_all p xs ≡ true → list_all p (reverse xs) ≡ true
list_all-reverse p [] h = refl
list_all-reverse p (x ∷ xs) h =
    let parts = and_parts (p x) (list_all p xs) h in
    ap (list_all p) (reverse-append (x ∷ []) xs) ∙ list_all-push p (reverse xs) x (list_all-reverse p xs parts.1) parts.0

-- all places of a walk are locations
located : (net : PlainNet) → IsNet net → (origin : ℕ → Bool) (l k : ℕ) (ls : List ℕ) → GoesTo net origin (l ∷ k ∷ ls) → list_all (is_location net) (l ∷ k ∷ ls) ≡ true
located net rules origin l k [] h =
    and_from (is_location net l) (is_location net k && true) (linked_known net l k rules (goes_link net origin l k [] h)).0
    (and_from (is_location net k) true (linked_known net k l rules (linked_flips net k l ∙ (goes_link net origin l k [] h))).0 refl)
located net rules origin l k (j ∷ ls) h =
    and_from (is_location net l) (list_all (is_location net) (k ∷ j ∷ ls)) (linked_known net l k rules (goes_link net origin l k (j ∷ ls) h)).0
    (located net rules origin k j ls (goes_from_rest net origin l k (j ∷ ls) h))

-- what is left of the alternatives after a walk holds the empty list where they hold the walk
pub rank_of_walk : (net : PlainNet) → IsNet net → (plan : Plan) (ranked : Ranking) → plan.expressions ≡ expressions net ranked → (l k : ℕ) (ls : List ℕ) →
    GoesTo net plan.origin (l ∷ k ∷ ls) → first_with [] (left_after net plan (l ∷ k ∷ ls)) ≡ rank_of net ranked (l ∷ k ∷ ls)
rank_of_walk net rules plan ranked e l k ls h =
    let within = located net rules plan.origin l k ls h in
    let long : 2 ≤ length (l ∷ k ∷ ls) = omega arith in
    first_with-reverse (locations net) plan.expressions (reverse (l ∷ k ∷ ls)) (all_held net rules (reverse (l ∷ k ∷ ls)) (list_all-reverse (is_location net) (l ∷ k ∷ ls) within))
    ∙ ap (λ path. first_with path plan.expressions) (reverse-reverse (l ∷ k ∷ ls))
    ∙ ap (first_with (l ∷ k ∷ ls)) e
    ∙ first_with-rank net ranked (l ∷ k ∷ ls) (held-alternatives net ranked (l ∷ k ∷ ls) rules long within)

alive_before : (net : PlainNet) (plan : Plan) (l k : ℕ) (ls : List ℕ) → is_dead (left_after net plan (l ∷ k ∷ ls)) ≡ false → is_dead (left_after net plan (k ∷ ls)) ≡ false
alive_before net plan l k ls h =
    by (is_dead (left_after net plan (k ∷ ls))) refl
  where
    by : (b : Bool) → is_dead (left_after net plan (k ∷ ls)) ≡ b → b ≡ false
    by true e = absurd (false≢true (sym h ∙ ap is_dead (left_after-more net plan l (k ∷ ls)) ∙ dead-derivative l (left_after net plan (k ∷ ls)) e))
    by false e = refl

-- a walk after which something is left is alive all along
pub alive_all_along : (net : PlainNet) (plan : Plan) (l : ℕ) (ls : List ℕ) → is_dead (left_after net plan (l ∷ ls)) ≡ false → stays_alive net plan (l ∷ ls) ≡ true
alive_all_along net plan l [] h = refl
alive_all_along net plan l (k ∷ ls) h =
    and_from (not (is_dead (left_after net plan (l ∷ k ∷ ls)))) (stays_alive net plan (k ∷ ls)) (not_from_false (is_dead (left_after net plan (l ∷ k ∷ ls))) h)
    (alive_all_along net plan k ls (alive_before net plan l k ls h))

-- ranks of nodes

rank-where_it_starts : (plan : Plan) (x : Standing) → (from_holds plan.from x.at && not (plan.origin x.at)) ≡ true → rank_of_standing plan x ≡ first_with [] x.left
rank-where_it_starts plan x h = ap (λ b. cond b (first_with [] x.left) None) h

pub rank-elsewhere : (plan : Plan) (x : Standing) → (from_holds plan.from x.at && not (plan.origin x.at)) ≡ false → rank_of_standing plan x ≡ None
rank-elsewhere plan x h = ap (λ b. cond b (first_with [] x.left) None) h

module _ (net : PlainNet) (plan : Plan) (xs : List Standing) (are : AreStandings net plan xs) where
  pub rank_of_node : (n : ℕ) (x : Standing) → slice_get xs n ≡ Some x → rank_at (graph_over net plan xs) n ≡ rank_of_standing plan x
  rank_of_node n x h = rank_at-node (graph_over net plan xs) n (node_of net plan x) (node_at net plan xs are n x h)

  rank_of_run : (l : ℕ) (ls : List ℕ) (n : ℕ) → RunsTo (graph_over net plan xs) (l ∷ ls) n → rank_at (graph_over net plan xs) n ≡ rank_of_standing plan (standing_after net plan l ls)
  rank_of_run l ls n r = rank_of_node n (standing_after net plan l ls) (standing_of_run net plan xs are l ls n r)

  -- where walks may start
  pub rank_at_start : (l : ℕ) (ls : List ℕ) (n : ℕ) → RunsTo (graph_over net plan xs) (l ∷ ls) n → (from_holds plan.from l && not (plan.origin l)) ≡ true →
      rank_at (graph_over net plan xs) n ≡ first_with [] (left_after net plan (l ∷ ls))
  rank_at_start l ls n r h = rank_of_run l ls n r ∙ rank-where_it_starts plan (standing_after net plan l ls) h

  -- a node with a rank is where walks may start
  pub starts_from_rank : (l : ℕ) (ls : List ℕ) (n : ℕ) → RunsTo (graph_over net plan xs) (l ∷ ls) n → is_some (rank_at (graph_over net plan xs) n) ≡ true →
      (from_holds plan.from l && not (plan.origin l)) ≡ true
  starts_from_rank l ls n r h = by (from_holds plan.from l && not (plan.origin l)) refl
    where
      by : (b : Bool) → (from_holds plan.from l && not (plan.origin l)) ≡ b → b ≡ true
      by true e = refl
      by false e = absurd (false≢true (ap is_some (sym (rank_of_run l ls n r ∙ rank-elsewhere plan (standing_after net plan l ls) e)) ∙ h))
