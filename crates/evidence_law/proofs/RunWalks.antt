-- A path with a run is a walk to an origin, or an origin alone.
use Rattle.std.proofs.Common.{◌≡◌, ℕ, Bool, true, false, List, [], ◌∷◌, length, Some, refl, arith, sym, ap₂, ◌∙◌, subst}
use Rattle.std.specs.Prelude.{◌&&◌, not, nat_le}
use Rattle.std.specs.List.{list_any}
use Rattle.std.proofs.lemmas.Bool.{and_from, or_from, or_left, or_right, not_from_false, le-leb}
use Rattle.net_base.specs.Network.{PlainNet, is_peer, linked}
use Rattle.policy_base.specs.Meaning.{at_last, front}
use Rattle.policy_base.specs.Walks.{steps_linked, is_walk}
use Rattle.policy_base.specs.Permitted.{ends_at_origin}
use Rattle.graph_base.specs.Graphs.{PlainGraph, IsGraph}
use Rattle.graph_base.specs.Runs.{place_of, run}
use Rattle.graph_base.specs.Rules.{IsWellFormed}
use Rattle.evidence_law.specs.Faithful.{is_walk_to, is_origin_alone, is_run_path}
use Rattle.net_base.proofs.Links.{linked_flips}
use Rattle.graph_base.proofs.StartsAndSteps.{start_at-is}
use Rattle.graph_base.proofs.WellFormed.{linked_parts}
use Rattle.graph_base.proofs.RunSteps.{inner_router, last_step, late_no_origin, run_begins}
use Rattle.evidence_law.specs.Laws.{RunsAreWalks}

module _ (net : PlainNet) (origin : ℕ → Bool) (external : Bool) (g : PlainGraph) (graph_rules : IsGraph g) (formed : IsWellFormed net origin external g) where
  pub run_linked : (path : List ℕ) (n : ℕ) → run g path ≡ Some n → steps_linked net path ≡ true
  run_linked [] n h = refl
  run_linked (l ∷ []) n h = refl
  run_linked (l ∷ k ∷ ls) n h =
      let s = last_step g l k n ls h in
      let link = (linked_parts net g s.0 n (formed.links s.0 n s.2)).0 in
      let there : linked net l k ≡ true = ap₂ (linked net) (sym s.3) (sym (run_begins g k s.0 ls s.1)) ∙ linked_flips net (place_of g n) (place_of g s.0) ∙ link in
      and_from (linked net l k) (steps_linked net (k ∷ ls)) there (run_linked (k ∷ ls) s.0 s.1)

  pub run_inner : (l n : ℕ) (ls : List ℕ) → run g (l ∷ ls) ≡ Some n → list_any (is_peer net) (front ls) ≡ false
  run_inner l n [] h = refl
  run_inner l n (k ∷ []) h = refl
  run_inner l n (k ∷ j ∷ ls) h =
      let s = last_step g l k n (j ∷ ls) h in
      or_from (is_peer net k) (list_any (is_peer net) (front (j ∷ ls))) (inner_router net origin external g graph_rules formed l k j n ls h) (run_inner k s.0 (j ∷ ls) s.1)

  run_last : (path : List ℕ) (n : ℕ) → run g path ≡ Some n → at_last origin path ≡ true
  run_last [] n h = absurd (cc)
  run_last (l ∷ []) n h = let is = start_at-is g l n h in subst (λ z. origin z ≡ true) is.1 (formed.starts n is.0)
  run_last (l ∷ k ∷ ls) n h = let s = last_step g l k n ls h in run_last (k ∷ ls) s.0 s.1

  run_only : (path : List ℕ) (n : ℕ) → run g path ≡ Some n → list_any origin (front path) ≡ false
  run_only [] n h = refl
  run_only (l ∷ []) n h = refl
  run_only (l ∷ k ∷ ls) n h =
      let s = last_step g l k n ls h in
      or_from (origin l) (list_any origin (front (k ∷ ls))) (late_no_origin net origin external g graph_rules formed l k n ls h) (run_only (k ∷ ls) s.0 s.1)

  pub run_walk : (l k n : ℕ) (ls : List ℕ) → run g (l ∷ k ∷ ls) ≡ Some n → is_walk_to net origin (l ∷ k ∷ ls) ≡ true
  run_walk l k n ls h =
      let path = l ∷ k ∷ ls in
      let two : nat_le 2 (length path) ≡ true = le-leb 2 (length path) (omega arith) in
      let long = and_from (nat_le 2 (length path)) (steps_linked net path) two (run_linked path n h) in
      let walk : is_walk net path ≡ true =
      and_from (nat_le 2 (length path) && steps_linked net path) (not (list_any (is_peer net) (front (k ∷ ls)))) long
      (not_from_false _ (run_inner l n (k ∷ ls) h)) in
      let ends : ends_at_origin origin path ≡ true = and_from (at_last origin path) (not (list_any origin (front path))) (run_last path n h) (not_from_false _ (run_only path n h)) in
      and_from (is_walk net path) (ends_at_origin origin path) walk ends

  run_path : (path : List ℕ) (n : ℕ) → run g path ≡ Some n → is_run_path net origin path ≡ true
  run_path [] n h = absurd (cc)
  run_path (l ∷ []) n h = or_right (is_walk_to net origin (l ∷ [])) (origin l) (run_last (l ∷ []) n h)
  run_path (l ∷ k ∷ ls) n h = or_left (is_walk_to net origin (l ∷ k ∷ ls)) (is_origin_alone origin (l ∷ k ∷ ls)) (run_walk l k n ls h)

pub runs_are_walks : RunsAreWalks
runs_are_walks net origin external g rules formed path n h = run_path net origin external g rules formed path n h
