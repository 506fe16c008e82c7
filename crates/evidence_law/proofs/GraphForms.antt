-- A well-formed graph, its rules and its runs, as the laws of routing see them.
use Rattle.std.proofs.Common.{◌≡◌, ℕ, ◌<◌, Bool, true, false, List, [], ◌∷◌, length, Some, refl, sym, ap, ◌∙◌, inl, inr, subst}
use Rattle.std.specs.Prelude.{not}
use Rattle.std.specs.Option.{option_and_then}
use Rattle.std.proofs.lemmas.Bool.{and_parts, and_from, and_left, or_left, or_right, or_cases, true≢false, cases_Bool, not_from_false, ltb-true}
use Rattle.list_law.proofs.Options.{option_and_then_parts}
use Rattle.net_base.specs.Network.{PlainNet, IsNet, is_router, is_location, linked}
use Rattle.graph_base.specs.Graphs.{PlainGraph, IsGraph}
use Rattle.graph_base.specs.Runs.{place_of, is_start, has_step, is_listener, step_at, Reaches}
use Rattle.graph_base.specs.Runs as plain
use Rattle.graph_base.specs.Rules.{IsWellFormed, IsOver, MeetsRules}
use Rattle.evidence_law.proofs.Setting.{network_of, graph_of}
use Rattle.net_base.proofs.RoutersAndPeers.{router_no_peer}
use Rattle.routing_law.specs.Graph as law
use Rattle.net_base.proofs.Links.{linked_known}
use Rattle.graph_base.proofs.StartsAndSteps.{start_node, step_nodes, start_at-is, step_at-is}
use Rattle.graph_base.proofs.WellFormed.{linked_parts, start_at-of, step_at-of}

pub same_run : (g : PlainGraph) (number : ℕ → ℕ) (path : List ℕ) → law.run (graph_of g number) path ≡ plain.run g path
same_run g number [] = refl
same_run g number (l ∷ []) = refl
same_run g number (l ∷ k ∷ ls) = ap (option_and_then (λ n. step_at g n l)) (same_run g number (k ∷ ls))

-- a node of at least the number of another at its router is over it
pub over : (net : PlainNet) (g : PlainGraph) (number : ℕ → ℕ) (m n : ℕ) → is_router net (place_of g n) ≡ true → law.AtLeast (graph_of g number) m n → IsOver net g number m n
over net g number m n router a = record { better = a.known; worse = a.other; place = a.place; router = router; numbers = a.number }

module _ (net : PlainNet) (origin : ℕ → Bool) (external : Bool) (g : PlainGraph) (number : ℕ → ℕ) (net_rules : IsNet net) (graph_rules : IsGraph g)
    (known : (l : ℕ) → origin l ≡ true → is_location net l ≡ true) (formed : IsWellFormed net origin external g) where
  not_origin : (m : ℕ) → m < length g.nodes → is_start g m ≡ false → origin (place_of g m) ≡ false
  not_origin m node off = elim (cases_Bool (origin (place_of g m))) [
    | inl t ↦ absurd (true≢false (sym (formed.alone m node t) ∙ off))
    | inr t ↦ t
  ]

  -- a step, by its parts
  step_parts : (n z m : ℕ) → step_at g n z ≡ Some m → (has_step g n m ≡ true) × (place_of g m ≡ z) × (linked net (place_of g n) (place_of g m) ≡ true) × (is_start g m ≡ false)
  step_parts n z m h =
      let s = step_at-is g n z m h in
      let l = linked_parts net g n m (formed.links n m s.0) in
      (s.0, s.1, l.0, l.1)

  pub well_formed : law.WellFormed (network_of net origin) (graph_of g number)
  well_formed = record {
    start_origin = λ o s h. let is = start_at-is g o s h in subst (λ l. origin l ≡ true) is.1 (formed.starts s is.0);
    start_place = λ o s h. (start_at-is g o s h).1;
    start_below = λ o s h.
        let is = start_at-is g o s h in
        let at : origin o ≡ true = subst (λ l. origin l ≡ true) is.1 (formed.starts s is.0) in
        (ltb-true _ _ (known o at), start_node g s graph_rules is.0);
    origin_start = λ n node at. start_at-of net origin external g formed n (formed.alone n node at);
    next_place = λ n z m h. (step_at-is g n z m h).1;
    next_below = λ n z m h.
        let s = step_parts n z m h in
        let nodes = step_nodes g n m graph_rules s.0 in
        let at : is_location net z ≡ true = subst (λ l. is_location net l ≡ true) s.1 (linked_known net _ _ net_rules s.2).1 in
        (nodes.0, ltb-true _ _ at, nodes.1);
    next_origin = λ n z m h.
        let s = step_parts n z m h in
        let nodes = step_nodes g n m graph_rules s.0 in
        subst (λ l. origin l ≡ false) s.1 (not_origin m nodes.1 s.3);
    next_from = λ n z m h.
        let s = step_parts n z m h in
        elim (or_cases (is_start g n) (is_router net (place_of g n)) (formed.from n m s.0)) [
          | inl t ↦ or_left (origin (place_of g n)) (is_router net (place_of g n)) (formed.starts n t)
          | inr t ↦ or_right (origin (place_of g n)) (is_router net (place_of g n)) t
        ];
  }

  -- a node at a router doesn't hear
  deaf : (n : ℕ) → n < length g.nodes → is_router net (place_of g n) ≡ true → not (is_listener g n) ≡ true
  deaf n node router = not_from_false _ (formed.listeners n node ∙ and_left _ _ (router_no_peer net (place_of g n) router))

  -- steps that follow one another
  pub trail : (k m : ℕ) (zs : List ℕ) → law.follow (graph_of g number) k zs ≡ Some m → Reaches g k m
  trail k m [] h = ([], cc)
  trail k m (z ∷ zs) h =
      let first = option_and_then_parts (λ n. law.follow (graph_of g number) n zs) (step_at g k z) m h in
      let rest = trail first.0 m zs first.2 in
      (first.0 ∷ rest.0, ((step_at-is g k z first.0 first.1).0, rest.1))

  pub meets_rules : (Claimed : ℕ → Type 0) → MeetsRules net Claimed external g number → law.MeetsRules (network_of net origin) (graph_of g number)
  meets_rules Claimed rules = record {
    step = λ m n z n' router a at h.
        let s = step_parts n z n' h in
        let nodes = step_nodes g n n' graph_rules s.0 in
        let here : is_router net (place_of g n') ≡ true = ap (is_router net) s.1 ∙ at in
        let on = and_from (has_step g n n') (not (is_listener g n')) s.0 (deaf n' nodes.1 here) in
        let found = rules.step m n n' (over net g number m n router a) on in
        let parts = and_parts (has_step g m found.0) (not (is_listener g found.0)) found.1 in
        let there : step_at g m z ≡ Some found.0 = ap (step_at g m) (sym (found.2 ∙ s.1)) ∙ step_at-of net origin external g formed m found.0 parts.0 in
        (found.0, there, found.3);
    loop = λ m n z n' k router a at h node place reach.
        let s = step_parts n z n' h in
        let nodes = step_nodes g n n' graph_rules s.0 in
        let here : is_router net (place_of g n') ≡ true = ap (is_router net) s.1 ∙ at in
        let on = and_from (has_step g n n') (not (is_listener g n')) s.0 (deaf n' nodes.1 here) in
        rules.loop m n n' k (over net g number m n router a) on node (place ∙ sym s.1) (trail k m reach.0 reach.1);
  }
