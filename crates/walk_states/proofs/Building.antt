-- The graph over the standings that were reached and asked.
use Rattle.std.proofs.Common.{◌≡◌, ℕ, ◌+◌, ◌<◌, ◌≤◌, Bool, true, false, cond, List, [], ◌∷◌, ◌++◌, map, take, length, refl, sym, ap, subst, ◌∙◌, arith, length-append}
use Rattle.std.specs.Prelude.{filter, slice_get, Some, ◌&&◌, ◌||◌, not}
use Rattle.std.specs.List.{flat_map, AllByRecursion}
use Rattle.std.proofs.lemmas.List.{take_all, length-map}
use Rattle.list_law.proofs.Each.{AllByRecursion-append, AllByRecursion-weaker}
use Rattle.graph_base.specs.Graphs.{IsGraph}
use Rattle.graph_base.specs.declared.graph.Node.{Node}
use Rattle.net_base.specs.Network.{PlainNet, is_router, linked}
use Rattle.net_base.specs.Sets.{holds}
use Rattle.policy_base.specs.declared.case.Case.{Case}
use Rattle.policy_base.specs.declared.policy.FromSet.{FromSet}
use Rattle.path_exprs.specs.Derivative.{derivative}
use Rattle.path_exprs.specs.Expression.{Expression}
use Rattle.net_base.specs.NetSets.{locations}
use Rattle.path_exprs.specs.Runs.{start_of}
use Rattle.walk_states.specs.Built.{graph_over, node_of, place_in, steps_from}
use Rattle.path_exprs.specs.Standings.{AreStandings, Plan, Standing, is_dead, may_go, moved, starts, targets, AreReached, plan_of}
use Rattle.net_base.specs.Locations.{in_order, numbers_below}
use Rattle.walk_states.specs.Growth.{AreAsked, each_live, gathered, left_in, live, may_enter, next_in, steps_over, steps_to, ways}
use Rattle.net_base.proofs.NumbersBelow.{numbers-below}
use Rattle.walk_states.proofs.SameStandings.{Among, among-first, among-later}
use Rattle.walk_states.proofs.Gathering.{among-left, among-right, gathered-among, gathered-append, place-within, without_repeats-gathered}
use Rattle.walk_states.proofs.Numbering.{left_in-is}
use Rattle.walk_states.proofs.Starting.{gathered-starts}

-- targets

live-filter : (left : List Expression) (p : ℕ → Bool) (ls : List ℕ)
    → flat_map (live left) (filter p ls) ≡ map (moved left) (filter (λ l. p l && not (is_dead (map (derivative l) left))) ls)
unfolding live
live-filter left p [] = refl
live-filter left p (l ∷ ls) = at (live-filter left p ls) (p l) (is_dead (map (derivative l) left)) refl
  where
    rest : List ℕ
    rest = filter (λ l. p l && not (is_dead (map (derivative l) left))) ls

    at : flat_map (live left) (filter p ls) ≡ map (moved left) rest → (b c : Bool) → is_dead (map (derivative l) left) ≡ c
        → flat_map (live left) (cond b (l ∷ filter p ls) (filter p ls)) ≡ map (moved left) (cond (b && not (is_dead (map (derivative l) left))) (l ∷ rest) rest)
    at h true true e =
        ap (λ d. cond d [] (moved left l ∷ []) ++ flat_map (live left) (filter p ls)) e ∙ h
        ∙ sym (ap (λ d. map (moved left) (cond (not d) (l ∷ rest) rest)) e)
    at h true false e =
        ap (λ d. cond d [] (moved left l ∷ []) ++ flat_map (live left) (filter p ls)) e ∙ ap (λ m. moved left l ∷ m) h
        ∙ sym (ap (λ d. map (moved left) (cond (not d) (l ∷ rest) rest)) e)
    at h false c e = h

four_tests : (a b c d : Bool) → ((a && (b && c)) && d) ≡ (a && b && c && d)
four_tests true true c d = refl
four_tests true false c d = refl
four_tests false b c d = refl

next-targets : (net : PlainNet) (es : List Expression) (from : FromSet) (case : Case) (x : Standing) → next_in net case x ≡ targets net (plan_of es from case) x
unfolding next_in ways each_live
next-targets net es from case x = at (holds case.origins x.at || is_router net x.at)
  where
    tests : (l : ℕ) → ((linked net x.at l && may_enter net case l) && not (is_dead (map (derivative l) x.left))) ≡ may_go net (plan_of es from case) x l
    tests l = four_tests (linked net x.at l) (not (holds case.origins l)) (is_router net l || not case.external) (not (is_dead (map (derivative l) x.left)))

    at : (b : Bool) → flat_map (live x.left) (cond b (filter (λ l. linked net x.at l && may_enter net case l) (in_order net)) [])
        ≡ cond b (map (moved x.left) (filter (may_go net (plan_of es from case) x) (in_order net))) []
    at true = live-filter x.left (λ l. linked net x.at l && may_enter net case l) (in_order net) ∙ ap (λ p. map (moved x.left) (filter p (in_order net))) (λ i l. tests l i)
    at false = refl

pub next-is : (net : PlainNet) (es : List Expression) (from : FromSet) (case : Case) → next_in net case ≡ targets net (plan_of es from case)
next-is net es from case = λ i x. next-targets net es from case x i

-- standings

steps_over-from : (net : PlainNet) (plan : Plan) (all : List Standing) (k : ℕ) (ys : List Standing) → steps_over (targets net plan) all k ys ≡ steps_from net plan all k ys
unfolding steps_over steps_to
steps_over-from net plan all k [] = refl
steps_over-from net plan all k (y ∷ ys) = ap (λ l. map (λ t. (k, place_in all t)) (targets net plan y) ++ l) (steps_over-from net plan all (k + 1) ys)

-- what is known of the standings once all were asked
pub record AreAll (net : PlainNet) (plan : Plan) (xs : List Standing) (steps : List (ℕ × ℕ)) : Type 0 where
  pub standings : AreStandings net plan xs
  pub numbered : steps ≡ steps_from net plan xs 0 xs
  pub counted : length (starts net plan) ≤ length xs

pub all-asked : (net : PlainNet) (es : List Expression) (from : FromSet) (case : Case) (first xs : List Standing) (steps : List (ℕ × ℕ)) → first ≡ starts net (plan_of es from case)
    → AreAsked first (next_in net case) xs steps (length xs) → AreAll net (plan_of es from case) xs steps
unfolding steps_over
all-asked net es from case first xs steps begun asked = record {
  standings = record {
    order = a.order ∙ ap (λ l. gathered begin (flat_map next l)) whole
        ∙ ap (λ l. gathered l (flat_map next xs)) (sym (gathered-starts (start_of (locations net) es) (holds case.origins) (length net.routers + length net.peers)))
        ∙ sym (gathered-append [] begin (flat_map next xs))
        ∙ sym (without_repeats-gathered [] [] (begin ++ flat_map next xs) (λ x. refl));
    earlier = a.reached.earlier;
  };
  numbered = a.numbered ∙ ap (steps_over next xs 0) whole ∙ steps_over-from net (plan_of es from case) xs 0 xs;
  counted = front (a.reached.begin.0) (a.reached.begin.1);
}
  where
    next : Standing → List Standing
    next = targets net (plan_of es from case)

    begin : List Standing
    begin = starts net (plan_of es from case)

    whole : take (length xs) xs ≡ xs
    whole = take_all (length xs) xs (omega arith)

    a : AreAsked begin next xs steps (length xs)
    a = subst (λ f. AreAsked f next xs steps (length xs)) begun (subst (λ g. AreAsked first g xs steps (length xs)) (next-is net es from case) asked)

    front : (more : List Standing) → xs ≡ begin ++ more → length begin ≤ length xs
    front more e = omega (arith, ap length e, length-append begin more)

pub reached-all : (net : PlainNet) (es : List Expression) (from : FromSet) (case : Case) (first xs : List Standing) → first ≡ starts net (plan_of es from case)
    → AreReached first (next_in net case) xs → AreReached (starts net (plan_of es from case)) (targets net (plan_of es from case)) xs
reached-all net es from case first xs begun r =
    subst (λ f. AreReached f (targets net (plan_of es from case)) xs) begun (subst (λ g. AreReached first g xs) (next-is net es from case) r)

-- the graph

-- the step is between nodes
abbrev Inside : ℕ → ℕ × ℕ → Type 0
Inside n s = (s.0 < n) × (s.1 < n)

inside-steps : (all ts : List Standing) (k : ℕ) → k < length all → ((t : Standing) → Among ts t → Among all t) → AllByRecursion (Inside (length all)) (map (λ t. (k, place_in all t)) ts)
inside-steps all [] k lt inside = tt
inside-steps all (t ∷ ts) k lt inside =
    ((lt, place-within all t (inside t (among-first t ts))), inside-steps all ts k lt (λ u h. inside u (among-later u t ts h)))

inside-from : (net : PlainNet) (plan : Plan) (all ys : List Standing) (k : ℕ) → k + length ys ≡ length all → ((t : Standing) → Among (flat_map (targets net plan) ys) t → Among all t)
    → AllByRecursion (Inside (length all)) (steps_from net plan all k ys)
inside-from net plan all [] k e inside = tt
inside-from net plan all (y ∷ ys) k e inside =
    AllByRecursion-append (Inside (length all)) (map (λ t. (k, place_in all t)) (targets net plan y)) (steps_from net plan all (k + 1) ys)
    (inside-steps all (targets net plan y) k (omega arith) (λ t h. inside t (among-left t (targets net plan y) (flat_map (targets net plan) ys) h)))
    (inside-from net plan all ys (k + 1) (omega arith) (λ t h. inside t (among-right t (targets net plan y) (flat_map (targets net plan) ys) h)))

pub graph-over : (net : PlainNet) (plan : Plan) (xs : List Standing) (nodes : List Node) (begin : List ℕ) (steps : List (ℕ × ℕ)) → AreAll net plan xs steps
    → nodes ≡ map (node_of net plan) xs → begin ≡ numbers_below (length (starts net plan))
    → record { nodes = nodes; starts = begin; steps = steps } ≡ graph_over net plan xs
graph-over net plan xs nodes begin steps a n b = λ i. record { nodes = n i; starts = b i; steps = a.numbered i }

pub graph-inside : (net : PlainNet) (plan : Plan) (xs : List Standing) (steps : List (ℕ × ℕ)) → AreAll net plan xs steps → length xs ≤ 4096 → IsGraph (graph_over net plan xs)
graph-inside net plan xs steps a few =
    let size : length (map (node_of net plan) xs) ≡ length xs = length-map xs (node_of net plan) in
    let targets_among = λ (t : Standing) (h : Among (flat_map (targets net plan) xs) t).
    subst (λ l. Among l t) (sym (a.standings.order ∙ without_repeats-gathered [] [] (starts net plan ++ flat_map (targets net plan) xs) (λ x. refl)))
    (gathered-among [] (starts net plan ++ flat_map (targets net plan) xs) t (among-right t (starts net plan) (flat_map (targets net plan) xs) h)) in
    let counted = a.counted in
    let starts_inside = AllByRecursion-weaker (λ k. k < length (starts net plan)) (λ k. k < length xs) (numbers_below (length (starts net plan)))
    (λ k low. omega arith) (numbers-below (length (starts net plan))) in
    record {
      count = omega arith;
      starts = subst (λ n. AllByRecursion (λ k. k < n) (numbers_below (length (starts net plan)))) (sym size) starts_inside;
      steps = subst (λ n. AllByRecursion (Inside n) (steps_from net plan xs 0 xs)) (sym size) (inside-from net plan xs xs 0 (omega arith) targets_among);
    }

starts-are : (net : PlainNet) (es : List Expression) (from : FromSet) (case : Case) (first : List Standing) (left : List Expression)
    → first ≡ map (moved left) (filter (holds case.origins) (in_order net)) → left ≡ start_of (locations net) es → first ≡ starts net (plan_of es from case)
starts-are net es from case first left h e = h ∙ ap (λ l. map (moved l) (filter (holds case.origins) (in_order net))) e

-- where the first state is the statement's own
pub begun-starts : (net : PlainNet) (es : List Expression) (from : FromSet) (case : Case) (first : List Standing) (ss given : List (List Expression))
    → first ≡ map (moved (left_in ss 0)) (filter (holds case.origins) (in_order net)) → ss ≡ given → slice_get given 0 ≡ Some (start_of (locations net) es)
    → first ≡ starts net (plan_of es from case)
begun-starts net es from case first ss given made same begins =
    starts-are net es from case first (left_in ss 0) made (left_in-is ss 0 (start_of (locations net) es) (ap (λ xs. slice_get xs 0) same ∙ begins))

-- what is made of the nodes, starts and steps is the graph
pub graph-made : (net : PlainNet) (plan : Plan) (first xs : List Standing) (nodes : List Node) (begin : List ℕ) (steps given : List (ℕ × ℕ)) (count : ℕ) → AreAll net plan xs steps
    → first ≡ starts net plan → nodes ≡ map (node_of net plan) xs → begin ≡ numbers_below count → count ≡ length first → given ≡ steps
    → record { nodes = nodes; starts = begin; steps = given } ≡ graph_over net plan xs
graph-made net plan first xs nodes begin steps given count a f n b c s =
    ap (λ l. record { nodes = nodes; starts = begin; steps = l }) s ∙ graph-over net plan xs nodes begin steps a n (b ∙ ap numbers_below (c ∙ ap length f))

pub length-nodes : (net : PlainNet) (plan : Plan) (xs : List Standing) → length (graph_over net plan xs).nodes ≡ length xs
length-nodes net plan xs = length-map xs (node_of net plan)
