use Rattle.std.proofs.Common.{◌≡◌, ◌<◌, ◌++◌, ◌∷◌, [], ℕ, List, length, get_or, ap, sym, ◌∙◌, arith}
use Rattle.std.proofs.lemmas.List.{get_or_default, length-set}
use Rattle.reach_prune.specs.Ways.{ends}
use Rattle.reach_prune.proofs.Listing.{ends_node, listed_more, listed_steps, step_along_node}
use Rattle.reach_prune.proofs.steps.neighbours.Goals as goal

pub index_mut-requires : goal.index_mut-requires
index_mut-requires c =
    let way = c.args.way in
    let steps = c.steps-step-items.result.now in
    let is : c.ends-node.result ≡ ends way (get_or steps c.loop-step.step-index (0, 0)) = c.ends-node.ensures in
    let from = ends_node way (length c.args.graph.now.nodes) steps c.loop-step.step-index (rw c.steps-step-items.ensures.steps c.steps-step-items.ensures.rules.steps)
    c.loop-step-test.true in
    omega (arith, ap (λ (e : ℕ × ℕ). e.0) is, from, c.loop-step.invariant.size, c.loop-step.lists.ok.0)

pub loop-step-preserved : goal.loop-step-preserved
loop-step-preserved c =
    let way = c.args.way in
    let steps = c.steps-step-items.result.now in
    let lists = c.loop-step.lists.items in
    let step = c.ends-node.result in
    let is : step ≡ ends way (get_or steps c.loop-step.step-index (0, 0)) = c.ends-node.ensures in
    let from = ends_node way (length c.args.graph.now.nodes) steps c.loop-step.step-index (rw c.steps-step-items.ensures.steps c.steps-step-items.ensures.rules.steps)
    c.loop-step-test.true in
    let inside : step.0 < length lists = omega (arith, ap (λ (e : ℕ × ℕ). e.0) is, from, c.loop-step.invariant.size) in
    record {
      size = length-set lists step.0 c.push.new.self ∙ c.loop-step.invariant.size;
      steps = listed_more way steps c.loop-step.step-index lists c.push.new.self step c.loop-step-test.true is inside
          (c.in_ok-push.ensures.ok ∙ ap (λ (xs : List ℕ). xs ++ step.1 ∷ []) (c.index_mut.ensures.value ∙ get_or_default lists step.0 _ [] inside)) c.loop-step.invariant.steps;
    }

pub returns-clause-steps : goal.returns-clause-steps
returns-clause-steps c = λ a b. listed_steps c.args.way c.args.graph.now _ _ _ a b c.steps-step-items.ensures.steps c.loop-step-test.false (c.loop-step.invariant.steps a b)

pub returns-clause-lists : goal.returns-clause-lists
returns-clause-lists c = λ a b h.
    let g = c.args.graph.now in
    let steps = listed_steps c.args.way g _ _ _ a b c.steps-step-items.ensures.steps c.loop-step-test.false (c.loop-step.invariant.steps a b) in
    let node : b < length g.nodes = step_along_node c.args.way g a b c.steps-step-items.ensures.rules (sym steps ∙ h) in
    omega (arith, c.loop-step.invariant.size)
