use Rattle.std.proofs.Common.{◌<◌, ◌++◌, ◌∷◌, [], ℕ, List, length, get_or, arith, refl, ap, ◌∙◌}
use Rattle.std.proofs.lemmas.List.{get_or_default, length-set}
use Rattle.reach_prune.specs.declared.steps.Way.TheVariants.{Forward}
use Rattle.reach_prune.proofs.Listing.{listed_more}
use Rattle.state_simulation.proofs.grouping.grouped.Goals as goal

pub loop-group-preserved : goal.loop-group-preserved
loop-group-preserved c =
    let pairs = c.args.pairs.now in
    let i = c.loop-group.group-index in
    let lists = c.loop-group.lists.items in
    let pair : ℕ × ℕ = get_or pairs i (0, 0) in
    let inv = c.loop-group.invariant in
    let below = c.requires i (0, 0) c.loop-group-test.true in
    let inside : pair.0 < length lists = omega (arith, below, inv.groups) in
    record {
      groups = length-set lists pair.0 c.push.new.self ∙ inv.groups;
      members = listed_more Forward pairs i lists c.push.new.self pair c.loop-group-test.true refl inside
          (c.in_ok-push.ensures.ok ∙ ap (λ (xs : List ℕ). xs ++ pair.1 ∷ []) (c.index_mut.ensures.value ∙ get_or_default lists pair.0 _ [] inside)) inv.members;
    }
