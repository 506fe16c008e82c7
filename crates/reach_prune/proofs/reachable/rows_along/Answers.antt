use Rattle.std.proofs.Common.{◌≡◌, ◌<◌, ℕ, List, length, arith, ap, subst}
use Rattle.reach_prune.specs.Sweeps.{Swept}
use Rattle.reach_prune.specs.Ways.{nth}
use Rattle.reach_prune.proofs.Sweeping.{nth_below}
use Rattle.reach_prune.proofs.Trails.{leads_along}
use Rattle.reach_prune.proofs.reachable.rows_along.Goals as goal

pub new-requires : goal.new-requires
new-requires c = omega (arith, ap length c.deref.ensures.value, c.in_ok-lists.ensures.size, c.nodes.ensures.rules.count)

pub loop-place-init : goal.loop-place-init
loop-place-init c = subst (λ (lists : List (List ℕ)). Swept c.args.way lists 0 c.in_ok-sweep.sweep) c.deref.ensures.value (c.in_ok-sweep.ensures c.args.way)

pub returns-clause-exact : goal.returns-clause-exact
returns-clause-exact c = λ a b la.
    let g = c.args.graph.now in
    let lists = c.in_ok-lists.lists.items in
    let size : length lists ≡ length g.nodes = c.in_ok-lists.ensures.size in
    let la_lists : a < length lists = omega (arith, size) in
    let before : nth c.args.way (length lists) a < c.loop-place.place = omega (arith, nth_below c.args.way (length lists) a la_lists, c.loop-place-test.false, ap length c.nodes.ensures.nodes) in
    let found = c.loop-place.invariant.finished a b la_lists before in
    let along = leads_along c.args.way g lists a b c.in_ok-lists.ensures.steps in
    (λ h. along.0 (found.0 h), λ l. found.1 (along.1 l))
