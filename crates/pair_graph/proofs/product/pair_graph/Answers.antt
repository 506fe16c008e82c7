use Rattle.std.proofs.Common.{◌≡◌, ◌∙◌, [], ap, length, rules, subst, sym}
use Rattle.pair_graph.specs.Pairs.{walks_of}
use Rattle.pair_graph.proofs.Grown.{grown_begun}
use Rattle.pair_graph.proofs.WalkPairs.{are_walks}
use Rattle.pair_graph.specs.Room.{HasPairSteps}
use Rattle.pair_graph.proofs.Ways.{has_all_steps}
use Rattle.pair_graph.proofs.product.pair_graph.Goals as goal

pub graph_of-requires : goal.graph_of-requires
graph_of-requires c =
    let g = c.args.first.now in
    let h = c.args.second.now in
    let sides = c.in_ok-sides.ensures in
    let walks = are_walks g h in
    let after = c.add_starts.new.self in
    let told = c.in_ok-add_starts.ensures in
    let none : after.steps.items ≡ [] = ap (λ v. v.items) told.steps ∙ c.in_ok-growing.ensures.steps in
    let start = grown_begun (walks_of g h) c.len-starts.result after.pairs.keys after.before.items after.steps.items walks told.few told.size (told.begun g h sides) c.len-starts.ensures none in
    let grown = c.in_ok-walk.ensures.grown g h c.len-starts.result sides start in
    (walks_of g h, grown.0, walks, grown.1, grown.2)

pub returns-clause-graph : goal.returns-clause-graph
returns-clause-graph c =
    let g = c.args.first.now in
    let h = c.args.second.now in
    let sides = c.in_ok-sides.ensures in
    let walks = are_walks g h in
    let after = c.add_starts.new.self in
    let told = c.in_ok-add_starts.ensures in
    let none : after.steps.items ≡ [] = ap (λ v. v.items) told.steps ∙ c.in_ok-growing.ensures.steps in
    let start = grown_begun (walks_of g h) c.len-starts.result after.pairs.keys after.before.items after.steps.items walks told.few told.size (told.begun g h sides) c.len-starts.ensures none in
    let grown = c.in_ok-walk.ensures.grown g h c.len-starts.result sides start in
    c.in_ok-graph.ensures.graph g h grown.0 walks grown.1 grown.2

pub returns-clause-steps : goal.returns-clause-steps
returns-clause-steps c =
    let g = c.args.first.now in
    let h = c.args.second.now in
    let sides = c.in_ok-sides.ensures in
    let walks = are_walks g h in
    let after = c.add_starts.new.self in
    let told = c.in_ok-add_starts.ensures in
    let none : after.steps.items ≡ [] = ap (λ v. v.items) told.steps ∙ c.in_ok-growing.ensures.steps in
    let start = grown_begun (walks_of g h) c.len-starts.result after.pairs.keys after.before.items after.steps.items walks told.few told.size (told.begun g h sides) c.len-starts.ensures none in
    let grown = c.in_ok-walk.ensures.grown g h c.len-starts.result sides start in
    let all = c.walk.new.self in
    subst (HasPairSteps g h) (sym (ap length c.in_ok-graph.ensures.steps))
    (has_all_steps g h c.len-starts.result all.pairs.keys all.before.items all.steps.items grown.0 walks grown.1 grown.2)

pub returns-in_err-walk-clause-many : goal.returns-in_err-walk-clause-many
returns-in_err-walk-clause-many c = λ fault.
    let g = c.args.first.now in
    let h = c.args.second.now in
    let sides = c.in_ok-sides.ensures in
    let walks = are_walks g h in
    let after = c.add_starts.new.self in
    let told = c.in_ok-add_starts.ensures in
    let none : after.steps.items ≡ [] = ap (λ v. v.items) told.steps ∙ c.in_ok-growing.ensures.steps in
    let start = grown_begun (walks_of g h) c.len-starts.result after.pairs.keys after.before.items after.steps.items walks told.few told.size (told.begun g h sides) c.len-starts.ensures none in
    let many = c.walk.ensures.many g h c.len-starts.result sides start in
    search rules
