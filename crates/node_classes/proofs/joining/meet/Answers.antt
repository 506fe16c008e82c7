use Rattle.std.proofs.Common.{◌≡◌, ◌<◌, ◌∙◌, ℕ, None, arith, sym, length, ap, max, min, subst, inl, inr, sum, cond, ◌++◌, [], ◌∷◌}
use Rattle.std.specs.Prelude.{◌==◌}
use Rattle.std.proofs.lemmas.List.{length-map}
use Rattle.std.proofs.lemmas.List.Elements.{recursion_from_All}
use Rattle.list_law.proofs.Options.{is_some_parts}
use Rattle.node_classes.specs.declared.way.Way.{Way}
use Rattle.node_classes.specs.Forest.{parent, leader}
use Rattle.node_classes.specs.Stages.{AreWithin, Stage, targets, work}
use Rattle.node_classes.specs.Ways.{place_apart_of}
use Rattle.node_classes.proofs.Forests.{leader-le}
use Rattle.node_classes.proofs.Places.{same_places}
use Rattle.node_classes.proofs.Stages.{skipped}
use Rattle.node_classes.proofs.Meeting.{joins_at, apart_by, no_place, found_root, within_append, targets_within, work_joined, either_root, max_below}
use Rattle.node_classes.proofs.joining.meet.Goals as goal

pub returns-then-one-other-clause-stage : goal.returns-then-one-other-clause-stage
returns-then-one-other-clause-stage c = λ a b stage.
    skipped c.args.ways.now a b c.args.up.now.items c.root_of-other.new.up.items c.args.todo.now.items c.args.x c.args.y stage c.root_of-other.ensures.forest
    (λ z. c.root_of-other.ensures.same z ∙ c.root_of-one.ensures.same z)
    (sym c.root_of-one.ensures.root ∙ c.if-one-other.true ∙ c.root_of-other.ensures.root ∙ c.root_of-one.ensures.same c.args.y)

pub returns-then-is_some-clause-stage : goal.returns-then-is_some-clause-stage
returns-then-is_some-clause-stage c = λ a b stage.
    let apart = is_some_parts c.place_apart.result (sym c.is_some.ensures ∙ c.if-is_some.true) in
    apart_by c.args.ways.now c.run_of-ways_x.result.now c.run_of-ways_y.result.now c.args.x c.args.y c.requires.order c.run_of-ways_x.ensures c.run_of-ways_y.ensures
    a b apart.0 c.args.up.now.items c.args.todo.now.items stage (sym c.place_apart.ensures ∙ apart.1)

one_root : (c : goal.After-max) → parent c.root_of-other.new.up.items c.root_of-one.result ≡ c.root_of-one.result
one_root c =
    found_root c.root_of-other.new.up.items c.args.up.now.items c.args.x c.root_of-one.result c.root_of-other.ensures.forest
    (λ z. c.root_of-other.ensures.same z ∙ c.root_of-one.ensures.same z) c.root_of-one.ensures.root

other_root : (c : goal.After-max) → parent c.root_of-other.new.up.items c.root_of-other.result ≡ c.root_of-other.result
other_root c =
    found_root c.root_of-other.new.up.items c.root_of-one.new.up.items c.args.y c.root_of-other.result c.root_of-other.ensures.forest c.root_of-other.ensures.same c.root_of-other.ensures.root

pub join-requires-clause-low : goal.join-requires-clause-low
join-requires-clause-low c = either_root c.root_of-other.new.up.items c.root_of-one.result c.root_of-other.result c.min.result (one_root c) (other_root c) (inl c.min.ensures)

pub join-requires-clause-high : goal.join-requires-clause-high
join-requires-clause-high c = either_root c.root_of-other.new.up.items c.root_of-one.result c.root_of-other.result c.max.result (one_root c) (other_root c) (inr c.max.ensures)

pub join-requires-clause-within : goal.join-requires-clause-within
join-requires-clause-within c =
    let one : c.root_of-one.result < length c.args.up.now.items =
    let le = leader-le c.args.up.now.items c.requires.forest c.args.x in omega (arith, le, c.root_of-one.ensures.root, c.requires.x)
    in
    let other : c.root_of-other.result < length c.args.up.now.items =
    let le = leader-le c.root_of-one.new.up.items c.root_of-one.ensures.forest c.args.y in omega (arith, le, c.root_of-other.ensures.root, c.requires.y)
    in
    let len : length c.root_of-other.new.up.items ≡ length c.args.up.now.items = c.root_of-other.ensures.len ∙ c.root_of-one.ensures.len in
    omega (arith, max_below c.root_of-one.result c.root_of-other.result (length c.args.up.now.items) one other, c.max.ensures, len)

pub add_targets-requires : goal.add_targets-requires
add_targets-requires c =
    let vs = c.run_of-ways_x.result.now in
    let ws = c.run_of-ways_y.result.now in
    let none : place_apart_of vs ws ≡ None = sym c.place_apart.ensures ∙ no_place c.place_apart.result (sym c.is_some.ensures ∙ c.if-is_some.false) in
    sym (length-map vs (λ (w : Way). w.at)) ∙ ap length (same_places vs ws none) ∙ length-map ws (λ (w : Way). w.at)

-- what waits at the end
rest_of : (c : goal.In_ok-add_targets) → c.add_targets.new.todo.items ≡ c.args.todo.now.items ++ targets c.run_of-ways_x.result.now c.run_of-ways_y.result.now
rest_of c = c.in_ok-add_targets.ensures

pub returns-clause-stage : goal.returns-clause-stage
returns-clause-stage c = λ a b stage.
    let ways = c.args.ways.now in
    let vs = c.run_of-ways_x.result.now in
    let ws = c.run_of-ways_y.result.now in
    let one = c.root_of-one.result in
    let other = c.root_of-other.result in
    let mid = c.root_of-other.new.up.items in
    let none : place_apart_of vs ws ≡ None = sym c.place_apart.ensures ∙ no_place c.place_apart.result (sym c.is_some.ensures ∙ c.if-is_some.false) in
    let trees : (z : ℕ) → leader c.join.new.up.items z ≡ cond (leader mid z == max one other) (min one other) (leader mid z)
    = λ z. subst (λ h. leader c.join.new.up.items z ≡ cond (leader mid z == h) (min one other) (leader mid z)) c.max.ensures
    (subst (λ l. leader c.join.new.up.items z ≡ cond (leader mid z == c.max.result) l (leader mid z)) c.min.ensures (c.join.ensures.trees z)) in
    subst (λ ts. Stage ways a b c.join.new.up.items ts) (sym (rest_of c))
    (joins_at ways vs ws a b c.args.x c.args.y one other c.args.up.now.items mid c.join.new.up.items c.args.todo.now.items c.requires.order c.run_of-ways_x.ensures c.run_of-ways_y.ensures
    c.root_of-other.ensures.forest (λ z. c.root_of-other.ensures.same z ∙ c.root_of-one.ensures.same z) c.root_of-one.ensures.root
    (c.root_of-other.ensures.root ∙ c.root_of-one.ensures.same c.args.y) c.if-one-other.false c.join.ensures.forest trees none stage)

pub returns-clause-waiting : goal.returns-clause-waiting
returns-clause-waiting c =
    let vs = c.run_of-ways_x.result.now in
    let ws = c.run_of-ways_y.result.now in
    let count = length c.args.up.now.items in
    let len : count ≡ length c.join.new.up.items = sym (c.join.ensures.len ∙ c.root_of-other.ensures.len ∙ c.root_of-one.ensures.len) in
    let more = targets_within count c.args.x c.args.y c.args.ways.now vs ws
    (recursion_from_All (λ (w : Way). w.to < count) c.args.ways.now c.requires.ends) c.run_of-ways_x.ensures c.run_of-ways_y.ensures in
    let all = within_append count c.args.todo.now.items (targets vs ws) c.requires.waiting more in
    subst (λ ts. AreWithin (length c.join.new.up.items) ts) (sym (rest_of c)) (subst (λ n. AreWithin n (c.args.todo.now.items ++ targets vs ws)) len all)

pub returns-clause-less : goal.returns-clause-less
returns-clause-less c =
    let vs = c.run_of-ways_x.result.now in
    let ws = c.run_of-ways_y.result.now in
    let lower : sum c.join.new.up.items < sum c.args.up.now.items = omega (arith, c.join.ensures.sum, c.root_of-other.ensures.sum, c.root_of-one.ensures.sum) in
    subst (λ ts. work (length c.args.ways.now) c.join.new.up.items ts < work (length c.args.ways.now) c.args.up.now.items (c.args.todo.now.items ++ (c.args.x, c.args.y) ∷ [])) (sym (rest_of c))
    (work_joined c.args.ways.now vs ws c.args.x c.args.up.now.items c.join.new.up.items c.args.todo.now.items (c.args.x, c.args.y) lower c.run_of-ways_x.ensures)
