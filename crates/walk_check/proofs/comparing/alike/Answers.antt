use Rattle.std.proofs.Common.{◌+◌, ap, ◌∙◌, arith, length}
use Rattle.node_classes.specs.Classes.{class_in}
use Rattle.walk_check.proofs.Followed.{both_are}
use Rattle.walk_check.proofs.Unions.{AreAlike-classes, AreUnlike-apart}
use Rattle.walk_check.proofs.comparing.alike.Goals as goal

pub returns-in_default-clause-unlike : goal.returns-in_default-clause-unlike
returns-in_default-clause-unlike c =
    let t = c.args.live.now in
    let g = c.args.graph.now in
    let size = ap length c.nodes-size.ensures.nodes in
    let other = ap length c.nodes-other.ensures.nodes in
    let are = both_are t g c.nodes-size.ensures.rules c.nodes-other.ensures.rules c.in_ok-ways.ways.items c.in_ok-ways.ensures.order c.in_ok-ways.ensures.same in
    AreUnlike-apart t g c.nodes-size.ensures.rules c.nodes-other.ensures.rules c.requires.live c.requires.graph c.in_ok-ways.ways.items are.0 are.1
    c.deref.result.now _ _ c.deref.ensures.value (omega (arith, size, other)) (omega (arith, size, other)) (rw c.in_default.is at c.in_ok-all.ensures.apart)

pub returns-clause-alike : goal.returns-clause-alike
returns-clause-alike c =
    let t = c.args.live.now in
    let g = c.args.graph.now in
    let size = ap length c.nodes-size.ensures.nodes in
    let other = ap length c.nodes-other.ensures.nodes in
    let are = both_are t g c.nodes-size.ensures.rules c.nodes-other.ensures.rules c.in_ok-ways.ways.items c.in_ok-ways.ensures.order c.in_ok-ways.ensures.same in
    AreAlike-classes t g c.nodes-size.ensures.rules c.nodes-other.ensures.rules c.requires.live c.requires.graph c.in_ok-ways.ways.items are.0 are.1
    c.deref.result.now (length c.nodes-size.result.now + length c.nodes-other.result.now) (length c.nodes-size.result.now + length c.nodes-other.result.now + 1) c.in-Some.all.items c.in_ok-found.found
    c.deref.ensures.value (omega (arith, size, other)) (omega (arith, size, other)) (rw c.in-Some.is at c.in_ok-all.ensures.alike)
    (λ p lt. c.in_ok-found.ensures.live p (omega (arith, lt, size)) ∙ ap (λ xs. class_in xs p) c.deref-2.ensures.value)
    (λ n lt. c.in_ok-found.ensures.graph n (omega (arith, lt, other)) ∙ λ i. class_in (c.deref-2.ensures.value i) (size i + n))
