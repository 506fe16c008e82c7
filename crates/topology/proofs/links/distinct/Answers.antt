use Rattle.std.proofs.Common.{◌≡◌, ◌∙◌, sym, take, true, false, arith}
use Rattle.std.specs.List.{list_any}
use Rattle.std.proofs.lemmas.Bool.{not-false, not-true}
use Rattle.list_law.proofs.Tests.{find-any, find-none}
use Rattle.topology.specs.declared.fault.TopoFault.TheVariants.{LinkTwice}
use Rattle.net_base.specs.Network.{same_ends}
use Rattle.topology.specs.Rules.{links_differ}
use Rattle.topology.proofs.Ascending.{list_any-ascending, ascending-next}
use Rattle.topology.proofs.Unlike.{alike-here, unlike-here}
use Rattle.topology.proofs.links.distinct.Goals as goal

pub returns-then-not-branch-clause-err : goal.returns-then-not-branch-clause-err
unfolding links_differ
returns-then-not-branch-clause-err c = λ _.
    let link = c.link-item.result in
    let before = take c.loop-link.link-index c.args.links.now in
    let seen : list_any (same_ends link) before ≡ true =
    sym (list_any-ascending (same_ends link) before) ∙ (rw c.loop-link.invariant.1 at (not-false _ (sym c.in_ok-put.ensures.fresh ∙ c.if-not-branch.true))) in
    let found = find-any (same_ends link) before seen in
    rw c.loop-link.invariant.0
    (alike-here same_ends (λ place _ _. LinkTwice place) c.args.links.now c.loop-link.link-index link c.loop-link-test.true c.link-item.is found.0 _ found.1 c.loop-link.invariant.2)

pub loop-link-preserved : goal.loop-link-preserved
loop-link-preserved c =
    let link = c.link-item.result in
    let before = take c.loop-link.link-index c.args.links.now in
    let unseen : list_any (same_ends link) before ≡ false =
    sym (list_any-ascending (same_ends link) before) ∙ (rw c.loop-link.invariant.1 at (not-true _ (sym c.in_ok-put.ensures.fresh ∙ c.if-not-branch.false))) in (
      omega (arith, c.loop-link.invariant.0),
      c.in_ok-put.ensures.added c.if-not-branch.false ∙ rw c.loop-link.invariant.1 (sym (ascending-next c.args.links.now c.loop-link.link-index link c.loop-link-test.true c.link-item.is)),
      unlike-here same_ends (λ place _ _. LinkTwice place) c.args.links.now c.loop-link.link-index link c.loop-link-test.true c.link-item.is _
          (find-none (same_ends link) before unseen) c.loop-link.invariant.2,
    )
