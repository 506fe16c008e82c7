use Rattle.std.proofs.lemmas.List.Sorted.{Contains-permutation, IsPermutation-sym}
use Rattle.list_law.proofs.Members.{Contains-from_IsIn, IsIn-from_Contains}
use Rattle.node_classes.proofs.Ordered.{Ascend-sorted}
use Rattle.node_classes.proofs.order.put_in_order.Goals as goal

pub returns-clause-order : goal.returns-clause-order
returns-clause-order c = Ascend-sorted c.args.ways.now.items c.sort_unstable.new.self.items c.requires c.sort_unstable.ensures.permutation c.sort_unstable.ensures.sorted

pub returns-clause-same : goal.returns-clause-same
returns-clause-same c = λ way.
    let old = c.args.ways.now.items in
    let new = c.sort_unstable.new.self.items in
    let moved = c.sort_unstable.ensures.permutation in (
      λ h. IsIn-from_Contains old way (Contains-permutation new old way (IsPermutation-sym old new moved) (Contains-from_IsIn new way h)),
      λ h. IsIn-from_Contains new way (Contains-permutation old new way moved (Contains-from_IsIn old way h)),
    )
