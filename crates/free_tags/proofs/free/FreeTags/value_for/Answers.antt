use Rattle.free_tags.specs.Free.{IsFree}
use Rattle.free_tags.proofs.free.FreeTags.value_for.Goals as goal

pub returns-in_ok-keep-in-Some-clause-kept : goal.returns-in_ok-keep-in-Some-clause-kept
returns-in_ok-keep-in-Some-clause-kept c = λ tags leaves.
    let free : IsFree tags c.args.asn c.args.k c.in-Some.value = rw c.in-Some.is at (c.value_from.ensures tags leaves.same (c.start_for-start.ensures.right tags leaves)) in
    c.in_ok-keep-in-Some.ensures tags leaves free.count
