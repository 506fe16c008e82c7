use Rattle.std.proofs.Common.{◌<◌, length, refl, subst, arith}
use Rattle.std.specs.List.{AllByRecursion}
use Rattle.node_quotient.specs.Splits.{AreGroups}
use Rattle.node_quotient.proofs.partition.Partition.new.Goals as goal

pub returns-clause-partition : goal.returns-clause-partition
returns-clause-partition c =
    let members = c.in_ok-grouped.field-0.items in
    let waiting = c.in_ok-names.field-0.items in
    let size = c.len-size.ensures in
    record {
      size = refl;
      rows = omega (arith, c.in_ok-grouped.ensures.size, size, c.args.classes.ok.0);
      waits = omega (arith, c.in_ok-vec.ensures.len, c.in_ok-vec.field-0.ok.0, size, c.args.classes.ok.0);
      met = omega (arith, c.in_ok-vec-2.ensures.len, c.in_ok-vec-2.field-0.ok.0, size, c.args.classes.ok.0);
      waiting = subst (λ classes. AllByRecursion (λ n. n < length classes) waiting) c.deref.ensures.value c.in_ok-names.ensures;
      named = c.requires.named;
      groups = subst (λ classes. AreGroups (length classes) classes members) c.deref-2.ensures.value c.in_ok-grouped.ensures.groups;
    }
