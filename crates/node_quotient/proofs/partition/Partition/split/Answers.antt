use Rattle.std.proofs.Common.{◌≡◌, length, set, slice_index_or, ap, sym, subst, ◌∙◌, arith}
use Rattle.std.proofs.lemmas.List.{length-set}
use Rattle.reach_prune.specs.Searches.{is_marked}
use Rattle.node_quotient.specs.Partitions.{IsPartition}
use Rattle.node_quotient.specs.Splits.{AreSplit}
use Rattle.node_quotient.proofs.Splitting.{members_below, members_read, name_inside, part_inside, split_off}
use Rattle.node_quotient.proofs.partition.Partition.split.Goals as goal
use Rattle.node_quotient.proofs.partition.Partition.split.Goals.{then-is_smaller, else-is_smaller}

pub chosen-requires : goal.chosen-requires
chosen-requires c =
    members_below c.args.self.now (length c.args.marks.now) c.args.class _ _ c.requires.partition c.requires.class c.as_slice-all.ensures c.index.ensures

pub chosen-requires-2 : goal.chosen-requires-2
chosen-requires-2 c =
    members_below c.args.self.now (length c.args.marks.now) c.args.class _ _ c.requires.partition c.requires.class c.as_slice-all.ensures c.index.ensures

pub set_each-requires : goal.set_each-requires
set_each-requires c =
    let p = c.args.self.now in
    let is = c.requires.partition in
    let all = members_read p (length c.args.marks.now) c.args.class _ _ is c.requires.class c.as_slice-all.ensures c.index.ensures in
    λ k d lt.
    let below = part_inside p (length c.args.marks.now) c.args.marks.now c.args.class is c.requires.class _ _ c.in_ok-part.part _ all c.in_ok-part.ensures c.as_slice-5.ensures k d lt in
    let size = is.size in
    omega (arith, below, size)

pub index_mut-requires-2 : goal.index_mut-requires-2
index_mut-requires-2 c =
    let p = c.args.self.now in
    let is = c.requires.partition in
    let all = members_read p (length c.args.marks.now) c.args.class _ _ is c.requires.class c.as_slice-all.ensures c.index.ensures in
    let length_is : length c.as_slice.result.now ≡ length c.in_ok-part.part = ap length c.as_slice.ensures in
    let below = name_inside p (length c.args.marks.now) c.args.marks.now c.args.class is c.requires.class _ _ c.in_ok-part.part c.as_slice-2.result.now all
    c.in_ok-part.ensures c.as_slice-2.ensures (omega (arith, length_is, c.if-as_slice-eq0.false)) in
    let rows = is.rows in
    let len = p.members.ok.0 in
    omega (arith, below, rows, len)

pub wait-requires-clause-class : goal.wait-requires-clause-class
wait-requires-clause-class c =
    let p = c.args.self.now in
    let is = c.requires.partition in
    let all = members_read p (length c.args.marks.now) c.args.class _ _ is c.requires.class c.as_slice-all.ensures c.index.ensures in
    let length_is : length c.as_slice.result.now ≡ length c.in_ok-part.part = ap length c.as_slice.ensures in
    let below = name_inside p (length c.args.marks.now) c.args.marks.now c.args.class is c.requires.class _ _ c.in_ok-part.part c.as_slice-2.result.now all
    c.in_ok-part.ensures c.as_slice-2.ensures (omega (arith, length_is, c.if-as_slice-eq0.false)) in
    let waits = is.waits in
    elim c.if-is_smaller.branch [
      | then-is_smaller w ↦ let e = w.next-is in omega (arith, e, below, waits)
      | else-is_smaller w ↦ let e = w.next-is in omega (arith, e, waits, c.requires.class)
    ]

pub wait-requires-clause-partition : goal.wait-requires-clause-partition
wait-requires-clause-partition c =
    let p = c.args.self.now in
    let is = c.requires.partition in
    let all = members_read p (length c.args.marks.now) c.args.class _ _ is c.requires.class c.as_slice-all.ensures c.index.ensures in
    let length_is : length c.as_slice.result.now ≡ length c.in_ok-part.part = ap length c.as_slice.ensures in
    let off = split_off p (length c.args.marks.now) c.args.marks.now c.args.class is c.requires.class _ c.in_ok-part.part c.in_ok-rest.rest
    c.as_slice-2.result.now c.as_slice-5.result.now c.set_each.new.items.items all
    c.in_ok-part.ensures c.in_ok-rest.ensures c.as_slice-2.ensures c.as_slice-5.ensures (omega (arith, length_is, c.if-as_slice-eq0.false)) c.set_each.ensures.size (c.set_each.ensures.items 0) in
    rw is.waits (record {
      size = c.set_each.ensures.size ∙ is.size;
      rows =
          length-set (set p.members.items c.args.class c.in_ok-rest.rest) (slice_index_or c.as_slice-2.result.now 0 0) c.in_ok-part.part
          ∙ length-set p.members.items c.args.class c.in_ok-rest.rest ∙ is.rows;
      waits = is.waits;
      met = is.met;
      waiting = is.waiting;
      named = off.0;
      groups = off.2;
    })

pub returns : goal.returns
returns c =
    let p = c.args.self.now in
    let is = c.requires.partition in
    let all = members_read p (length c.args.marks.now) c.args.class _ _ is c.requires.class c.as_slice-all.ensures c.index.ensures in
    let length_is : length c.as_slice.result.now ≡ length c.in_ok-part.part = ap length c.as_slice.ensures in
    let off = split_off p (length c.args.marks.now) c.args.marks.now c.args.class is c.requires.class _ c.in_ok-part.part c.in_ok-rest.rest
    c.as_slice-2.result.now c.as_slice-5.result.now c.set_each.new.items.items all
    c.in_ok-part.ensures c.in_ok-rest.ensures c.as_slice-2.ensures c.as_slice-5.ensures (omega (arith, length_is, c.if-as_slice-eq0.false)) c.set_each.ensures.size (c.set_each.ensures.items 0) in
    record {
      partition = subst (λ n. IsPartition n c.wait.new.self) is.waits c.in_ok-wait.ensures.partition;
      classes = subst (AreSplit (is_marked c.args.marks.now) p.classes.items) (sym c.in_ok-wait.ensures.classes) off.1;
    }
