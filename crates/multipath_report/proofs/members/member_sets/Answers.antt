use Rattle.std.proofs.Common.{◌≡◌, ◌∙◌, ap, length, arith, take, drop, ◌++◌}
use Rattle.std.specs.Prelude.{◌==◌, ◌&&◌, ◌||◌}
use Rattle.location_names.specs.Neighbours.{is_held}
use Rattle.location_names.proofs.Linked.{written_back}
use Rattle.multipath_report.specs.Members.{member_in}
use Rattle.multipath_report.proofs.Listing.{member_put}
use Rattle.multipath_report.proofs.members.member_sets.Goals as goal

pub loop-link-preserved : goal.loop-link-preserved
loop-link-preserved c =
    let s = c.args.situation.now in
    let n = c.loop-link.sets.len in
    let items = c.loop-link.sets.items in
    let link = c.link-item.result in
    let one = c.put_member.new.sets in
    let two = c.put_member-in-loop-link.new.sets in
    let between = take n (one ++ drop (length one) items) in
    let size : length items ≡ n = omega (arith, c.loop-link.sets.ok.0) in
    let long : length one ≡ n = omega (arith, c.put_member.ensures.len, ap length c.deref_mut.ensures.value, size) in
    let first : between ≡ one = written_back n one items long size in
    let longer : length two ≡ n = omega (arith, c.put_member-in-loop-link.ensures.len, ap length c.deref_mut-in-loop-link.ensures.value, ap length first, long) in
    let second : take n (two ++ drop (length two) between) ≡ two = written_back n two between longer (ap length first ∙ long) in
    record {
      len = c.loop-link.invariant.len;
      sets = λ x l.
          ap (λ sets. is_held sets x l) second
          ∙ member_put (member_in s) (is_held items x l) (is_held one x l)
          (is_held two x l) x l c.links-link-items.result.now c.loop-link.link-index link c.loop-link-test.true c.link-item.is
          (c.loop-link.invariant.sets x l)
          (c.put_member.ensures.sets x l ∙ ap (λ sets. is_held sets x l || (x == link.0 && l == link.1 && member_in s link.0 link.1)) c.deref_mut.ensures.value)
          (c.put_member-in-loop-link.ensures.sets x l ∙ ap (λ sets. is_held sets x l || (x == link.1 && l == link.0 && member_in s link.1 link.0)) (c.deref_mut-in-loop-link.ensures.value ∙ first));
    }
