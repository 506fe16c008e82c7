use Rattle.std.proofs.Common.{◌≡◌, ◌∙◌, ap, length, arith, take, drop, ◌++◌}
use Rattle.std.specs.Prelude.{◌==◌, ◌&&◌, ◌||◌}
use Rattle.location_names.specs.Neighbours.{is_held}
use Rattle.location_names.proofs.Linked.{link_put, written_back}
use Rattle.location_names.proofs.near.neighbour_sets.Goals as goal

pub loop-link-preserved : goal.loop-link-preserved
loop-link-preserved c =
    let n = c.loop-link.sets.len in
    let items = c.loop-link.sets.items in
    let one = c.put.new.sets in
    let two = c.put-in-loop-link.new.sets in
    let between = take n (one ++ drop (length one) items) in
    let size : length items ≡ n = omega (arith, c.loop-link.sets.ok.0) in
    let long : length one ≡ n = omega (arith, c.put.ensures.len, ap length c.deref_mut.ensures.value, size) in
    let first : between ≡ one = written_back n one items long size in
    let longer : length two ≡ n = omega (arith, c.put-in-loop-link.ensures.len, ap length c.deref_mut-in-loop-link.ensures.value, ap length first, long) in
    let second : take n (two ++ drop (length two) between) ≡ two = written_back n two between longer (ap length first ∙ long) in
    record {
      len = c.loop-link.invariant.len;
      sets = λ x l.
          ap (λ sets. is_held sets x l) second
          ∙ link_put (is_held items x l) (is_held one x l)
          (is_held two x l) x l c.links-link-items.result.now c.loop-link.link-index c.link-item.result c.loop-link-test.true c.link-item.is
          (c.loop-link.invariant.sets x l)
          (c.put.ensures.sets x l ∙ ap (λ sets. is_held sets x l || (x == c.link-item.result.0 && l == c.link-item.result.1)) c.deref_mut.ensures.value)
          (c.put-in-loop-link.ensures.sets x l ∙ ap (λ sets. is_held sets x l || (x == c.link-item.result.1 && l == c.link-item.result.0)) (c.deref_mut-in-loop-link.ensures.value ∙ first));
    }
