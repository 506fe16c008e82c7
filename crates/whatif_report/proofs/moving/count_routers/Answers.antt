use Rattle.std.proofs.Common.{◌≡◌, ◌+◌, length, sym, ap, ◌∙◌, arith}
use Rattle.std.specs.List.{count_by}
use Rattle.net_base.specs.Locations.{numbers_below}
use Rattle.net_base.specs.Sets.{holds}
use Rattle.whatif_report.proofs.Counting.{count_more, count_same}
use Rattle.whatif_report.proofs.moving.count_routers.Goals as goal
use Rattle.whatif_report.proofs.moving.count_routers.Goals.{then-holds, else-holds}

pub loop-place-preserved : goal.loop-place-preserved
loop-place-preserved c =
    let n = c.loop-place.place in
    let test = holds c.args.set.now in
    let asked = ap test (sym c.new.ensures) ∙ sym c.holds.ensures in
    elim c.if-holds.branch [
      | then-holds w ↦ record {
        count = rw w.count-is (ap (λ k. k + 1) c.loop-place.invariant.count ∙ sym (count_more test n (asked ∙ w.if-holds.true)));
        few = rw w.count-is (omega (arith, c.loop-place.invariant.few));
      }
      | else-holds w ↦ record {
        count = rw w.count-is (c.loop-place.invariant.count ∙ sym (count_same test n (asked ∙ w.if-holds.false)));
        few = rw w.count-is (omega (arith, c.loop-place.invariant.few));
      }
    ]

pub returns : goal.returns
returns c =
    let all : c.loop-place.place ≡ length c.args.net.now.routers = omega (arith, c.loop-place-test.false, c.loop-place.auto.place-end, ap length c.routers.ensures.routers) in
    c.loop-place.invariant.count ∙ ap (λ n. count_by (holds c.args.set.now) (numbers_below n)) all
