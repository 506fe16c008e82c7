use Rattle.std.proofs.Common.{arith, ◌≡◌, ◌∙◌, refl, map, length-append}
use Rattle.serde_json.specs.View.{view}
use Rattle.list_law.proofs.Exits.{passed_on}
use Rattle.json_values.proofs.ItemsRead.{each_from-ok, each_from-stop, each_from-end}
use Rattle.event_reader.specs.Shape.{event_of}
use Rattle.event_reader.specs.Views.{raw_event}
use Rattle.event_reader.proofs.shape.events.Goals as goal

pub loop-value-preserved : goal.loop-value-preserved
loop-value-preserved c =
    let here : c.len.result ≡ c.loop-value.value-index = omega (arith, c.loop-value.invariant.count) in record {
      count = rw c.in_ok-push.ensures.items (length-append c.loop-value.all.items _ ∙ rw c.loop-value.invariant.count refl);
      read =
          rw c.in_ok-push.ensures.items
          (each_from-ok view event_of c.args.values.now c.loop-value.value-index _ c.loop-value-test.true c.value-item.is raw_event _ _ _
          (rw here at c.in_ok-read.ensures) c.loop-value.invariant.read);
    }

pub returns-in_err-read : goal.returns-in_err-read
returns-in_err-read c =
    let here : c.len.result ≡ c.loop-value.value-index = omega (arith, c.loop-value.invariant.count) in
    rw (passed_on c.from_residual.result c.from_residual.ensures.1) (λ n.
    each_from-stop view event_of c.args.values.now c.loop-value.value-index _ c.loop-value-test.true c.value-item.is _ _ _
    ((rw here at c.in_err-read.ensures) n) c.loop-value.invariant.read)

pub returns : goal.returns
returns c = each_from-end view event_of c.args.values.now (map raw_event c.loop-value.all.items) c.loop-value.value-index _ c.loop-value-test.false c.loop-value.invariant.read

pub returns-in_err-push : goal.returns-in_err-push
returns-in_err-push c = rw (passed_on c.from_residual-in_err-push.result c.from_residual-in_err-push.ensures.1) (λ n. absurd (n refl))
