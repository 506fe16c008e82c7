use Rattle.std.proofs.Common.{arith, ◌≡◌, ◌∙◌, refl, length-append}
use Rattle.std.proofs.lemmas.List.{get_or_default}
use Rattle.list_law.proofs.Exits.{passed_on}
use Rattle.json_values.proofs.ItemsRead.{each_from-next, each_from-stop, each_from-end}
use Rattle.event_reader.specs.Rules.{placed}
use Rattle.event_reader.specs.Views.{raw_event}
use Rattle.event_reader.proofs.judge.events.Goals as goal

pub loop-said-preserved : goal.loop-said-preserved
loop-said-preserved c =
    let here : c.len.result ≡ c.loop-said.said-index = omega (arith, c.loop-said.invariant.count) in record {
      count = rw c.in_ok-push.ensures.items (length-append c.loop-said.all.items _ ∙ rw c.loop-said.invariant.count refl);
      read =
          rw c.in_ok-push.ensures.items
          (each_from-next raw_event (placed c.args.names.now) c.args.raw.now c.loop-said.said-index _ c.loop-said-test.true (get_or_default _ _ _ _ c.loop-said-test.true) _ _ _
          (rw here at c.in_ok-placed.ensures) c.loop-said.invariant.read);
    }

pub returns-in_err-placed : goal.returns-in_err-placed
returns-in_err-placed c =
    let here : c.len.result ≡ c.loop-said.said-index = omega (arith, c.loop-said.invariant.count) in
    rw (passed_on c.from_residual.result c.from_residual.ensures.1) (λ n.
    each_from-stop raw_event (placed c.args.names.now) c.args.raw.now c.loop-said.said-index _ c.loop-said-test.true (get_or_default _ _ _ _ c.loop-said-test.true) _ _ _
    ((rw here at c.in_err-placed.ensures) n) c.loop-said.invariant.read)

pub returns : goal.returns
returns c = each_from-end raw_event (placed c.args.names.now) c.args.raw.now c.loop-said.all.items c.loop-said.said-index _ c.loop-said-test.false c.loop-said.invariant.read

pub returns-in_err-push : goal.returns-in_err-push
returns-in_err-push c = rw (passed_on c.from_residual-in_err-push.result c.from_residual-in_err-push.ensures.1) (λ n. absurd (n refl))
