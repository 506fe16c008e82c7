use Rattle.std.proofs.Common.{refl}
use Rattle.std.proofs.lemmas.List.{get_or_default}
use Rattle.list_law.proofs.Exits.{passed_on}
use Rattle.json_values.proofs.ItemsRead.{each_from-next, each_from-start, each_from-stop, each_from-end}
use Rattle.scenario_reader.specs.Rules.{both_located}
use Rattle.scenario_reader.specs.Views.{raw_ends}
use Rattle.scenario_reader.proofs.judge.locate_pairs.Goals as goal

pub loop-ends-preserved : goal.loop-ends-preserved
loop-ends-preserved c =
    rw c.in_ok-push.ensures.items
    (each_from-next raw_ends (λ _. both_located c.args.names.now c.args.field) c.args.raw.now c.loop-ends.ends-index _ c.loop-ends-test.true (get_or_default _ _ _ _ c.loop-ends-test.true) _ _ _
    c.in_ok-pair.ensures c.loop-ends.invariant)

pub loop-ends-init : goal.loop-ends-init
loop-ends-init c = each_from-start raw_ends (λ _. both_located c.args.names.now c.args.field) c.args.raw.now _ c.new-all.ensures.items

pub returns-in_err-pair : goal.returns-in_err-pair
returns-in_err-pair c =
    rw (passed_on c.from_residual.result c.from_residual.ensures.1) (λ n.
    each_from-stop raw_ends (λ _. both_located c.args.names.now c.args.field) c.args.raw.now c.loop-ends.ends-index _ c.loop-ends-test.true (get_or_default _ _ _ _ c.loop-ends-test.true) _ _ _
    (c.in_err-pair.ensures n) c.loop-ends.invariant)

pub returns-in_err-push : goal.returns-in_err-push
returns-in_err-push c = rw (passed_on c.from_residual-in_err-push.result c.from_residual-in_err-push.ensures.1) (λ n. absurd (n refl))

pub returns : goal.returns
returns c = each_from-end raw_ends (λ _. both_located c.args.names.now c.args.field) c.args.raw.now c.loop-ends.all.items c.loop-ends.ends-index _ c.loop-ends-test.false c.loop-ends.invariant
