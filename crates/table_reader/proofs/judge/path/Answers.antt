use Rattle.std.proofs.Common.{refl}
use Rattle.std.proofs.lemmas.List.{get_or_default}
use Rattle.list_law.proofs.Exits.{passed_on}
use Rattle.json_values.proofs.ItemsRead.{each_from-next, each_from-start, each_from-stop, each_from-end}
use Rattle.table_reader.specs.Rules.{located}
use Rattle.table_reader.proofs.judge.path.Goals as goal

pub loop-name-preserved : goal.loop-name-preserved
loop-name-preserved c =
    rw c.in_ok-push.ensures.ok
    (each_from-next (λ k. k.now) (λ _. located c.args.names.now c.args.place) c.args.raw.now c.loop-name.name-index _ c.loop-name-test.true (get_or_default _ _ _ _ c.loop-name-test.true) _ _ _
    c.in_ok-at.ensures c.loop-name.invariant)

pub loop-name-init : goal.loop-name-init
loop-name-init c = each_from-start (λ k. k.now) (λ _. located c.args.names.now c.args.place) c.args.raw.now _ c.new-all.ensures

pub returns-in_err-at : goal.returns-in_err-at
returns-in_err-at c =
    rw (passed_on c.from_residual.result c.from_residual.ensures.1) (λ n.
    each_from-stop (λ k. k.now) (λ _. located c.args.names.now c.args.place) c.args.raw.now c.loop-name.name-index _ c.loop-name-test.true (get_or_default _ _ _ _ c.loop-name-test.true) _ _ _
    (c.in_err-at.ensures n) c.loop-name.invariant)

pub returns-in_err-push : goal.returns-in_err-push
returns-in_err-push c = rw (passed_on c.from_residual-in_err-push.result c.from_residual-in_err-push.ensures.1) (λ n. absurd (n refl))

pub returns : goal.returns
returns c = each_from-end (λ k. k.now) (λ _. located c.args.names.now c.args.place) c.args.raw.now c.loop-name.all c.loop-name.name-index _ c.loop-name-test.false c.loop-name.invariant
