use Rattle.std.proofs.Common.{◌∙◌, ap, refl, map-id}
use Rattle.net_base.specs.Steps.{each_from, or_fault}
use Rattle.evidence_text.specs.declared.fault.EvidenceFault.TheVariants.{Number}
use Rattle.list_law.proofs.Exits.{passed_on}
use Rattle.json_values.proofs.ItemsRead.{each_from-start, each_from-next, each_from-stop, each_from-end}
use Rattle.evidence_text.proofs.judge.all_of.Goals as goal

pub loop-item-init : goal.loop-item-init
loop-item-init g c =
    each_from-start (λ x. x) (λ _. or_fault (Number c.args.field)) c.as_slice-items.result.now _ c.in_ok-all.ensures.items
    ∙ ap (each_from (λ _. or_fault (Number c.args.field)) 1) (map-id c.as_slice-items.result.now ∙ c.as_slice-items.ensures)

pub loop-item-preserved : goal.loop-item-preserved
loop-item-preserved g c =
    rw c.in_ok-push.ensures.items
    (each_from-next (λ x. x) (λ _. or_fault (Number c.args.field)) c.as_slice-items.result.now
    c.loop-item.item-index _ c.loop-item-test.true c.item-item.is _ _ _ c.in_ok-read.ensures c.loop-item.invariant)

pub returns-in_err-read : goal.returns-in_err-read
returns-in_err-read g c =
    rw (passed_on c.from_residual-in_err-read.result c.from_residual-in_err-read.ensures.1) (λ n.
    each_from-stop (λ x. x) (λ _. or_fault (Number c.args.field)) c.as_slice-items.result.now
    c.loop-item.item-index _ c.loop-item-test.true c.item-item.is _ _ _ (c.in_err-read.ensures n) c.loop-item.invariant)

pub returns : goal.returns
returns g c =
    rw c.from_vec.ensures
    (each_from-end (λ x. x) (λ _. or_fault (Number c.args.field)) c.as_slice-items.result.now c.loop-item.all.items c.loop-item.item-index _ c.loop-item-test.false c.loop-item.invariant)

pub returns-in_err-all : goal.returns-in_err-all
returns-in_err-all g c = rw (passed_on c.from_residual.result c.from_residual.ensures.1) (λ n. absurd (n refl))

pub returns-in_err-push : goal.returns-in_err-push
returns-in_err-push g c = rw (passed_on c.from_residual-in_err-push.result c.from_residual-in_err-push.ensures.1) (λ n. absurd (n refl))
