use Rattle.std.proofs.Common.{length, refl, ◌∙◌, ap, map-id}
use Rattle.std.proofs.lemmas.Option.{slice_get_read}
use Rattle.list_law.proofs.Each.{AllByRecursion_at}
use Rattle.net_base.specs.Steps.{each_from}
use Rattle.evidence_text.specs.Ranges.{HasRanges}
use Rattle.evidence_text.specs.Spelled.{numbered_case}
use Rattle.list_law.proofs.Exits.{passed_on}
use Rattle.json_values.proofs.ItemsRead.{each_from-start, each_from-next, each_from-stop, each_from-end}
use Rattle.evidence_text.proofs.judge.read_cases.Goals as goal

pub loop-case-init : goal.loop-case-init
loop-case-init c =
    each_from-start (λ x. x) (λ _. numbered_case) c.args.raw.now _ c.in_ok-all.ensures.items ∙ ap (each_from (λ _. numbered_case) 1) (map-id c.args.raw.now)

pub loop-case-preserved : goal.loop-case-preserved
loop-case-preserved c =
    rw c.in_ok-push.ensures.items
    (each_from-next (λ x. x) (λ _. numbered_case) c.args.raw.now c.loop-case.case-index _ c.loop-case-test.true c.case-item.is _ _ _ c.in_ok-read.ensures c.loop-case.invariant)

pub returns-in_err-read : goal.returns-in_err-read
returns-in_err-read c =
    rw (passed_on c.from_residual-in_err-read.result c.from_residual-in_err-read.ensures.1) (λ n.
    each_from-stop (λ x. x) (λ _. numbered_case) c.args.raw.now c.loop-case.case-index _ c.loop-case-test.true c.case-item.is _ _ _ (c.in_err-read.ensures n) c.loop-case.invariant)

pub returns : goal.returns
returns c =
    rw c.from_vec.ensures
    (each_from-end (λ x. x) (λ _. numbered_case) c.args.raw.now c.loop-case.all.items c.loop-case.case-index _ c.loop-case-test.false c.loop-case.invariant)

pub returns-in_err-all : goal.returns-in_err-all
returns-in_err-all c = rw (passed_on c.from_residual.result c.from_residual.ensures.1) (λ n. absurd (n refl))

pub returns-in_err-push : goal.returns-in_err-push
returns-in_err-push c = rw (passed_on c.from_residual-in_err-push.result c.from_residual-in_err-push.ensures.1) (λ n. absurd (n refl))

pub read_case-requires : goal.read_case-requires
read_case-requires c =
    let raw = c.args.raw.now in
    let at = slice_get_read raw (length raw) c.loop-case.case-index c.case-item.result refl c.loop-case-test.true c.case-item.is in
    AllByRecursion_at HasRanges raw c.loop-case.case-index c.case-item.result c.requires at
