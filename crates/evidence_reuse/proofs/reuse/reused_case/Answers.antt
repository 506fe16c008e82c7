use Rattle.std.proofs.Common.{inl, inr, refl}
use Rattle.std.proofs.lemmas.Result.{IfOk-weaker}
use Rattle.evidence_reuse.proofs.reuse.reused_case.Goals as goal

pub marked-requires : goal.marked-requires
marked-requires c = (rw c.in-Some.is at c.staying.ensures.stays).may.same.graph

pub returns-in-Some : goal.returns-in-Some
returns-in-Some c =
    let stays = rw c.in-Some.is at c.staying.ensures.stays in
    IfOk-weaker c.marked.result _ _ (λ d is. record { source = c.in-Some.old.now; is = inl stays; made = is }) c.marked.ensures

pub returns-in-None : goal.returns-in-None
returns-in-None c =
    let none = rw c.in-None.is at c.staying.ensures.none in
    IfOk-weaker c.marked-in-None.result _ _ (λ d is. record { source = c.args.renewed.now; is = inr (refl, none); made = is }) c.marked-in-None.ensures
