use Rattle.std.proofs.Common.{ap, ◌∙◌, inl, inr, ⊎_elim, Some}
use Rattle.path_automata.proofs.ClassLemmas.{written}
use Rattle.path_automata.proofs.memo.Memo.note.Goals as goal

pub returns-then-next-clause-noted : goal.returns-then-next-clause-noted
returns-then-next-clause-noted c = λ s x n h.
    let memo = c.args.self.now in
    let here = c.in-Some.ensures in
    ⊎_elim (λ e. inl (h.0, h.1, e, h.3))
    (λ e. inr ((here.0, h.1.1 ∙ ap Some e.1, here.1), e.0, e.2))
    (written memo.next.items memo.count c.args.state here.0 c.args.next s h.1.0 n c.in-Some.place h.0 (memo.below c.args.at here.0 here.1) (memo.below x h.1.0 h.1.1) here.2 h.1.2 h.2)
