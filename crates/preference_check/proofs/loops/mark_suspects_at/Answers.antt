use Rattle.std.proofs.Common.{IsTrue, ap, sym, subst, ◌∙◌, arith}
use Rattle.preference_check.specs.Rows.{has_upto}
use Rattle.preference_check.specs.Runs.{has_node}
use Rattle.preference_check.proofs.Looping.{keeps_by_lows, keeps_with_one}
use Rattle.preference_check.proofs.Matching.{node_within}
use Rattle.preference_check.proofs.loops.mark_suspects_at.Goals as goal

pub returns-then-has_one_number-clause-rule : goal.returns-then-has_one_number-clause-rule
returns-then-has_one_number-clause-rule c = λ m off.
    keeps_with_one c.args.graph.now c.args.numbers.now c.args.lists.now c.args.at c.deref.result.now c.requires.lists
    (λ n number. ap (λ run. has_node run n number) c.deref.ensures.value ∙ c.in_order-run.ensures.nodes n number ∙ c.requires.nodes n number) (c.has_one_number.ensures c.if-has_one_number.true) m

pub lows-requires-clause-nodes : goal.lows-requires-clause-nodes
lows-requires-clause-nodes c = λ k d lt.
    let within = node_within c.args.graph.now c.args.numbers.now c.args.at c.deref-2.result.now k d
    (λ n number. ap (λ run. has_node run n number) c.deref-2.ensures.value ∙ c.in_order-run.ensures.nodes n number ∙ c.requires.nodes n number) lt in
    omega (arith, within, c.requires.lists.size)

pub returns-clause-rule : goal.returns-clause-rule
returns-clause-rule c = λ m off.
    keeps_by_lows c.args.graph.now c.args.numbers.now c.args.lists.now c.args.at c.deref-2.result.now c.requires.lists
    (λ n number. ap (λ run. has_node run n number) c.deref-2.ensures.value ∙ c.in_order-run.ensures.nodes n number ∙ c.requires.nodes n number) c.deref-3.result.now
    (λ k number n has leads. subst (λ row. IsTrue (has_upto row n number)) (sym c.deref-3.ensures.value) (c.in_ok-lows.ensures.lows k number n has leads)) m (c.mark_steps.ensures.steps m off)
