use Rattle.policy_grammar.proofs.Counting.{counted, strayed}
use Rattle.policy_grammar.proofs.deep.first_deep.Goals as goal

pub returns-in-Stray : goal.returns-in-Stray
returns-in-Stray c = λ memory. strayed c.args.text.now c.loop-next.next c.in-Stray.place c.in-Stray.is c.loop-next.invariant.end

pub returns-in_default-next : goal.returns-in_default-next
returns-in_default-next c =
    counted c.args.text.now c.loop-next.brackets.deep c.loop-next.brackets.open c.loop-next.next c.in_default.not-Token c.in_default-next.not-Stray
    c.loop-next.invariant.end c.loop-next.invariant.so_far
