use Rattle.std.proofs.Common.{[], append_assoc, rules}
use Rattle.std.proofs.lemmas.Result.{on_ok_weaker}
use Rattle.policy_text.proofs.SetTexts.{calls_have_sets, calls_text_of}
use Rattle.policy_text.proofs.call.push_calls.Goals as goal

pub returns-in_ok-push_more_sets-in-len1-up-clause-text : goal.returns-in_ok-push_more_sets-in-len1-up-clause-text
returns-in_ok-push_more_sets-in-len1-up-clause-text c =
    rw (calls_text_of c.args.net.now c.args.call c.args.sets.now (record { words = [] }) c.in-len1-up.len_at_least) (search (rules, append_assoc))

pub returns-in_ok-push_more_sets-in-len1-up-clause-rules : goal.returns-in_ok-push_more_sets-in-len1-up-clause-rules
returns-in_ok-push_more_sets-in-len1-up-clause-rules c =
    on_ok_weaker c.push_bytes-in-len1-up-2.result
    (λ _. calls_have_sets c.args.call c.args.sets.now (record { words = [] }) c.in-len1-up.len_at_least c.push_set.ensures.rules c.in_ok-push_more_sets-in-len1-up.ensures.rules)
    c.push_bytes-in-len1-up-2.ensures
