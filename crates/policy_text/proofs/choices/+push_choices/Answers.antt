use Rattle.std.proofs.Common.{append_assoc, rules}
use Rattle.policy_text.proofs.ChoiceTexts.{texts_And, texts_Calls, texts_Prefer}
use Rattle.policy_text.proofs.choices.+push_choices.Goals as goal

pub returns-in-Calls : goal.returns-in-Calls
returns-in-Calls t c = rw (texts_Calls c.args.net.now c.args.least c.args.ranked.now c.in-Calls.call c.in-Calls.sets c.in-Calls.is) (search rules)

pub returns-in_ok-push_choices-in-Prefer : goal.returns-in_ok-push_choices-in-Prefer
returns-in_ok-push_choices-in-Prefer t c =
    rw (texts_Prefer c.args.net.now c.args.least c.args.ranked.now c.in-Prefer.a c.in-Prefer.b c.in-Prefer.is) (search (rules, append_assoc))

pub returns-in_ok-push_choices-in-And-2 : goal.returns-in_ok-push_choices-in-And-2
returns-in_ok-push_choices-in-And-2 t c = rw (texts_And c.args.net.now c.args.least c.args.ranked.now c.in-And.a c.in-And.b c.in-And.is) (search rules)
