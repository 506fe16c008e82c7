use Rattle.std.proofs.Common.{◌≡◌, Some, None, sym, ◌∙◌, rules}
use Rattle.scenarios.specs.Situations.{held_in}
use Rattle.scenarios.proofs.Deciding.{decided_with, decided_without, undecided}
use Rattle.scenarios.proofs.situation.Situation.chooses.Goals as goal

pub returns-in-None : goal.returns-in-None
returns-in-None c =
    let held : held_in c.args.self.now c.args.at ≡ None = search rules in
    decided_without c.args.self.now c.args.choices.now c.requires c.args.at c.holds.result held c.holds.ensures

pub returns-then-holds : goal.returns-then-holds
returns-then-holds c =
    let held : held_in c.args.self.now c.args.at ≡ Some c.in-Some.field-0.now = search rules in
    decided_with c.args.self.now c.args.choices.now c.requires c.args.at c.holds-then-holds.result c.in-Some.field-0.now held (sym c.holds-in-Some.ensures ∙ c.if-holds.true) c.holds-then-holds.ensures

pub returns-else-holds : goal.returns-else-holds
returns-else-holds c =
    let held : held_in c.args.self.now c.args.at ≡ Some c.in-Some.field-0.now = search rules in
    undecided c.args.self.now c.args.choices.now c.requires c.args.at c.holds-in-Some.result c.in-Some.field-0.now held (sym c.holds-in-Some.ensures ∙ c.if-holds.false) c.if-holds.false
