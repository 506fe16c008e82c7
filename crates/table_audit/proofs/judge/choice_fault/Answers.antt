use Rattle.std.proofs.Common.{◌≡◌, ◌<◌, ◌≤◌, Some, refl, rules}
use Rattle.scenarios.specs.Situations.{held_in}
use Rattle.table_audit.proofs.Faults.{bettered, given_by_none, not_given, settled}
use Rattle.table_audit.proofs.judge.choice_fault.Goals as goal

pub returns-then-not-holds : goal.returns-then-not-holds
returns-then-not-holds c =
    let held : held_in c.args.situation.now c.args.at ≡ Some c.in-Some.route.now = search rules in
    not_given c.args.situation.now c.args.at c.requires.choosing c.in-Some.route.now held c.args.choices.now c.requires.choices c.holds.result c.holds.ensures c.if-not-holds.true

pub returns-in-None-top-2 : goal.returns-in-None-top-2
returns-in-None-top-2 c =
    let held : held_in c.args.situation.now c.args.at ≡ Some c.in-Some.route.now = search rules in
    absurd (given_by_none c.args.situation.now c.args.at c.requires.choosing c.in-Some.route.now held c.args.choices.now c.requires.choices
    c.holds.result c.holds.ensures c.if-not-holds.false (c.in-None-top-2.ensures.none refl))

pub returns-then-route-best : goal.returns-then-route-best
returns-then-route-best c =
    let held : held_in c.args.situation.now c.args.at ≡ Some c.in-Some.route.now = search rules in
    let low : c.in-Some.route.now.pref < c.in-Some-top-2.best.1 = search rules in
    bettered c.args.situation.now c.args.at c.requires.choosing c.in-Some.route.now held c.args.choices.now c.requires.choices c.holds.result
    c.holds.ensures c.if-not-holds.false c.in-Some-top-2.best c.in-Some-top-2.ensures.some low

pub returns-else-route-best : goal.returns-else-route-best
returns-else-route-best c =
    let held : held_in c.args.situation.now c.args.at ≡ Some c.in-Some.route.now = search rules in
    let high : c.in-Some-top-2.best.1 ≤ c.in-Some.route.now.pref = search rules in
    settled c.args.situation.now c.args.at c.requires.choosing c.in-Some.route.now held c.args.choices.now c.requires.choices c.holds.result
    c.holds.ensures c.if-not-holds.false c.in-Some-top-2.best c.in-Some-top-2.ensures.some high
