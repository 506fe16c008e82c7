use Rattle.std.proofs.Common.{◌≡◌, not, rules, ◌∙◌}
use Rattle.scenarios.specs.Surviving.{live_by}
use Rattle.scenarios.proofs.Survived.{live_is}
use Rattle.scenarios.proofs.survivors.Survivors.is_live.Goals as goal

pub returns-then-not-is_dead-clause-failures : goal.returns-then-not-is_dead-clause-failures
returns-then-not-is_dead-clause-failures c = λ f are.
    let told : not c.is_dead-then-not-is_dead.result ≡ live_by c.args.net.now c.args.self.now c.args.a c.args.b = search rules in
    told ∙ live_is c.args.net.now f c.args.self.now are c.args.a c.args.b

pub returns-else-not-is_dead-clause-failures : goal.returns-else-not-is_dead-clause-failures
returns-else-not-is_dead-clause-failures c = λ f are.
    let told : c.if-not-has.value ≡ live_by c.args.net.now c.args.self.now c.args.a c.args.b = search rules in
    told ∙ live_is c.args.net.now f c.args.self.now are c.args.a c.args.b
