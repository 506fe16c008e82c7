use Rattle.std.proofs.Common.{◌≡◌, not, rules, ◌∙◌}
use Rattle.scenarios.specs.Surviving.{carries_by}
use Rattle.scenarios.proofs.Survived.{carries_is}
use Rattle.scenarios.proofs.survivors.Survivors.carries.Goals as goal

pub returns-after-is_peer-clause-failures : goal.returns-after-is_peer-clause-failures
returns-after-is_peer-clause-failures c = λ f are.
    let told : not c.if-is_peer.result ≡ carries_by c.args.net.now c.args.self.now c.args.from c.args.to = search rules in
    told ∙ carries_is c.args.net.now f c.args.self.now are c.args.from c.args.to
