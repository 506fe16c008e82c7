use Rattle.std.proofs.Common.{refl}
use Rattle.list_law.proofs.Exits.{passed_on}
use Rattle.policy_rules.specs.KnownView.{plain_names}
use Rattle.policy_values.specs.Parts.{parts_value}
use Rattle.policy_values.proofs.CallLaws.{link_begun, taken_err, taken_ok}
use Rattle.policy_values.proofs.reader.Reader.link_call.Goals as goal

pub returns-in_err-passed-clause-read : goal.returns-in_err-passed-clause-read
returns-in_err-passed-clause-read c =
    rw (passed_on c.from_residual-in_err-passed.result c.from_residual-in_err-passed.ensures.1) (λ memory. taken_err (parts_value c.args.parts.now) _ _
    (link_begun c.args.self.now.text.now c.args.self.now.whole.now.net.now (plain_names c.args.self.now.known.now) _ _ _ c.in_ok-a.a c.in_ok-b.b _
    c.in_ok-a.ensures.read c.in_ok-b.ensures.read (rw (c.in_err-passed.ensures.read memory) refl)))

pub returns-clause-read : goal.returns-clause-read
returns-clause-read c =
    taken_ok (parts_value c.args.parts.now) (parts_value c.take_call.new.self) c.take_call.result _ _ _
    (link_begun c.args.self.now.text.now c.args.self.now.whole.now.net.now (plain_names c.args.self.now.known.now) _ _ _ c.in_ok-a.a c.in_ok-b.b _
    c.in_ok-a.ensures.read c.in_ok-b.ensures.read (rw c.in_ok-passed.ensures.read refl))
    (rw c.linked.ensures at c.take_call.ensures)
