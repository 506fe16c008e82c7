use Rattle.std.proofs.Common.{◌∙◌, sym}
use Rattle.policy_grammar.specs.Left.{behind}
use Rattle.policy_rules.specs.KnownView.{plain_names}
use Rattle.policy_values.specs.Parts.{parts_value}
use Rattle.policy_values.proofs.CallLaws.{call_begun, no_call}
use Rattle.policy_values.proofs.reader.Reader.call.Goals as goal

pub returns-in_default-clause-read : goal.returns-in_default-clause-read
returns-in_default-clause-read c =
    λ memory. rw (c.refused.ensures c.args.self.now.text.now)
    (no_call c.args.self.now.text.now c.args.self.now.whole.now.net.now (plain_names c.args.self.now.known.now) c.args.at.now
    (behind c.args.self.now.text.now c.args.at.now) (parts_value c.args.parts.now) (sym c.word_of.ensures ∙ c.in_default.is))

pub returns-clause-read : goal.returns-clause-read
returns-clause-read c =
    rw (
      call_begun c.args.self.now.text.now c.args.self.now.whole.now.net.now (plain_names c.args.self.now.known.now) c.args.at.now
          (behind c.args.self.now.text.now c.args.at.now) c.in-Some.word (parts_value c.args.parts.now) (sym c.word_of.ensures ∙ c.in-Some.is),
      c.advance.ensures.left,
    )
    c.call_behind.ensures.read
