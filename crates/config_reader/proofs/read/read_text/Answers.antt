use Rattle.std.proofs.Common.{sym, ◌∙◌}
use Rattle.config_reader.proofs.CutLines.{no_feed, other_heading, behind_first}
use Rattle.config_reader.proofs.read.read_text.Goals as goal

pub returns-in_default : goal.returns-in_default
returns-in_default c = λ _. no_feed c.args.edition c.args.bytes.now c.in_default.ensures

pub returns-then-not-is_heading : goal.returns-then-not-is_heading
returns-then-not-is_heading c = λ _. other_heading c.args.edition c.args.bytes.now c.in-Some.first.now c.in-Some.more.now c.in-Some.ensures (sym c.is_heading.ensures ∙ c.if-not-is_heading.true)

pub returns : goal.returns
returns c =
    rw (behind_first c.args.edition c.args.bytes.now c.in-Some.first.now c.in-Some.more.now c.in-Some.ensures (sym c.is_heading.ensures ∙ c.if-not-is_heading.false))
    c.read_behind_heading.ensures
