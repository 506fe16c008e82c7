use Rattle.std.proofs.Common.{◌∙◌, ap, sym}
use Rattle.list_law.proofs.Exits.{passed_on}
use Rattle.policy_rules.specs.KnownView.{plain_names}
use Rattle.policy_parser.proofs.TakenTexts.{starts, takes_on, takes_no_more, takes_all}
use Rattle.policy_parser.proofs.read.items_taken.Goals as goal

pub items-init : goal.items-init
items-init c = record {
  so_far = starts c.args.bytes.now c.args.net.now c.in_ok-verdicts.verdicts _ _ c.first_lexeme-at.ensures.left (c.in_ok-verdicts.ensures.so_far c.args.bytes.now);
  whole = c.of-whole.ensures;
  stands = c.first_lexeme-at.ensures.stands;
}

pub returns-in_err-read : goal.returns-in_err-read
returns-in_err-read c =
    rw (passed_on c.from_residual-in_err-read.result c.from_residual-in_err-read.ensures.1)
    (takes_no_more c.args.bytes.now c.args.net.now c.items.verdicts c.items.at _ _ _ (sym c.begins.ensures ∙ c.items-test.true) c.in_err-read.ensures.read c.items.invariant.so_far)

pub items-preserved : goal.items-preserved
items-preserved c = record {
  so_far =
      takes_on c.args.bytes.now c.args.net.now _ c.items.verdicts c.take.new.self _ c.items.at _ _ c.in_ok-read.read _ c.of-whole.ensures
      (ap plain_names c.known.ensures)
      (sym c.begins.ensures ∙ c.items-test.true) c.in_ok-read.ensures.read c.in_ok-read.ensures.onward c.in_ok-take.ensures.so_far c.items.invariant.so_far;
  whole = c.of-whole.ensures;
  stands = c.item.ensures.stands;
}

pub returns : goal.returns
returns c = takes_all c.args.bytes.now c.args.net.now c.items.verdicts c.items.at _ _ (sym c.begins.ensures ∙ c.items-test.false) c.items.invariant.so_far
