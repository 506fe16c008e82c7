use Rattle.std.proofs.Common.{ap, ◌∙◌, arith}
use Rattle.path_exprs.specs.Parts.{expressions_of_parts}
use Rattle.path_exprs.proofs.Numbers.{are_earlier-put, length-parts, parts-push}
use Rattle.path_exprs.proofs.parts.Parts.add.Goals as goal

pub invariant_of-self : goal.invariant_of-self
invariant_of-self c = record {
  earlier = are_earlier-put _ c.args.self.now.all.items c.push.new.self.items c.args.part c.push.ensures.items c.args.self.now.earlier c.requires.earlier;
}

pub returns-clause-added : goal.returns-clause-added
returns-clause-added c = ap expressions_of_parts c.in_ok-push.ensures.items ∙ parts-push c.args.self.now.all.items c.args.part

pub returns-clause-number : goal.returns-clause-number
returns-clause-number c = let l = length-parts c.args.self.now.all.items in omega (arith, l, c.len-number.ensures)
