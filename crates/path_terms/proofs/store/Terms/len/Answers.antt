use Rattle.std.proofs.Common.{sym, ◌∙◌}
use Rattle.path_terms.proofs.Growth.{length-expressions}
use Rattle.path_terms.proofs.store.Terms.len.Goals as goal

pub returns-clause-len : goal.returns-clause-len
returns-clause-len c = c.len.ensures.len ∙ sym (length-expressions c.args.self.now.found.keys)
