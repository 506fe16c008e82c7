use Rattle.std.proofs.Common.{◌∙◌, sym}
use Rattle.std.proofs.lemmas.Bool.{not-true}
use Rattle.topology.proofs.Ascending.{insert_key-put}
use Rattle.topology.proofs.links.put.Goals as goal

pub returns-clause-added : goal.returns-clause-added
returns-clause-added c = λ new.
    c.in_ok-insert.ensures.keys ∙ insert_key-put c.args.links.now.keys c.args.link (not-true _ (sym c.in_ok-insert.ensures.added ∙ new))
