use Rattle.std.proofs.Common.{◌∙◌, ap, not, sym}
use Rattle.std.specs.Str.{bytes_eq}
use Rattle.list_law.proofs.Tests.{list_any-map}
use Rattle.location_names.proofs.names.note.Goals as goal

pub returns-clause-fresh : goal.returns-clause-fresh
returns-clause-fresh c = c.in_ok-insert.ensures.added ∙ ap not (sym (list_any-map (bytes_eq c.args.name.now) (λ k. k.now) c.args.names.now.keys))
