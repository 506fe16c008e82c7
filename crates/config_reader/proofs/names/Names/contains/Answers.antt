use Rattle.std.proofs.Common.{◌∙◌, sym}
use Rattle.std.specs.Str.{bytes_eq}
use Rattle.list_law.proofs.Tests.{list_any-map}
use Rattle.config_reader.proofs.names.Names.contains.Goals as goal

pub returns : goal.returns
returns c = rw (← c.self.view_is) ((rw c.as_bytes.ensures.bytes at c.contains.ensures) ∙ sym (list_any-map (bytes_eq c.args.name.now) (λ v. v.items) c.self.inside.found.keys))
