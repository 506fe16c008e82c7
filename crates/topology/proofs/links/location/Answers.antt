use Rattle.std.proofs.Common.{◌∙◌, sym, arith}
use Rattle.std.specs.Str.{bytes_eq}
use Rattle.list_law.proofs.Positions.{position-map}
use Rattle.topology.proofs.links.location.Goals as goal

pub returns-in-Some : goal.returns-in-Some
returns-in-Some c = (rw c.as_bytes.ensures.value at c.in-Some.ensures.index) ∙ sym (position-map (bytes_eq c.args.name.now) (λ k. k.now) c.args.names.now.keys)

pub returns-in-None : goal.returns-in-None
returns-in-None c = (rw c.as_bytes.ensures.value at c.in-None.ensures.index) ∙ sym (position-map (bytes_eq c.args.name.now) (λ k. k.now) c.args.names.now.keys)

pub overflow_cast-result : goal.overflow_cast-result
overflow_cast-result c = omega (arith, c.in-Some.ensures.within, c.requires)
