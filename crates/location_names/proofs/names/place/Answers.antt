use Rattle.std.proofs.Common.{◌∙◌, sym}
use Rattle.std.specs.Str.{bytes_eq}
use Rattle.list_law.proofs.Positions.{position-map}
use Rattle.location_names.proofs.names.place.Goals as goal

pub returns-in-Some-clause-place : goal.returns-in-Some-clause-place
returns-in-Some-clause-place c = (rw c.as_bytes.ensures.value at c.in-Some.ensures.index) ∙ sym (position-map (bytes_eq c.args.name.now) (λ k. k.now) c.args.names.now.keys)

pub returns-in-None-clause-place : goal.returns-in-None-clause-place
returns-in-None-clause-place c = (rw c.as_bytes.ensures.value at c.in-None.ensures.index) ∙ sym (position-map (bytes_eq c.args.name.now) (λ k. k.now) c.args.names.now.keys)
