use Rattle.std.proofs.Common.{◌∙◌, sym}
use Rattle.std.specs.Str.{bytes_eq}
use Rattle.list_law.proofs.Positions.{position-map}
use Rattle.policy_rules.proofs.known.place_in.Goals as goal

pub returns-in-Some : goal.returns-in-Some
returns-in-Some c = c.in-Some.ensures.index ∙ sym (position-map (bytes_eq c.args.name.now) (λ k. k.now) c.args.names.now.keys)

pub returns-in-None : goal.returns-in-None
returns-in-None c = c.in-None.ensures.index ∙ sym (position-map (bytes_eq c.args.name.now) (λ k. k.now) c.args.names.now.keys)
