use Rattle.std.proofs.Common.{◌<◌}
use Rattle.evidence_text.specs.declared.parts.Field.TheVariants as field
use Rattle.evidence_text.specs.declared.fault.EvidenceFault.TheVariants.{Number}
use Rattle.evidence_text.proofs.InRange.{all_there}
use Rattle.evidence_text.proofs.judge.read_case.Goals as goal

pub set_of_places-requires : goal.set_of_places-requires
set_of_places-requires c = rw c.as_slice.ensures (all_there (λ l. l < 768) (Number field.Origins) c.args.raw.now.origins _ c.in_ok-origins.ensures c.requires.origins)
