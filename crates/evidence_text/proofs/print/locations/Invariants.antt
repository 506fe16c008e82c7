use Rattle.std.proofs.Common.{◌≡◌, ◌++◌, ◌-◌}
use Rattle.std.specs.Prelude.{filter}
use Rattle.std.specs.List.{range_with_len}
use Rattle.net_base.specs.Sets.{holds}
use Rattle.evidence_text.specs.Text.{members}
use Rattle.evidence_text.proofs.print.locations.Given as goal

abbrev pub invariant-loop-l : goal.invariant-loop-l
invariant-loop-l l = l.all.items ++ filter (holds l.set) (range_with_len l.l (768 - l.l)) ≡ members l.set
