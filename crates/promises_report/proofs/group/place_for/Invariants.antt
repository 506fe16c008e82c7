use Rattle.std.proofs.Common.{◌≡◌, ◌+◌, drop}
use Rattle.std.specs.List.{position_or_len}
use Rattle.promises_report.specs.Groups.{fits}
use Rattle.promises_report.proofs.group.place_for.Given as goal

abbrev pub invariant-loop-place : goal.invariant-loop-place
invariant-loop-place l = position_or_len (λ g. fits g l.group) l.groups ≡ l.place + position_or_len (λ g. fits g l.group) (drop l.place l.groups)
