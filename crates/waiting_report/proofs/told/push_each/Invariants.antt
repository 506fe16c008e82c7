use Rattle.std.proofs.Common.{◌≡◌, ◌+◌, ◌++◌, length}
use Rattle.std.specs.List.{flat_map}
use Rattle.waiting_report.specs.Lines.{waits_line}
use Rattle.waiting_report.proofs.told.push_each.Given as goal

-- what is told and what still waits are all messages
abbrev pub invariant-loop : goal.invariant-loop
invariant-loop l = record {
  count : l.counter + length l.queue ≡ length l.initial.queue;
  told : l.text.items ++ flat_map (waits_line l.net l.from l.to) l.queue ≡ l.initial.text.items ++ flat_map (waits_line l.net l.from l.to) l.initial.queue;
}
