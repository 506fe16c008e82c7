use Rattle.std.proofs.Common.{◌≡◌, ◌++◌, drop}
use Rattle.std.specs.List.{flat_map}
use Rattle.event_state.specs.States.{setting, state}
use Rattle.waiting_report.specs.Lines.{link_lines}
use Rattle.waiting_report.proofs.told.push_links.Given as goal

-- what is told, and what the links still hold that aren't told, is all that waited
abbrev pub invariant-loop-link : goal.invariant-loop-link
invariant-loop-link l = record {
  setting : setting l.world ≡ setting l.fn.world;
  told : l.text.items ++ flat_map (link_lines l.fn.world.net.now (state l.world)) (drop l.link-index l.link-items)
      ≡ l.initial.text.items ++ flat_map (link_lines l.fn.world.net.now (state l.fn.world)) l.link-items;
}
