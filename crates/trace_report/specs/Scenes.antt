-- What a world that is kept by lists shows.
use Rattle.event_state.specs.States.{state}
use Rattle.outcome_report.specs.Lines.{Shown}
use Rattle.trace_report.specs.declared.reporting.Standing.{Standing}
use Rattle.trace_report.specs.Trace.{shown_by}

abbrev pub shown_in : Standing → Shown
shown_in s = shown_by (state s.world.now)
