use Rattle.event_law.proofs.Waiting.{held_and_waiting_routes_run, origins_alone_hold_routes}
use Rattle.event_law.proofs.worlds.held_and_waiting_routes_run.Goals as goal

pub returns-clause-cases : goal.returns-clause-cases
returns-clause-cases c = held_and_waiting_routes_run

pub returns-clause-bare : goal.returns-clause-bare
returns-clause-bare c = origins_alone_hold_routes
