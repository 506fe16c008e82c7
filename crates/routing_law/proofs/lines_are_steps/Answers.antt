use Rattle.routing_law.proofs.Steps.{exports_are_steps, imports_are_steps, own_routes_are_starts, announcements_are_steps}
use Rattle.routing_law.proofs.lines_are_steps.Goals as goal

pub returns-clause-exports : goal.returns-clause-exports
returns-clause-exports c = exports_are_steps

pub returns-clause-imports : goal.returns-clause-imports
returns-clause-imports c = imports_are_steps

pub returns-clause-own : goal.returns-clause-own
returns-clause-own c = own_routes_are_starts

pub returns-clause-peers : goal.returns-clause-peers
returns-clause-peers c = announcements_are_steps
