use Rattle.drain_report.proofs.Moving.{cuts_off_routes_move_nothing, cuts_on_a_route_move_it}
use Rattle.drain_report.proofs.drain_laws.cuts_move_what_goes_over_them.Goals as goal

pub returns-clause-off : goal.returns-clause-off
returns-clause-off c = cuts_off_routes_move_nothing

pub returns-clause-on : goal.returns-clause-on
returns-clause-on c = cuts_on_a_route_move_it
