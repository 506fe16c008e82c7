use Rattle.rest_law.proofs.Candidates.{firm_comes_first, given_are_candidates, nothing_is_left, open_ways_are_held}
use Rattle.rest_law.proofs.secure_routers.firm_routes_are_chosen.Goals as goal

pub returns-clause-first : goal.returns-clause-first
returns-clause-first c = firm_comes_first

pub returns-clause-last : goal.returns-clause-last
returns-clause-last c = nothing_is_left

pub returns-clause-given : goal.returns-clause-given
returns-clause-given c = given_are_candidates

pub returns-clause-ways : goal.returns-clause-ways
returns-clause-ways c = open_ways_are_held
