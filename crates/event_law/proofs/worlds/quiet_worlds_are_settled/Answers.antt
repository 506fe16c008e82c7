use Rattle.event_law.proofs.Waiting.{peers_hear_offers, quiet_worlds_are_settled}
use Rattle.event_law.proofs.worlds.quiet_worlds_are_settled.Goals as goal

pub returns-clause-routes : goal.returns-clause-routes
returns-clause-routes c = quiet_worlds_are_settled

pub returns-clause-offers : goal.returns-clause-offers
returns-clause-offers c = peers_hear_offers
