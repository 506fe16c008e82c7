use Rattle.std.proofs.Common.{ap, option_map}
use Rattle.policy_base.specs.Policies.{plain_statement}
use Rattle.outcome_claims.proofs.claims.Claims.rank.Goals as goal

pub rank_of-requires : goal.rank_of-requires
rank_of-requires c = c.requires (plain_statement c.in-Some.statement.now) (ap (option_map (λ s. plain_statement s.now)) c.in-Some.is)
