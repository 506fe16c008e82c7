use Rattle.std.proofs.Common.{sym, ◌∙◌, arith}
use Rattle.policy_base.specs.Policies.{ranking_of}
use Rattle.policy_base.proofs.RankPlaces.{place_of-below, rank_some, rank_none}
use Rattle.policy_base.proofs.rank.rank_of.Goals as goal

pub returns-in_err-place : goal.returns-in_err-place
returns-in_err-place c =
    c.from_residual.ensures ∙ rank_none c.args.net.now (ranking_of c.args.ranked.now) c.args.path.now (sym c.in_err-place.was ∙ c.first_met.ensures)

pub overflow_add-result : goal.overflow_add-result
overflow_add-result c =
    let low = place_of-below c.args.net.now (ranking_of c.args.ranked.now) c.args.path.now 64 c.requires c.first_met.result c.first_met.ensures c.in_ok-place.place c.in_ok-place.was in
    omega (arith, low)

pub returns : goal.returns
returns c = rank_some c.args.net.now (ranking_of c.args.ranked.now) c.args.path.now c.in_ok-place.place (sym c.in_ok-place.was ∙ c.first_met.ensures)
