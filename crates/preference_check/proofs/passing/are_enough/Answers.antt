use Rattle.std.proofs.Common.{◌||◌, ap, sym, ◌∙◌}
use Rattle.preference_check.specs.Offers.{is_offered}
use Rattle.preference_check.proofs.passing.are_enough.Goals as goal

pub returns-then-has_just : goal.returns-then-has_just
returns-then-has_just c = λ t p n low. sym (c.has_just.ensures c.if-has_just.true p n) ∙ low

pub returns : goal.returns
returns c = λ enough p n low. sym (c.in_ok-take_in.ensures p n ∙ ap (λ b. b || is_offered c.args.offers.now p n) (c.clear.ensures p n)) ∙ c.is_as_low.ensures.0 enough p n low
