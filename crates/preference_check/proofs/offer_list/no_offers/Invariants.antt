use Rattle.std.proofs.Common.{◌≡◌, [], replicate}
use Rattle.preference_check.proofs.offer_list.no_offers.Given as goal

abbrev pub invariant-loop : goal.invariant-loop
invariant-loop l = l.lists.items ≡ replicate l.counter []
