use Rattle.std.proofs.Common.{ap, map, ◌∙◌, rules}
use Rattle.walk_states.specs.Growth.{ways_in}
use Rattle.walk_states.proofs.WayLists.{ways_in-nil, ways_in-push_nil}
use Rattle.walk_states.proofs.neighbours.no_ways.Goals as goal

pub loop-init : goal.loop-init
loop-init c = record {
  none = λ at. ap (λ l. ways_in (map (λ v. v.items) l) at) c.in_ok-ways.ensures.items ∙ ways_in-nil at;
  len = search rules;
}

pub loop-preserved : goal.loop-preserved
loop-preserved c = record {
  none = λ at. ap (λ l. ways_in (map (λ v. v.items) l) at) c.in_ok-push.ensures.items
      ∙ ways_in-push_nil (λ v. v.items) c.loop.ways.items c.new.result c.new.ensures.items c.loop.invariant.none at;
  len = search rules;
}
