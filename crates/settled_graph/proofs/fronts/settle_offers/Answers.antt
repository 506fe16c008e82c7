use Rattle.std.proofs.Common.{◌≡◌, ◌++◌, ◌∷◌, [], None, Some, set, refl, arith}
use Rattle.settled_graph.specs.Best.{entry_at}
use Rattle.settled_graph.specs.Rounds.{taken}
use Rattle.settled_graph.proofs.Taking.{so_far_all, so_far_first, so_far_none, so_far_taken}
use Rattle.settled_graph.proofs.fronts.settle_offers.Goals as goal
use Rattle.settled_graph.proofs.fronts.settle_offers.Goals.{in-Some+in_ok-routes+in_ok-push, in_default}

pub take-requires-clause-from : goal.take-requires-clause-from
take-requires-clause-from c = (c.requires.fit c.loop-place.place c.in-Some.offer c.in-Some.is).from

pub loop-place-init : goal.loop-place-init
loop-place-init c =
    rw c.new-front.ensures.items
    (so_far_first c.args.graph.now c.args.offers.now c.args.routes.now.items c.args.wanted.now.items c.requires.offers c.requires.fit c.requires.routes c.requires.wanted)

pub loop-place-preserved : goal.loop-place-preserved
loop-place-preserved c =
    let g = c.args.graph.now in
    let offers = c.args.offers.now in
    let place = c.loop-place.place in
    elim c.match-offers-place.branch [
      | in-Some+in_ok-routes+in_ok-push w ↦ (
          let is : entry_at offers place ≡ Some w.in-Some.offer = w.in-Some.is in
          let at : w.new.result ≡ place = w.new.ensures in
          let read : w.deref.result.now ≡ c.loop-place.routes.items = w.deref.ensures.value in
          let took : w.in_ok-routes.field-0 ≡ taken g w.deref.result.now w.new.result w.in-Some.offer = w.in_ok-routes.ensures in
          let routes : c.match-offers-place.routes.items ≡ set c.loop-place.routes.items place w.in_ok-routes.field-0 = rw w.routes-is refl in
          let left : c.match-offers-place.wanted.items ≡ set c.loop-place.wanted.items place None = rw w.wanted-is refl in
          let front : c.match-offers-place.front.items ≡ c.loop-place.front.items ++ w.in-Some.offer.to ∷ [] = rw w.front-is w.in_ok-push.ensures.items in
          so_far_taken g offers c.args.routes.now.items c.args.wanted.now.items c.requires.offers c.requires.fit place c.loop-place.routes.items
          c.loop-place.wanted.items c.loop-place.front.items c.loop-place.invariant
          w.in-Some.offer w.deref.result.now w.new.result w.in_ok-routes.field-0 c.match-offers-place.routes.items c.match-offers-place.wanted.items c.match-offers-place.front.items
          (omega (arith, c.loop-place-test.true, c.requires.offers)) is at read took routes left front)
      | in_default w ↦ (
          let none : entry_at offers place ≡ None = w.in_default.is in
          rw (w.routes-is, w.wanted-is, w.front-is)
          (so_far_none g offers c.args.routes.now.items c.args.wanted.now.items c.requires.offers c.requires.fit place c.loop-place.routes.items
          c.loop-place.wanted.items c.loop-place.front.items c.loop-place.invariant none))
    ]

pub returns-clause-round : goal.returns-clause-round
returns-clause-round c =
    so_far_all c.args.graph.now c.args.offers.now c.args.routes.now.items c.args.wanted.now.items c.requires.offers c.requires.fit c.loop-place.place
    c.loop-place.routes.items c.loop-place.wanted.items c.loop-place.front.items
    (omega (arith, c.loop-place-test.false, c.requires.offers)) c.requires.routes c.requires.wanted c.loop-place.invariant
