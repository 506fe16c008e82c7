use Rattle.std.proofs.Common.{◌≡◌, ◌+◌, ap, ◌∙◌, length, map, arith, subst, sym}
use Rattle.net_base.specs.Locations.{numbers_below}
use Rattle.config_maker.specs.Hops.{AreReached}
use Rattle.config_maker.specs.Writing.{router_of}
use Rattle.net_base.proofs.NumbersBelow.{map_next_number}
use Rattle.location_names.proofs.Linked.{written_back}
use Rattle.config_maker.proofs.Reached.{all_later}
use Rattle.config_maker.proofs.blocks.routers_of.Goals as goal

pub loop-number-preserved : goal.loop-number-preserved
loop-number-preserved c =
    let number = c.loop-number.number in
    let places = c.router_of.new.places in
    let size : length c.loop-number.places.items ≡ c.loop-number.places.len = omega (arith, c.loop-number.places.ok.0) in
    let long : length places ≡ c.loop-number.places.len = omega (arith, c.in_ok-router_of.ensures.places, ap length c.deref_mut.ensures.value, size) in
    record {
      routers =
          c.in_ok-push.ensures.ok
          ∙ map_next_number (router_of c.args.net.now c.args.hops.now c.args.announced.now) number c.loop-number.routers c.in_ok-router_of.field-0 c.loop-number.invariant.routers
          (c.in_ok-router_of.ensures.router ∙ ap (router_of c.args.net.now c.args.hops.now c.args.announced.now) c.new-at.ensures);
      places = c.loop-number.invariant.places;
      reached =
          subst (λ ps. AreReached c.args.hops.now ps (number + 1)) (sym (written_back c.loop-number.places.len places c.loop-number.places.items long size))
          (all_later c.args.hops.now places number (number + 1) (omega arith) (subst (λ n. AreReached c.args.hops.now places n) c.new-at.ensures c.in_ok-router_of.ensures.reached));
    }

pub returns-clause-routers : goal.returns-clause-routers
returns-clause-routers c =
    let net = c.args.net.now in
    let all : c.loop-number.number ≡ length net.routers = omega (arith, c.loop-number-test.false, c.loop-number.auto.number-end, ap length c.routers-count.ensures.routers) in
    c.loop-number.invariant.routers ∙ ap (λ n. map (router_of net c.args.hops.now c.args.announced.now) (numbers_below n)) all
