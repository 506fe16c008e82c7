use Rattle.std.proofs.Common.{◌≡◌, ◌∷◌, [], ap, arith, length, length-append, subst, sym, ◌∙◌}
use Rattle.config_maker.specs.Hops.{AreReached, IsReached}
use Rattle.config_maker.proofs.Reached.{all_pushed}
use Rattle.config_maker.proofs.find.first_places.Goals as goal

pub loop-number-preserved : goal.loop-number-preserved
loop-number-preserved c =
    let hops = c.args.hops.now in
    let places = c.loop-number.places.items in
    let place = c.first_from.result in
    let longer = ap length c.in_ok-push.ensures.items ∙ length-append places (place ∷ []) in
    let size : c.loop-number.number ≡ length places = omega (arith, c.loop-number.places.ok.0, c.loop-number.invariant.len) in
    record {
      len = omega (arith, c.push.new.self.ok.0, size, longer);
      reached =
          subst (λ ps. AreReached hops ps 0) (sym c.in_ok-push.ensures.items)
          (all_pushed hops places place 0 c.loop-number.invariant.reached (subst (λ n. IsReached hops place n 0) (c.new.ensures ∙ size) c.first_from.ensures));
    }
