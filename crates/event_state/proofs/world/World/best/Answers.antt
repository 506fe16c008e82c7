use Rattle.std.proofs.Common.{◌≡◌, length, get_or, sym, ap, ◌∙◌, arith}
use Rattle.std.specs.Prelude.{option_map}
use Rattle.std.proofs.lemmas.Bool.{cond-true, cond-false}
use Rattle.net_base.specs.Locations.{neighbours}
use Rattle.event_base.specs.Speaking.{taken_by}
use Rattle.event_base.specs.World.{offers}
use Rattle.event_state.specs.Gifts.{gift_of, leads_over}
use Rattle.event_state.specs.States.{speakers, state}
use Rattle.event_state.proofs.Firsts.{first_next}
use Rattle.event_state.proofs.world.World.best.Goals as goal
use Rattle.event_state.proofs.world.World.best.Goals.{then-leads, else-leads}

pub loop-from-preserved : goal.loop-from-preserved
loop-from-preserved c =
    let w = c.args.self.now in
    let net = w.net.now in
    let old = option_map gift_of c.loop-from.best in
    let gift = option_map gift_of c.gift-gift.result in
    let us : c.neighbours-from-items.result.now ≡ neighbours net c.args.at = c.neighbours-from-items.ensures in
    let long : length c.neighbours-from-items.result.now ≡ length (neighbours net c.args.at) = ap length us in
    first_next net (λ u. taken_by net w.config.now w.prefix c.args.at u (offers (speakers w) (state w) c.args.at u)) (neighbours net c.args.at)
    c.loop-from.from-index c.from-item.result old gift (option_map gift_of c.if-leads.best)
    (omega (arith, long, c.loop-from-test.true))
    (c.from-item.is ∙ ap (λ xs. get_or xs c.loop-from.from-index c.from-item.result) us)
    c.loop-from.invariant
    c.gift-gift.ensures
    (elim c.if-leads.branch [
      | then-leads b ↦ ap (option_map gift_of) b.best-is ∙ sym (cond-true (leads_over net gift old) gift old (sym c.leads.ensures ∙ b.if-leads.true))
      | else-leads b ↦ ap (option_map gift_of) b.best-is ∙ sym (cond-false (leads_over net gift old) gift old (sym c.leads.ensures ∙ b.if-leads.false))
    ])
