use Rattle.std.proofs.Common.{◌≡◌, ◌+◌, ◌++◌, ℕ, [], add-one, ap, arith, cond, filter, length, sym, ◌∙◌}
use Rattle.std.specs.List.{flat_map}
use Rattle.net_base.specs.Locations.{numbers_below}
use Rattle.location_names.specs.Neighbours.{is_held}
use Rattle.outcome_report.specs.Lines.{next_name}
use Rattle.multipath_report.proofs.Listing.{told_more}
use Rattle.multipath_report.proofs.parts.push_members.Goals as goal

pub loop-place-preserved : goal.loop-place-preserved
loop-place-preserved c =
    let name = next_name c.args.net.now in
    let test = is_held c.args.sets.now c.args.at in
    let first = c.args.text.now.items in
    let place = c.loop-place.place in
    told_more name test (numbers_below place) place c.loop-place.text.items c.push_member.new.text.items
    (c.in_ok-push_member.ensures ∙ ap (λ n. c.loop-place.text.items ++ cond (test n) (name n) []) c.new.ensures) first c.loop-place.invariant
    ∙ ap (λ ns. first ++ flat_map name (filter test ns)) (sym (ap numbers_below (add-one place)))

pub returns : goal.returns
returns c =
    let net = c.args.net.now in
    let all : c.loop-place.place ≡ length net.routers + length net.peers = omega (arith, c.loop-place-test.false, c.loop-place.auto.place-end, ap length c.routers.ensures.routers, ap length c.peers.ensures.peers) in
    c.loop-place.invariant ∙ ap (λ n. c.args.text.now.items ++ flat_map (next_name net) (filter (is_held c.args.sets.now c.args.at) (numbers_below n))) all
