use Rattle.std.proofs.Common.{ℕ, Bool, not, ap, ◌∙◌}
use Rattle.std.specs.Prelude.{◌&&◌}
use Rattle.std.proofs.Math.Bool.{and_assoc}
use Rattle.net_base.specs.declared.loc.LocSet.{LocSet}
use Rattle.net_base.specs.Network.{is_location, is_router}
use Rattle.net_base.specs.Sets.{holds}
use Rattle.net_base.proofs.NetSetLaws.{holds-locations, holds-peers}
use Rattle.settled_outcome.proofs.Surviving.{routers_are}
use Rattle.settled_outcome.proofs.left.choosers.Goals as goal

pub returns : goal.returns
returns c = λ l.
    let net = c.args.net.now in
    let dead = holds c.args.survivors.now.dead l in
    let origin = holds c.args.origins.now l in
    let at_location = ap (λ (s : LocSet). holds s l) c.locations.ensures ∙ ap (λ (o : ℕ → Bool). o l) (holds-locations net c.known_net.ensures) in
    let at_peer = ap (λ (s : LocSet). holds s l) c.peer_set.ensures ∙ ap (λ (o : ℕ → Bool). o l) (holds-peers net c.known_net.ensures) in
    c.without-3.ensures.holds l
    ∙ ap (λ o. o && not origin) (
    c.without-2.ensures.holds l
    ∙ ap (λ o. o && not dead) (c.without.ensures.holds l ∙ ap (λ o. o && not (holds c.peer_set.result l)) at_location ∙ ap (λ o. is_location net l && not o) at_peer ∙ routers_are net l))
    ∙ and_assoc (is_router net l) (not dead) (not origin)
