use Rattle.std.proofs.Common.{◌∙◌}
use Rattle.net_base.proofs.LinkSearch.{position-joins}
use Rattle.net_base.proofs.net.Net.link_place.Goals as goal

pub place_of-requires : goal.place_of-requires
place_of-requires c = rw c.links.ensures.links c.links.ensures.rules.order

pub returns : goal.returns
returns c =
    let net = c.args.self.now in
    c.place_of.ensures ∙ rw (c.ordered.ensures, c.links.ensures.links) (position-joins net c.args.a c.args.b net.links c.links.ensures.rules.links)
