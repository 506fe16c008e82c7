use Rattle.std.proofs.Common.{◌≡◌, length, sym, ◌∙◌, arith, rules}
use Rattle.scenarios.proofs.LinkMarks.{none_more, one_marked, within_links}
use Rattle.scenarios.proofs.links.LinkSet.put.Goals as goal

pub returns-in-Some : goal.returns-in-Some
returns-in-Some c =
    let found = sym c.link_place.ensures ∙ c.in-Some.is in
    let low = within_links c.args.net.now c.args.a c.args.b c.in-Some.place found in
    let size : length c.args.self.now.marks ≡ 8192 = search rules in
    one_marked c.args.net.now c.args.self.now.marks c.args.a c.args.b c.in-Some.place (omega (arith, low, size, c.known_net.ensures.count)) found

pub returns-in_default : goal.returns-in_default
returns-in_default c = none_more c.args.net.now c.args.self.now.marks c.args.a c.args.b (sym c.link_place.ensures ∙ c.in_default.is)
