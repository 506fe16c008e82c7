use Rattle.std.proofs.Common.{◌≡◌, ◌+◌, ◌++◌, ◌∷◌, [], ℕ, List, ap, append_assoc, length, map, sym, take, ◌∙◌, arith}
use Rattle.std.specs.List.{flat_map}
use Rattle.std.proofs.lemmas.List.{flat_map_more, length-map, take_all, take_more}
use Rattle.walk_states.specs.Growth.{way_between, ways}
use Rattle.walk_states.proofs.WayLists.{link_ways, links-ways, ways-all}
use Rattle.walk_states.proofs.neighbours.all_ways.Goals as goal

pub loop-link-preserved : goal.loop-link-preserved
loop-link-preserved c =
    let net = c.args.net.now in
    let case = c.args.case.now in
    let links = c.links-link-items.result.now in
    let same = c.links-link-items.ensures.links in
    let i = c.loop-link.link-index in
    let link = c.link-item.result in
    record {
      added = λ at.
          let there = way_between net case link.0 link.1 at in
          let back = way_between net case link.1 link.0 at in
          c.in_ok-add_way-2.ensures.added at
          ∙ ap (λ (l : List ℕ). l ++ back) (c.in_ok-add_way.ensures.added at ∙ ap (λ (l : List ℕ). l ++ there) (c.loop-link.invariant.added at))
          ∙ append_assoc (flat_map (link_ways net case at) (take i net.links)) there back
          ∙ ap (λ (ls : List (ℕ × ℕ)). flat_map (link_ways net case at) (take i ls) ++ (there ++ back)) (sym same)
          ∙ flat_map_more (link_ways net case at) [] (take i links) link
          ∙ ap (λ (l : ℕ × ℕ). flat_map (link_ways net case at) (take i links ++ l ∷ [])) c.link-item.is
          ∙ ap (flat_map (link_ways net case at)) (sym (take_more links i link c.loop-link-test.true))
          ∙ ap (λ (ls : List (ℕ × ℕ)). flat_map (link_ways net case at) (take (i + 1) ls)) same;
      len = c.add_way-in-loop-link.ensures.len ∙ c.add_way.ensures.len ∙ c.loop-link.invariant.len;
    }

pub returns : goal.returns
returns c =
    let net = c.args.net.now in
    let case = c.args.case.now in
    let lists = map (λ v. v.items) c.loop-link.ways.items in
    let made = length-map c.loop-link.ways.items (λ v. v.items) in
    let size : length lists ≡ length net.routers + length net.peers = omega (arith, made, c.loop-link.ways.ok.0, c.loop-link.invariant.len) in
    let links = ap length c.links-link-items.ensures.links in
    let all : take c.loop-link.link-index net.links ≡ net.links = take_all c.loop-link.link-index net.links (omega (arith, links, c.loop-link-test.false)) in
    ways-all lists (ways net case) (length net.routers + length net.peers) size
    (λ at. c.loop-link.invariant.added at ∙ ap (flat_map (link_ways net case at)) all ∙ links-ways net case at c.links-link-items.ensures.rules)
