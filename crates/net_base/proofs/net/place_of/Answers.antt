use Rattle.std.proofs.Common.{◌<◌, ◌≤◌, ◌≡◌, get_or, length, rules, sym, ◌∙◌}
use Rattle.net_base.proofs.LinkSearch.{searched_none, searched_at}
use Rattle.net_base.proofs.net.place_of.Goals as goal

pub returns-in_err-link : goal.returns-in_err-link
returns-in_err-link c =
    let past : length c.args.links.now ≤ c.partition_point-place.result = search rules in
    c.from_residual.ensures ∙ sym (searched_none c.args.ends c.args.links.now c.partition_point-place.result c.requires c.partition_point-place.ensures.partitioned (λ a r f h. search rules) past)

pub returns : goal.returns
returns c =
    let within : c.partition_point-place.result < length c.args.links.now = search rules in
    let at : get_or c.args.links.now c.partition_point-place.result (0, 0) ≡ c.in_ok-link.field-0.now = search rules in
    c.place_if.ensures
    ∙ sym (searched_at c.args.ends c.args.links.now c.partition_point-place.result c.requires c.partition_point-place.ensures.partitioned
    (λ a r f h. search rules) within c.in_ok-link.field-0.now at)
