use Rattle.std.proofs.Common.{rules, ◌≡◌, get_or, subst, List}
use Rattle.route_maps.specs.declared.maps.ListLine.{ListLine}
use Rattle.route_map_text.specs.MapsSpelled.{HavePatterns}
use Rattle.config_text.proofs.Rows.{rule_more}
use Rattle.route_map_text.proofs.PrintLaws.{list_more}
use Rattle.route_map_text.proofs.blocks.push_lists.Goals as goal

pub loop-lines-preserved : goal.loop-lines-preserved
loop-lines-preserved c =
    let lists = c.args.lists.now in
    let i = c.loop-lines.lines-index in
    let x : List ListLine = c.as_slice.result.now in
    let this : x ≡ get_or lists i x = search rules in
    record {
      number = search rules;
      rest = list_more lists i c.loop-lines.number x x _ c.loop-lines.text.items c.push_list.new.text.items c.loop-lines-test.true this c.loop-lines.invariant.rest c.in_ok-push_list.ensures.text;
      rules = rule_more HavePatterns lists i x c.loop-lines-test.true c.loop-lines.invariant.rules (subst HavePatterns this c.in_ok-push_list.ensures.rules);
    }
