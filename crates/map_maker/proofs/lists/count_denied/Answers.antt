use Rattle.std.proofs.Common.{◌∙◌, List, ap, min}
use Rattle.std.specs.Prelude.{count_by}
use Rattle.map_maker.specs.Keys.{in_some}
use Rattle.map_maker.specs.Earlier.{top, entries_in}
use Rattle.map_maker.specs.declared.earlier.Entry.{Entry}
use Rattle.route_maps.specs.OfConfig.{meets_some}
use Rattle.map_maker.proofs.ListsLaws.{counted_from}
use Rattle.map_maker.proofs.lists.count_denied.Goals as goal

pub returns : goal.returns
returns c = λ class meets.
    let p = λ (e : Entry). in_some c.args.spans.now e.key in
    c.count.ensures
    ∙ ap (λ (bs : List (List Entry)). min (count_by p (entries_in bs)) top) c.as_slice.ensures
    ∙ ap (λ n. min n top) (c.requires.index.entries p ∙ counted_from (meets_some class) (in_some c.args.spans.now) 0 c.args.earlier.now.patterns meets)
