use Rattle.std.proofs.Common.{◌∙◌, ◌<◌, List, ap, sym, subst, length}
use Rattle.std.specs.Prelude.{ℕ, count_by}
use Rattle.std.specs.List.{AllByRecursion}
use Rattle.map_maker.specs.Earlier.{entries_in}
use Rattle.map_maker.specs.declared.earlier.Entry.{Entry}
use Rattle.net_base.specs.Prefixes.{PlainPattern}
use Rattle.map_maker.proofs.ListsLaws.{places_are, places_low, list_made}
use Rattle.map_maker.proofs.lists.list_of.Goals as goal

pub push_denied-requires : goal.push_denied-requires
push_denied-requires c =
    let are = places_are c.args.class.now c.args.earlier.now.patterns c.args.spans.now c.in_ok-places.places.items c.settle.new.places.items (entries_in c.as_slice.result.now)
    (λ p. ap (λ (bs : List (List Entry)). count_by p (entries_in bs)) c.as_slice.ensures ∙ c.requires.index.entries p) c.requires.meets
    c.in_ok-places.ensures c.settle.ensures.same c.settle.ensures.order in
    subst (λ (js : List ℕ). AllByRecursion (λ j. j < length c.as_slice-2.result.now) js) (sym c.deref.ensures.value)
    (subst (λ (ps : List PlainPattern). AllByRecursion (λ j. j < length ps) c.settle.new.places.items) (sym c.as_slice-2.ensures)
    (places_low c.args.class.now c.args.earlier.now.patterns c.settle.new.places.items are))

pub returns : goal.returns
returns c =
    let are = places_are c.args.class.now c.args.earlier.now.patterns c.args.spans.now c.in_ok-places.places.items c.settle.new.places.items (entries_in c.as_slice.result.now)
    (λ p. ap (λ (bs : List (List Entry)). count_by p (entries_in bs)) c.as_slice.ensures ∙ c.requires.index.entries p) c.requires.meets
    c.in_ok-places.ensures c.settle.ensures.same c.settle.ensures.order in
    list_made c.args.earlier.now.patterns c.args.class.now c.as_slice-2.result.now c.settle.new.places.items c.deref.result.now c.new-lines.result c.push_denied.new.lines c.push_permitted.new.lines
    c.as_slice-2.ensures c.deref.ensures.value are c.new-lines.ensures c.in_ok-push_denied.ensures c.in_ok-push_permitted.ensures
