use Rattle.std.proofs.lemmas.List.{drop_all, map-append}
use Rattle.std.proofs.Common.{◌≡◌, ◌∙◌, [], ◌∷◌, ap, sym, map, take, Some, None, false}
use Rattle.std.specs.Prelude.{nat_eq}
use Rattle.std.specs.List.{list_any, position}
use Rattle.list_law.proofs.Positions.{find-earlier, find-no_position, list_any-no_position, position-map}
use Rattle.list_law.proofs.Changed.{map_so_far}
use Rattle.topology.specs.Rules.{number, numbers_differ, same_number, shared}
use Rattle.topology.specs.Views.{named_entry}
use Rattle.topology.proofs.Unlike.{alike, unlike}
use Rattle.topology.proofs.sites.unshared.Goals as goal

pub returns-in-Some : goal.returns-in-Some
unfolding numbers_differ
returns-in-Some c = λ _.
    let entry = named_entry c.entry-item.result in
    let before = take c.loop-entry.entry-index c.args.entries.now in
    let placed : position (nat_eq (number c.args.which entry)) (map (number c.args.which) (map named_entry before)) ≡ Some c.in-Some.i =
    rw (c.of-number.ensures, c.loop-entry.invariant.0) at (sym c.place_of.ensures ∙ c.in-Some.is) in
    let found =
    find-earlier (nat_eq (number c.args.which entry))
    (number c.args.which) named_entry c.args.entries.now c.loop-entry.entry-index _ _ placed c.loop-entry-test.true c.index-entries-i.is in
    rw c.shared.ensures
    (alike named_entry (same_number c.args.which)
    (λ _. shared c.args.which) c.args.entries.now c.loop-entry.entry-index _ c.loop-entry-test.true c.entry-item.is _ _ found c.loop-entry.invariant.1)

pub loop-entry-preserved : goal.loop-entry-preserved
loop-entry-preserved c =
    let entry = named_entry c.entry-item.result in
    let before = map named_entry (take c.loop-entry.entry-index c.args.entries.now) in
    let numbers = map (number c.args.which) before in
    let placed : position (nat_eq (number c.args.which entry)) numbers ≡ None =
    rw (c.of-number.ensures, c.loop-entry.invariant.0) at (sym c.place_of.ensures ∙ c.in_default.is) in
    let absent : list_any (nat_eq (number c.args.which entry)) numbers ≡ false = list_any-no_position (nat_eq (number c.args.which entry)) numbers placed in
    let none = find-no_position (same_number c.args.which entry) before (sym (position-map (nat_eq (number c.args.which entry)) (number c.args.which) before) ∙ placed) in (
      c.in_ok-insert.ensures.keys
          ∙ (rw (c.of-number.ensures, c.loop-entry.invariant.0, absent)
          (sym (ap (map (number c.args.which)) (map_so_far named_entry c.args.entries.now c.loop-entry.entry-index _ c.loop-entry-test.true c.entry-item.is)
          ∙ map-append (number c.args.which) before (entry ∷ [])))),
      unlike named_entry (same_number c.args.which) (λ _. shared c.args.which) c.args.entries.now c.loop-entry.entry-index _ c.loop-entry-test.true c.entry-item.is _ none c.loop-entry.invariant.1,
    )

pub returns : goal.returns
unfolding numbers_differ
returns c = sym (rw (drop_all c.loop-entry.entry-index c.args.entries.now c.loop-entry-test.false) at c.loop-entry.invariant.1)
