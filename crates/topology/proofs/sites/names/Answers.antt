use Rattle.std.proofs.Common.{◌≡◌, ◌∙◌, [], ◌∷◌, sym, ap, map, take, true, false}
use Rattle.std.specs.List.{list_any}
use Rattle.std.specs.Str.{bytes_eq}
use Rattle.std.proofs.lemmas.List.{map-append}
use Rattle.std.proofs.lemmas.Bool.{not-false, not-true}
use Rattle.list_law.proofs.Changed.{map_so_far}
use Rattle.list_law.proofs.Tests.{find-any, find-none}
use Rattle.topology.specs.declared.fault.TopoFault.TheVariants.{Twice}
use Rattle.topology.specs.Rules.{names_differ, names_of, same_name}
use Rattle.topology.specs.Shape.{Entry}
use Rattle.topology.specs.Views.{named_entry}
use Rattle.topology.proofs.Unlike.{alike, unlike, list_any-names}
use Rattle.topology.proofs.sites.names.Goals as goal

pub returns-then-not-branch-clause-err : goal.returns-then-not-branch-clause-err
unfolding names_differ
returns-then-not-branch-clause-err c = λ _.
    let entry = named_entry c.entry-item.result in
    let before = map named_entry (take c.loop-entry.entry-index c.args.entries.now) in
    let seen : list_any (bytes_eq entry.name) (names_of before) ≡ true =
    rw (c.as_bytes.ensures.bytes, c.loop-entry.invariant.0) at (not-false _ (sym (c.in_ok-note.ensures.fresh) ∙ c.if-not-branch.true)) in
    let found = find-any (same_name entry) before (list_any-names entry before ∙ seen) in
    alike named_entry same_name (λ _ _ later. Twice later.name) c.args.entries.now c.loop-entry.entry-index _ c.loop-entry-test.true c.entry-item.is found.0 _ found.1 c.loop-entry.invariant.1

pub loop-entry-preserved : goal.loop-entry-preserved
loop-entry-preserved c =
    let entry = named_entry c.entry-item.result in
    let before = map named_entry (take c.loop-entry.entry-index c.args.entries.now) in
    let unseen : list_any (bytes_eq entry.name) (names_of before) ≡ false =
    rw (c.as_bytes.ensures.bytes, c.loop-entry.invariant.0) at (not-true _ (sym (c.in_ok-note.ensures.fresh) ∙ c.if-not-branch.false)) in
    let none = find-none (same_name entry) before (list_any-names entry before ∙ unseen) in
    let next = ap names_of (map_so_far named_entry c.args.entries.now c.loop-entry.entry-index _ c.loop-entry-test.true c.entry-item.is) ∙ map-append (λ (e : Entry). e.name) before (entry ∷ []) in (
      c.in_ok-note.ensures.added c.if-not-branch.false ∙ rw (c.as_bytes.ensures.bytes, c.loop-entry.invariant.0) (sym next),
      unlike named_entry same_name (λ _ _ later. Twice later.name) c.args.entries.now c.loop-entry.entry-index _ c.loop-entry-test.true c.entry-item.is _ none c.loop-entry.invariant.1,
    )
