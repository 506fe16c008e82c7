use Rattle.std.proofs.Common.{◌≡◌, ◌+◌, get_or, ap, ◌∙◌, arith, inl, inr}
use Rattle.std.specs.Prelude.{slice_get}
use Rattle.std.proofs.lemmas.Bool.{cases_lt}
use Rattle.std.proofs.lemmas.List.{get_or_default}
use Rattle.std.proofs.lemmas.Option.{get_or_from_slice_get}
use Rattle.list_law.proofs.Options.{option_map_parts}
use Rattle.pair_graph.specs.declared.way.Way.{Way}
use Rattle.pair_graph.specs.Ways.{place_of}
use Rattle.pair_graph.proofs.Turns.{cut_made}
use Rattle.pair_graph.proofs.merging.past.Goals as goal

pub returns-then-place-ways-clause-cut : goal.returns-then-place-ways-clause-cut
returns-then-place-ways-clause-cut c =
    let none : Way = record { from = 0; place = 0; to = 0 } in
    cut_made place_of c.args.ways.now (c.args.place + 1) c.past.end c.requires.order c.past.invariant.within c.past.invariant.before (λ d lt.
    let same = ap (λ (w : Way). w.place) (get_or_default c.args.ways.now c.past.end none d lt) in
    omega (arith, c.if-place-ways.true, same))

pub returns-then-place-ways-clause-more : goal.returns-then-place-ways-clause-more
returns-then-place-ways-clause-more c = λ h.
    let none : Way = record { from = 0; place = 0; to = 0 } in
    let ways = c.args.ways.now in
    elim (cases_lt c.args.index c.past.end) [
      | inl lt ↦ lt
      | inr ge ↦ absurd (
          let here : c.past.end ≡ c.args.index = omega (arith, ge, c.past.invariant.kept) in
          let parts = option_map_parts place_of (slice_get ways c.args.index) c.args.place h in
          let item : place_of (get_or ways c.past.end none) ≡ c.args.place = ap (λ k. place_of (get_or ways k none)) here ∙ ap place_of (get_or_from_slice_get ways c.args.index parts.0 none parts.1) ∙ parts.2 in
          omega (arith, c.if-place-ways.true, item))
    ]
