use Rattle.std.proofs.Common.{◌≡◌, ◌↔◌, ◌<◌, ℕ, true, length, Option, None, Some, refl, sym, ◌∙◌}
use Rattle.std.specs.Prelude.{is_some}
use Rattle.bit_rows.specs.Tables.{PlainRows, has_at}
use Rattle.graph_base.specs.Runs.{Reaches}
use Rattle.state_simulation.proofs.rounds.Rounds.look_onwards.Goals as goal

some_of : (o : Option PlainRows) → is_some o ≡ true → (onwards : PlainRows) × (o ≡ Some onwards)
some_of None e = absurd (cc)
some_of (Some onwards) e = (onwards, refl)

pub returns-then-is_some-clause-onwards : goal.returns-then-is_some-clause-onwards
returns-then-is_some-clause-onwards c = some_of c.args.self.now.onwards (sym c.is_some.ensures ∙ c.if-is_some.true)

pub returns-clause-sized : goal.returns-clause-sized
returns-clause-sized c =
    let g = c.args.maps.now.graph.now in
    let was = c.requires in
    let rows = c.in_ok-onwards.onwards in
    let exact : (a b : ℕ) → a < length g.nodes → (has_at rows a b ≡ true) ↔ Reaches g a b = rw c.graph.ensures at c.in_ok-onwards.ensures.exact in
    let count : rows.count ≡ length g.nodes = rw c.graph.ensures at c.in_ok-onwards.ensures.count in
    let bits : rows.bits ≡ length g.nodes = rw c.graph.ensures at c.in_ok-onwards.ensures.bits in
    record {
      left = was.left;
      wide = was.wide;
      next = was.next;
      within = was.within;
      touched = was.touched;
      onwards = record { square = record { count = count; bits = bits; few = was.left.few }; exact = exact };
      mask = was.mask;
      looped = was.looped;
    }

pub returns-clause-onwards : goal.returns-clause-onwards
returns-clause-onwards c = (c.in_ok-onwards.onwards, refl)

pub returns-clause-first : goal.returns-clause-first
returns-clause-first c = λ claimed first. record { sized = returns-clause-sized c; at = first.at; quiet = first.quiet; even = first.even }
