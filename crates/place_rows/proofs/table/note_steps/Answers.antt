use Rattle.std.proofs.Common.{◌≡◌, ◌+◌, ◌++◌, ◌<◌, ◌∙◌, ℕ, List, Some, ap, arith, get_or, inl, inr, length, refl, subst, subst₂, sym, take, take_all}
use Rattle.std.specs.List.{flat_map}
use Rattle.std.proofs.lemmas.Option.{slice_get-get_or}
use Rattle.compare_base.specs.declared.rows.Place.{Place}
use Rattle.pair_graph.specs.declared.pair.NodePair.{NodePair}
use Rattle.graph_base.proofs.StartsAndSteps.{step_ends}
use Rattle.pair_rows.specs.declared.values.Met.{Met}
use Rattle.pair_rows.specs.Meetings.{row_at, step_mets}
use Rattle.place_rows.specs.Noted.{AreNoted}
use Rattle.place_rows.specs.Told.{told}
use Rattle.place_rows.proofs.Mets.{pair_read, steps_next, told_more, untold}
use Rattle.place_rows.proofs.table.note_steps.Goals as goal
use Rattle.place_rows.proofs.table.note_steps.Goals.{then-is_peer+in_ok-note_at, else-is_peer}

pub loop-from-preserved : goal.loop-from-preserved
loop-from-preserved c =
    let net = c.args.net.now in
    let g = c.args.first.now in
    let h = c.args.second.now in
    let both = c.args.both.now in
    let items = c.steps-from-items.result.now in
    let n = c.loop-from.from-index in
    let s : ℕ × ℕ = get_or items n (0, 0) in
    let met_of = step_mets g h both.pairs in
    let before = flat_map met_of (take n both.graph.steps) in
    let nodes = step_ends both.graph items n c.steps-from-items.ensures.rules c.steps-from-items.ensures.steps c.loop-from-test.true in
    let y = c.index-pairs-to.result in
    let to = pair_read both.pairs c.as_slice-pairs.result.now s.1 y c.as_slice-pairs.ensures (omega (arith, nodes.1, c.requires.pairs)) c.index-pairs-to.is in
    let within : n < length both.graph.steps = omega (arith, c.loop-from-test.true, ap length c.steps-from-items.ensures.steps) in
    let read : s ≡ get_or both.graph.steps n (0, 0) = ap (λ (xs : List (ℕ × ℕ)). get_or xs n (0, 0)) c.steps-from-items.ensures.steps in
    elim c.if-is_peer.branch [
      | then-is_peer+in_ok-note_at w ↦
          let x = w.index-pairs-from.result in
          let from = pair_read both.pairs c.as_slice-pairs.result.now s.0 x c.as_slice-pairs.ensures (omega (arith, nodes.0, c.requires.pairs)) w.index-pairs-from.is in
          let is_place = ap (λ (z : NodePair). let p : Place = record { router = z.place; peer = Some y.place } in p) (sym w.index-pairs-from.is) in
          let met : Met = record { place = _; row = w.row_of.result; node = s.0 } in
          let next = steps_next g h both.pairs both.graph.steps n s x y met.place w.row_of.result s.0 within read from to is_place w.row_of.ensures refl in
          let more = ap (told net) next ∙ told_more net before met (sym c.is_peer.ensures ∙ w.if-is_peer.true) in
          record {
            size = ap (λ v. length v.keys) w.places-is ∙ w.in_ok-note_at.ensures.size ∙ sym (ap (λ v. length v.items) w.rows-is);
            noted =
                subst (λ v. AreNoted (told net (flat_map met_of (take (n + 1) both.graph.steps))) v.keys c.if-is_peer.rows.items) (sym w.places-is)
                (subst (λ v. AreNoted (told net (flat_map met_of (take (n + 1) both.graph.steps))) w.note_at.new.places.keys v.items) (sym w.rows-is)
                (subst (λ (ms : List Met). AreNoted ms w.note_at.new.places.keys w.note_at.new.rows.items) (sym more)
                (w.in_ok-note_at.ensures.noted (told net before) c.loop-from.invariant.noted)));
          }
      | else-is_peer w ↦
          let x = get_or both.pairs s.0 y in
          let from = slice_get-get_or both.pairs s.0 y (omega (arith, nodes.0, c.requires.pairs)) in
          let met : Met = record { place = record { router = x.place; peer = Some y.place }; row = row_at g h y; node = s.0 } in
          let next = steps_next g h both.pairs both.graph.steps n s x y met.place met.row s.0 within read from to refl refl refl in
          let same = ap (told net) next ∙ untold net before met (sym c.is_peer.ensures ∙ w.if-is_peer.false) in
          record {
            size = ap (λ v. length v.keys) w.places-is ∙ c.loop-from.invariant.size ∙ sym (ap (λ v. length v.items) w.rows-is);
            noted =
                subst (λ v. AreNoted (told net (flat_map met_of (take (n + 1) both.graph.steps))) v.keys c.if-is_peer.rows.items) (sym w.places-is)
                (subst (λ v. AreNoted (told net (flat_map met_of (take (n + 1) both.graph.steps))) c.loop-from.places.keys v.items) (sym w.rows-is)
                (subst (λ (ms : List Met). AreNoted ms c.loop-from.places.keys c.loop-from.rows.items) (sym same) c.loop-from.invariant.noted));
          }
    ]

pub returns-clause-noted : goal.returns-clause-noted
returns-clause-noted c =
    let steps = c.args.both.now.graph.steps in
    let n = c.loop-from.from-index in
    let all : take n steps ≡ steps = take_all n steps (omega (arith, c.loop-from-test.false, ap length c.steps-from-items.ensures.steps)) in
    subst (λ (ss : List (ℕ × ℕ)). AreNoted (told c.args.net.now (flat_map (step_mets c.args.first.now c.args.second.now c.args.both.now.pairs) ss)) c.loop-from.places.keys c.loop-from.rows.items) all
    c.loop-from.invariant.noted
