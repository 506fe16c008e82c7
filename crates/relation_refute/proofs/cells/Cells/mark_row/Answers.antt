use Rattle.std.proofs.Common.{◌≡◌, ◌&&◌, ℕ, false, cond, eqb, get_or, length, length-set, set, take, arith, sym, ap, ◌∙◌, inl, inr}
use Rattle.std.proofs.lemmas.Bool.{and_left, cases_Bool, eq-eqb, eqb-true}
use Rattle.std.proofs.lemmas.List.{get_or_read, take_all}
use Rattle.bit_rows.specs.Bits.{has}
use Rattle.bit_rows.specs.Tables.{has_at}
use Rattle.graph_base.specs.Runs.{place_of}
use Rattle.reach_prune.specs.Searches.{is_among}
use Rattle.relation_law.specs.Relations.{Pair}
use Rattle.relation_refute.specs.declared.cells.Cells.{Cells}
use Rattle.relation_refute.specs.Cells.{cell_at, marked_round, round_in}
use Rattle.state_simulation.specs.Looked.{shown}
use Rattle.relation_refute.proofs.Celling.{cells_kept, pair_at, row_kept, row_more, same_cell}
use Rattle.relation_refute.proofs.cells.Cells.mark_row.Goals as goal
use Rattle.relation_refute.proofs.cells.Cells.mark_row.Goals.{then-not-is_set, else-not-is_set}

pub cell-place-requires-clause-cell : goal.cell-place-requires-clause-cell
cell-place-requires-clause-cell c =
    let g = c.args.maps.now.graph.now in
    let inv = c.loop-m.invariant in
    let nodes = c.peers-m-items.result.now in
    let i = c.loop-m.m-index in
    let ls = c.peers-m-items.ensures.within i 0 c.loop-m-test.true in
    let inside = c.requires.cells.within (get_or nodes i 0) c.args.n (pair_at g nodes i c.args.n c.loop-m-test.true c.requires.n ls c.peers-m-items.ensures.members) in
    let same = same_cell c.args.self.now c.loop-m.self inv.spots inv.bases (get_or nodes i 0) c.args.n in
    omega (arith, same, inside, inv.len)

pub loop-m-preserved : goal.loop-m-preserved
loop-m-preserved c =
    let g = c.args.maps.now.graph.now in
    let inv = c.loop-m.invariant in
    let are = c.requires.cells in
    let old : Cells = c.args.self.now in
    let now : Cells = c.loop-m.self in
    let n : ℕ = c.args.n in
    let nodes = c.peers-m-items.result.now in
    let i = c.loop-m.m-index in
    let s : ℕ = get_or nodes i 0 in
    let ls = c.peers-m-items.ensures.within i 0 c.loop-m-test.true in
    let pair = pair_at g nodes i n c.loop-m-test.true c.requires.n ls c.peers-m-items.ensures.members in
    let at : (m k : ℕ) → cell_at now m k ≡ cell_at old m k = same_cell old now inv.spots inv.bases in
    let before : (m k : ℕ) → Pair (shown g) m k → get_or now.rounds.items (cell_at old m k) 0
    ≡ cond (eqb k n && is_among (take i nodes) m) (marked_round (round_in old m k) (has_at c.args.left.now k m) c.args.round) (round_in old m k) =
    λ m k p. ap (λ z. get_or now.rounds.items z 0) (sym (at m k)) ∙ inv.rounds m k p in
    let bit : c.is_set.result ≡ has_at c.args.left.now n s = c.is_set.ensures ∙ ap (λ l. has l s) c.row-row.ensures.words in
    elim c.if-not-is_set.branch [
      | then-not-is_set w ↦ (
          let place : ℕ = w.cell-place.result in
          let is : place ≡ cell_at old s n = w.cell-place.ensures.is ∙ at s n in
          let read : w.index.result.now ≡ get_or now.rounds.items (cell_at old s n) 0 =
          get_or_read now.rounds.items place w.index.result.now w.cell-place.ensures.within w.index.ensures 0 ∙ ap (λ z. get_or now.rounds.items z 0) is in
          let value : w.marked.result ≡ marked_round (get_or now.rounds.items (cell_at old s n) 0) (has_at c.args.left.now n s) c.args.round =
          w.marked.ensures ∙ ap (λ z. marked_round z false c.args.round) read ∙ ap (λ z. marked_round (get_or now.rounds.items (cell_at old s n) 0) z c.args.round) (sym w.if-not-is_set.true ∙ bit) in
          record {
            spots = ap (λ (z : Cells). z.spots.items) w.self-is ∙ inv.spots;
            bases = ap (λ (z : Cells). z.bases.items) w.self-is ∙ inv.bases;
            len = ap (λ (z : Cells). length z.rounds.items) w.self-is ∙ length-set now.rounds.items place w.marked.result ∙ inv.len;
            rounds = λ m k p.
                ap (λ (z : Cells). round_in z m k) w.self-is
                ∙ ap (λ z. get_or (set now.rounds.items z w.marked.result) (cell_at now m k) 0) is ∙ ap (λ z. get_or (set now.rounds.items (cell_at old s n) w.marked.result) z 0) (at m k)
                ∙ row_more g old are old.rounds.items now.rounds.items nodes i n c.args.round w.marked.result (has_at c.args.left.now) c.loop-m-test.true pair inv.len value before m k p;
          })
      | else-not-is_set w ↦ record {
        spots = ap (λ (z : Cells). z.spots.items) w.self-is ∙ inv.spots;
        bases = ap (λ (z : Cells). z.bases.items) w.self-is ∙ inv.bases;
        len = ap (λ (z : Cells). length z.rounds.items) w.self-is ∙ inv.len;
        rounds = λ m k p.
            ap (λ (z : Cells). round_in z m k) w.self-is ∙ ap (λ z. get_or now.rounds.items z 0) (at m k)
            ∙ row_kept g old are old.rounds.items now.rounds.items nodes i n c.args.round 0 (has_at c.args.left.now) c.loop-m-test.true (sym bit ∙ w.if-not-is_set.false) before m k p;
      }
    ]

pub returns-clause-cells : goal.returns-clause-cells
returns-clause-cells c = let inv = c.loop-m.invariant in cells_kept c.args.maps.now.graph.now c.args.self.now c.loop-m.self c.requires.cells inv.spots inv.bases inv.len

pub returns-clause-rounds : goal.returns-clause-rounds
returns-clause-rounds c = λ m k p.
    let g = c.args.maps.now.graph.now in
    let n : ℕ = c.args.n in
    let nodes = c.peers-m-items.result.now in
    let i = c.loop-m.m-index in
    let all : take i nodes ≡ nodes = take_all i nodes (omega (arith, c.loop-m-test.false)) in
    let same : (eqb k n && is_among (take i nodes) m) ≡ eqb k n = elim (cases_Bool (eqb k n)) [
      | inl e ↦ ap (λ z. z && is_among (take i nodes) m) e ∙ ap (λ l. is_among l m) all ∙ c.peers-m-items.ensures.members m p.left ∙ eq-eqb _ _ (p.place ∙ ap (place_of g) (eqb-true k n e)) ∙ sym e
      | inr e ↦ and_left _ _ e ∙ sym e
    ] in
    c.loop-m.invariant.rounds m k p ∙ ap (λ z. cond z (marked_round (round_in c.args.self.now m k) (has_at c.args.left.now k m) c.args.round) (round_in c.args.self.now m k)) same
