use Rattle.std.proofs.Common.{◌≡◌, ◌+◌, ◌<◌, ℕ, Bool, true, get_or, length, take, Option, arith, sym, subst, ◌∙◌}
use Rattle.std.specs.Option.{IfSome}
use Rattle.std.specs.Prelude.{is_some}
use Rattle.std.proofs.lemmas.Bool.{and_parts}
use Rattle.std.proofs.lemmas.List.{take_all}
use Rattle.bit_rows.specs.Tables.{has_at}
use Rattle.graph_base.specs.Graphs.{PlainGraph}
use Rattle.graph_base.specs.Runs.{has_step}
use Rattle.relation_law.specs.Reasons.{reason_at}
use Rattle.relation_refute.specs.Cells.{went}
use Rattle.relation_refute.specs.Faults.{stands_before}
use Rattle.state_simulation.specs.Looked.{shown}
use Rattle.relation_refute.proofs.Faulting.{step_at}
use Rattle.relation_refute.proofs.Firsts.{IsFirstOf, failing_first, failing_none, kept_first, taken_first}
use Rattle.relation_refute.proofs.faults.first_failing.Goals as goal
use Rattle.relation_refute.proofs.faults.first_failing.Goals.{then-fails, else-fails}

pub loop-t-preserved : goal.loop-t-preserved
loop-t-preserved c =
    let g : PlainGraph = c.args.maps.now.graph.now in
    let f = c.args.fallen.now in
    let n : ℕ = c.args.n in
    let p : ℕ → Bool = λ u. is_some (reason_at (shown g) (has_at f.onwards) (went f c.args.round) c.args.m u) in
    let inv = c.loop-t.invariant in
    let nodes = c.successors-t-items.result.now in
    let i = c.loop-t.t-index in
    let s : ℕ = get_or nodes i 0 in
    let ls = c.successors-t-items.ensures.within i 0 c.loop-t-test.true in
    let step = step_at g n nodes i c.successors-t-items.ensures.members c.loop-t-test.true in
    elim c.if-fails.branch [
      | then-fails w ↦ (
          let hit = sym c.fails_first-fails.ensures ∙ w.if-fails.true in
          record {
            within = subst (λ (o : Option ℕ). IfSome o (λ u. u < length g.nodes)) (sym w.first-is) ls;
            some = subst (λ (o : Option ℕ). IfSome o (λ u. (has_step g n u ≡ true) × (p u ≡ true))) (sym w.first-is) (step, (and_parts (p s) (stands_before g s c.loop-t.first) hit).0);
            least = subst (IsFirstOf g p (take (i + 1) nodes)) (sym w.first-is) (taken_first g p nodes i c.loop-t.first c.loop-t-test.true inv.least hit);
          })
      | else-fails w ↦ (
          let miss = sym c.fails_first-fails.ensures ∙ w.if-fails.false in
          record {
            within = subst (λ (o : Option ℕ). IfSome o (λ u. u < length g.nodes)) (sym w.first-is) inv.within;
            some = subst (λ (o : Option ℕ). IfSome o (λ u. (has_step g n u ≡ true) × (p u ≡ true))) (sym w.first-is) inv.some;
            least = subst (IsFirstOf g p (take (i + 1) nodes)) (sym w.first-is) (kept_first g p nodes i c.loop-t.first c.loop-t-test.true inv.least miss);
          })
    ]

pub returns-clause-some : goal.returns-clause-some
returns-clause-some c =
    let g : PlainGraph = c.args.maps.now.graph.now in
    let f = c.args.fallen.now in
    let inv = c.loop-t.invariant in
    let nodes = c.successors-t-items.result.now in
    let p : ℕ → Bool = λ u. is_some (reason_at (shown g) (has_at f.onwards) (went f c.args.round) c.args.m u) in
    failing_first g (has_at f.onwards) (went f c.args.round) c.args.m c.args.n nodes c.successors-t-items.ensures.members c.loop-t.first inv.some
    (subst (λ l. IsFirstOf g p l c.loop-t.first) (take_all c.loop-t.t-index nodes (omega (arith, c.loop-t-test.false))) inv.least)

pub returns-clause-none : goal.returns-clause-none
returns-clause-none c =
    let g : PlainGraph = c.args.maps.now.graph.now in
    let f = c.args.fallen.now in
    let inv = c.loop-t.invariant in
    let nodes = c.successors-t-items.result.now in
    let p : ℕ → Bool = λ u. is_some (reason_at (shown g) (has_at f.onwards) (went f c.args.round) c.args.m u) in
    failing_none g (has_at f.onwards) (went f c.args.round) c.args.m c.args.n nodes c.successors-t-items.ensures.members c.loop-t.first
    (subst (λ l. IsFirstOf g p l c.loop-t.first) (take_all c.loop-t.t-index nodes (omega (arith, c.loop-t-test.false))) inv.least)
