use Rattle.std.proofs.Common.{◌≡◌, ℕ, suc, ◌+◌, Bool, false, cond, eqb, not, ◌&&◌, List, Some, arith, refl, sym, ap, subst, ◌∙◌, inl, inr}
use Rattle.std.specs.Prelude.{is_some}
use Rattle.std.proofs.lemmas.Bool.{cases_Bool}
use Rattle.bit_rows.specs.Tables.{PlainRows, has_at}
use Rattle.graph_base.specs.Graphs.{PlainGraph}
use Rattle.net_base.specs.declared.loc.LocSet.{LocSet}
use Rattle.relation_law.specs.Relations.{Pair}
use Rattle.relation_law.specs.Rounds.{gone_after}
use Rattle.relation_law.specs.Views.{view_of}
use Rattle.state_simulation.specs.declared.rounds.Rounds.{Rounds}
use Rattle.relation_refute.specs.Cells.{Tells, marked_round, round_in}
use Rattle.state_simulation.specs.Looked.{shown}
use Rattle.state_simulation.specs.Stages.{AreAt, AreFirst, above_in}
use Rattle.state_simulation.specs.Targets.{is_touched}
use Rattle.state_simulation.proofs.Staging.{bound_next, bound_touched, greatest_left, knows_own, told_of, told_reach}
use Rattle.relation_refute.proofs.Telling.{HasCome, bound_gone, bound_same, marks_next, open_stops, quiet_first, quiet_next, tells_first, tells_next, total_of_bound}
use Rattle.relation_refute.proofs.falls.Fallen.new.Goals as goal

pub rounds-init : goal.rounds-init
rounds-init c =
    let g : PlainGraph = c.args.maps.now.graph.now in
    let claimed : LocSet = c.args.claimed.now in
    let looked = c.in_ok-look_onwards.ensures in
    let onwards : PlainRows = looked.onwards.0 in
    let rounds : Rounds = c.look_onwards.new.self in
    let first : AreFirst g claimed rounds = looked.first claimed c.requires.first in
    let at : AreAt g claimed (has_at onwards) 1 rounds = first.at (has_at onwards) in
    let blank : ℕ → ℕ → ℕ = round_in c.in_ok-cells.cells in
    let none = c.in_ok-cells.ensures.none in
    let tells : Tells (view_of g claimed) (has_at onwards) 0 blank = tells_first (view_of g claimed) (has_at onwards) blank none in
    let noted : (m n : ℕ) → Pair (shown g) m n
    → round_in c.mark.new.self m n ≡ cond (is_touched rounds.touched.items n) (marked_round (blank m n) (has_at rounds.left n m) 1) (blank m n) = λ m n p.
    c.mark.ensures.rounds m n p
    ∙ ap (λ (l : List Bool). cond (is_touched l n) (marked_round (blank m n) (has_at rounds.left n m) 1) (blank m n)) c.deref.ensures.value in
    let quiet : (m n : ℕ) → Pair (view_of g claimed) m n → is_touched rounds.touched.items n ≡ false
    → gone_after (view_of g claimed) (has_at onwards) 1 m n ≡ gone_after (view_of g claimed) (has_at onwards) 0 m n = λ m n p e.
    quiet_first g claimed (has_at onwards) rounds.left at.exact m n p (first.quiet m n (record { left = p.left; right = p.right; place = p.place }) e) in
    record {
      sized = looked.sized;
      cells = c.mark.ensures.cells;
      at = (
        onwards,
        looked.onwards.1,
        record {
          at = at;
          tells =
              tells_next (view_of g claimed) (has_at onwards) 0 blank (round_in c.mark.new.self) tells
              (marks_next g claimed (has_at onwards) 0 rounds.left blank (round_in c.mark.new.self) rounds.touched.items tells at.exact quiet noted);
          bound = λ e. bound_touched g rounds.left rounds.touched.items first.quiet (c.is_open-is_open.ensures.bound e);
          stopped = λ e. (
              let pair = c.is_open-is_open.ensures.«open» e in
              open_stops g claimed (has_at onwards) 0 1 rounds.left rounds.next (is_touched rounds.touched.items) refl (λ m n p one other. absurd (cc)) at pair.0 pair.1 pair.2);
        },
      );
    }

pub advance-requires : goal.advance-requires
advance-requires c = c.rounds.invariant.sized

pub mark-requires-in-rounds-clause-cells : goal.mark-requires-in-rounds-clause-cells
mark-requires-in-rounds-clause-cells c = c.rounds.invariant.cells

pub rounds-smaller : goal.rounds-smaller
rounds-smaller c =
    let g : PlainGraph = c.args.maps.now.graph.now in
    let claimed : LocSet = c.args.claimed.now in
    let inv = c.rounds.invariant in
    let next = c.advance.ensures in
    let new : Rounds = c.advance.new.self in
    let onwards = inv.at.0 in
    let come = inv.at.2 in
    let k : ℕ = c.rounds.last in
    elim (cases_Bool c.advance.result) [
      | inl e ↦ (
          let now : ◌≡◌ {A = ℕ} (cond c.advance.result 1 0) 1 = ap (λ z. cond z 1 0) e in
          omega (arith, now, next.fewer))
      | inr e ↦ (
          let done = next.settled e claimed (has_at onwards) k (knows_own g k c.rounds.rounds onwards inv.at.1) come.at in
          let greatest = greatest_left g claimed (has_at onwards) k new.left (told_reach g claimed c.rounds.rounds onwards inv.sized inv.at.1) done.0 done.1 in
          let bound = bound_same g claimed (has_at onwards) k c.rounds.rounds.left new.left come.at.exact done.1 (come.bound c.rounds-test.true) in
          absurd (c.requires.partial (above_in (view_of g claimed) new.left) greatest.closed (total_of_bound g claimed new.left bound)))
    ]

pub rounds-preserved : goal.rounds-preserved
rounds-preserved c =
    let g : PlainGraph = c.args.maps.now.graph.now in
    let claimed : LocSet = c.args.claimed.now in
    let inv = c.rounds.invariant in
    let next = c.advance.ensures in
    let old : Rounds = c.rounds.rounds in
    let new : Rounds = c.advance.new.self in
    let onwards : PlainRows = inv.at.0 in
    let come = inv.at.2 in
    let k : ℕ = c.rounds.last in
    let last : ℕ = c.in_ok-last.last in
    let bumped : last ≡ k + 1 = c.in_ok-last.ensures in
    let is : last ≡ suc k = omega (arith, bumped) in
    let at : AreAt g claimed (has_at onwards) (suc k) new = next.next claimed (has_at onwards) k (knows_own g k old onwards inv.at.1) come.at in
    let at_last : AreAt g claimed (has_at onwards) last new = subst (λ z. AreAt g claimed (has_at onwards) z new) (sym is) at in
    let noted : (m n : ℕ) → Pair (shown g) m n
    → round_in c.mark-in-rounds.new.self m n
    ≡ cond (is_touched new.touched.items n) (cond (eqb (round_in c.rounds.cells m n) 0 && not (has_at new.left n m)) (suc k) (round_in c.rounds.cells m n)) (round_in c.rounds.cells m n) =
    λ m n p. c.mark-in-rounds.ensures.rounds m n p
    ∙ ap (λ (l : List Bool). cond (is_touched l n)
    (cond (eqb (round_in c.rounds.cells m n) 0 && not (has_at new.left n m)) last (round_in c.rounds.cells m n))
    (round_in c.rounds.cells m n)) c.deref-in-rounds.ensures.value
    ∙ ap (λ z. cond (is_touched new.touched.items n) (cond (eqb (round_in c.rounds.cells m n) 0 && not (has_at new.left n m)) z (round_in c.rounds.cells m n)) (round_in c.rounds.cells m n)) is in
    let tells : Tells (view_of g claimed) (has_at onwards) (suc k) (round_in c.mark-in-rounds.new.self) = tells_next (view_of g claimed) (has_at onwards) k
    (round_in c.rounds.cells) (round_in c.mark-in-rounds.new.self) come.tells
    (marks_next g claimed (has_at onwards) k new.left (round_in c.rounds.cells) (round_in c.mark-in-rounds.new.self) new.touched.items come.tells at.exact
    (λ m n p e. quiet_next g claimed (has_at onwards) k old.left new.left come.at.exact at.exact m n p (next.quiet n m p.right p.left e)) noted) in
    record {
      sized = next.sized;
      cells = c.mark-in-rounds.ensures.cells;
      at = (
        onwards,
        next.onwards ∙ inv.at.1,
        record {
          at = at_last;
          tells = subst (λ z. Tells (view_of g claimed) (has_at onwards) z (round_in c.mark-in-rounds.new.self)) (sym is) tells;
          bound = λ e. bound_next g old.left new.left new.touched.items (come.bound c.rounds-test.true) next.quiet (c.is_open-is_open-in-rounds.ensures.bound e);
          stopped = λ e. (
              let pair = c.is_open-is_open-in-rounds.ensures.«open» e in
              open_stops g claimed (has_at onwards) k last new.left new.next (is_touched new.touched.items) is
              (bound_gone g claimed (has_at onwards) k old.left come.at.exact (come.bound c.rounds-test.true)) at_last pair.0 pair.1 pair.2);
        },
      );
    }

pub unwrap-onwards-requires : goal.unwrap-onwards-requires
unwrap-onwards-requires c = ap is_some c.rounds.invariant.at.1

pub returns : goal.returns
returns c =
    let g : PlainGraph = c.args.maps.now.graph.now in
    let claimed : LocSet = c.args.claimed.now in
    let inv = c.rounds.invariant in
    let is : Some inv.at.0 ≡ Some c.unwrap-onwards.result = sym inv.at.1 ∙ c.unwrap-onwards.ensures in
    let same : inv.at.0 ≡ c.unwrap-onwards.result = cc in
    let come : HasCome g claimed c.unwrap-onwards.result c.rounds.last c.rounds.rounds c.rounds.cells c.rounds.is_open =
    subst (λ (z : PlainRows). HasCome g claimed z c.rounds.last c.rounds.rounds c.rounds.cells c.rounds.is_open) same inv.at.2 in
    let stopped = come.stopped c.rounds-test.false in
    record {
      told = told_of g c.rounds.rounds c.unwrap-onwards.result inv.sized c.unwrap-onwards.ensures;
      cells = inv.cells;
      tells = come.tells;
      before = stopped.0;
      next = stopped.1;
      bound = stopped.2;
      parted = stopped.3;
    }
