use Rattle.std.proofs.Common.{◌≡◌, ◌<◌, IsTrue, ap, subst, inl, inr, arith, length, get_or}
use Rattle.std.proofs.lemmas.Bool.{cases_lt}
use Rattle.std.proofs.lemmas.List.{get_or_default}
use Rattle.preference_check.specs.Rows.{has_upto}
use Rattle.preference_check.specs.declared.runs.Numbered.{Numbered}
use Rattle.preference_check.proofs.Lowest.{entry_of, leads_low}
use Rattle.preference_check.proofs.RowLemmas.{is_upto_more}
use Rattle.preference_check.proofs.loops.lows.Goals as goal

pub spread-requires-clause-settled : goal.spread-requires-clause-settled
spread-requires-clause-settled c = record {
  size = c.loop-entry.invariant.size;
  idle = c.loop-entry.invariant.idle;
  closed = c.loop-entry.invariant.closed;
  bounded = λ n mark. c.loop-entry.invariant.bounded n c.loop-entry.entry-index (record { number = 0; node = 0 }) mark (omega arith) c.loop-entry-test.true;
}

pub loop-entry-preserved : goal.loop-entry-preserved
loop-entry-preserved c =
    let run = c.args.run.now in
    let i = c.loop-entry.entry-index in
    let none : Numbered = record { number = 0; node = 0 } in
    let marks = c.spread.new.self.marks.items in
    let within : i < length run = c.loop-entry-test.true in
    record {
      size = c.in_ok-spread.ensures.settled.size;
      idle = c.in_ok-spread.ensures.settled.idle;
      closed = c.in_ok-spread.ensures.settled.closed;
      bounded = λ n j d mark le lt.
          let rise = c.requires.order i j none (omega arith) lt in
          let same = ap (λ (x : Numbered). x.number) (get_or_default run j none d lt) in
          is_upto_more _ (get_or run i none).number (get_or run j d).number (omega (arith, rise, same)) (c.in_ok-spread.ensures.settled.bounded n mark);
      here = λ j d lt. elim (cases_lt j i) [
        | inl less ↦ c.in_ok-spread.ensures.kept _ _ (c.loop-entry.invariant.here j d less)
        | inr past ↦ (
            let same : i ≡ j = omega arith in
            let read = get_or_default run i none d within in
            subst (λ k. IsTrue (has_upto marks (get_or run k d).node (get_or run k d).number)) same
            (subst (λ (x : Numbered). IsTrue (has_upto marks x.node x.number)) read c.in_ok-spread.ensures.here))
      ];
    }

pub returns-clause-lows : goal.returns-clause-lows
returns-clause-lows c = λ k number n has leads.
    let none : Numbered = record { number = 0; node = 0 } in
    let run = c.args.run.now in
    let marks = c.loop-entry.flood.marks.items in
    let found = entry_of run k number none has in
    let there = c.loop-entry.invariant.here found.0 none (omega (arith, found.1, c.loop-entry-test.false)) in
    leads_low c.args.lists.now marks c.loop-entry.invariant.closed k n number leads
    (subst (λ v. IsTrue (has_upto marks k v)) found.3 (subst (λ a. IsTrue (has_upto marks a (get_or run found.0 none).number)) found.2 there))
