use Rattle.std.proofs.Common.{◌≡◌, ℕ, suc, cond, arith, ap, ◌∙◌}
use Rattle.bit_rows.specs.Tables.{has_at}
use Rattle.state_simulation.proofs.Staging.{bound_next, greatest_left, knows_own, open_is_partial, told_reach}
use Rattle.state_simulation.specs.Targets.{is_touched}
use Rattle.state_simulation.proofs.first.stay_total.Goals as goal

pub rounds-init : goal.rounds-init
rounds-init c =
    let onwards = c.requires.onwards.0 in
    record {
      sized = c.requires.sized;
      bound = c.requires.bound;
      at = (onwards, c.requires.onwards.1, 1, c.requires.first (has_at onwards), λ e. absurd (cc));
    }

pub rounds-smaller : goal.rounds-smaller
rounds-smaller c =
    let now : ◌≡◌ {A = ℕ} (cond c.rounds.changed 1 0) 1 = ap (λ z. cond z 1 0) c.rounds-test.true in
    omega (arith, now, c.advance-changed.ensures.fewer)

pub rounds-preserved : goal.rounds-preserved
rounds-preserved c =
    let g = c.args.maps.now.graph.now in
    let claimed = c.args.claimed.now in
    let inv = c.rounds.invariant in
    let next = c.advance-changed.ensures in
    let onwards = inv.at.0 in
    let k : ℕ = inv.at.2 in
    let knows = knows_own g k c.rounds.rounds onwards inv.at.1 in
    record {
      sized = next.sized;
      bound = bound_next g c.rounds.rounds.left c.advance-changed.new.self.left c.advance-changed.new.self.touched.items inv.bound next.quiet (c.is_open.ensures.bound c.if-is_open.false);
      at = (
        onwards,
        next.onwards ∙ inv.at.1,
        suc k,
        next.next claimed (has_at onwards) k knows inv.at.3,
        λ e. (let done = next.settled e claimed (has_at onwards) k knows inv.at.3 in (k, done.0, done.1)),
      );
    }

pub returns-then-is_open-clause-partial : goal.returns-then-is_open-clause-partial
returns-then-is_open-clause-partial c = λ none r closed total.
    let g = c.args.maps.now.graph.now in
    let claimed = c.args.claimed.now in
    let inv = c.rounds.invariant in
    let next = c.advance-changed.ensures in
    let new = c.advance-changed.new.self in
    let onwards = inv.at.0 in
    let k : ℕ = inv.at.2 in
    let knows = knows_own g k c.rounds.rounds onwards inv.at.1 in
    let pair = c.is_open.ensures.«open» c.if-is_open.true in
    open_is_partial g claimed (has_at onwards) (suc k) new.left new.next (is_touched new.touched.items) (next.next claimed (has_at onwards) k knows inv.at.3)
    (λ a b la lb h. (told_reach g claimed c.rounds.rounds onwards inv.sized inv.at.1 a b la lb).0 h) pair.0 pair.1 pair.2 r closed total

pub returns-clause-greatest : goal.returns-clause-greatest
returns-clause-greatest c = λ yes.
    let g = c.args.maps.now.graph.now in
    let inv = c.rounds.invariant in
    let onwards = inv.at.0 in
    let done = inv.at.4 c.rounds-test.false in
    greatest_left g c.args.claimed.now (has_at onwards) done.0 c.rounds.rounds.left (told_reach g c.args.claimed.now c.rounds.rounds onwards inv.sized inv.at.1) done.1 done.2
