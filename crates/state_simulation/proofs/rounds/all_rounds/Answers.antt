use Rattle.std.proofs.Common.{◌≡◌, ℕ, suc, cond, arith, ap, ◌∙◌}
use Rattle.state_simulation.proofs.Staging.{knows_exact}
use Rattle.state_simulation.proofs.rounds.all_rounds.Goals as goal

pub rounds-init : goal.rounds-init
rounds-init c = record {
  sized = c.in_ok-look_onwards.ensures.sized;
  onwards = c.in_ok-look_onwards.ensures.onwards;
  at = λ reach exact. (0, c.in_ok-look_onwards.ensures.at c.args.claimed.now reach 0 (c.in_ok-rounds.ensures.first reach), λ e. absurd (cc));
}

pub rounds-smaller : goal.rounds-smaller
rounds-smaller c =
    let now : ◌≡◌ {A = ℕ} (cond c.rounds.changed 1 0) 1 = ap (λ z. cond z 1 0) c.rounds-test.true in
    omega (arith, now, c.advance-changed.ensures.fewer)

pub rounds-preserved : goal.rounds-preserved
rounds-preserved c =
    let g = c.args.maps.now.graph.now in
    let inv = c.rounds.invariant in
    let next = c.advance-changed.ensures in
    record {
      sized = next.sized;
      onwards = (inv.onwards.0, next.onwards ∙ inv.onwards.1);
      at = λ reach exact.
          let before = inv.at reach exact in
          let knows = knows_exact g c.args.claimed.now reach before.0 c.rounds.rounds inv.onwards.0 exact inv.sized inv.onwards.1 in
          (suc before.0, next.next c.args.claimed.now reach before.0 knows before.1, λ e. (let done = next.settled e c.args.claimed.now reach before.0 knows before.1 in (before.0, done.0, done.1)));
    }

pub returns-clause-rounds : goal.returns-clause-rounds
returns-clause-rounds c = λ reach exact. rw c.into_left.ensures ((c.rounds.invariant.at reach exact).2 c.rounds-test.false)
