use Rattle.std.proofs.Common.{◌≡◌, ℕ, ◌+◌, true, subst, arith}
use Rattle.rest_law.proofs.Failures.{same_self}
use Rattle.rest_law.proofs.Memory.{memory, rounds-after}
use Rattle.event_base.specs.Steps.{run}
use Rattle.rest_law.specs.Holding.{After, Always}
use Rattle.rest_law.specs.Rounds.{deliveries}
use Rattle.rest_law.proofs.rounds.rounds_remember.Goals as goal

zero-add : (k : ℕ) → 0 + k ≡ k
zero-add k = omega arith

pub returns-clause-round : goal.returns-clause-round
returns-clause-round c = λ net w holds ds n kept always round a b on. (memory net n w (λ r x. holds r x ≡ true) w ds (same_self net w) kept always round a b on).0

pub returns-clause-rounds : goal.returns-clause-rounds
returns-clause-rounds c = λ net w holds k ds n kept always rounds.
    subst (λ (i : ℕ). Always net (After net w (λ r x. holds r x ≡ true) i) (run net (deliveries ds) w)) (zero-add k)
    (rounds-after net n w k (λ r x. holds r x ≡ true) 0 w ds (same_self net w) kept always rounds)
