use Rattle.std.specs.Prelude.{◌≡◌, false}
use Rattle.rest_law.proofs.Fair.{fair_rounds}
use Rattle.rest_law.proofs.Present.{quiet_stays, rounds_are_there, rounds_go_on}
use Rattle.rest_law.proofs.Settle.{comes_to_rest}
use Rattle.rest_law.proofs.rounds.messages_end.Goals as goal

pub returns-clause-ends : goal.returns-clause-ends
returns-clause-ends c = λ net w takes before size outcome bound vs ds n choosers kept short rested order rounds.
    comes_to_rest net w takes (λ x y. before y x ≡ false) size choosers outcome rested bound n vs ds kept short order rounds

pub returns-clause-stays : goal.returns-clause-stays
returns-clause-stays c = λ net w ds quiet. quiet_stays net w ds quiet

pub returns-clause-there : goal.returns-clause-there
returns-clause-there c = λ net w links kept all. rounds_are_there net w links kept all

pub returns-clause-more : goal.returns-clause-more
returns-clause-more c = λ net w links k n kept all. rounds_go_on net n links all k w kept

pub returns-clause-fair : goal.returns-clause-fair
returns-clause-fair c = λ net w links schedule k n kept all fair. fair_rounds net n schedule fair links all k w kept 0
