-- What is read from the front of some lexemes, seen by a function.
use Rattle.std.specs.Prelude.{Ok}
use Rattle.net_base.specs.Steps.{◌>>=◌}
use Rattle.policy_grammar.specs.Reading.{Read}

-- what was read, seen by f
abbrev pub over : {A B : Type 0} → (A → B) → Read A → Read B
over f read = read >>= λ x. Ok (f x.0, x.1)
