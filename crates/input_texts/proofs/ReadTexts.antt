-- What holds of what was read of a text holds of what its reader gives.
use Rattle.std.proofs.Common.{◌≡◌, Result, Ok, Err, subst}
use Rattle.std.specs.Prelude.{IfOk}
use Rattle.run_base.specs.declared.outcome.Stop.{Stop}

pub read_holds : {X F : Type 0} (P : X → Type 0) (read : Result X F) → IfOk read P → (result : Result X Stop) → IfOk result (λ x. read ≡ Ok x) → IfOk result P
read_holds {X} {F} P read holds (Ok x) same = subst (λ (r : Result X F). IfOk r P) same holds
read_holds {X} {F} P read holds (Err s) same = tt
