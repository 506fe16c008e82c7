-- What an exit by `?` gives: the fault that its step told.
use Rattle.std.proofs.Common.{◌≡◌, Result, Ok, Err, ap}
use Rattle.std.specs.Prelude.{IsErrAnd}

pub passed_on : {A F : Type 0} {e : F} (r : Result A F) → IsErrAnd r (λ d. d ≡ e) → r ≡ Err e
passed_on (Ok x) is = absurd is
passed_on (Err d) is = ap (λ f. Err f) is
