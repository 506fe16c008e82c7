-- What steps that ended well went through.
use Rattle.std.proofs.Common.{◌≡◌, Bool, true, false, Option, Some, None, Result, Ok, Err, refl}
use Rattle.std.specs.Prelude.{⊤}
use Rattle.std.specs.Result.{result_ok}
use Rattle.net_base.specs.Steps.{◌>>=◌, or_fault, unless}

pub bind_ok : {A B F : Type 0} (r : Result A F) (f : A → Result B F) (y : B) → (r >>= f) ≡ Ok y → (x : A) × (r ≡ Ok x) × (f x ≡ Ok y)
bind_ok (Ok x) f y h = (x, refl, h)
bind_ok (Err e) f y h = absurd (cc)

pub unless_ok : {F : Type 0} (e : F) (b : Bool) (x : ⊤) → unless e b ≡ Ok x → b ≡ true
unless_ok e true x h = refl
unless_ok e false x h = absurd (cc)

pub or_fault_ok : {A F : Type 0} (e : F) (o : Option A) (x : A) → or_fault e o ≡ Ok x → o ≡ Some x
or_fault_ok e (Some y) x h = cc
or_fault_ok e None x h = absurd (cc)

pub or_fault_result_ok : {A E F : Type 0} (e : F) (r : Result A E) (x : A) → or_fault e (result_ok r) ≡ Ok x → r ≡ Ok x
or_fault_result_ok e (Ok y) x h = cc
or_fault_result_ok e (Err d) x h = absurd cc

pub ok_same : {A F : Type 0} (x y : A) → (let r : Result A F = Ok x in r ≡ Ok y) → x ≡ y
ok_same x y h = cc

pub err_same : {A F : Type 0} (e d : F) → (let r : Result A F = Err e in r ≡ Err d) → e ≡ d
err_same e d h = cc

pub ok_not_err : {A F : Type 0} (x : A) (e : F) → Ok x ≡ Err e → ⊥
ok_not_err x e h = cc
