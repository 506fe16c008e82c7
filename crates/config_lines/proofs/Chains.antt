-- Chains of options.
use Rattle.std.proofs.Common.{◌≡◌, Option, Some, None, refl}
use Rattle.net_base.specs.OptionSteps.{◌>>=◌}

-- where a chain has a value, so has each part
pub bind_some : {A B : Type 0} (o : Option A) (f : A → Option B) (y : B) → (o >>= f) ≡ Some y → (x : A) × (o ≡ Some x) × (f x ≡ Some y)
bind_some (Some x) f y h = (x, refl, h)
bind_some None f y h = absurd cc
