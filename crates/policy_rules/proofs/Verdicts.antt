-- What a rule says of parts one after another: its first fault.
use Rattle.std.proofs.Common.{◌≡◌, List, [], ◌∷◌, ◌++◌, Result, Ok, Err, refl}
use Rattle.std.specs.Prelude.{⊤}
use Rattle.net_base.specs.Steps.{◌>>=◌}
use Rattle.policy_tokens.specs.declared.fault.PolicyFault.{PolicyFault}
use Rattle.policy_rules.specs.Checks.{each}

-- nothing follows
pub last_told : (r : Result ⊤ PolicyFault) → (r >>= λ _. Ok tt) ≡ r
last_told (Ok u) = refl
last_told (Err e) = refl

-- one part more
pub each_push : {A : Type 0} (check : A → Result ⊤ PolicyFault) (xs : List A) (x : A) → each check (xs ++ x ∷ []) ≡ (each check xs >>= λ _. check x)
each_push check [] x = last_told (check x)
each_push check (y ∷ xs) x = behind (check y) (each check (xs ++ x ∷ [])) (each check xs) (check x) (each_push check xs x)
  where
    behind : (r s t u : Result ⊤ PolicyFault) → s ≡ (t >>= λ _. u) → (r >>= λ _. s) ≡ ((r >>= λ _. t) >>= λ _. u)
    behind (Ok v) s t u same = same
    behind (Err e) s t u same = refl
