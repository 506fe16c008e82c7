-- Which fault is told.
use Rattle.std.specs.Prelude.{List, [], ◌∷◌, Option, Some, None, Result, Ok, Err, ⊤}
use Rattle.policy_tokens.specs.declared.fault.PolicyFault.{PolicyFault}

-- the first of some, if there is one
abbrev pub first : {A : Type 0} → List A → Option A
first [] = None
first (x ∷ xs) = Some x

-- of all that breaks a rule the first is told
abbrev pub told : {A : Type 0} → (A → PolicyFault) → List A → Result ⊤ PolicyFault
told fault [] = Ok tt
told fault (x ∷ xs) = Err (fault x)
