-- Names that are read one after another: their locations, and whether they are routers alone.
use Rattle.std.proofs.Common.{◌≡◌, ℕ, List, [], ◌∷◌, ◌++◌, Result, Ok, Err, refl}
use Rattle.net_base.specs.Steps.{◌>>=◌}
use Rattle.net_base.specs.declared.loc.LocSet.{LocSet}
use Rattle.net_base.specs.Network.{PlainNet}
use Rattle.net_base.specs.SetOperations.{no_location, union_of}
use Rattle.policy_tokens.specs.declared.fault.PolicyFault.{PolicyFault}
use Rattle.policy_grammar.specs.declared.lexeme.Lexeme.{Lexeme}
use Rattle.policy_rules.specs.KnownNames.{Names}
use Rattle.policy_rules.specs.Checks.{set_at, joined, set_of_names}
use Rattle.policy_rules.proofs.Verdicts.{each_push}
use Rattle.policy_rules.specs.Origins.{routers_alone}
use Rattle.policy_values.specs.NameSets.{with_named}
use Rattle.policy_values.specs.OriginNames.{origin_names, with_origin}

module _ (bytes : List ℕ) (known : Names) where
  joined_push : (so_far : LocSet) (xs : List Lexeme) (l : Lexeme) → joined bytes known so_far (xs ++ l ∷ []) ≡ with_named bytes known (joined bytes known so_far xs) l
  joined_push so_far [] l = refl
  joined_push so_far (x ∷ xs) l = by (set_at bytes known x) (λ s. joined_push (union_of so_far s) xs l)
    where
      by : (r : Result LocSet PolicyFault) → ((s : LocSet) → joined bytes known (union_of so_far s) (xs ++ l ∷ []) ≡ with_named bytes known (joined bytes known (union_of so_far s) xs) l)
          → (r >>= λ s. joined bytes known (union_of so_far s) (xs ++ l ∷ [])) ≡ with_named bytes known (r >>= λ s. joined bytes known (union_of so_far s) xs) l
      by (Ok s) rest = rest s
      by (Err e) rest = refl

  -- a name more at the end is joined to the others
  pub set_of_names_push : (xs : List Lexeme) (l : Lexeme) → set_of_names bytes known (xs ++ l ∷ []) ≡ with_named bytes known (set_of_names bytes known xs) l
  set_of_names_push xs l = joined_push no_location xs l

  -- the same of the names of an `originate`
  pub origin_names_push : (net : PlainNet) (xs : List Lexeme) (l : Lexeme) → origin_names bytes net known (xs ++ l ∷ []) ≡ with_origin bytes net known (origin_names bytes net known xs) l
  origin_names_push net xs l = rw (set_of_names_push xs l, each_push (routers_alone bytes net known) xs l) refl
