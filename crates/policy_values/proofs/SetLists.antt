-- The sets that arguments name.
use Rattle.std.proofs.Common.{◌≡◌, ℕ, ◌+◌, List, [], ◌∷◌, ◌++◌, length, Result, Ok, Err, refl, ap, ◌∙◌, length-append, arith}
use Rattle.std.specs.Prelude.{⊤}
use Rattle.net_base.specs.declared.loc.LocSet.{LocSet}
use Rattle.net_base.specs.Network.{PlainNet}
use Rattle.net_base.specs.SetOperations.{no_location, union_of}
use Rattle.net_base.specs.Steps.{◌>>=◌}
use Rattle.net_base.proofs.StepLemmas.{bind_ok, ok_same}
use Rattle.policy_tokens.specs.declared.fault.PolicyFault.{PolicyFault}
use Rattle.policy_grammar.specs.declared.lexeme.Lexeme.{Lexeme}
use Rattle.policy_grammar.specs.Raw.{Arg, Arg as arg}
use Rattle.policy_rules.specs.KnownNames.{Names}
use Rattle.policy_rules.specs.Checks.{set_at, joined, each, name_known, arg_known}
use Rattle.policy_values.specs.Built.{set_of_arg, sets_of}

in_turn : {A B C F : Type 0} (r : Result A F) (k : A → Result C F) (k' : A → Result B F) (m : B → Result C F) → ((x : A) → k x ≡ (k' x >>= m)) → (r >>= k) ≡ ((r >>= k') >>= m)
in_turn (Ok x) k k' m same = same x
in_turn (Err e) k k' m same = refl

-- of what a step gives only whether it fails is told
abbrev told : {A F : Type 0} → Result A F → Result ⊤ F
told r = r >>= λ _. Ok tt

told_in_turn : {A B F : Type 0} (r : Result A F) (k : A → Result B F) (next : Result ⊤ F) → ((x : A) → told (k x) ≡ next) → told (r >>= k) ≡ (told r >>= λ _. next)
told_in_turn (Ok x) k next same = same x
told_in_turn (Err e) k next same = refl

told_last : {A B F : Type 0} (r : Result A F) (y : B) → (r >>= λ _. Ok y) ≡ (told r >>= λ _. Ok y)
told_last (Ok x) y = refl
told_last (Err e) y = refl

module _ (bytes : List ℕ) (net : PlainNet) (known : Names) where
  -- one argument more
  pub sets_pushed : (so_far : List LocSet) (args : List Arg) (a : Arg)
      → sets_of bytes net known so_far (args ++ a ∷ []) ≡ (sets_of bytes net known so_far args >>= λ sets. set_of_arg bytes net known a >>= λ s. Ok (sets ++ s ∷ []))
  sets_pushed so_far [] a = refl
  sets_pushed so_far (b ∷ args) a = in_turn (set_of_arg bytes net known b) _ _ _ (λ s. sets_pushed (so_far ++ s ∷ []) args a)

  -- each argument names one set
  pub sets_length : (so_far : List LocSet) (args : List Arg) (sets : List LocSet) → sets_of bytes net known so_far args ≡ Ok sets → length sets ≡ length so_far + length args
  sets_length so_far [] sets e = let same = ok_same so_far sets e in omega (arith, ap length same)
  sets_length so_far (a ∷ args) sets e =
      let b = bind_ok (set_of_arg bytes net known a) (λ s. sets_of bytes net known (so_far ++ s ∷ []) args) sets e in
      let h = sets_length (so_far ++ b.0 ∷ []) args sets b.2 in
      omega (arith, h, length-append so_far (b.0 ∷ []))

  names_told : (so_far : LocSet) (ls : List Lexeme) → told (joined bytes known so_far ls) ≡ each (name_known bytes known) ls
  names_told so_far [] = refl
  names_told so_far (l ∷ ls) = told_in_turn (set_at bytes known l) (λ s. joined bytes known (union_of so_far s) ls) (each (name_known bytes known) ls) (λ s. names_told (union_of so_far s) ls)

  arg_told : (a : Arg) → told (set_of_arg bytes net known a) ≡ arg_known bytes known a
  arg_told arg.Any = refl
  arg_told (arg.Names ls) = names_told no_location ls

  sets_told : (so_far : List LocSet) (args : List Arg) → told (sets_of bytes net known so_far args) ≡ each (arg_known bytes known) args
  sets_told so_far [] = refl
  sets_told so_far (a ∷ args) =
      told_in_turn (set_of_arg bytes net known a) (λ s. sets_of bytes net known (so_far ++ s ∷ []) args) (each (arg_known bytes known) args) (λ s. sets_told (so_far ++ s ∷ []) args)
      ∙ ap (λ (r : Result ⊤ PolicyFault). r >>= λ _. each (arg_known bytes known) args) (arg_told a)

  -- whether the names of all arguments are known
  pub sets_known : {B : Type 0} (y : B) (args : List Arg) → (sets_of bytes net known [] args >>= λ _. Ok y) ≡ (each (arg_known bytes known) args >>= λ _. Ok y)
  sets_known y args = told_last (sets_of bytes net known [] args) y ∙ ap (λ (r : Result ⊤ PolicyFault). r >>= λ _. Ok y) (sets_told [] args)
