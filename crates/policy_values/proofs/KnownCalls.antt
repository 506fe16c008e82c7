-- Whether the names of a call or of some sources are known, as the value tells it.
use Rattle.std.proofs.Common.{◌≡◌, ℕ, List, [], ◌∷◌, ◌++◌, Result, Ok, Err, refl, ◌∙◌}
use Rattle.std.specs.Prelude.{⊤, is_ok, if◌then◌else◌}
use Rattle.net_base.specs.declared.loc.LocSet.{LocSet}
use Rattle.net_base.specs.SetOperations.{no_location, union_of}
use Rattle.net_base.specs.Network.{PlainNet}
use Rattle.net_base.specs.Steps.{◌>>=◌}
use Rattle.policy_tokens.specs.declared.fault.PolicyFault.{PolicyFault}
use Rattle.policy_grammar.specs.declared.lexeme.Lexeme.{Lexeme}
use Rattle.policy_grammar.specs.Raw.{Arg, Arg as arg, RawCall, Step as step}
use Rattle.policy_base.specs.declared.call.Call.TheVariants.{Drop}
use Rattle.policy_base.specs.declared.policy.FromSet.TheVariants.{Named}
use Rattle.policy_base.specs.Policies.{Ranking, call}
use Rattle.policy_rules.specs.KnownNames.{Names}
use Rattle.policy_rules.specs.Checks.{set_at, joined, set_of_names, each, name_known, arg_known, step_known}
use Rattle.policy_rules.specs.Counts.{places_within}
use Rattle.policy_values.specs.Built.{set_of_arg, sets_of, call_of, from_of}
use Rattle.policy_values.specs.Parts.{names_of}
use Rattle.policy_values.specs.CallValues.{value_of}

module _ (bytes : List ℕ) (net : PlainNet) (known : Names) where
  names_passed : (so_far : LocSet) (ls : List Lexeme) → names_of (joined bytes known so_far ls) ≡ each (name_known bytes known) ls
  names_passed so_far [] = refl
  names_passed so_far (l ∷ ls) = by (λ more. names_passed more ls) (set_at bytes known l)
    where
      by : ((more : LocSet) → names_of (joined bytes known more ls) ≡ each (name_known bytes known) ls) → (s : Result LocSet PolicyFault)
          → names_of (s >>= λ x. joined bytes known (union_of so_far x) ls) ≡ (names_of s >>= λ _. each (name_known bytes known) ls)
      by rest (Ok x) = rest (union_of so_far x)
      by rest (Err e) = refl

  arg_passed : (a : Arg) → names_of (set_of_arg bytes net known a) ≡ arg_known bytes known a
  arg_passed arg.Any = refl
  arg_passed (arg.Names ls) = names_passed no_location ls

  args_passed : (so_far : List LocSet) (as' : List Arg) → names_of (sets_of bytes net known so_far as') ≡ each (arg_known bytes known) as'
  args_passed so_far [] = refl
  args_passed so_far (a ∷ as') = by (λ more. args_passed more as') (set_of_arg bytes net known a) (arg_known bytes known a) (arg_passed a)
    where
      by : ((more : List LocSet) → names_of (sets_of bytes net known more as') ≡ each (arg_known bytes known) as')
          → (s : Result LocSet PolicyFault) (k : Result ⊤ PolicyFault) → names_of s ≡ k
          → names_of (s >>= λ x. sets_of bytes net known (so_far ++ x ∷ []) as') ≡ (k >>= λ _. each (arg_known bytes known) as')
      by rest (Ok x) (Ok t) is = rest (so_far ++ x ∷ [])
      by rest (Ok x) (Err e) is = absurd cc
      by rest (Err e) (Ok t) is = absurd cc
      by rest (Err e) (Err f) is = is

  called : {A B : Type 0} (r : Result A PolicyFault) (f : A → B) → names_of (r >>= λ x. Ok (f x)) ≡ names_of r
  called (Ok x) f = refl
  called (Err e) f = refl

  -- a verdict that has nothing to say but that it passes
  same_passed : (r : Result ⊤ PolicyFault) → names_of r ≡ r
  same_passed (Ok tt) = refl
  same_passed (Err e) = refl

  -- the value, by whether it has too many places
  abbrev pub value_under : Result ⊤ PolicyFault → RawCall → Result Ranking PolicyFault
  value_under places c =
      if is_ok places then (sets_of bytes net known [] c.args >>= λ sets. Ok (call_of c.word sets))
      else (each (arg_known bytes known) c.args >>= λ _. Ok (call Drop))

  under : (places : Result ⊤ PolicyFault) (c : RawCall) → names_of (value_under places c) ≡ each (arg_known bytes known) c.args
  under (Ok x) c = called (sets_of bytes net known [] c.args) (λ sets. call_of c.word sets) ∙ args_passed [] c.args
  under (Err e) c = called (each (arg_known bytes known) c.args) (λ _. call Drop) ∙ same_passed (each (arg_known bytes known) c.args)

  -- its value has the first unknown name
  pub call_names : (c : RawCall) → names_of (value_of bytes net known c) ≡ step_known bytes known (step.Call c)
  call_names c = under (places_within (step.Call c)) c

  -- so have the sources of a statement
  pub from_names : (a : Arg) → names_of (from_of bytes known a) ≡ arg_known bytes known a
  from_names arg.Any = refl
  from_names (arg.Names ls) = called (set_of_names bytes known ls) Named ∙ names_passed no_location ls
