-- The places of a `path`, one after another.
use Rattle.std.proofs.Common.{◌≡◌, ℕ, ◌+◌, ◌≤◌, Bool, true, false, List, [], ◌∷◌, ◌++◌, length, take, None, Result, Ok, Err, if◌then◌else◌, refl, sym, ap, ◌∙◌, length-append, arith}
use Rattle.std.specs.Prelude.{nat_le}
use Rattle.std.specs.Result.{is_ok}
use Rattle.std.proofs.lemmas.Bool.{leb-true, leb-false}
use Rattle.std.proofs.lemmas.List.{take_all, take-append-le}
use Rattle.policy_tokens.specs.declared.limits.TheConstants.{PLACES}
use Rattle.net_base.specs.declared.loc.LocSet.{LocSet}
use Rattle.policy_tokens.specs.declared.kind.Kind.TheVariants as kind
use Rattle.net_base.specs.Network.{PlainNet}
use Rattle.net_base.specs.Steps.{◌>>=◌, unless}
use Rattle.policy_base.specs.declared.call.Call.TheVariants.{Drop, Path}
use Rattle.policy_base.specs.Policies.{Ranking, call}
use Rattle.policy_tokens.specs.declared.fault.PolicyFault.{PolicyFault}
use Rattle.policy_tokens.specs.declared.fault.PolicyFault.TheVariants.{TooMany}
use Rattle.policy_grammar.specs.Raw.{Arg}
use Rattle.policy_words.specs.declared.word.CallWord.TheVariants as word
use Rattle.policy_rules.specs.KnownNames.{Names}
use Rattle.policy_rules.specs.Checks.{each, arg_known}
use Rattle.policy_rules.specs.Counts.{within}
use Rattle.policy_values.specs.Built.{set_of_arg, sets_of}
use Rattle.policy_values.specs.CallValues.{CallValue, call_value}
use Rattle.policy_values.specs.CallReaders.{PlacesValue, no_places, kept_within, with_place, path_value}
use Rattle.policy_values.proofs.SetLists.{sets_pushed, sets_length, sets_known}

take_more : (most : ℕ) (ss : List LocSet) (x : LocSet) (b : Bool) → nat_le most (length ss) ≡ b → take most (ss ++ x ∷ []) ≡ (if b then take most ss else (take most ss ++ x ∷ []))
take_more most ss x true e = take-append-le most ss (x ∷ []) (leb-true most (length ss) e)
take_more most ss x false e =
    let short : length ss + 1 ≤ most = omega (arith, leb-false most (length ss) e) in
    take_all most (ss ++ x ∷ []) (omega (arith, short, length-append ss (x ∷ []))) ∙ ap (λ z. z ++ x ∷ []) (sym (take_all most ss (omega (arith, short))))

more_kept : (most n : ℕ) (r : Result (List LocSet) PolicyFault) (s : Result LocSet PolicyFault) → ((ss : List LocSet) → r ≡ Ok ss → length ss ≡ n)
    → ((r >>= λ ss. s >>= λ x. Ok (ss ++ x ∷ [])) >>= λ ss. Ok (take most ss)) ≡ kept_within most n (r >>= λ ss. Ok (take most ss)) s
more_kept most n (Err e) s count = refl
more_kept most n (Ok ss) (Err e) count = refl
more_kept most n (Ok ss) (Ok x) count = ap Ok (take_more most ss x (nat_le most n) (ap (nat_le most) (count ss refl)))

ranked_same : (most n : ℕ) (b : Bool) → nat_le n most ≡ b → (r : Result (List LocSet) PolicyFault) (known : Result Ranking PolicyFault) (e : PolicyFault)
    → ((ss : List LocSet) → r ≡ Ok ss → length ss ≡ n) → (r >>= λ _. Ok (call Drop)) ≡ known
    → ((r >>= λ ss. Ok (take most ss)) >>= λ sets. Ok (if b then call (Path sets) else call Drop)) ≡ (if is_ok (unless e b) then (r >>= λ sets. Ok (call (Path sets))) else known)
ranked_same most n true few (Ok ss) known e count same =
    let all : take most ss ≡ ss = take_all most ss (omega (arith, leb-true n most few, count ss refl)) in
    ap (λ z. Ok (call (Path z))) all
ranked_same most n true few (Err f) known e count same = refl
ranked_same most n false few (Ok ss) known e count same = same
ranked_same most n false few (Err f) known e count same = same

module _ (bytes : List ℕ) (net : PlainNet) (known : Names) where
  -- what some places come to
  abbrev pub places_of : List Arg → PlacesValue
  places_of args = record { count = length args; sets = sets_of bytes net known [] args >>= λ sets. Ok (take PLACES sets) }

  -- one place more
  pub places_pushed : (args : List Arg) (a : Arg) → with_place (places_of args) (set_of_arg bytes net known a) ≡ places_of (args ++ a ∷ [])
  places_pushed args a =
      let r = sets_of bytes net known [] args in
      let kept = more_kept PLACES (length args) r (set_of_arg bytes net known a) (λ ss e. omega (arith, sets_length bytes net known [] args ss e)) in
      let one = ap (λ (q : Result (List LocSet) PolicyFault). q >>= λ ss. Ok (take PLACES ss)) (sets_pushed bytes net known [] args a) in
      let count : length args + 1 ≡ length (args ++ a ∷ []) = omega (arith, length-append args (a ∷ [])) in
      ap (λ (n : ℕ). let p : PlacesValue = record { count = n; sets = kept_within PLACES (length args) (r >>= λ ss. Ok (take PLACES ss)) (set_of_arg bytes net known a) } in p) count
      ∙ ap (λ (q : Result (List LocSet) PolicyFault). let p : PlacesValue = record { count = length (args ++ a ∷ []); sets = q } in p) (sym (one ∙ kept))

  -- the first two places
  pub two_places : (a b : Arg) → with_place (with_place no_places (set_of_arg bytes net known a)) (set_of_arg bytes net known b) ≡ places_of (a ∷ b ∷ [])
  two_places a b =
      let none : no_places ≡ places_of [] = ap (λ (ss : List LocSet). let p : PlacesValue = record { count = 0; sets = Ok ss } in p) (sym (take_all PLACES [] (omega arith))) in
      ap (λ (p : PlacesValue). with_place (with_place p (set_of_arg bytes net known a)) (set_of_arg bytes net known b)) none
      ∙ ap (λ (p : PlacesValue). with_place p (set_of_arg bytes net known b)) (places_pushed [] a)
      ∙ places_pushed (a ∷ []) b

  -- a `path` with these places
  pub path_same : (args : List Arg) → path_value (places_of args) ≡ call_value bytes net known (record { word = word.Path; args = args; above = None })
  path_same args =
      ap (λ (v : Result Ranking PolicyFault). let c : CallValue = record { above = None; places = within kind.Places PLACES (length args); value = v } in c)
      (ranked_same PLACES (length args) (nat_le (length args) PLACES) refl (sets_of bytes net known [] args)
      (each (arg_known bytes known) args >>= λ _. Ok (call Drop)) (TooMany kind.Places (length args))
      (λ ss e. omega (arith, sets_length bytes net known [] args ss e)) (sets_known bytes net known (call Drop) args))
