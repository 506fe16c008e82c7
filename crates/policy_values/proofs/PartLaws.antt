-- What the parts of an expression come to is what the rules say of its steps.
use Rattle.std.proofs.Common.{◌≡◌, ℕ, ◌+◌, ◌≤◌, true, List, [], ◌∷◌, ◌++◌, Result, Ok, Err, refl, sym, ap, ◌∙◌, arith}
use Rattle.std.specs.Prelude.{⊤, sum_by, if◌then◌else◌}
use Rattle.std.proofs.lemmas.List.Sums.{sum_by-cons}
use Rattle.policy_tokens.specs.declared.limits.TheConstants.{CALLS}
use Rattle.net_base.specs.declared.loc.LocSet.{LocSet}
use Rattle.net_base.specs.Network.{PlainNet}
use Rattle.net_base.specs.Steps.{◌>>=◌}
use Rattle.policy_tokens.specs.declared.fault.PolicyFault.{PolicyFault}
use Rattle.policy_grammar.specs.declared.lexeme.Lexeme.{Lexeme}
use Rattle.policy_grammar.specs.Raw.{RawCall, Step, Step as step}
use Rattle.policy_grammar.specs.Reading.{Read}
use Rattle.policy_grammar.specs.Ranked as steps
use Rattle.policy_base.specs.Policies.{Ranking, prefer, either, both, negated}
use Rattle.policy_rules.specs.KnownNames.{Names}
use Rattle.policy_rules.specs.Checks.{each, step_known}
use Rattle.policy_rules.specs.Counts.{capped, call_amount, places_within}
use Rattle.policy_rules.specs.Ranks.{marks_behind, marks_of}
use Rattle.policy_values.specs.Built.{sets_of, call_of, top, under_top, behind, all_behind}
use Rattle.policy_values.specs.CallValues.{value_of}
use Rattle.policy_values.specs.Levels as levels
use Rattle.policy_values.specs.Parts.{PartsValue, no_parts, is_kept, names_of, value_onto, step_onto, parts_from, parts_of}
use Rattle.policy_values.specs.Reads.{over}
use Rattle.policy_values.proofs.KnownCalls.{value_under, call_names}
use Rattle.policy_rules.proofs.Verdicts.{last_told}
use Rattle.policy_values.proofs.LevelLaws.{ranked_read}

-- ---- verdicts

grouped : (r s t : Result ⊤ PolicyFault) → ((r >>= λ _. s) >>= λ _. t) ≡ (r >>= λ _. s >>= λ _. t)
grouped (Ok x) s t = refl
grouped (Err e) s t = refl

first_passes : (r s : Result ⊤ PolicyFault) → (r >>= λ _. s) ≡ Ok tt → r ≡ Ok tt
first_passes (Ok x) s is = refl
first_passes (Err e) s is = absurd cc

second_passes : (r s : Result ⊤ PolicyFault) → (r >>= λ _. s) ≡ Ok tt → s ≡ Ok tt
second_passes (Ok x) s is = is
second_passes (Err e) s is = absurd cc

-- ---- what is kept

-- no rule is broken that forbids to keep the expressions
record Keeps (v : PartsValue) : Type 0 where
  names : v.names ≡ Ok tt
  places : v.places ≡ Ok tt
  calls : v.calls ≤ CALLS

kept : (v : PartsValue) → Keeps v → is_kept v ≡ true
kept v k = rw (k.names, k.places) (grind arith)

stack_stays : (v : PartsValue) (rs : List Ranking) → Keeps v → (if is_kept v then rs else []) ≡ rs
stack_stays v rs k = rw (kept v k) refl

module _ (bytes : List ℕ) (net : PlainNet) (known : Names) where
  -- ---- names

  names_onto : (s : Step) (v : PartsValue) → (step_onto bytes net known s v).names ≡ (v.names >>= λ _. step_known bytes known s)
  names_onto (step.Call c) v = ap (λ z. v.names >>= λ _. z) (call_names bytes net known c)
  names_onto (step.Above p) v = sym (last_told v.names)
  names_onto step.Or v = sym (last_told v.names)
  names_onto step.And v = sym (last_told v.names)
  names_onto step.Not v = sym (last_told v.names)

  names_from : (v : PartsValue) (ss : List Step) → (parts_from bytes net known v ss).names ≡ (v.names >>= λ _. each (step_known bytes known) ss)
  names_from v [] = sym (last_told v.names)
  names_from v (s ∷ ss) =
      names_from (step_onto bytes net known s v) ss
      ∙ ap (λ z. z >>= λ _. each (step_known bytes known) ss) (names_onto s v)
      ∙ grouped v.names (step_known bytes known s) (each (step_known bytes known) ss)

  -- ---- places

  places_onto : (s : Step) (v : PartsValue) → (step_onto bytes net known s v).places ≡ (v.places >>= λ _. places_within s)
  places_onto (step.Call c) v = refl
  places_onto (step.Above p) v = sym (last_told v.places)
  places_onto step.Or v = sym (last_told v.places)
  places_onto step.And v = sym (last_told v.places)
  places_onto step.Not v = sym (last_told v.places)

  places_from : (v : PartsValue) (ss : List Step) → (parts_from bytes net known v ss).places ≡ (v.places >>= λ _. each places_within ss)
  places_from v [] = sym (last_told v.places)
  places_from v (s ∷ ss) =
      places_from (step_onto bytes net known s v) ss
      ∙ ap (λ z. z >>= λ _. each places_within ss) (places_onto s v)
      ∙ grouped v.places (places_within s) (each places_within ss)

  -- ---- calls

  calls_onto : (s : Step) (v : PartsValue) → v.calls ≤ 18446744073709551615 → (step_onto bytes net known s v).calls ≡ capped (v.calls + call_amount s)
  calls_onto (step.Call c) v le = refl
  calls_onto (step.Above p) v le = omega arith
  calls_onto step.Or v le = omega arith
  calls_onto step.And v le = omega arith
  calls_onto step.Not v le = omega arith

  calls_from : (v : PartsValue) (ss : List Step) → v.calls ≤ 18446744073709551615 → (parts_from bytes net known v ss).calls ≡ capped (v.calls + sum_by call_amount ss)
  calls_from v [] le = omega arith
  calls_from v (s ∷ ss) le =
      let one = calls_onto s v le in
      let more = calls_from (step_onto bytes net known s v) ss (omega (arith, one)) in
      omega (arith, one, more, sum_by-cons call_amount s ss)

  -- ---- marks

  marks_onto : (s : Step) (v : PartsValue) → (step_onto bytes net known s v).marks ≡ marks_behind s v.marks
  marks_onto (step.Call c) v = refl
  marks_onto (step.Above p) v = refl
  marks_onto step.Or v = refl
  marks_onto step.And v = refl
  marks_onto step.Not v = refl

  marks_from : (v : PartsValue) (ss : List Step) → (parts_from bytes net known v ss).marks ≡ marks_of v.marks ss
  marks_from v [] = refl
  marks_from v (s ∷ ss) = marks_from (step_onto bytes net known s v) ss ∙ ap (λ z. marks_of z ss) (marks_onto s v)

  -- ---- the stack

  -- a call whose names are known, and that has no more places than a `path` may have
  call_behind : (places : Result ⊤ PolicyFault) (c : RawCall) (rs : List Ranking) → places ≡ Ok tt → names_of (value_under bytes net known places c) ≡ Ok tt
      → (sets_of bytes net known [] c.args >>= λ sets. Ok (call_of c.word sets ∷ rs)) ≡ Ok (value_onto (value_under bytes net known places c) rs)
  call_behind (Err e) c rs within is = absurd cc
  call_behind (Ok x) c rs within is = by (sets_of bytes net known [] c.args) is
    where
      by : (sets : Result (List LocSet) PolicyFault) → names_of (sets >>= λ x. Ok (call_of c.word x)) ≡ Ok tt
          → (sets >>= λ x. Ok (call_of c.word x ∷ rs)) ≡ Ok (value_onto (sets >>= λ x. Ok (call_of c.word x)) rs)
      by (Ok x) is = refl
      by (Err e) is = absurd cc

  behind_onto : (s : Step) (v : PartsValue) → Keeps (step_onto bytes net known s v) → behind bytes net known s v.stack ≡ Ok (step_onto bytes net known s v).stack
  behind_onto (step.Call c) v k =
      call_behind (places_within (step.Call c)) c v.stack (second_passes v.places (places_within (step.Call c)) k.places) (second_passes v.names (names_of (value_of bytes net known c)) k.names)
      ∙ ap Ok (sym (stack_stays (step_onto bytes net known (step.Call c) v) (value_onto (value_of bytes net known c) v.stack) k))
  behind_onto (step.Above p) v k = ap Ok (sym (stack_stays (step_onto bytes net known (step.Above p) v) (prefer (top (under_top v.stack)) (top v.stack) ∷ under_top (under_top v.stack)) k))
  behind_onto step.Or v k = ap Ok (sym (stack_stays (step_onto bytes net known step.Or v) (either (top (under_top v.stack)) (top v.stack) ∷ under_top (under_top v.stack)) k))
  behind_onto step.And v k = ap Ok (sym (stack_stays (step_onto bytes net known step.And v) (both (top (under_top v.stack)) (top v.stack) ∷ under_top (under_top v.stack)) k))
  behind_onto step.Not v k = ap Ok (sym (stack_stays (step_onto bytes net known step.Not v) (negated (top v.stack) ∷ under_top v.stack) k))

  -- what isn't refused behind some steps was not refused before them
  kept_before : (v : PartsValue) (ss : List Step) → v.calls ≤ 18446744073709551615 → Keeps (parts_from bytes net known v ss) → Keeps v
  kept_before v ss le k =
      let calls = calls_from v ss le in record {
        names = first_passes v.names (each (step_known bytes known) ss) (sym (names_from v ss) ∙ k.names);
        places = first_passes v.places (each places_within ss) (sym (places_from v ss) ∙ k.places);
        calls = omega (arith, calls, k.calls);
      }

  stack_from : (v : PartsValue) (ss : List Step) → v.calls ≤ 18446744073709551615 → Keeps (parts_from bytes net known v ss)
      → all_behind bytes net known v.stack ss ≡ Ok (parts_from bytes net known v ss).stack
  stack_from v [] le k = refl
  stack_from v (s ∷ ss) le k =
      let one = calls_onto s v le in
      let within : (step_onto bytes net known s v).calls ≤ 18446744073709551615 = omega (arith, one) in
      ap (λ z. z >>= λ next. all_behind bytes net known next ss) (behind_onto s v (kept_before (step_onto bytes net known s v) ss within k))
      ∙ stack_from (step_onto bytes net known s v) ss within k

  -- ---- all parts

  pub parts_names : (steps : List Step) → (parts_of bytes net known steps).names ≡ each (step_known bytes known) steps
  parts_names steps = names_from no_parts steps

  pub parts_calls : (steps : List Step) → (parts_of bytes net known steps).calls ≡ capped (sum_by call_amount steps)
  parts_calls steps = let c = calls_from no_parts steps (omega arith) in omega (arith, c)

  pub parts_places : (steps : List Step) → (parts_of bytes net known steps).places ≡ each places_within steps
  parts_places steps = places_from no_parts steps

  pub parts_marks : (steps : List Step) → (parts_of bytes net known steps).marks ≡ marks_of [] steps
  parts_marks steps = marks_from no_parts steps

  pub parts_stack : (steps : List Step) → (parts_of bytes net known steps).names ≡ Ok tt → (parts_of bytes net known steps).places ≡ Ok tt → (parts_of bytes net known steps).calls ≤ CALLS
      → all_behind bytes net known [] steps ≡ Ok (parts_of bytes net known steps).stack
  parts_stack steps names places calls = stack_from no_parts steps (omega arith) (record { names = names; places = places; calls = calls })

  -- ---- reading

  followed : (v : PartsValue) (out : List Step) (s : Step) → parts_from bytes net known v (out ++ s ∷ []) ≡ step_onto bytes net known s (parts_from bytes net known v out)
  followed v [] s = refl
  followed v (x ∷ xs) s = followed (step_onto bytes net known x v) xs s

  -- an expression that is read to its parts is what its steps come to
  expression_read : (n : ℕ) (ls : List Lexeme) → levels.joined_at (step_onto bytes net known) steps.Ranked n no_parts ls ≡ over (parts_of bytes net known) (steps.ranked_with (steps.inner_at n) [] ls)
  expression_read n ls = ranked_read (step_onto bytes net known) (parts_of bytes net known) (λ out s. followed no_parts out s) n [] ls

  -- what is read on from no part is what all steps come to
  pub parts_read : (n : ℕ) (v : PartsValue) (ls : List Lexeme) (r : Read PartsValue) → v ≡ no_parts
      → levels.joined_at (step_onto bytes net known) steps.Ranked n v ls ≡ r → over (parts_of bytes net known) (steps.ranked_with (steps.inner_at n) [] ls) ≡ r
  parts_read n v ls r none is = sym (expression_read n ls) ∙ ap (λ (x : PartsValue). levels.joined_at (step_onto bytes net known) steps.Ranked n x ls) (sym none) ∙ is
