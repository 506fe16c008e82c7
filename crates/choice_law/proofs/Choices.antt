-- Each alternative of a printable expression is printable.
use Rattle.std.proofs.Common.{◌≡◌, ℕ, ◌+◌, ◌≤◌, Bool, true, false, List, [], ◌∷◌, map, max, subst, inl, inr, arith}
use Rattle.std.specs.Prelude.{nat_lt}
use Rattle.std.specs.List.{AllByRecursion}
use Rattle.std.proofs.lemmas.Bool.{cases_Bool, lt-ltb, ltb-true}
use Rattle.list_law.specs.Members.{IsIn}
use Rattle.list_law.proofs.Members.{AllByRecursion-IsIn, IsIn-append_cases, IsIn-cons_cases, IsIn-flat_map_parts, IsIn-map_parts, IsIn-nil}
use Rattle.net_base.specs.Network.{PlainNet}
use Rattle.policy_base.specs.declared.call.Call.{Call}
use Rattle.policy_base.specs.CallWords.{word_of}
use Rattle.policy_base.specs.Policies.{Ranking, call, calls, prefer, either, both, negated}
use Rattle.policy_text.specs.Choices.{choices}
use Rattle.policy_text.specs.PolicyText.{has_sets}
use Rattle.policy_text.specs.Printable.{HasCallSets, IsWritable, call_count, has_one_set, one_if, open_brackets}
use Rattle.policy_text.specs.Values.{HasLocSets, IsLocSet, sets_in}
use Rattle.policy_text.proofs.PrintedPolicies.{spelled-policy_text}
use Rattle.choice_law.specs.Laws.{ChoicesAreReadAgain, policy_with}

one_bracket : (k l : ℕ) → 1 ≤ k → one_if (nat_lt k l) ≤ one_if (nat_lt 1 l)
one_bracket k l least = elim (cases_Bool (nat_lt 1 l)) [
  | inl more ↦ rw more (by (nat_lt k l))
  | inr less ↦
      let not_more : nat_lt k l ≡ false = elim (cases_Bool (nat_lt k l)) [
        | inl h ↦ (let past = ltb-true k l h in let clash = lt-ltb 1 l (omega (arith, past, least)) in absurd cc)
        | inr h ↦ h
      ] in
      rw (less, not_more) (omega arith)
]
  where
    by : (b : Bool) → one_if b ≤ 1
    by true = omega arith
    by false = omega arith

-- where it binds at one strength an expression opens at most one bracket more than at another
levels : (l m : ℕ) (r : Ranking) → open_brackets l r ≤ one_if (nat_lt 1 l) + open_brackets m r
levels l m (call c) = omega arith
levels l m (calls cs) = omega arith
levels l m (prefer a b) = omega arith
levels l m (either a b) = omega (arith, one_bracket 2 l (omega arith))
levels l m (both a b) = omega (arith, one_bracket 3 l (omega arith))
levels l m (negated a) = omega (arith, one_bracket 4 l (omega arith))

-- what is known of an expression and holds of each of its alternatives
pub record IsPrintableAs (net : PlainNet) (r x : Ranking) : Type 0 where
  pub writable : IsWritable net r → IsWritable net x
  pub values : HasLocSets r → HasLocSets x
  pub brackets : (least : ℕ) → open_brackets least x ≤ open_brackets least r
  pub calls : call_count x ≤ call_count r

same_as : (net : PlainNet) (r : Ranking) → IsPrintableAs net r r
same_as net r = record { writable = λ h. h; values = λ h. h; brackets = λ least. omega arith; calls = omega arith }

call_printable : (net : PlainNet) (cs : List Call) (c : Call) → IsIn cs c → IsPrintableAs net (calls cs) (call c)
call_printable net [] c at = absurd (IsIn-nil c at)
call_printable net (d ∷ ds) c at = record {
  writable = λ h. (AllByRecursion-IsIn (λ e. (word_of e ≡ word_of d) × (has_one_set e ≡ true) × HasCallSets net e) (d ∷ ds) c h.1 at).2;
  values = λ h. AllByRecursion-IsIn (λ e. AllByRecursion IsLocSet (sets_in e)) (d ∷ ds) c h at;
  brackets = λ least. by (has_sets c);
  calls = omega arith;
}
  where
    by : (b : Bool) → one_if b ≤ 1
    by true = omega arith
    by false = omega arith

max_within : (a b c d : ℕ) → a ≤ c → b ≤ d → max a b ≤ max c d
max_within a b c d h k = omega (arith, h, k)

both_printable : (net : PlainNet) (a b x y : Ranking) → IsPrintableAs net a x → IsPrintableAs net b y → IsPrintableAs net (both a b) (both x y)
both_printable net a b x y f g = record {
  writable = λ h. (f.writable h.0, g.writable h.1);
  values = λ h. (f.values h.0, g.values h.1);
  brackets = λ least. let inner = max_within (open_brackets 3 x) (open_brackets 4 y) (open_brackets 3 a) (open_brackets 4 b) (f.brackets 3) (g.brackets 4) in omega (arith, inner);
  calls = omega (arith, f.calls, g.calls);
}

left_printable : (net : PlainNet) (a b x : Ranking) → IsPrintableAs net a x → IsPrintableAs net (prefer a b) x
left_printable net a b x f = record {
  writable = λ h. f.writable h.0;
  values = λ h. f.values h.0;
  brackets = λ least. omega (arith, f.brackets least, levels least 1 a);
  calls = omega (arith, f.calls);
}

right_printable : (net : PlainNet) (a b x : Ranking) → IsPrintableAs net b x → IsPrintableAs net (prefer a b) x
right_printable net a b x f = record {
  writable = λ h. f.writable h.1;
  values = λ h. f.values h.1;
  brackets = λ least. omega (arith, f.brackets least, levels least 2 b);
  calls = omega (arith, f.calls);
}

only_printable : (net : PlainNet) (r x : Ranking) → IsIn (r ∷ []) x → IsPrintableAs net r x
only_printable net r x at = elim (IsIn-cons_cases r [] x at) [
  | inl same ↦ subst (IsPrintableAs net r) same (same_as net r)
  | inr none ↦ absurd (IsIn-nil x none)
]

printable_as : (net : PlainNet) (r x : Ranking) → IsIn (choices r) x → IsPrintableAs net r x
printable_as net (call c) x at = only_printable net (call c) x at
printable_as net (calls cs) x at =
    let c = IsIn-map_parts call cs x at in
    subst (IsPrintableAs net (calls cs)) c.2 (call_printable net cs c.0 c.1)
printable_as net (prefer a b) x at = elim (IsIn-append_cases (choices a) (choices b) x at) [
  | inl left ↦ left_printable net a b x (printable_as net a x left)
  | inr right ↦ right_printable net a b x (printable_as net b x right)
]
printable_as net (both a b) x at =
    let y = IsIn-flat_map_parts (λ (z : Ranking). map (both z) (choices b)) (choices a) x at in
    let z = IsIn-map_parts (both y.0) (choices b) x y.2 in
    subst (IsPrintableAs net (both a b)) z.2 (both_printable net a b y.0 z.0 (printable_as net a y.0 y.1) (printable_as net b z.0 z.1))
printable_as net (either a b) x at = only_printable net (either a b) x at
printable_as net (negated a) x at = only_printable net (negated a) x at

pub read_again : ChoicesAreReadAgain
read_again net s x rules names printable values at =
    let same = printable_as net s.ranked x at in
    let one = printable.statements.0 in
    let value = values.statements.0 in
    spelled-policy_text net (policy_with (record s { ranked = x })) rules names
    (record {
      origins = tt;
      statements = (record { patterns = value.patterns; ranked = same.values value.ranked; from = value.from }, tt);
    })
    (record {
      limits = record {
        statements = printable.limits.statements;
        patterns = printable.limits.patterns;
        prefixes = printable.limits.prefixes;
        pairs = printable.limits.pairs;
        once = printable.limits.once;
      };
      origins = tt;
      statements = (
        record {
          patterns = one.patterns;
          ranked = same.writable one.ranked;
          brackets = omega (arith, same.brackets 1, one.brackets);
          calls = omega (arith, same.calls, one.calls);
          from = one.from;
        },
        tt,
      );
    })
