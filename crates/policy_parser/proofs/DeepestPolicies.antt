-- How deep the expressions of a policy that is read can be.
use Rattle.std.proofs.Common.{◌≡◌, ℕ, suc, ◌+◌, ◌≤◌, List, [], ◌∷◌, ◌++◌, length, Result, Ok, Err, refl, sym, ap, ◌∙◌, subst, arith}
use Rattle.std.specs.Prelude.{IfOk, sum_by}
use Rattle.std.specs.List.{AllByRecursion}
use Rattle.std.proofs.lemmas.List.Sums.{sum_by-cons, sum_by-append}
use Rattle.list_law.proofs.Each.{AllByRecursion-push}
use Rattle.net_base.specs.declared.loc.LocSet.{LocSet}
use Rattle.policy_tokens.specs.declared.kind.Kind.TheVariants as kind
use Rattle.net_base.specs.Network.{PlainNet}
use Rattle.net_base.specs.Steps.{◌>>=◌}
use Rattle.net_base.proofs.StepLemmas.{bind_ok, ok_same}
use Rattle.policy_tokens.specs.declared.fault.PolicyFault.{PolicyFault}
use Rattle.policy_tokens.specs.declared.fault.PolicyFault.TheVariants.{NoMemory}
use Rattle.net_base.specs.Gives.{GivesUnless}
use Rattle.policy_tokens.specs.Places.{place_of}
use Rattle.policy_words.specs.declared.word.SetCall.{SetCall}
use Rattle.policy_words.specs.declared.word.CallWord.{CallWord}
use Rattle.policy_words.specs.declared.word.CallWord.TheVariants as word
use Rattle.policy_grammar.specs.Raw.{RawStatement, Step, Step as step, Item}
use Rattle.policy_grammar.specs.Raw.Item.{Define, Originate, State}
use Rattle.policy_grammar.specs.Lexemes.{lexemes_of}
use Rattle.policy_rules.specs.Checks.{each}
use Rattle.policy_rules.specs.Counts.{call_amount, calls_within}
use Rattle.policy_rules.specs.KnownNames.{Names}
use Rattle.policy_base.specs.Policies.{Ranking, prefer, either, both, negated, PlainStatement, PlainPolicy}
use Rattle.policy_values.specs.Built.{sets_of, ranked_sets, call_of, top, behind, all_behind, ranking_of_steps, statement_of, statements_of}
use Rattle.policy_parser.specs.Spelled.{items_spelled, policy_built}
use Rattle.policy_parser.specs.Depth.{depth, IsAtMostDeep}
use Rattle.policy_parser.proofs.BuiltParts.{items_parts, statement_parts, policy_parts}
use Rattle.policy_parser.proofs.BuiltPolicies.{within_most}
use Rattle.policy_parser.proofs.NestedSteps.{HasTwoSides, IsNested, HasNestedSteps, items-nested}

abbrev calls_in : List Step → ℕ
calls_in xs = sum_by call_amount xs

sets_depth : (c : SetCall) (sets : List LocSet) → depth (ranked_sets c sets) ≡ 1
sets_depth c [] = refl
sets_depth c (s ∷ []) = refl
sets_depth c (s ∷ t ∷ sets) = refl

call_depth : (w : CallWord) (sets : List LocSet) → depth (call_of w sets) ≡ 1
call_depth word.Any sets = refl
call_depth word.Drop sets = refl
call_depth word.Internal sets = refl
call_depth word.Link sets = refl
call_depth word.Path sets = refl
call_depth (word.Of c) sets = sets_depth c sets

-- an expression on top of a stack that is no deeper than its calls and so many `not` allow
pub record IsOnTop (n calls : ℕ) (rs out : List Ranking) : Type 0 where
  pub ranked : Ranking
  pub there : out ≡ ranked ∷ rs
  pub shallow : depth ranked ≤ n + calls
  pub some : 1 ≤ calls

module _ (bytes : List ℕ) (net : PlainNet) (known : Names) where
  halves : (xs ys : List Step) (rs out : List Ranking) → all_behind bytes net known rs (xs ++ ys) ≡ Ok out
      → (mid : List Ranking) × (all_behind bytes net known rs xs ≡ Ok mid) × (all_behind bytes net known mid ys ≡ Ok out)
  halves [] ys rs out e = (rs, refl, e)
  halves (x ∷ xs) ys rs out e =
      let a = bind_ok (behind bytes net known x rs) (λ next. all_behind bytes net known next (xs ++ ys)) out e in
      let b = halves xs ys a.0 out a.2 in
      (b.0, ap (λ (r : Result (List Ranking) PolicyFault). r >>= λ next. all_behind bytes net known next xs) a.1 ∙ b.1, b.2)

  joined_top : (n c d : ℕ) {s : Step} → HasTwoSides s → (rs mid other out : List Ranking) → IsOnTop n c rs mid → IsOnTop n d mid other
      → all_behind bytes net known other (s ∷ []) ≡ Ok out → IsOnTop n (c + d) rs out
  joined_top n c d (HasTwoSides.above p) rs mid other out a b e =
      let here : all_behind bytes net known other (step.Above p ∷ []) ≡ Ok (prefer a.ranked b.ranked ∷ rs) = rw (b.there, a.there) refl in
      record { ranked = prefer a.ranked b.ranked; there = ok_same _ _ (sym e ∙ here); shallow = omega (arith, a.shallow, b.shallow, a.some, b.some); some = omega (arith, a.some) }
  joined_top n c d HasTwoSides.or rs mid other out a b e =
      let here : all_behind bytes net known other (step.Or ∷ []) ≡ Ok (either a.ranked b.ranked ∷ rs) = rw (b.there, a.there) refl in
      record { ranked = either a.ranked b.ranked; there = ok_same _ _ (sym e ∙ here); shallow = omega (arith, a.shallow, b.shallow, a.some, b.some); some = omega (arith, a.some) }
  joined_top n c d HasTwoSides.and rs mid other out a b e =
      let here : all_behind bytes net known other (step.And ∷ []) ≡ Ok (both a.ranked b.ranked ∷ rs) = rw (b.there, a.there) refl in
      record { ranked = both a.ranked b.ranked; there = ok_same _ _ (sym e ∙ here); shallow = omega (arith, a.shallow, b.shallow, a.some, b.some); some = omega (arith, a.some) }

  negated_top : (n c : ℕ) (rs mid out : List Ranking) → IsOnTop n c rs mid → all_behind bytes net known mid (step.Not ∷ []) ≡ Ok out → IsOnTop (suc n) c rs out
  negated_top n c rs mid out a e =
      let here : all_behind bytes net known mid (step.Not ∷ []) ≡ Ok (negated a.ranked ∷ rs) = rw (a.there) refl in
      record { ranked = negated a.ranked; there = ok_same _ _ (sym e ∙ here); shallow = omega (arith, a.shallow); some = a.some }

  joined_calls : {s : Step} → HasTwoSides s → calls_in (s ∷ []) ≡ 0
  joined_calls (HasTwoSides.above p) = refl
  joined_calls HasTwoSides.or = refl
  joined_calls HasTwoSides.and = refl

  -- the steps of an expression put one on top
  put_on_top : {n : ℕ} {xs : List Step} → IsNested n xs → (rs out : List Ranking) → all_behind bytes net known rs xs ≡ Ok out → IsOnTop n (calls_in xs) rs out
  put_on_top {n} (IsNested.call c) rs out e =
      let a = bind_ok (behind bytes net known (step.Call c) rs) (λ next. all_behind bytes net known next []) out e in
      let b = bind_ok (sets_of bytes net known [] c.args) (λ sets. Ok (call_of c.word sets ∷ rs)) a.0 a.1 in
      let same = ok_same (call_of c.word b.0 ∷ rs) a.0 b.2 in
      record {
        ranked = call_of c.word b.0;
        there = sym (same ∙ ok_same a.0 out a.2);
        shallow = omega
            (arith, call_depth c.word b.0, sum_by-cons call_amount (step.Call c) []);
        some = omega (arith, sum_by-cons call_amount (step.Call c) []);
      }
  put_on_top {n} (IsNested.sides {xs = xs} {ys = ys} {s = s} two a b) rs out e =
      let both_sides = halves (xs ++ ys) (s ∷ []) rs out e in
      let each_side = halves xs ys rs both_sides.0 both_sides.1 in
      let count : calls_in (xs ++ ys ++ s ∷ []) ≡ calls_in xs + calls_in ys = omega (arith, sum_by-append call_amount (xs ++ ys) (s ∷ []), sum_by-append call_amount xs ys, joined_calls two) in
      subst (λ (k : ℕ). IsOnTop n k rs out) (sym count)
      (joined_top n (calls_in xs) (calls_in ys) two rs each_side.0 both_sides.0 out (put_on_top a rs each_side.0 each_side.1) (put_on_top b each_side.0 both_sides.0 each_side.2) both_sides.2)
  put_on_top (IsNested.not {n = n} {xs = xs} a) rs out e =
      let side = halves xs (step.Not ∷ []) rs out e in
      let count : calls_in (xs ++ step.Not ∷ []) ≡ calls_in xs = omega (arith, sum_by-append call_amount xs (step.Not ∷ []), sum_by-cons call_amount step.Not []) in
      subst (λ (k : ℕ). IsOnTop (suc n) k rs out) (sym count) (negated_top n (calls_in xs) rs side.0 out (put_on_top a rs side.0 side.1) side.2)

  abbrev IsShallow : PlainStatement → Type 0
  IsShallow s = depth s.ranked ≤ 321

  statement_shallow : (s : RawStatement) (t : PlainStatement) → statement_of bytes net known s ≡ Ok t → IsNested 65 s.ranked → calls_in s.ranked ≤ 256 → IsShallow t
  unfolding ranking_of_steps
  statement_shallow s t e nested few =
      let d = bind_ok (all_behind bytes net known [] s.ranked) (λ rs. Ok (top rs)) t.ranked (statement_parts bytes net known s t e).1 in
      let h = put_on_top nested [] d.0 d.1 in
      let ranked : h.ranked ≡ t.ranked = sym (ap top h.there) ∙ ok_same (top d.0) t.ranked d.2 in
      subst (λ (r : Ranking). depth r ≤ 321) ranked (omega (arith, h.shallow, few))

  statements_shallow : (so_far : List PlainStatement) (items : List Item) (ts : List PlainStatement) → statements_of bytes net known so_far items ≡ Ok ts
      → each calls_within items ≡ Ok tt → AllByRecursion HasNestedSteps items → AllByRecursion IsShallow so_far → AllByRecursion IsShallow ts
  statements_shallow so_far [] ts e few nested before = subst (λ z. AllByRecursion IsShallow z) (ok_same so_far ts e) before
  statements_shallow so_far (Define name members ∷ items) ts e few nested before = statements_shallow so_far items ts e few nested.1 before
  statements_shallow so_far (Originate prefix names ∷ items) ts e few nested before = statements_shallow so_far items ts e few nested.1 before
  statements_shallow so_far (State s ∷ items) ts e few nested before =
      let a = bind_ok (calls_within (State s)) (λ _. each calls_within items) tt few in
      let b = bind_ok (statement_of bytes net known s) (λ t. statements_of bytes net known (so_far ++ t ∷ []) items) ts e in
      let count = within_most kind.Calls 256 (calls_in s.ranked) a.0 a.1 (omega arith) in
      statements_shallow (so_far ++ b.0 ∷ []) items ts b.2 a.2 nested.1 (AllByRecursion-push IsShallow so_far b.0 before (statement_shallow s b.0 b.1 nested.0 count))

items_nested : (bytes : List ℕ) (items : List Item) → items_spelled bytes ≡ Ok items → AllByRecursion HasNestedSteps items
items_nested bytes items e = let parts = items_parts bytes items e in items-nested _ [] (lexemes_of bytes parts.0 (place_of bytes (length bytes))) items parts.3 tt

built_shallow : (bytes : List ℕ) (net : PlainNet) (known : Names) (items : List Item) (policy : PlainPolicy)
    → policy_built bytes net known items ≡ Ok policy → AllByRecursion HasNestedSteps items → IsAtMostDeep 321 policy
built_shallow bytes net known items policy h nested =
    let parts = policy_parts bytes net known items policy h in
    statements_shallow bytes net known [] items policy.statements parts.3 parts.1 nested tt

-- What is read is at most 321 deep: on one way down stand at most 255 operators with two sides, 65 `not` and a call.
pub read-IsAtMostDeep : {X : Type 0} (view : X → PlainPolicy) (bytes : List ℕ) (net : PlainNet) (known : Names) (items : List Item) (result : Result X PolicyFault)
    → items_spelled bytes ≡ Ok items → GivesUnless NoMemory view result (policy_built bytes net known items) → IfOk result (λ x. IsAtMostDeep 321 (view x))
read-IsAtMostDeep view bytes net known items (Ok x) e h = built_shallow bytes net known items (view x) h (items_nested bytes items e)
read-IsAtMostDeep view bytes net known items (Err f) e h = tt
