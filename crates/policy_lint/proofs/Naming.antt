-- The names of groups and how often texts stand, token by token.
use Rattle.std.proofs.Common.{◌≡◌, ℕ, ◌+◌, ◌<◌, ◌≤◌, Bool, true, false, cond, List, ◌++◌, length, get_or, take, drop, Option, Some, unwrap_or, refl, sym, ap, ◌∙◌, inl, inr}
use Rattle.std.proofs.Common.{arith, append_assoc, length-take-le}
use Rattle.std.specs.Prelude.{if◌then◌else◌}
use Rattle.std.specs.Str.{bytes_eq}
use Rattle.std.proofs.lemmas.Bool.{cases_Bool}
use Rattle.std.proofs.lemmas.List.Sums.{count_by-le-length, count_by_more_no, count_by_more_yes}
use Rattle.std.proofs.lemmas.Slice.Eq.{bytes_eq-Decides}
use Rattle.list_law.proofs.Items.{drop_from, slice_get_inside}
use Rattle.policy_tokens.specs.declared.token.Token.{Token}
use Rattle.policy_lint.specs.Groups.{group_in, group_names, named, times, token_text}

-- the names behind a token, and those behind the next one
names_next : (bytes : List ℕ) (tokens : List Token) (i : ℕ) → i < length tokens → group_names bytes (drop i tokens) ≡ named (group_in bytes (drop i tokens)) ++ group_names bytes (drop (i + 1) tokens)
names_next bytes tokens i within =
    let found = slice_get_inside tokens i within in
    let here = drop_from tokens i found.0 found.1 in
    ap (group_names bytes) here ∙ ap (λ ts. named (group_in bytes ts) ++ group_names bytes (drop (i + 1) tokens)) (sym here)

pub names_more : (bytes : List ℕ) (tokens : List Token) (i : ℕ) (old new : List (List ℕ)) (name : Option (List ℕ)) → i < length tokens → name ≡ group_in bytes (drop i tokens) → new ≡ old ++ named name
    → old ++ group_names bytes (drop i tokens) ≡ group_names bytes tokens → new ++ group_names bytes (drop (i + 1) tokens) ≡ group_names bytes tokens
names_more bytes tokens i old new name within is after before =
    ap (λ ns. ns ++ group_names bytes (drop (i + 1) tokens)) (after ∙ ap (λ n. old ++ named n) is)
    ∙ append_assoc old (named (group_in bytes (drop i tokens))) (group_names bytes (drop (i + 1) tokens))
    ∙ sym (ap (λ ns. old ++ ns) (names_next bytes tokens i within))
    ∙ before

-- a text is counted once more
pub counted_more : (bytes : List ℕ) (tokens : List Token) (i : ℕ) (d : Token) (text : List ℕ) (old new : List ℕ → ℕ) → i < length tokens → text ≡ token_text bytes (get_or tokens i d)
    → ((q : List ℕ) → new q ≡ (if bytes_eq text q then old text + 1 else old q)) → ((q : List ℕ) → old q ≡ times bytes (take i tokens) q) → (q : List ℕ) → new q ≡ times bytes (take (i + 1) tokens) q
counted_more bytes tokens i d text old new within item after before q = elim (cases_Bool (bytes_eq text q)) [
  | inl same ↦
      let is : text ≡ q = (bytes_eq-Decides text q).0 same in
      after q ∙ ap (λ b. if b then old text + 1 else old q) same ∙ ap (λ x. old x + 1) is ∙ ap (λ n. n + 1) (before q)
      ∙ sym (count_by_more_yes (λ t. bytes_eq (token_text bytes t) q) tokens i d within (ap (λ x. bytes_eq x q) (sym item) ∙ same))
  | inr other ↦
      after q ∙ ap (λ b. if b then old text + 1 else old q) other ∙ before q
      ∙ sym (count_by_more_no (λ t. bytes_eq (token_text bytes t) q) tokens i d within (ap (λ x. bytes_eq x q) (sym item) ∙ other))
]

-- and seldom enough
pub times_within : (bytes : List ℕ) (tokens : List Token) (i : ℕ) (name : List ℕ) → i < length tokens → times bytes (take i tokens) name ≤ i
times_within bytes tokens i name within =
    let few = count_by-le-length (λ t. bytes_eq (token_text bytes t) name) (take i tokens) in
    let long = length-take-le i tokens (omega (arith, within)) in
    omega (arith, few, long)

-- what a table has under one text after a change
pub count_changed : (b : Bool) (v : ℕ) (o : Option ℕ) → unwrap_or (cond b (Some v) o) 0 ≡ (if b then v else unwrap_or o 0)
count_changed true v o = refl
count_changed false v o = refl
