-- The statement with a number.
use Rattle.std.proofs.Common.{◌≡◌, ℕ, zero, suc, ◌-◌, ◌<◌, ◌≤◌, List, length, map, get_or, Some, refl, sym, ap, ◌∙◌, arith}
use Rattle.std.specs.Prelude.{slice_get, option_map}
use Rattle.std.proofs.lemmas.Option.{slice_get_read, slice_get-map}
use Rattle.policy_base.specs.Policies.{PlainPolicy, PlainStatement, PolicyLists, policy_of, plain_statement, statement_at}
use Rattle.policy_base.specs.declared.policy.Statement.{Statement}

pub statement-some : (policy : PlainPolicy) (n : ℕ) (s : PlainStatement) → 1 ≤ n → slice_get policy.statements (n - 1) ≡ Some s → statement_at policy n ≡ Some s
statement-some policy zero s least at = absurd (omega arith)
statement-some policy (suc k) s least at = let e : k ≡ suc k - 1 = omega arith in ap (slice_get policy.statements) e ∙ at

pub statement-at : (policy : PolicyLists) (ss : List Statement) (n : ℕ) (s : Statement) → ss ≡ policy.statements → (n ≡ 0 → ⊥) → n ≤ length ss → s ≡ get_or ss (n - 1) s
    → Some (plain_statement s) ≡ statement_at (policy_of policy) n
statement-at policy ss n s same some within read =
    let at : slice_get ss (n - 1) ≡ Some s = slice_get_read ss (length ss) (n - 1) s refl (omega arith) read in
    let plain : slice_get (map plain_statement policy.statements) (n - 1) ≡ Some (plain_statement s) =
    slice_get-map plain_statement policy.statements (n - 1) ∙ ap (λ (l : List Statement). option_map plain_statement (slice_get l (n - 1))) (sym same) ∙ ap (option_map plain_statement) at in
    sym (statement-some (policy_of policy) n (plain_statement s) (omega arith) plain)
