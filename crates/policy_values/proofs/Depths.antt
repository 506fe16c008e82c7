-- How many brackets more may be open.
use Rattle.std.proofs.Common.{◌≡◌, ◌≢◌, ℕ, zero, suc, ◌-◌, List, Err, refl, arith}
use Rattle.policy_grammar.specs.declared.lexeme.Lexeme.{Lexeme}
use Rattle.policy_grammar.specs.Raw.{Step}
use Rattle.policy_grammar.specs.Reading.{refused}
use Rattle.policy_grammar.specs.Ranked.{Ranked}
use Rattle.policy_values.specs.Levels.{joined_at, inner_at}

-- no bracket may be open
pub inner_at-none : {A : Type 0} (act : Step → A → A) (depth : ℕ) (out : A) (ls : List Lexeme) → depth ≡ 0 → inner_at act depth out ls ≡ Err (refused ls)
unfolding inner_at
inner_at-none act zero out ls none = refl
inner_at-none act (suc n) out ls none = absurd (omega arith)

-- one bracket less may be open
pub inner_at-some : {A : Type 0} (act : Step → A → A) (depth : ℕ) (out : A) (ls : List Lexeme) → depth ≢ 0 → inner_at act depth out ls ≡ joined_at act Ranked (depth - 1) out ls
unfolding inner_at
inner_at-some act zero out ls some = absurd (some refl)
inner_at-some act (suc n) out ls some = let k : suc n - 1 ≡ n = omega arith in rw k refl
