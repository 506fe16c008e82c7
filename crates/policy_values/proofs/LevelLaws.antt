-- To do at once what the steps of an expression do is to read the steps and to do it then.
use Rattle.std.proofs.Common.{◌≡◌, ℕ, zero, suc, List, [], ◌∷◌, ◌++◌, length, Option, Some, None, Result, Ok, Err, refl, sym, ap, ◌∙◌}
use Rattle.net_base.specs.Steps.{◌>>=◌}
use Rattle.policy_tokens.specs.declared.fault.PolicyFault.{PolicyFault}
use Rattle.policy_grammar.specs.declared.lexeme.Lexeme.{Lexeme}
use Rattle.policy_grammar.specs.declared.symbol.Symbol.TheVariants as symbol
use Rattle.policy_grammar.specs.Raw.{RawCall, Step}
use Rattle.policy_grammar.specs.Raw.Step.{Call, Not}
use Rattle.policy_grammar.specs.Reading.{Read, past, after, either, chain}
use Rattle.policy_grammar.specs.Calls.{call_at}
use Rattle.policy_grammar.specs.Ranked as steps
use Rattle.policy_grammar.specs.Ranked.{Level, Ranked, Choice, Joint, operator_of, step_of}
use Rattle.policy_values.specs.Reads.{over}
use Rattle.policy_values.specs.Levels as levels

-- what was done for some steps, and then for one more, is what is done for all of them
abbrev pub Follows : {A : Type 0} → (Step → A → A) → (List Step → A) → Type 0
Follows act done = (out : List Step) (s : Step) → done (out ++ s ∷ []) ≡ act s (done out)

module _ {A : Type 0} (act : Step → A → A) (done : List Step → A) (follows : Follows act done) where
  -- a reader that acts does what the steps of the other one do
  abbrev Does : levels.Reader A → steps.Reader → Type 0
  Does acting reading = (out : List Step) (ls : List Lexeme) → acting (done out) ls ≡ over done (reading out ls)

  -- one step behind what was read
  stepped : (s : Step) (read : Read (List Step)) → levels.with_step act s (over done read) ≡ over done (steps.with_step s read)
  stepped s (Ok x) = ap (λ z. Ok (z, x.1)) (sym (follows x.0 s))
  stepped s (Err e) = refl

  rest_closed : (out : List Step) (rest : Result (List Lexeme) PolicyFault) → (rest >>= λ r. Ok (done out, r)) ≡ over done (rest >>= λ r. Ok (out, r))
  rest_closed out (Ok r) = refl
  rest_closed out (Err e) = refl

  closed : (read : Read (List Step)) → levels.bracket_closed act (over done read) ≡ over done (read >>= λ x. after symbol.RoundClose x.1 >>= λ rest. Ok (x.0, rest))
  closed (Ok x) = rest_closed x.0 (after symbol.RoundClose x.1)
  closed (Err e) = refl

  called : (out : List Step) (read : Read RawCall) → (read >>= λ x. Ok (act (Call x.0) (done out), x.1)) ≡ over done (read >>= λ x. Ok (out ++ Call x.0 ∷ [], x.1))
  called out (Ok x) = ap (λ z. Ok (z, x.1)) (sym (follows out (Call x.0)))
  called out (Err e) = refl

  atom : (acting : levels.Reader A) (reading : steps.Reader) → Does acting reading → Does (levels.atom_with act acting) (steps.atom_with reading)
  atom acting reading does out ls = by (past symbol.RoundOpen ls)
    where
      by : (o : Option (Lexeme × List Lexeme))
          → either o (λ l rest. levels.bracket_closed act (acting (done out) rest)) (levels.call_step act (done out) ls)
          ≡ over done (either o (λ l rest. reading out rest >>= λ x. after symbol.RoundClose x.1 >>= λ r. Ok (x.0, r)) (steps.call_step out ls))
      by (Some q) = ap (levels.bracket_closed act) (does out q.1) ∙ closed (reading out q.1)
      by None = called out (call_at ls)

  unit : (acting : levels.Reader A) (reading : steps.Reader) → Does acting reading → Does (levels.unit_with act acting) (steps.unit_with reading)
  unit acting reading does out ls = by (past symbol.Not ls)
    where
      by : (o : Option (Lexeme × List Lexeme))
          → either o (λ l rest. levels.with_step act Not (levels.atom_with act acting (done out) rest)) (levels.atom_with act acting (done out) ls)
          ≡ over done (either o (λ l rest. steps.with_step Not (steps.atom_with reading out rest)) (steps.atom_with reading out ls))
      by (Some q) = ap (levels.with_step act Not) (atom acting reading does out q.1) ∙ stepped Not (steps.atom_with reading out q.1)
      by None = atom acting reading does out ls

  linked : (level : Level) (acting : levels.Reader A) (reading : steps.Reader) → Does acting reading → (joint : Lexeme)
      → Does (levels.side_link act level acting joint) (steps.side_link level reading joint)
  linked level acting reading does joint out ls = ap (levels.with_step act (step_of level joint)) (does out ls) ∙ stepped (step_of level joint) (reading out ls)

  -- what goes on does so from what was done
  goes_on : (acting : levels.Reader A) (reading : List Step → List Lexeme → Read (List Step)) → Does acting reading → (read : Read (List Step))
      → (over done read >>= λ x. acting x.0 x.1) ≡ over done (read >>= λ x. reading x.0 x.1)
  goes_on acting reading does (Ok x) = does x.0 x.1
  goes_on acting reading does (Err e) = refl

  chained : (level : Level) (acting : levels.Reader A) (reading : steps.Reader) → Does acting reading → (n : ℕ)
      → Does (chain (operator_of level) (levels.side_link act level acting) n) (chain (operator_of level) (steps.side_link level reading) n)
  unfolding chain
  chained level acting reading does zero out ls = refl
  chained level acting reading does (suc n) out ls = by (chained level acting reading does n) (past (operator_of level) ls)
    where
      by : Does (chain (operator_of level) (levels.side_link act level acting) n) (chain (operator_of level) (steps.side_link level reading) n) → (o : Option (Lexeme × List Lexeme))
          → either o (λ l rest. levels.side_link act level acting l (done out) rest >>= λ x. chain (operator_of level) (levels.side_link act level acting) n x.0 x.1) (Ok (done out, ls))
          ≡ over done (either o (λ l rest. steps.side_link level reading l out rest >>= λ x. chain (operator_of level) (steps.side_link level reading) n x.0 x.1) (Ok (out, ls)))
      by more (Some q) =
          ap (λ z. z >>= λ x. chain (operator_of level) (levels.side_link act level acting) n x.0 x.1) (linked level acting reading does q.0 out q.1)
          ∙ goes_on (chain (operator_of level) (levels.side_link act level acting) n) (chain (operator_of level) (steps.side_link level reading) n) more (steps.side_link level reading q.0 out q.1)
      by more None = refl

  joined : (level : Level) (acting : levels.Reader A) (reading : steps.Reader) → Does acting reading → Does (levels.joined act level acting) (steps.joined level reading)
  joined level acting reading does out ls =
      ap (λ z. z >>= λ x. chain (operator_of level) (levels.side_link act level acting) (length x.1) x.0 x.1) (does out ls)
      ∙ goes_on (λ z rest. chain (operator_of level) (levels.side_link act level acting) (length rest) z rest)
      (λ z rest. chain (operator_of level) (steps.side_link level reading) (length rest) z rest)
      (λ z rest. chained level acting reading does (length rest) z rest) (reading out ls)

  ranked : (acting : levels.Reader A) (reading : steps.Reader) → Does acting reading → Does (levels.ranked_with act acting) (steps.ranked_with reading)
  ranked acting reading does =
      joined Ranked (levels.choice_with act acting) (steps.choice_with reading)
      (joined Choice (levels.joint_with act acting) (steps.joint_with reading)
      (joined Joint (levels.unit_with act acting) (steps.unit_with reading) (unit acting reading does)))

  inner : (n : ℕ) → Does (levels.inner_at act n) (steps.inner_at n)
  unfolding levels.inner_at steps.inner_at
  inner zero out ls = refl
  inner (suc n) out ls = ranked (levels.inner_at act n) (steps.inner_at n) (inner n) out ls

  -- an expression in which so many brackets may be open
  pub ranked_read : (n : ℕ) (out : List Step) (ls : List Lexeme) → levels.joined_at act Ranked n (done out) ls ≡ over done (steps.ranked_with (steps.inner_at n) out ls)
  ranked_read n out ls = ranked (levels.inner_at act n) (steps.inner_at n) (inner n) out ls
