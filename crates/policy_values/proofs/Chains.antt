-- A chain that is read link by link, as a loop does.
use Rattle.std.proofs.Common.{◌≡◌, ℕ, zero, suc, ◌≤◌, ◌<◌, false, List, [], ◌∷◌, length, Ok, Err, Some, None, refl, sym, ◌∙◌, arith}
use Rattle.std.specs.Prelude.{◌==◌}
use Rattle.policy_tokens.specs.declared.fault.PolicyFault.{PolicyFault}
use Rattle.policy_grammar.specs.declared.lexeme.Lexeme.{Lexeme}
use Rattle.policy_grammar.specs.declared.symbol.Symbol.{Symbol}
use Rattle.policy_grammar.specs.Symbols.{number_of}
use Rattle.policy_grammar.specs.Reading.{Read, past, chain}

-- What was read so far leads to the whole chain, as long as the number is at least that of the lexemes that are left.
abbrev pub LeadsTo : {A : Type 0} → Symbol → (Lexeme → A → List Lexeme → Read A) → A → List Lexeme → Read A → Type 0
LeadsTo joint link so_far ls total = (n : ℕ) × (length ls ≤ n) × (chain joint link n so_far ls ≡ total)

-- What was read so far leads to the chain that began here.
abbrev pub LeadsFrom : {A : Type 0} → Symbol → (Lexeme → A → List Lexeme → Read A) → A → List Lexeme → A → List Lexeme → Type 0
LeadsFrom joint link first start so_far ls = LeadsTo joint link so_far ls (chain joint link (length start) first start)

-- no link was read yet
pub begins : {A : Type 0} (symbol joint : Symbol) (link : Lexeme → A → List Lexeme → Read A) (so_far : A) (ls : List Lexeme)
    → symbol ≡ joint → LeadsTo symbol link so_far ls (chain joint link (length ls) so_far ls)
begins symbol joint link so_far ls is = (length ls, omega arith, rw is refl)

-- one link more
pub goes_on : {A : Type 0} (joint : Symbol) (link : Lexeme → A → List Lexeme → Read A) (ls : List Lexeme) {so_far next : A} {rest after : List Lexeme} {l : Lexeme} {total : Read A}
    → LeadsTo joint link so_far ls total → past joint ls ≡ Some (l, rest) → link l so_far rest ≡ Ok (next, after) → length after < length ls → LeadsTo joint link next after total
unfolding chain
goes_on joint link ls (zero, le, is) here read fewer = absurd (omega (arith, le, fewer))
goes_on joint link ls {so_far = so_far} {next = next} {after = after} (suc n, le, is) here read fewer =
    let one : chain joint link (suc n) so_far ls ≡ chain joint link n next after = rw (here, read) refl in
    (n, omega (arith, le, fewer), sym one ∙ is)

-- a link that isn't there
pub stops : {A : Type 0} (joint : Symbol) (link : Lexeme → A → List Lexeme → Read A) (ls : List Lexeme) {so_far : A} {rest : List Lexeme} {l : Lexeme} {e : PolicyFault} {total : Read A}
    → LeadsTo joint link so_far ls total → past joint ls ≡ Some (l, rest) → link l so_far rest ≡ Err e → total ≡ Err e
unfolding chain
stops joint link [] lead here read = absurd cc
stops joint link (l ∷ ls) (zero, le, is) here read = absurd (omega (arith, le))
stops joint link (l ∷ ls) {so_far = so_far} {e = e} (suc n, le, is) here read =
    let one : chain joint link (suc n) so_far (l ∷ ls) ≡ Err e = rw (here, read) refl in
    sym is ∙ one

-- no joint comes at once
pub unjoined : {A : Type 0} (joint : Symbol) (link : Lexeme → A → List Lexeme → Read A) (n : ℕ) (so_far : A) (l : Lexeme) (ls : List Lexeme)
    → (number_of l.symbol == number_of joint) ≡ false → chain joint link n so_far (l ∷ ls) ≡ Ok (so_far, l ∷ ls)
unfolding chain
unjoined joint link zero so_far l ls none = refl
unjoined joint link (suc n) so_far l ls none = rw none refl

-- no joint comes
pub ends : {A : Type 0} (joint : Symbol) (link : Lexeme → A → List Lexeme → Read A) {so_far : A} {ls : List Lexeme} {total : Read A}
    → LeadsTo joint link so_far ls total → past joint ls ≡ None → total ≡ Ok (so_far, ls)
unfolding chain
ends joint link (zero, le, is) none = sym is
ends joint link (suc n, le, is) none = sym is ∙ rw none refl
