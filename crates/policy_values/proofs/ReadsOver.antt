-- What is read, as what it comes to: step by step, and link by link.
use Rattle.std.proofs.Common.{◌≡◌, ℕ, zero, suc, List, [], ◌∷◌, ◌++◌, length, Option, Some, None, Result, Ok, Err, refl, sym, ap, ◌∙◌}
use Rattle.net_base.specs.Steps.{◌>>=◌}
use Rattle.net_base.proofs.StepLemmas.{ok_same}
use Rattle.policy_tokens.specs.declared.fault.PolicyFault.{PolicyFault}
use Rattle.policy_grammar.specs.declared.lexeme.Lexeme.{Lexeme}
use Rattle.policy_grammar.specs.declared.symbol.Symbol.{Symbol}
use Rattle.policy_grammar.specs.declared.symbol.Symbol.TheVariants.{Name, Comma}
use Rattle.policy_grammar.specs.Reading.{Read, past, first_of, either, chain}
use Rattle.policy_grammar.specs.Names.{name_link, names_at}
use Rattle.policy_values.specs.NameSets.{link_by}
use Rattle.policy_values.specs.Reads.{over}

-- behind a step
pub over_step : {A B C : Type 0} (v : B → C) (r : Result A PolicyFault) (k : A → Read C) (k' : A → Read B) → ((x : A) → k x ≡ over v (k' x)) → (r >>= k) ≡ over v (r >>= k')
over_step v (Ok x) k k' same = same x
over_step v (Err e) k k' same = refl

-- behind what was read
pub over_read : {A B C D : Type 0} (f : A → B) (v : C → D) (r : Read A) (k : B × List Lexeme → Read D) (k' : A × List Lexeme → Read C)
    → ((x : A × List Lexeme) → k (f x.0, x.1) ≡ over v (k' x)) → (over f r >>= k) ≡ over v (r >>= k')
over_read f v (Ok x) k k' same = same x
over_read f v (Err e) k k' same = refl

over_link : {A B : Type 0} (f : A → B) (link : Lexeme → A → List Lexeme → Read A) (seen : Lexeme → B → List Lexeme → Read B)
    → ((l : Lexeme) (x : A) (ls : List Lexeme) → seen l (f x) ls ≡ over f (link l x ls))
    → (x : A) (ls : List Lexeme) (o : Option (Lexeme × List Lexeme)) (k : B × List Lexeme → Read B) (k' : A × List Lexeme → Read A) → ((y : A × List Lexeme) → k (f y.0, y.1) ≡ over f (k' y))
    → either o (λ l rest. seen l (f x) rest >>= k) (Ok (f x, ls)) ≡ over f (either o (λ l rest. link l x rest >>= k') (Ok (x, ls)))
over_link f link seen same x ls None k k' more = refl
over_link f link seen same x ls (Some (l, rest)) k k' more = rw (same l x rest) (over_read f f (link l x rest) k k' more)

-- A chain whose links work on what the links so far come to.
pub over_chain : {A B : Type 0} (f : A → B) (joint : Symbol) (link : Lexeme → A → List Lexeme → Read A) (seen : Lexeme → B → List Lexeme → Read B)
    → ((l : Lexeme) (x : A) (ls : List Lexeme) → seen l (f x) ls ≡ over f (link l x ls))
    → (n : ℕ) (x : A) (ls : List Lexeme) → chain joint seen n (f x) ls ≡ over f (chain joint link n x ls)
unfolding chain
over_chain f joint link seen same zero x ls = refl
over_chain f joint link seen same (suc n) x ls =
    over_link f link seen same x ls (past joint ls) (λ y. chain joint seen n y.0 y.1) (λ y. chain joint link n y.0 y.1) (λ y. over_chain f joint link seen same n y.0 y.1)

-- behind such a chain
pub over_links : {A B C D : Type 0} (f : A → B) (v : C → D) (joint : Symbol) (link : Lexeme → A → List Lexeme → Read A) (seen : Lexeme → B → List Lexeme → Read B)
    → ((l : Lexeme) (x : A) (ls : List Lexeme) → seen l (f x) ls ≡ over f (link l x ls))
    → (n : ℕ) (x : A) (y : B) (ls : List Lexeme) → y ≡ f x → (k : B × List Lexeme → Read D) (k' : A × List Lexeme → Read C) → ((z : A × List Lexeme) → k (f z.0, z.1) ≡ over v (k' z))
    → (chain joint seen n y ls >>= k) ≡ over v (chain joint link n x ls >>= k')
over_links {A} {B} {C} {D} f v joint link seen same n x y ls is k k' more =
    ap (λ (z : B). chain joint seen n z ls >>= k) is ∙ ap (λ (r : Read B). r >>= k) (over_chain f joint link seen same n x ls) ∙ over_read f v (chain joint link n x ls) k k' more

-- what was read is the same where what it gives is
pub read_same : {A : Type 0} (x y : A) (rest : List Lexeme) → x ≡ y → (let r : Read A = Ok (x, rest) in r ≡ Ok (y, rest))
read_same {A} x y rest is = ap (λ (z : A). let r : Read A = Ok (z, rest) in r) is

-- what was read where its value is this one
pub over_ok : {A B : Type 0} (f : A → B) (r : Read A) (y : B) (rest : List Lexeme) → over f r ≡ Ok (y, rest) → (x : A) × (r ≡ Ok (x, rest)) × (f x ≡ y)
over_ok {A} {B} f (Ok x) y rest e =
    let found : B × List Lexeme = (f x.0, x.1) in
    let told : B × List Lexeme = (y, rest) in
    let same : found ≡ told = ok_same found told e in
    (x.0, ap (λ (z : List Lexeme). let p : A × List Lexeme = (x.0, z) in let r : Read A = Ok p in r) (ap (λ (q : B × List Lexeme). q.1) same), ap (λ (q : B × List Lexeme). q.0) same)
over_ok f (Err d) y rest e = absurd cc

-- the fault of what has no value
pub over_err : {A B : Type 0} (f : A → B) (r : Read A) (e : PolicyFault) → over f r ≡ Err e → r ≡ Err e
over_err f (Ok x) e h = absurd cc
over_err f (Err d) e h = let same : d ≡ e = cc in ap Err same

-- names that are joined by commas, where one name more adds to what those before came to
pub over_names : {B : Type 0} (f : List Lexeme → B) (added : B → Lexeme → B) → ((xs : List Lexeme) (l : Lexeme) → f (xs ++ l ∷ []) ≡ added (f xs) l)
    → (ls : List Lexeme) (name : Lexeme) (rest : List Lexeme) (first : B) (r : Read B)
    → first_of Name ls ≡ Ok (name, rest) → first ≡ f (name ∷ []) → chain Comma (link_by added) (length rest) first rest ≡ r → over f (names_at ls) ≡ r
unfolding names_at
over_names {B} f added more ls name rest first r here is e =
    rw here (sym (over_chain f Comma name_link (link_by added) one_more (length rest) (name ∷ []) rest) ∙ ap (λ (s : B). chain Comma (link_by added) (length rest) s rest) (sym is) ∙ e)
  where
    one_more : (joint : Lexeme) (xs ls : List Lexeme) → link_by added joint (f xs) ls ≡ over f (name_link joint xs ls)
    one_more joint xs ls = by (first_of Name ls)
      where
        by : (s : Read Lexeme) → (s >>= λ x. Ok (added (f xs) x.0, x.1)) ≡ over f (s >>= λ x. Ok (xs ++ x.0 ∷ [], x.1))
        by (Ok x) = rw (more xs x.0) refl
        by (Err e) = refl
