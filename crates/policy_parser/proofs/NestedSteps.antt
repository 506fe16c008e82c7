-- How many `not` stand one in another in the steps of an expression that is read: one, and one more for each open bracket.
use Rattle.std.proofs.Common.{◌≡◌, ℕ, zero, suc, List, [], ◌∷◌, ◌++◌, length, Option, Some, None, Ok, refl, sym, ap, ◌∙◌, subst, append_assoc}
use Rattle.std.specs.List.{AllByRecursion}
use Rattle.list_law.proofs.Each.{AllByRecursion-push}
use Rattle.net_base.specs.declared.place.Place.{Place}
use Rattle.net_base.specs.Steps.{◌>>=◌}
use Rattle.net_base.proofs.StepLemmas.{bind_ok, ok_same}
use Rattle.policy_grammar.specs.declared.lexeme.Lexeme.{Lexeme}
use Rattle.policy_grammar.specs.declared.symbol.Symbol.{Symbol}
use Rattle.policy_grammar.specs.declared.symbol.Symbol.TheVariants as symbol
use Rattle.policy_grammar.specs.Raw.{RawCall, Step, Step as step, Item}
use Rattle.policy_grammar.specs.Raw.Item.{Define, Originate, State}
use Rattle.policy_grammar.specs.Reading.{past, first_of, after, either, chain}
use Rattle.policy_grammar.specs.Names.{names_at, braced_at}
use Rattle.policy_grammar.specs.Calls.{call_at}
use Rattle.policy_grammar.specs.Ranked.{Reader, atom_with, unit_with, ranked_with, inner_at}
use Rattle.policy_grammar.specs.Items.{predicate_at, from_at, statement_at, define_at, originate_at, item_at, items_from}

-- an operator with two sides
pub data HasTwoSides : Step → Type 0 where
  above : (p : Place) → HasTwoSides (step.Above p)
  or : HasTwoSides step.Or
  and : HasTwoSides step.And

-- The steps of an expression in which at most so many `not` stand one in another.
pub data IsNested : ℕ → List Step → Type 0 where
  call : {n : ℕ} (c : RawCall) → IsNested n (step.Call c ∷ [])
  sides : {n : ℕ} {xs ys : List Step} {s : Step} → HasTwoSides s → IsNested n xs → IsNested n ys → IsNested n (xs ++ ys ++ s ∷ [])
  not : {n : ℕ} {xs : List Step} → IsNested n xs → IsNested (suc n) (xs ++ step.Not ∷ [])

one_more : {n : ℕ} {xs : List Step} → IsNested n xs → IsNested (suc n) xs
one_more (IsNested.call c) = IsNested.call c
one_more (IsNested.sides two a b) = IsNested.sides two (one_more a) (one_more b)
one_more (IsNested.not a) = IsNested.not (one_more a)

-- such steps behind others
abbrev Behind : ℕ → List Step → List Step → Type 0
Behind n out y = (xs : List Step) × (y ≡ out ++ xs) × IsNested n xs

-- what is read is such steps behind those before
abbrev Makes : ℕ → Reader → Type 0
Makes n f = (out : List Step) (ls : List Lexeme) (x : List Step × List Lexeme) → f out ls ≡ Ok x → Behind n out x.0

atom-makes : (n : ℕ) (inner : Reader) → Makes n inner → Makes n (atom_with inner)
atom-makes n inner makes out ls x e = by (past symbol.RoundOpen ls) e
  where
    by : (o : Option (Lexeme × List Lexeme))
        → either o (λ l rest. inner out rest >>= λ z. after symbol.RoundClose z.1 >>= λ r. Ok (z.0, r)) (call_at ls >>= λ z. Ok (out ++ step.Call z.0 ∷ [], z.1)) ≡ Ok x → Behind n out x.0
    by (Some q) e =
        let a = bind_ok (inner out q.1) (λ z. after symbol.RoundClose z.1 >>= λ r. Ok (z.0, r)) x e in
        let b = bind_ok (after symbol.RoundClose a.0.1) (λ r. Ok (a.0.0, r)) x a.2 in
        let same = ok_same (a.0.0, b.0) x b.2 in
        subst (λ z. Behind n out z.0) same (makes out q.1 a.0 a.1)
    by None e =
        let a = bind_ok (call_at ls) (λ z. Ok (out ++ step.Call z.0 ∷ [], z.1)) x e in
        let same = ok_same (out ++ step.Call a.0.0 ∷ [], a.0.1) x a.2 in
        subst (λ z. Behind n out z.0) same (step.Call a.0.0 ∷ [], refl, IsNested.call a.0.0)

unit-makes : (n : ℕ) (inner : Reader) → Makes n inner → Makes (suc n) (unit_with inner)
unit-makes n inner makes out ls x e = by (past symbol.Not ls) e
  where
    by : (o : Option (Lexeme × List Lexeme)) → either o (λ l rest. atom_with inner out rest >>= λ z. Ok (z.0 ++ step.Not ∷ [], z.1)) (atom_with inner out ls) ≡ Ok x → Behind (suc n) out x.0
    by (Some q) e =
        let a = bind_ok (atom_with inner out q.1) (λ z. Ok (z.0 ++ step.Not ∷ [], z.1)) x e in
        let h = atom-makes n inner makes out q.1 a.0 a.1 in
        let same = ok_same (a.0.0 ++ step.Not ∷ [], a.0.1) x a.2 in
        let whole = ap (λ z. z ++ step.Not ∷ []) h.1 ∙ append_assoc out h.0 (step.Not ∷ []) in
        subst (λ z. Behind (suc n) out z.0) same (h.0 ++ step.Not ∷ [], whole, IsNested.not h.2)
    by None e = let h = atom-makes n inner makes out ls x e in (h.0, h.1, one_more h.2)

-- one more side, with the step of its operator behind it
abbrev linked : (Lexeme → Step) → Reader → Lexeme → Reader
linked step_of side joint out ls = side out ls >>= λ x. Ok (x.0 ++ step_of joint ∷ [], x.1)

-- side { operator side }
abbrev joined : Symbol → (Lexeme → Step) → Reader → Reader
joined operator step_of side out ls = side out ls >>= λ x. chain operator (linked step_of side) (length x.1) x.0 x.1

abbrev Joins : (Lexeme → Step) → Type 0
Joins step_of = (joint : Lexeme) → HasTwoSides (step_of joint)

link-makes : (n : ℕ) (step_of : Lexeme → Step) → Joins step_of → (side : Reader) → Makes n side → (joint : Lexeme) (out so_far : List Step) (ls : List Lexeme) (x : List Step × List Lexeme)
    → Behind n out so_far → linked step_of side joint so_far ls ≡ Ok x → Behind n out x.0
link-makes n step_of joins side makes joint out so_far ls x before e =
    let s = step_of joint in
    let a = bind_ok (side so_far ls) (λ z. Ok (z.0 ++ s ∷ [], z.1)) x e in
    let h = makes so_far ls a.0 a.1 in
    let same = ok_same (a.0.0 ++ s ∷ [], a.0.1) x a.2 in
    let front = h.1 ∙ ap (λ z. z ++ h.0) before.1 ∙ append_assoc out before.0 h.0 in
    let whole = ap (λ z. z ++ s ∷ []) front ∙ append_assoc out (before.0 ++ h.0) (s ∷ []) in
    subst (λ z. Behind n out z.0) same (before.0 ++ h.0 ++ s ∷ [], whole, IsNested.sides (joins joint) before.2 h.2)

chain-makes : (n : ℕ) (operator : Symbol) (step_of : Lexeme → Step) → Joins step_of → (side : Reader) → Makes n side → (k : ℕ) (out so_far : List Step) (ls : List Lexeme) (x : List Step × List Lexeme)
    → Behind n out so_far → chain operator (linked step_of side) k so_far ls ≡ Ok x → Behind n out x.0
unfolding chain
chain-makes n operator step_of joins side makes zero out so_far ls x before e = subst (λ z. Behind n out z.0) (ok_same (so_far, ls) x e) before
chain-makes n operator step_of joins side makes (suc k) out so_far ls x before e = by (λ y ls. chain-makes n operator step_of joins side makes k out y ls x) (past operator ls) e
  where
    by : ((y : List Step) (ls : List Lexeme) → Behind n out y → chain operator (linked step_of side) k y ls ≡ Ok x → Behind n out x.0) → (o : Option (Lexeme × List Lexeme))
        → either o (λ l rest. linked step_of side l so_far rest >>= λ z. chain operator (linked step_of side) k z.0 z.1) (Ok (so_far, ls)) ≡ Ok x → Behind n out x.0
    by more (Some q) e =
        let a = bind_ok (linked step_of side q.0 so_far q.1) (λ z. chain operator (linked step_of side) k z.0 z.1) x e in
        more a.0.0 a.0.1 (link-makes n step_of joins side makes q.0 out so_far q.1 a.0 before a.1) a.2
    by more None e = subst (λ z. Behind n out z.0) (ok_same (so_far, ls) x e) before

joined-makes : (n : ℕ) (operator : Symbol) (step_of : Lexeme → Step) → Joins step_of → (side : Reader) → Makes n side → Makes n (joined operator step_of side)
joined-makes n operator step_of joins side makes out ls x e =
    let a = bind_ok (side out ls) (λ z. chain operator (linked step_of side) (length z.1) z.0 z.1) x e in
    chain-makes n operator step_of joins side makes (length a.0.1) out a.0.0 a.0.1 x (makes out ls a.0 a.1) a.2

abbrev joint_with : Reader → Reader
joint_with inner = joined symbol.And (λ l. step.And) (unit_with inner)

abbrev choice_with : Reader → Reader
choice_with inner = joined symbol.Or (λ l. step.Or) (joint_with inner)

ranked-makes : (n : ℕ) (inner : Reader) → Makes n inner → Makes (suc n) (ranked_with inner)
ranked-makes n inner makes =
    joined-makes (suc n) symbol.Above (λ l. step.Above l.place) (λ l. HasTwoSides.above l.place) (choice_with inner)
    (joined-makes (suc n) symbol.Or (λ l. step.Or) (λ l. HasTwoSides.or) (joint_with inner)
    (joined-makes (suc n) symbol.And (λ l. step.And) (λ l. HasTwoSides.and) (unit_with inner) (unit-makes n inner makes)))

inner-makes : (n : ℕ) → Makes n (inner_at n)
unfolding inner_at
inner-makes zero out ls x e = absurd cc
inner-makes (suc n) out ls x e = ranked-makes n (inner_at n) (inner-makes n) out ls x e

-- ---- items

-- a statement has such steps: at most 64 brackets are open at once
abbrev pub HasNestedSteps : Item → Type 0
HasNestedSteps (Define name members) = Unit {0}
HasNestedSteps (Originate prefix names) = Unit {0}
HasNestedSteps (State s) = IsNested 65 s.ranked

define-nested : (ls : List Lexeme) (x : Item × List Lexeme) → define_at ls ≡ Ok x → HasNestedSteps x.0
unfolding define_at
define-nested ls x e =
    let a = bind_ok (first_of symbol.Name ls) _ x e in
    let b = bind_ok (after symbol.Equals a.0.1) _ x a.2 in
    let c = bind_ok (braced_at b.0) _ x b.2 in
    let d = bind_ok (after symbol.Semicolon c.0.1) _ x c.2 in
    subst (λ z. HasNestedSteps z.0) (ok_same (Define a.0.0 c.0.0, d.0) x d.2) tt

originate-nested : (ls : List Lexeme) (x : Item × List Lexeme) → originate_at ls ≡ Ok x → HasNestedSteps x.0
unfolding originate_at
originate-nested ls x e =
    let a = bind_ok (first_of symbol.Figure ls) _ x e in
    let b = bind_ok (after symbol.At a.0.1) _ x a.2 in
    let c = bind_ok (names_at b.0) _ x b.2 in
    let d = bind_ok (after symbol.Semicolon c.0.1) _ x c.2 in
    subst (λ z. HasNestedSteps z.0) (ok_same (Originate a.0.0 c.0.0, d.0) x d.2) tt

statement-nested : (ls : List Lexeme) (x : Item × List Lexeme) → statement_at ls ≡ Ok x → HasNestedSteps x.0
unfolding statement_at
statement-nested ls x e =
    let a = bind_ok (predicate_at ls) _ x e in
    let b = bind_ok (after symbol.Arrow a.0.1) _ x a.2 in
    let c = bind_ok (ranked_with (inner_at 64) [] b.0) _ x b.2 in
    let d = bind_ok (from_at c.0.1) _ x c.2 in
    let f = bind_ok (after symbol.Semicolon d.0.1) _ x d.2 in
    let h = ranked-makes 64 (inner_at 64) (inner-makes 64) [] b.0 c.0 c.1 in
    subst (λ z. HasNestedSteps z.0) (ok_same (State (record { patterns = a.0.0; ranked = c.0.0; from = d.0.0 }), f.0) x f.2) (subst (λ z. IsNested 65 z) (sym h.1) h.2)

item-nested : (ls : List Lexeme) (x : Item × List Lexeme) → item_at ls ≡ Ok x → HasNestedSteps x.0
unfolding item_at
item-nested ls x e = by (past symbol.Define ls) (past symbol.Originate ls) e
  where
    by : (d o : Option (Lexeme × List Lexeme)) → either d (λ l rest. define_at rest) (either o (λ l rest. originate_at rest) (statement_at ls)) ≡ Ok x → HasNestedSteps x.0
    by (Some q) o e = define-nested q.1 x e
    by None (Some q) e = originate-nested q.1 x e
    by None None e = statement-nested ls x e

-- and so do all items that are read
pub items-nested : (n : ℕ) (items : List Item) (ls : List Lexeme) (all : List Item) → items_from n items ls ≡ Ok all → AllByRecursion HasNestedSteps items → AllByRecursion HasNestedSteps all
unfolding items_from
items-nested zero items ls all e before = absurd cc
items-nested (suc n) items ls all e before = by (λ xs ls. items-nested n xs ls all) (past symbol.EndOfText ls) e
  where
    by : ((xs : List Item) (ls : List Lexeme) → items_from n xs ls ≡ Ok all → AllByRecursion HasNestedSteps xs → AllByRecursion HasNestedSteps all)
        → (o : Option (Lexeme × List Lexeme)) → either o (λ l rest. Ok items) (item_at ls >>= λ x. items_from n (items ++ x.0 ∷ []) x.1) ≡ Ok all
        → AllByRecursion HasNestedSteps all
    by more (Some q) e = subst (λ z. AllByRecursion HasNestedSteps z) (ok_same items all e) before
    by more None e =
        let a = bind_ok (item_at ls) (λ x. items_from n (items ++ x.0 ∷ []) x.1) all e in
        more (items ++ a.0.0 ∷ []) a.0.1 a.2 (AllByRecursion-push HasNestedSteps items a.0.0 before (item-nested ls a.0 a.1))
