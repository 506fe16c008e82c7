-- What is read of a text has its form: the grammar says so, and no bracket of the text is too deep.
use Rattle.std.proofs.Common.{◌≡◌, ℕ, suc, ◌+◌, ◌≤◌, Bool, true, false, List, [], ◌∷◌, ◌++◌, length, Some, None, Ok, refl, sym, ap, ◌∙◌, subst, arith, append_assoc}
use Rattle.std.proofs.Common.{inl, inr, ltb-true, leb-false}
use Rattle.std.specs.Prelude.{◌-◌, ◌<◌, nat_lt, nat_le, if◌then◌else◌}
use Rattle.std.specs.List.{AllByRecursion}
use Rattle.std.proofs.lemmas.Bool.{cases_lt, lt-ltb}
use Rattle.net_base.specs.declared.place.Place.{Place}
use Rattle.policy_tokens.specs.Places.{place_of}
use Rattle.policy_grammar.specs.declared.lexeme.Lexeme.{Lexeme}
use Rattle.policy_grammar.specs.declared.symbol.Symbol.{Symbol}
use Rattle.policy_grammar.specs.declared.symbol.Symbol.TheVariants as symbol
use Rattle.policy_words.specs.declared.word.CallWord.TheVariants as word
use Rattle.policy_grammar.specs.Raw.{Arg, RawCall, RawPattern, Step, Step as step, Item}
use Rattle.policy_grammar.specs.Deep.{open_behind, is_too_deep, first_deep}
use Rattle.policy_grammar.specs.Lexemes.{end_of}
use Rattle.policy_parser.specs.Spelled.{items_spelled}
use Rattle.grammar_law.specs.Grammar.{Is, Rule, IsMore, IsList, IsName, IsNames, IsGroup, IsSet, IsOne, StandsAlone, IsCall, front_place, IsRanked, IsChoice, IsJoint}
use Rattle.grammar_law.specs.Grammar.{IsUnit, IsAtom, IsPattern, IsPredicate, IsFrom, IsItem, IsPolicy}
use Rattle.grammar_law.proofs.TextLaws.{read-policy}
use Rattle.policy_text.proofs.Forms.{Tree, steps_of, has_brackets, one_if, brackets_of, AllCalls, IsNamed, IsArg, IsCallForm, HasForm}
use Rattle.policy_parser.proofs.BuiltParts.{items_parts}

-- ---- room for brackets

-- where n brackets are open before these tokens, no bracket of them is too deep
abbrev Fits : ℕ → List Lexeme → Type 0
Fits n ls = first_deep n ls ≡ None

-- a symbol that is no round bracket
abbrev IsPlain : Symbol → Type 0
IsPlain s = (n : ℕ) → (is_too_deep n s ≡ false) × (open_behind n s ≡ n)

passes : (s : Symbol) → IsPlain s → (n : ℕ) (l : Lexeme) (ls : List Lexeme) → Is s l → Fits n (l ∷ ls) → Fits n ls
passes s plain n l ls i fits = let is : l.symbol ≡ s = i.symbol in let step : first_deep n (l ∷ ls) ≡ first_deep n ls = rw (is, (plain n).0, (plain n).1) refl in sym step ∙ fits

opened : (n : ℕ) (l : Lexeme) (ls : List Lexeme) → Is symbol.RoundOpen l → Fits n (l ∷ ls) → (n < 64) × Fits (n + 1) ls
opened n l ls i fits = by (nat_le 64 n) refl (subst (λ (s : Symbol). (if is_too_deep n s then Some l.place else first_deep (open_behind n s) ls) ≡ None) i.symbol fits)
  where
    by : (b : Bool) → nat_le 64 n ≡ b → (if b then Some l.place else first_deep (n + 1) ls) ≡ None → (n < 64) × Fits (n + 1) ls
    by true e h = absurd cc
    by false e h = (leb-false 64 n e, h)

closed : (n : ℕ) (l : Lexeme) (ls : List Lexeme) → Is symbol.RoundClose l → Fits (n + 1) (l ∷ ls) → Fits n ls
closed n l ls i fits =
    let is : l.symbol ≡ symbol.RoundClose = i.symbol in
    let back : n + 1 - 1 ≡ n = omega arith in
    let step : first_deep (n + 1) (l ∷ ls) ≡ first_deep n ls = rw (is, back) refl in
    sym step ∙ fits

-- behind these tokens there is the same room as before them
abbrev Leaves : List Lexeme → Type 0
Leaves ts = (k : ℕ) (ms : List Lexeme) → Fits k (ts ++ ms) → Fits k ms

one_leaves : (s : Symbol) → IsPlain s → {l : Lexeme} → Is s l → Leaves (l ∷ [])
one_leaves s plain {l} i k ms fits = passes s plain k l ms i fits

both_leave : (ts us : List Lexeme) → Leaves ts → Leaves us → Leaves (ts ++ us)
both_leave ts us a b k ms fits = b k ms (a k (us ++ ms) (subst (Fits k) (append_assoc ts us ms) fits))

round_leaves : (o c : Lexeme) (ls : List Lexeme) → Is symbol.RoundOpen o → Is symbol.RoundClose c → Leaves ls → Leaves (o ∷ (ls ++ c ∷ []))
round_leaves o c ls i j inside k ms fits =
    let x = opened k o ((ls ++ c ∷ []) ++ ms) i fits in
    closed k c ms j (inside (k + 1) (c ∷ ms) (subst (Fits (k + 1)) (append_assoc ls (c ∷ []) ms) x.1))

name_leaves : {n : Lexeme} {ts : List Lexeme} → IsName n ts → Leaves ts
name_leaves (IsName.name i) = one_leaves symbol.Name (λ n. (refl, refl)) i

more_leave : {A : Type 0} (joint : Symbol) → IsPlain joint → {One : Rule A} → ((x : A) (ts : List Lexeme) → One x ts → Leaves ts)
    → {xs : List A} {ts : List Lexeme} → IsMore joint One xs ts → Leaves ts
more_leave joint plain one IsMore.none = λ k ms fits. fits
more_leave joint plain one (IsMore.more {j = j} {x = y} {ts = ts} {us = us} i x xs) =
    both_leave (j ∷ ts) us (both_leave (j ∷ []) ts (one_leaves joint plain i) (one y ts x)) (more_leave joint plain one xs)

list_leaves : {A : Type 0} (joint : Symbol) → IsPlain joint → {One : Rule A} → ((x : A) (ts : List Lexeme) → One x ts → Leaves ts)
    → {xs : List A} {ts : List Lexeme} → IsList joint One xs ts → Leaves ts
list_leaves joint plain one (IsList.list {x = y} {ts = ts} {us = us} x xs) = both_leave ts us (one y ts x) (more_leave joint plain one xs)

names_leave : {ns ts : List Lexeme} → IsNames ns ts → Leaves ts
names_leave is = list_leaves symbol.Comma (λ n. (refl, refl)) (λ x ts is. name_leaves is) is

group_leaves : {ns ts : List Lexeme} → IsGroup ns ts → Leaves ts
group_leaves (IsGroup.group {o = o} {c = c} {ts = ts} i names j) =
    both_leave (o ∷ ts) (c ∷ []) (both_leave (o ∷ []) ts (one_leaves symbol.BraceOpen (λ n. (refl, refl)) i) (names_leave names)) (one_leaves symbol.BraceClose (λ n. (refl, refl)) j)

set_leaves : {x : Arg} {ts : List Lexeme} → IsSet x ts → Leaves ts
set_leaves (IsSet.any i) = one_leaves (symbol.Call word.Any) (λ n. (refl, refl)) i
set_leaves (IsSet.names is) = names_leave is

place_leaves : {x : Arg} {ts : List Lexeme} → IsOne x ts → Leaves ts
place_leaves (IsOne.any i) = one_leaves (symbol.Call word.Any) (λ n. (refl, refl)) i
place_leaves (IsOne.name i) = name_leaves i
place_leaves (IsOne.group is) = group_leaves is

comma_leaves : {m : Lexeme} → Is symbol.Comma m → Leaves (m ∷ [])
comma_leaves i = one_leaves symbol.Comma (λ n. (refl, refl)) i

two_leave : (ts us : List Lexeme) (m : Lexeme) → Leaves ts → Is symbol.Comma m → Leaves us → Leaves (ts ++ m ∷ us)
two_leave ts us m a i b = both_leave ts (m ∷ us) a (both_leave (m ∷ []) us (comma_leaves i) b)

call_leaves : {x : RawCall} {ts : List Lexeme} → IsCall x ts → Leaves ts
call_leaves (IsCall.alone StandsAlone.any i) = one_leaves (symbol.Call word.Any) (λ n. (refl, refl)) i
call_leaves (IsCall.alone StandsAlone.drop i) = one_leaves (symbol.Call word.Drop) (λ n. (refl, refl)) i
call_leaves (IsCall.alone StandsAlone.internal i) = one_leaves (symbol.Call word.Internal) (λ n. (refl, refl)) i
call_leaves (IsCall.sets {one = one} {w = w} {o = o} {c = c} {ts = ts} {us = us} iw io x rest ic) =
    both_leave (w ∷ []) (o ∷ ((ts ++ us) ++ c ∷ [])) (one_leaves (symbol.Call (word.Of one)) (λ n. (refl, refl)) iw)
    (round_leaves o c (ts ++ us) io ic (both_leave ts us (set_leaves x) (more_leave symbol.Above (λ n. (refl, refl)) (λ x ts is. set_leaves is) rest)))
call_leaves (IsCall.link {w = w} {o = o} {m = m} {c = c} {ts = ts} {us = us} iw io x im y ic) =
    both_leave (w ∷ []) (o ∷ ((ts ++ m ∷ us) ++ c ∷ [])) (one_leaves (symbol.Call word.Link) (λ n. (refl, refl)) iw)
    (round_leaves o c (ts ++ m ∷ us) io ic (two_leave ts us m (place_leaves x) im (place_leaves y)))
call_leaves (IsCall.path {w = w} {o = o} {m = m} {c = c} {ts = ts} {us = us} {vs = vs} iw io x im y rest ic) =
    both_leave (w ∷ []) (o ∷ ((ts ++ m ∷ us ++ vs) ++ c ∷ [])) (one_leaves (symbol.Call word.Path) (λ n. (refl, refl)) iw)
    (round_leaves o c (ts ++ m ∷ us ++ vs) io ic
    (both_leave (ts ++ m ∷ us) vs (two_leave ts us m (place_leaves x) im (place_leaves y)) (more_leave symbol.Comma (λ n. (refl, refl)) (λ x ts is. place_leaves is) rest)))

-- ---- names, sets and calls

are_named : {ns ts : List Lexeme} → IsNames ns ts → IsNamed ns
are_named (IsList.list one xs) = tt

group_named : {ns ts : List Lexeme} → IsGroup ns ts → IsNamed ns
group_named (IsGroup.group o names c) = are_named names

set_arg : {x : Arg} {ts : List Lexeme} → IsSet x ts → IsArg x
set_arg (IsSet.any i) = tt
set_arg (IsSet.names is) = are_named is

one_arg : {x : Arg} {ts : List Lexeme} → IsOne x ts → IsArg x
one_arg (IsOne.any i) = tt
one_arg (IsOne.name i) = tt
one_arg (IsOne.group is) = group_named is

more_args : {joint : Symbol} {One : Rule Arg} → ((x : Arg) (ts : List Lexeme) → One x ts → IsArg x) → {xs : List Arg} {ts : List Lexeme} → IsMore joint One xs ts → AllByRecursion IsArg xs
more_args one IsMore.none = tt
more_args one (IsMore.more {x = y} {ts = ts} j x xs) = (one y ts x, more_args one xs)

-- without a `>>` there is no further set
alone : {One : Rule Arg} {xs : List Arg} {ts : List Lexeme} → IsMore symbol.Above One xs ts → front_place ts ≡ None → suc (length xs) ≡ 1
alone IsMore.none none = refl
alone (IsMore.more j x xs) none = absurd cc

call_form : {x : RawCall} {ts : List Lexeme} → IsCall x ts → IsCallForm x
call_form (IsCall.alone StandsAlone.any i) = record { count = tt; args = tt }
call_form (IsCall.alone StandsAlone.drop i) = record { count = tt; args = tt }
call_form (IsCall.alone StandsAlone.internal i) = record { count = tt; args = tt }
call_form (IsCall.sets {xs = xs} {us = us} w o x rest c) = record { count = (omega arith, λ none. alone rest none); args = (set_arg x, more_args (λ x ts is. set_arg is) rest) }
call_form (IsCall.link w o x m y c) = record { count = refl; args = (one_arg x, (one_arg y, tt)) }
call_form (IsCall.path w o x m y rest c) = record { count = omega arith; args = (one_arg x, (one_arg y, more_args (λ x ts is. one_arg is) rest)) }

-- ---- brackets

at_most_one : (b : Bool) → one_if b ≤ 1
at_most_one true = omega arith
at_most_one false = omega arith

-- a word with a bracket behind it
one_open : (s : Symbol) → IsPlain s → (k : ℕ) (w o : Lexeme) (ls : List Lexeme) (b : Bool) → Is s w → Is symbol.RoundOpen o → Fits k (w ∷ o ∷ ls) → one_if b ≤ 64 - k
one_open s plain k w o ls b i j fits = let room = opened k o ls j (passes s plain k w (o ∷ ls) i fits) in omega (arith, room.0, at_most_one b)

call_brackets : {x : RawCall} {ts : List Lexeme} → IsCall x ts → (k : ℕ) (ms : List Lexeme) → Fits k (ts ++ ms) → one_if (has_brackets x.word) ≤ 64 - k
call_brackets (IsCall.alone StandsAlone.any i) k ms fits = omega arith
call_brackets (IsCall.alone StandsAlone.drop i) k ms fits = omega arith
call_brackets (IsCall.alone StandsAlone.internal i) k ms fits = omega arith
call_brackets (IsCall.sets {one = one} {w = w} {o = o} {c = c} {ts = ts} {us = us} iw io x rest ic) k ms fits =
    one_open (symbol.Call (word.Of one)) (λ n. (refl, refl)) k w o (ts ++ us ++ c ∷ [] ++ ms) true iw io fits
call_brackets (IsCall.link {w = w} {o = o} {m = m} {c = c} {ts = ts} {us = us} iw io x im y ic) k ms fits =
    one_open (symbol.Call word.Link) (λ n. (refl, refl)) k w o (ts ++ m ∷ us ++ c ∷ [] ++ ms) true iw io fits
call_brackets (IsCall.path {w = w} {o = o} {m = m} {c = c} {ts = ts} {us = us} {vs = vs} iw io x im y rest ic) k ms fits =
    one_open (symbol.Call word.Path) (λ n. (refl, refl)) k w o (ts ++ m ∷ us ++ vs ++ c ∷ [] ++ ms) true iw io fits

one_looser : (b least more : ℕ) → least ≤ more → one_if (nat_lt b least) ≤ one_if (nat_lt b more)
one_looser b least more le = elim (cases_lt b least) [
  | inl low ↦ rw (lt-ltb b least low, lt-ltb b more (omega (arith, low, le))) (omega arith)
  | inr high ↦ rw (off high) (omega arith)
]
  where
    off : least ≤ b → nat_lt b least ≡ false
    off high = by (nat_lt b least) refl
      where
        by : (t : Bool) → nat_lt b least ≡ t → nat_lt b least ≡ false
        by true e = absurd (omega (arith, high, ltb-true b least e))
        by false e = e

-- what may bind less needs no more brackets
looser : (least more : ℕ) → least ≤ more → (t : Tree) → brackets_of least t ≤ brackets_of more t
looser least more le (Tree.leaf c) = omega arith
looser least more le (Tree.above p a b) = omega (arith, one_looser 1 least more le)
looser least more le (Tree.or a b) = omega (arith, one_looser 2 least more le)
looser least more le (Tree.and a b) = omega (arith, one_looser 3 least more le)
looser least more le (Tree.not a) = omega (arith, one_looser 4 least more le)

-- and in brackets anything may stand
bracketed : (t : Tree) → brackets_of 5 t ≤ 1 + brackets_of 1 t
bracketed (Tree.leaf c) = omega arith
bracketed (Tree.above p a b) = omega arith
bracketed (Tree.or a b) = omega arith
bracketed (Tree.and a b) = omega arith
bracketed (Tree.not a) = omega arith

-- ---- expressions

-- the steps are those of a tree that opens no more brackets than may be opened where k are open, and behind it there is the same room
record WasRead (least k : ℕ) (xs : List Step) (ms : List Lexeme) : Type 0 where
  tree : Tree
  steps : xs ≡ steps_of tree
  few : brackets_of least tree ≤ 64 - k
  calls : AllCalls IsCallForm tree
  room : Fits k ms

lower : (least more k : ℕ) (xs : List Step) (ms : List Lexeme) → least ≤ more → WasRead more k xs ms → WasRead least k xs ms
lower least more k xs ms le r = record { tree = r.tree; steps = r.steps; few = omega (arith, r.few, looser least more le r.tree); calls = r.calls; room = r.room }

two_sides : (xs ys vs ws : List Step) (s : Step) → xs ≡ vs → ys ≡ ws → xs ++ ys ++ s ∷ [] ≡ vs ++ ws ++ s ∷ []
two_sides xs ys vs ws s a b = rw (a, b) refl

-- two sides with their operator
joined : (op : Tree → Tree → Tree) (s : Step) {least more k : ℕ} {xs ys : List Step} {ls ms : List Lexeme} (a : WasRead least k xs ls) (b : WasRead more k ys ms)
    → steps_of a.tree ++ steps_of b.tree ++ s ∷ [] ≡ steps_of (op a.tree b.tree) → brackets_of least (op a.tree b.tree) ≤ 64 - k → AllCalls IsCallForm (op a.tree b.tree)
    → WasRead least k (xs ++ ys ++ s ∷ []) ms
joined op s {xs = xs} {ys = ys} a b steps few calls = record {
  tree = op a.tree b.tree;
  steps = two_sides xs ys (steps_of a.tree) (steps_of b.tree) s a.steps b.steps ∙ steps;
  few = few;
  calls = calls;
  room = b.room;
}

mutual
  ranked_read : {xs : List Step} {ls : List Lexeme} → IsRanked xs ls → (k : ℕ) (ms : List Lexeme) → Fits k (ls ++ ms) → WasRead 1 k xs ms
  ranked_read (IsRanked.choice {xs = xs} c) k ms fits = lower 1 2 k xs ms (omega arith) (choice_read c k ms fits)
  ranked_read (IsRanked.above {xs = xs} {ys = ys} {j = j} {ts = ts} {us = us} r i c) k ms fits =
      let a : WasRead 1 k xs (j ∷ us ++ ms) = ranked_read r k (j ∷ us ++ ms) (subst (Fits k) (append_assoc ts (j ∷ us) ms) fits) in
      let b : WasRead 2 k ys ms = choice_read c k ms (passes symbol.Above (λ n. (refl, refl)) k j (us ++ ms) i a.room) in
      joined (Tree.above j.place) (step.Above j.place) a b refl (omega (arith, a.few, b.few)) (a.calls, b.calls)

  choice_read : {xs : List Step} {ls : List Lexeme} → IsChoice xs ls → (k : ℕ) (ms : List Lexeme) → Fits k (ls ++ ms) → WasRead 2 k xs ms
  choice_read (IsChoice.joint {xs = xs} c) k ms fits = lower 2 3 k xs ms (omega arith) (joint_read c k ms fits)
  choice_read (IsChoice.or {xs = xs} {ys = ys} {j = j} {ts = ts} {us = us} r i c) k ms fits =
      let a : WasRead 2 k xs (j ∷ us ++ ms) = choice_read r k (j ∷ us ++ ms) (subst (Fits k) (append_assoc ts (j ∷ us) ms) fits) in
      let b : WasRead 3 k ys ms = joint_read c k ms (passes symbol.Or (λ n. (refl, refl)) k j (us ++ ms) i a.room) in
      joined Tree.or step.Or a b refl (omega (arith, a.few, b.few)) (a.calls, b.calls)

  joint_read : {xs : List Step} {ls : List Lexeme} → IsJoint xs ls → (k : ℕ) (ms : List Lexeme) → Fits k (ls ++ ms) → WasRead 3 k xs ms
  joint_read (IsJoint.unit {xs = xs} c) k ms fits = lower 3 4 k xs ms (omega arith) (unit_read c k ms fits)
  joint_read (IsJoint.and {xs = xs} {ys = ys} {j = j} {ts = ts} {us = us} r i c) k ms fits =
      let a : WasRead 3 k xs (j ∷ us ++ ms) = joint_read r k (j ∷ us ++ ms) (subst (Fits k) (append_assoc ts (j ∷ us) ms) fits) in
      let b : WasRead 4 k ys ms = unit_read c k ms (passes symbol.And (λ n. (refl, refl)) k j (us ++ ms) i a.room) in
      joined Tree.and step.And a b refl (omega (arith, a.few, b.few)) (a.calls, b.calls)

  unit_read : {xs : List Step} {ls : List Lexeme} → IsUnit xs ls → (k : ℕ) (ms : List Lexeme) → Fits k (ls ++ ms) → WasRead 4 k xs ms
  unit_read (IsUnit.atom {xs = xs} a) k ms fits = lower 4 5 k xs ms (omega arith) (atom_read a k ms fits)
  unit_read (IsUnit.not {xs = xs} {n = n} {ts = ts} i a) k ms fits =
      let x : WasRead 5 k xs ms = atom_read a k ms (passes symbol.Not (λ n. (refl, refl)) k n (ts ++ ms) i fits) in
      record { tree = Tree.not x.tree; steps = ap (λ (z : List Step). z ++ step.Not ∷ []) x.steps; few = omega (arith, x.few); calls = x.calls; room = x.room }

  atom_read : {xs : List Step} {ls : List Lexeme} → IsAtom xs ls → (k : ℕ) (ms : List Lexeme) → Fits k (ls ++ ms) → WasRead 5 k xs ms
  atom_read (IsAtom.bracket {xs = xs} {o = o} {c = c} {ts = ts} i r j) k ms fits =
      let inside = opened k o ((ts ++ c ∷ []) ++ ms) i fits in
      let x : WasRead 1 (k + 1) xs (c ∷ ms) = ranked_read r (k + 1) (c ∷ ms) (subst (Fits (k + 1)) (append_assoc ts (c ∷ []) ms) inside.1) in
      record { tree = x.tree; steps = x.steps; few = omega (arith, x.few, inside.0, bracketed x.tree); calls = x.calls; room = closed k c ms j x.room }
  atom_read (IsAtom.call {x = x} c) k ms fits = record { tree = Tree.leaf x; steps = refl; few = call_brackets c k ms fits; calls = call_form c; room = call_leaves c k ms fits }

-- ---- items

pattern_leaves : {p : RawPattern} {ts : List Lexeme} → IsPattern p ts → Leaves ts
pattern_leaves (IsPattern.only i) = one_leaves symbol.Figure (λ n. (refl, refl)) i
pattern_leaves (IsPattern.up_to {f = f} {l = l} {g = g} i j h) =
    both_leave (f ∷ []) (l ∷ g ∷ []) (one_leaves symbol.Figure (λ n. (refl, refl)) i)
    (both_leave (l ∷ []) (g ∷ []) (one_leaves symbol.Le (λ n. (refl, refl)) j) (one_leaves symbol.Figure (λ n. (refl, refl)) h))

predicate_leaves : {ps : List RawPattern} {ts : List Lexeme} → IsPredicate ps ts → Leaves ts
predicate_leaves (IsPredicate.all i) = one_leaves symbol.True (λ n. (refl, refl)) i
predicate_leaves (IsPredicate.patterns is) = list_leaves symbol.Or (λ n. (refl, refl)) (λ x ts is. pattern_leaves is) is

from_leaves : {x : Arg} {ts : List Lexeme} → IsFrom x ts → Leaves ts
from_leaves IsFrom.left_out = λ k ms fits. fits
from_leaves (IsFrom.from {l = l} {ts = ts} i x) = both_leave (l ∷ []) ts (one_leaves symbol.From (λ n. (refl, refl)) i) (set_leaves x)

ranked_leaves : {xs : List Step} {ts : List Lexeme} → IsRanked xs ts → Leaves ts
ranked_leaves r k ms fits = (ranked_read r k ms fits).room

item_leaves : {x : Item} {ts : List Lexeme} → IsItem x ts → Leaves ts
item_leaves (IsItem.define {d = d} {e = e} {s = s} {ts = ts} {us = us} i x j names h) =
    both_leave (d ∷ ts ++ e ∷ us) (s ∷ [])
    (both_leave (d ∷ ts) (e ∷ us) (both_leave (d ∷ []) ts (one_leaves symbol.Define (λ n. (refl, refl)) i) (name_leaves x))
    (both_leave (e ∷ []) us (one_leaves symbol.Equals (λ n. (refl, refl)) j) (group_leaves names)))
    (one_leaves symbol.Semicolon (λ n. (refl, refl)) h)
item_leaves (IsItem.originate {o = o} {f = f} {t = t} {s = s} {ts = ts} i j h names e) =
    both_leave (o ∷ f ∷ t ∷ ts) (s ∷ [])
    (both_leave (o ∷ []) (f ∷ t ∷ ts) (one_leaves symbol.Originate (λ n. (refl, refl)) i)
    (both_leave (f ∷ []) (t ∷ ts) (one_leaves symbol.Figure (λ n. (refl, refl)) j) (both_leave (t ∷ []) ts (one_leaves symbol.At (λ n. (refl, refl)) h) (names_leave names))))
    (one_leaves symbol.Semicolon (λ n. (refl, refl)) e)
item_leaves (IsItem.state {a = a} {s = s} {ts = ts} {us = us} {vs = vs} ps i r z j) =
    both_leave (ts ++ a ∷ us ++ vs) (s ∷ [])
    (both_leave (ts ++ a ∷ us) vs (both_leave ts (a ∷ us) (predicate_leaves ps) (both_leave (a ∷ []) us (one_leaves symbol.Arrow (λ n. (refl, refl)) i) (ranked_leaves r))) (from_leaves z))
    (one_leaves symbol.Semicolon (λ n. (refl, refl)) j)

some_patterns : {ps : List RawPattern} {ts : List Lexeme} → IsPredicate ps ts → 1 ≤ length ps
some_patterns (IsPredicate.all i) = omega arith
some_patterns (IsPredicate.patterns (IsList.list x xs)) = omega arith

from_arg : {x : Arg} {ts : List Lexeme} → IsFrom x ts → IsArg x
from_arg IsFrom.left_out = tt
from_arg (IsFrom.from i x) = set_arg x

item_form : {x : Item} {ts : List Lexeme} → IsItem x ts → (ms : List Lexeme) → Fits 0 (ts ++ ms) → HasForm x
item_form (IsItem.define i x j members h) ms fits = group_named members
item_form (IsItem.originate i j h names e) ms fits = are_named names
item_form (IsItem.state {a = a} {s = s} {ts = ts} {us = us} {vs = vs} ps i r z j) ms fits =
    let split : ((ts ++ a ∷ us ++ vs) ++ s ∷ []) ++ ms ≡ ts ++ (a ∷ (us ++ ((vs ++ s ∷ []) ++ ms))) = simp append_assoc in
    let behind : Fits 0 (us ++ ((vs ++ s ∷ []) ++ ms)) =
    passes symbol.Arrow (λ n. (refl, refl)) 0 a (us ++ ((vs ++ s ∷ []) ++ ms)) i
    (predicate_leaves ps 0 (a ∷ (us ++ ((vs ++ s ∷ []) ++ ms))) (subst (Fits 0) split fits)) in
    let x = ranked_read r 0 ((vs ++ s ∷ []) ++ ms) behind in
    record { patterns = some_patterns ps; tree = x.tree; steps = x.steps; few = x.few; calls = x.calls; from = from_arg z }

policy_forms : {items : List Item} {ls : List Lexeme} → IsPolicy items ls → (ms : List Lexeme) → Fits 0 (ls ++ ms) → AllByRecursion HasForm items
policy_forms IsPolicy.none ms fits = tt
policy_forms (IsPolicy.more {ts = ts} {us = us} i p) ms fits =
    let first : Fits 0 (ts ++ (us ++ ms)) = subst (Fits 0) (append_assoc ts us ms) fits in
    (item_form i (us ++ ms) first, policy_forms p ms (item_leaves i 0 (us ++ ms) first))

-- each item of a text has its form
pub items_have_forms : (bytes : List ℕ) (items : List Item) → items_spelled bytes ≡ Ok items → AllByRecursion HasForm items
items_have_forms bytes items h =
    let end : Place = place_of bytes (length bytes) in
    let parts = items_parts bytes items h in
    policy_forms (read-policy bytes parts.0 end items parts.3) (end_of end ∷ []) parts.2
