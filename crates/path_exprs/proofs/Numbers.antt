-- Expressions by numbers, as further ones come.
use Rattle.std.proofs.Common.{◌≡◌, ℕ, zero, suc, ◌<◌, ◌≤◌, ◌+◌, Bool, true, false, cond, List, [], ◌∷◌, ◌++◌, map, length, get_or, take, refl, sym, ap, subst, ◌∙◌, arith, append_assoc}
use Rattle.std.specs.Prelude.{nat_lt}
use Rattle.std.proofs.lemmas.Bool.{and_parts, and_from, lt-ltb, ltb-true}
use Rattle.std.proofs.lemmas.List.{length-append, map-append, take_more}
use Rattle.path_exprs.specs.Expression.{Expression}
use Rattle.path_exprs.specs.declared.parts.Part.{Part}
use Rattle.path_exprs.specs.Parts.{at, are_known, Extends, expression_of, grow, expressions_of_parts, is_earlier, are_earlier, Puts}

-- numbers below a bound

pub known-append : (k : ℕ) (ns ms : List ℕ) → are_known k ns ≡ true → are_known k ms ≡ true → are_known k (ns ++ ms) ≡ true
known-append k [] ms h g = g
known-append k (n ∷ ns) ms h g = let u = and_parts (nat_lt n k) (are_known k ns) h in and_from (nat_lt n k) (are_known k (ns ++ ms)) u.0 (known-append k ns ms u.1 g)

pub known-one : (k n : ℕ) → n < k → are_known k (n ∷ []) ≡ true
known-one k n lt = and_from (nat_lt n k) true (lt-ltb n k lt) refl

pub known-more : (k m : ℕ) (ns : List ℕ) → k ≤ m → are_known k ns ≡ true → are_known m ns ≡ true
known-more k m [] le h = refl
known-more k m (n ∷ ns) le h =
    let u = and_parts (nat_lt n k) (are_known k ns) h in
    let lt = ltb-true n k u.0 in
    and_from (nat_lt n m) (are_known m ns) (lt-ltb n m (omega (arith, lt, le))) (known-more k m ns le u.1)

pub known-at : (k : ℕ) (ns : List ℕ) (i : ℕ) (d : ℕ) → i < length ns → are_known k ns ≡ true → get_or ns i d < k
known-at k [] i d lt h = absurd (omega (arith, lt))
known-at k (n ∷ ns) zero d lt h = ltb-true n k (and_parts (nat_lt n k) (are_known k ns) h).0
known-at k (n ∷ ns) (suc i) d lt h = known-at k ns i d (omega (arith, lt)) (and_parts (nat_lt n k) (are_known k ns) h).1

-- expressions keep their numbers

pub at-left : (es fs : List Expression) (n : ℕ) → n < length es → at (es ++ fs) n ≡ at es n
at-left [] fs n lt = absurd (omega (arith, lt))
at-left (e ∷ es) fs zero lt = refl
at-left (e ∷ es) fs (suc n) lt = at-left es fs n (omega (arith, lt))

pub at-last : (es : List Expression) (e : Expression) → at (es ++ e ∷ []) (length es) ≡ e
at-last [] e = refl
at-last (x ∷ es) e = at-last es e

pub length-push : (es : List Expression) (e : Expression) → length (es ++ e ∷ []) ≡ suc (length es)
length-push [] e = refl
length-push (x ∷ es) e = ap suc (length-push es e)

pub at-extends : (old new : List Expression) (n : ℕ) → Extends old new → n < length old → at new n ≡ at old n
at-extends old new n x lt = ap (λ l. at l n) x.1 ∙ at-left old x.0 n lt

pub map-extends : (old new : List Expression) (ns : List ℕ) → Extends old new → are_known (length old) ns ≡ true → map (at new) ns ≡ map (at old) ns
map-extends old new [] x h = refl
map-extends old new (n ∷ ns) x h =
    let u = and_parts (nat_lt n (length old)) (are_known (length old) ns) h in
    ap (λ l. at new n ∷ l) (map-extends old new ns x u.1) ∙ ap (λ e. e ∷ map (at old) ns) (at-extends old new n x (ltb-true n (length old) u.0))

pub no-shorter : (old new : List Expression) → Extends old new → length old ≤ length new
no-shorter old new x = let l = ap length x.1 ∙ length-append old x.0 in omega (arith, l)

pub longer : (old new : List Expression) (n : ℕ) → Extends old new → n < length old → n < length new
longer old new n x lt = let le = no-shorter old new x in omega (arith, lt, le)

pub extends-trans : (a b c : List Expression) → Extends a b → Extends b c → Extends a c
extends-trans a b c x y = (x.0 ++ y.0, y.1 ∙ ap (λ l. l ++ y.0) x.1 ∙ append_assoc a x.0 y.0)

-- parts one behind the other

grow-push : (es : List Expression) (ps : List Part) (p : Part) → grow es (ps ++ p ∷ []) ≡ grow es ps ++ expression_of (grow es ps) p ∷ []
grow-push es [] p = refl
grow-push es (q ∷ ps) p = grow-push (es ++ expression_of es q ∷ []) ps p

length-grow : (es : List Expression) (ps : List Part) → length (grow es ps) ≡ length es + length ps
length-grow es [] = omega arith
length-grow es (p ∷ ps) = let r = length-grow (es ++ expression_of es p ∷ []) ps in let s = length-push es (expression_of es p) in omega (arith, r, s)

pub parts-push : (ps : List Part) (p : Part) → expressions_of_parts (ps ++ p ∷ []) ≡ expressions_of_parts ps ++ expression_of (expressions_of_parts ps) p ∷ []
parts-push ps p = grow-push [] ps p

pub length-parts : (ps : List Part) → length (expressions_of_parts ps) ≡ length ps
length-parts ps = let l = length-grow [] ps in omega (arith, l)

pub parts-turn : (ps : List Part) (i : ℕ) (p : Part) → i < length ps
    → expressions_of_parts (take (i + 1) ps) ≡ expressions_of_parts (take i ps) ++ expression_of (expressions_of_parts (take i ps)) (get_or ps i p) ∷ []
parts-turn ps i p lt = ap expressions_of_parts (take_more ps i p lt) ∙ parts-push (take i ps) (get_or ps i p)

earlier-push : (k : ℕ) (ps : List Part) (p : Part) → are_earlier k ps ≡ true → is_earlier (k + length ps) p ≡ true → are_earlier k (ps ++ p ∷ []) ≡ true
earlier-push k [] p h g = and_from (is_earlier k p) true (subst (λ m. is_earlier m p ≡ true) (omega arith) g) refl
earlier-push k (q ∷ ps) p h g =
    let u = and_parts (is_earlier k q) (are_earlier (suc k) ps) h in
    and_from (is_earlier k q) (are_earlier (suc k) (ps ++ p ∷ [])) u.0 (earlier-push (suc k) ps p u.1 (subst (λ m. is_earlier m p ≡ true) (omega arith) g))

are_earlier-push : (ps : List Part) (p : Part) → are_earlier 0 ps ≡ true → is_earlier (length (expressions_of_parts ps)) p ≡ true → are_earlier 0 (ps ++ p ∷ []) ≡ true
are_earlier-push ps p h g = earlier-push 0 ps p h (subst (λ m. is_earlier m p ≡ true) (let l = length-parts ps in omega (arith, l)) g)

pub are_earlier-put : (b : Bool) (ps new : List Part) (p : Part) → new ≡ cond b (ps ++ p ∷ []) ps → are_earlier 0 ps ≡ true
    → is_earlier (length (expressions_of_parts ps)) p ≡ true → are_earlier 0 new ≡ true
are_earlier-put true ps new p is h g = subst (λ l. are_earlier 0 l ≡ true) (sym is) (are_earlier-push ps p h g)
are_earlier-put false ps new p is h g = subst (λ l. are_earlier 0 l ≡ true) (sym is) h

earlier-at : (k : ℕ) (ps : List Part) (i : ℕ) (p : Part) → i < length ps → are_earlier k ps ≡ true → is_earlier (k + i) (get_or ps i p) ≡ true
earlier-at k [] i p lt h = absurd (omega (arith, lt))
earlier-at k (q ∷ ps) zero p lt h = subst (λ m. is_earlier m q ≡ true) (omega arith) (and_parts (is_earlier k q) (are_earlier (suc k) ps) h).0
earlier-at k (q ∷ ps) (suc i) p lt h =
    subst (λ m. is_earlier m (get_or ps i p) ≡ true) (omega arith) (earlier-at (suc k) ps i p (omega (arith, lt)) (and_parts (is_earlier k q) (are_earlier (suc k) ps) h).1)

pub are_earlier-at : (ps : List Part) (i : ℕ) (p : Part) → i < length ps → are_earlier 0 ps ≡ true → is_earlier i (get_or ps i p) ≡ true
are_earlier-at ps i p lt h = subst (λ m. is_earlier m (get_or ps i p) ≡ true) (omega arith) (earlier-at 0 ps i p lt h)

-- what was put

pub puts-one : (old new : List Expression) (e : Expression) (n : ℕ) → new ≡ old ++ e ∷ [] → n ≡ length old → Puts old new (n ∷ []) (e ∷ [])
puts-one old new e n is number = (
  ap (λ x. x ∷ []) (ap (at new) number ∙ ap (λ l. at l (length old)) is ∙ at-last old e),
  known-one (length new) n (let l = ap length is ∙ length-push old e in omega (arith, l, number)),
  (e ∷ [], is),
)

-- the numbers still name their expressions once more were put
puts-kept : (a b c : List Expression) (ns : List ℕ) (es : List Expression) → Puts a b ns es → Extends b c → Puts a c ns es
puts-kept a b c ns es put x = (map-extends b c ns x put.1 ∙ put.0, known-more (length b) (length c) ns (no-shorter b c x) put.1, extends-trans a b c put.2 x)

pub puts-append : (a b c : List Expression) (ns ms : List ℕ) (es fs : List Expression) → Puts a b ns es → Puts b c ms fs → Puts a c (ns ++ ms) (es ++ fs)
puts-append a b c ns ms es fs first second =
    let kept = puts-kept a b c ns es first second.2 in (
      map-append (at c) ns ms ∙ ap (λ l. l ++ map (at c) ms) kept.0 ∙ ap (λ l. es ++ l) second.0,
      known-append (length c) ns ms kept.1 second.1,
      kept.2,
    )

-- what was put last, where only that is asked for
pub puts-after : (a b c : List Expression) (ms : List ℕ) (fs : List Expression) → Extends a b → Puts b c ms fs → Puts a c ms fs
puts-after a b c ms fs x put = (put.0, put.1, extends-trans a b c x put.2)
