-- Members that are joined, in an alternation or in an intersection.
use Rattle.std.proofs.Common.{◌≡◌, ℕ, ◌<◌, ◌≤◌, Bool, true, false, List, [], ◌∷◌, ◌++◌, inl, inr, ⊎_elim, map, length, get_or, drop, ◌+◌, refl, sym, subst, ap, ◌∙◌, arith, Vec, Global}
use Rattle.std.specs.Prelude.{nat_lt, slice_index_or, if◌then◌else◌}
use Rattle.std.specs.List.{list_all, list_any, flat_map}
use Rattle.std.proofs.lemmas.Bool.{and_parts, ltb-true}
use Rattle.std.proofs.lemmas.List.{map-append, drop_more}
use Rattle.path_exprs.specs.Expression.{Expression, Expressions, expressions_of, list_of}
use Rattle.path_exprs.specs.Normal.{sorted}
use Rattle.path_exprs.proofs.Lists.{list_of-expressions_of}
use Rattle.path_exprs.proofs.Numbers.{known-append, known-more, known-one}
use Rattle.path_law.proofs.Sorting.{In}
use Rattle.path_terms.specs.Joined.{expression, from, is_whole, joined, nothing, parts, term, whole}
use Rattle.path_terms.specs.Terms.{at, ascending, are_known, are_members, is_sound, node, AreApart, IsAscendingOf}
use Rattle.path_terms.specs.declared.join.Join.{Join}
use Rattle.path_terms.specs.declared.join.Join.TheVariants.{AnyOf, AllOf}
use Rattle.path_terms.proofs.Numbers.{In-sorted}
use Rattle.path_terms.proofs.Members.{any-sorted, flat-step, sorted-append, sorted-settled, sorted-sorted}

node-term : (es : List Expression) (j : Join) (v : Vec ℕ Global) → node es (term j v) ≡ expression j (expressions_of (sorted (map (at es) v.items)))
node-term es AnyOf v = refl
node-term es AllOf v = refl

pub sound-term : (k : ℕ) (j : Join) (v : Vec ℕ Global) → are_members k v.items ≡ true → is_sound k (term j v) ≡ true
sound-term k AnyOf v h = h
sound-term k AllOf v h = h

from-one : (j : Join) (e : Expression) → from j (e ∷ []) ≡ e
from-one AnyOf e = refl
from-one AllOf e = refl

from-more : (j : Join) (e f : Expression) (es : List Expression) → from j (e ∷ f ∷ es) ≡ expression j (expressions_of (e ∷ f ∷ es))
from-more AnyOf e f es = refl
from-more AllOf e f es = refl

parts-expression : (j : Join) (es : Expressions) → parts j (expression j es) ≡ list_of es
parts-expression AnyOf es = refl
parts-expression AllOf es = refl

-- Each member adds its parts. One part may absorb the others; elsewhere the expression is made from the sorted parts.
module _ (j : Join) (vs : List Expression) (old new ms : List ℕ) (settled : IsAscendingOf old new) (same : sorted (map (at vs) old) ≡ sorted (flat_map (parts j) (map (at vs) ms))) where
  abbrev all : List Expression
  all = sorted (flat_map (parts j) (map (at vs) ms))

  whole-same : (b : Bool) → list_any (is_whole j) (map (at vs) new) ≡ b → list_any (is_whole j) all ≡ b
  whole-same b there = sym (ap (list_any (is_whole j)) (sorted-settled vs old new settled ∙ same)) ∙ sym (any-sorted (is_whole j) (map (at vs) new)) ∙ there

  pub joined-absorbed : list_any (is_whole j) (map (at vs) new) ≡ true → whole j ≡ joined j (map (at vs) ms)
  joined-absorbed there = sym (ap (λ b. if b then whole j else from j all) (whole-same true there))

  pub joined-made : list_any (is_whole j) (map (at vs) new) ≡ false → from j (sorted (map (at vs) new)) ≡ joined j (map (at vs) ms)
  joined-made there = ap (from j) (sorted-settled vs old new settled ∙ same) ∙ sym (ap (λ b. if b then whole j else from j all) (whole-same false there))

-- ---- what is made of no member, of one and of more

from-none : (j : Join) → nothing j ≡ from j []
from-none AnyOf = refl
from-none AllOf = refl

pub made-none : (j : Join) (vs : List Expression) (ns : List ℕ) → length ns < 1 → nothing j ≡ from j (sorted (map (at vs) ns))
made-none j vs [] few = from-none j
made-none j vs (n ∷ ns) few = absurd (omega (arith, few))

pub made-one : (j : Join) (vs : List Expression) (ns : List ℕ) → 1 ≤ length ns → length ns < 2 → at vs (slice_index_or ns 0 0) ≡ from j (sorted (map (at vs) ns))
made-one j vs [] some few = absurd (omega (arith, some))
made-one j vs (n ∷ []) some few = sym (from-one j (at vs n))
made-one j vs (n ∷ m ∷ ns) some few = absurd (omega (arith, few))

two-members : (j : Join) (es : List Expression) (a b : Expression) → In a es → In b es → (a ≡ b → ⊥) → from j es ≡ expression j (expressions_of es)
two-members j [] a b i k h = absurd i
two-members j (e ∷ []) a b i k h = absurd (⊎_elim (λ p. ⊎_elim (λ q. h (p ∙ sym q)) (λ n. n) k) (λ n. n) i)
two-members j (e ∷ f ∷ es) a b i k h = from-more j e f es

pub made-more : (j : Join) (vs : List Expression) (v : Vec ℕ Global) → AreApart vs → 2 ≤ length v.items → are_known (length vs) v.items ≡ true → ascending v.items ≡ true
    → node vs (term j v) ≡ from j (sorted (map (at vs) v.items))
made-more j vs v apart many known up = node-term vs j v ∙ more v.items many known up
  where
    more : (ns : List ℕ) → 2 ≤ length ns → are_known (length vs) ns ≡ true → ascending ns ≡ true
        → expression j (expressions_of (sorted (map (at vs) ns))) ≡ from j (sorted (map (at vs) ns))
    more [] many known up = absurd (omega (arith, many))
    more (n ∷ []) many known up = absurd (omega (arith, many))
    more (n ∷ m ∷ ns) many known up =
        let u = and_parts (nat_lt n (length vs)) (are_known (length vs) (m ∷ ns)) known in
        let v = and_parts (nat_lt m (length vs)) (are_known (length vs) ns) u.1 in
        let w = and_parts (list_all (λ k. nat_lt n k) (m ∷ ns)) (ascending (m ∷ ns)) up in
        let x = and_parts (nat_lt n m) (list_all (λ k. nat_lt n k) ns) w.0 in
        let es = map (at vs) (n ∷ m ∷ ns) in
        sym (two-members j (sorted es) (at vs n) (at vs m) (In-sorted (at vs n) es (inl refl)) (In-sorted (at vs m) es (inr (inl refl)))
        (λ q. let lt = ltb-true n m x.0 in let same = apart n m (ltb-true n (length vs) u.0) (ltb-true m (length vs) v.0) q in absurd (omega (arith, lt, same))))

-- ---- what members add

pub add-members : (j : Join) (vs : List Expression) (ns more ms : List ℕ) (e : Expression) → more ≡ ns ++ ms → e ≡ expression j (expressions_of (sorted (map (at vs) ms)))
    → sorted (map (at vs) more) ≡ sorted (map (at vs) ns ++ parts j e)
add-members j vs ns more ms e is q =
    ap (λ l. sorted (map (at vs) l)) is
    ∙ ap sorted (map-append (at vs) ns ms)
    ∙ sorted-append (map (at vs) ns) (map (at vs) ns) (map (at vs) ms) (sorted (map (at vs) ms)) refl (sym (sorted-sorted (map (at vs) ms)))
    ∙ ap (λ l. sorted (map (at vs) ns ++ l)) (sym (list_of-expressions_of (sorted (map (at vs) ms))) ∙ sym (parts-expression j (expressions_of (sorted (map (at vs) ms)))) ∙ ap (parts j) (sym q))

pub members-known : (k number : ℕ) (ns more ms : List ℕ) → more ≡ ns ++ ms → number < k → are_known k ns ≡ true → are_members number ms ≡ true → are_known k more ≡ true
members-known k number ns more ms is lt known sound =
    subst (λ l. are_known k l ≡ true) (sym is) (known-append k ns ms known (known-more number k ms (omega (arith, lt)) (and_parts (are_known number ms) (ascending ms) sound).0))

pub member-known : (k number : ℕ) (ns more : List ℕ) → more ≡ ns ++ number ∷ [] → number < k → are_known k ns ≡ true → are_known k more ≡ true
member-known k number ns more is lt known = subst (λ l. are_known k l ≡ true) (sym is) (known-append k ns (number ∷ []) known (known-one k number lt))

-- one member more of a loop over them
pub flat-turn : (parts : Expression → List Expression) (vs : List Expression) (ns ms new : List ℕ) (i d : ℕ) (whole : List Expression) → i < length ms
    → whole ≡ sorted (map (at vs) ns ++ flat_map parts (map (at vs) (drop i ms)))
    → sorted (map (at vs) new) ≡ sorted (map (at vs) ns ++ parts (at vs (get_or ms i d)))
    → whole ≡ sorted (map (at vs) new ++ flat_map parts (map (at vs) (drop (i + 1) ms)))
flat-turn parts vs ns ms new i d whole lt q r =
    q ∙ ap (λ l. sorted (map (at vs) ns ++ flat_map parts (map (at vs) l))) (drop_more ms i d lt)
    ∙ flat-step (map (at vs) ns) (map (at vs) new) (parts (at vs (get_or ms i d))) (flat_map parts (map (at vs) (drop (i + 1) ms))) r
