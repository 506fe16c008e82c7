-- Entries of the memo stay right as terms come, and serve each location of a class.
use Rattle.std.proofs.Common.{◌≡◌, ℕ, ◌<◌, Bool, true, false, cond, List, [], ◌∷◌, length, Some, None, Option, refl, sym, ap, subst, ◌∙◌, arith}
use Rattle.std.specs.Prelude.{IfSome, slice_get, ◌==◌, nat_lt}
use Rattle.std.proofs.lemmas.Bool.{and_parts, eqb-true, ltb-true}
use Rattle.std.specs.Ordering.{is_eq}
use Rattle.list_law.proofs.Orders.{is_eq-Equal}
use Rattle.path_exprs.specs.Order.{compare}
use Rattle.path_exprs.specs.Ordered.{compare-equal}
use Rattle.path_exprs.specs.Total.{compare_itself}
use Rattle.indexmap.specs.IndexMap.{IndexMap, get}
use Rattle.path_exprs.specs.Membership.{member}
use Rattle.path_exprs.specs.Normal.{complement_of, either_of, seq_of}
use Rattle.path_exprs.specs.Expression.{Expression, never, empty, set, complement, star, seq}
use Rattle.net_base.specs.declared.loc.LocSet.{LocSet}
use Rattle.net_base.specs.Sets.{holds}
use Rattle.path_automata.specs.Sets.{agrees, sets_pass}
use Rattle.path_terms.specs.declared.term.Term.{Term}
use Rattle.path_terms.specs.declared.term.Term.TheVariants.{Seq, Not, Star}
use Rattle.path_terms.specs.Terms.{is_sound, at, Extends}
use Rattle.path_exprs.specs.Derivative.{derivative}
use Rattle.path_exprs.proofs.Numbers.{at-extends, longer}
use Rattle.path_automata.proofs.Kept.{same}
use Rattle.path_automata.specs.Classes.{IsClassed}
use Rattle.path_automata.specs.Derived.{same_key, AreDerivatives, IsDerivative}

-- expressions that compare as equal are equal

pub same-is : (e f : Expression) → is_eq (compare e f) ≡ true → e ≡ f
same-is e f h = compare-equal e f (is_eq-Equal (compare e f) h)

pub is-same : (e f : Expression) → e ≡ f → is_eq (compare e f) ≡ true
is-same e f q = ap (λ g. is_eq (compare e g)) (sym q) ∙ ap is_eq (compare_itself e)

entry-extends : (cs : List ℕ) (old new : List Expression) (k : ℕ × ℕ) (d : ℕ) → Extends old new → IsDerivative cs old k d → IsDerivative cs new k d
entry-extends cs old new k d x h = (
  longer old new k.0 x h.0,
  longer old new d x h.1,
  (λ y q. is-same _ _ (at-extends old new d x h.1 ∙ same-is _ _ (h.2 y q) ∙ ap (derivative y) (sym (at-extends old new k.0 x h.0)))),
)

-- what was derived stays right as further terms come
pub derived_extends : {S : Type 0} (cs : List ℕ) (old new : List Expression) (m : IndexMap (ℕ × ℕ) ℕ S) → Extends old new → AreDerivatives cs old m → AreDerivatives cs new m
derived_extends cs old new m x h k = weaker (get same_key m k) (h k)
  where
    weaker : (o : Option ℕ) → IfSome o (λ d. IsDerivative cs old k d) → IfSome o (λ d. IsDerivative cs new k d)
    weaker (Some d) e = entry-extends cs old new k d x e
    weaker None e = e

-- what is derived by one location serves its class
pub entry-made : (cs : List ℕ) (vs : List Expression) (e d x c : ℕ) → e < length vs → d < length vs → IsClassed cs (at vs e)
    → at vs d ≡ derivative x (at vs e) → slice_get cs x ≡ Some c → IsDerivative cs vs (e, c) d
entry-made cs vs e d x c le ld classed q is =
    (le, ld, (λ y r. is-same _ _ (q ∙ same x y (at vs e) (classed x y (c, is, r)))))

-- one more entry
pub derived-insert : {S : Type 0} (cs : List ℕ) (vs : List Expression) (old new : IndexMap (ℕ × ℕ) ℕ S) (k : ℕ × ℕ) (d : ℕ)
    → ((q : ℕ × ℕ) → get same_key new q ≡ cond (same_key k q) (Some d) (get same_key old q)) → IsDerivative cs vs k d → AreDerivatives cs vs old → AreDerivatives cs vs new
derived-insert cs vs old new k d h e m q = subst (λ o. IfSome o (λ d. IsDerivative cs vs q d)) (sym (h q)) (by_key (same_key k q) refl)
  where
    by_key : (b : Bool) → same_key k q ≡ b → IfSome (cond b (Some d) (get same_key old q)) (λ d. IsDerivative cs vs q d)
    by_key true t =
        let u = and_parts (k.0 == q.0) (k.1 == q.1) t in
        let is : k ≡ q = λ i. (eqb-true k.0 q.0 u.0 i, eqb-true k.1 q.1 u.1 i) in
        subst (λ q. IsDerivative cs vs q d) is e
    by_key false t = m q

pub derived-read : {S : Type 0} (cs : List ℕ) (vs : List Expression) (m : IndexMap (ℕ × ℕ) ℕ S) (k : ℕ × ℕ) (d : ℕ) → AreDerivatives cs vs m → get same_key m k ≡ Some d → IsDerivative cs vs k d
derived-read cs vs m k d h q = subst (λ o. IfSome o (λ d. IsDerivative cs vs k d)) q (h k)

pub not-below : (n : ℕ) (t : Term) (a : ℕ) → t ≡ Not a → is_sound n t ≡ true → a < n
not-below n t a q h = ltb-true a n (subst (λ t. is_sound n t ≡ true) q h)

pub star-below : (n : ℕ) (t : Term) (a : ℕ) → t ≡ Star a → is_sound n t ≡ true → a < n
star-below n t a q h = ltb-true a n (subst (λ t. is_sound n t ≡ true) q h)

pub seq-below : (n : ℕ) (t : Term) (a b : ℕ) → t ≡ Seq a b → is_sound n t ≡ true → (a < n) × (b < n)
seq-below n t a b q h =
    let u = and_parts (nat_lt a n) (nat_lt b n) (subst (λ t. is_sound n t ≡ true) q h) in
    (ltb-true a n u.0, ltb-true b n u.1)

pub seq-known : (n k : ℕ) (t : Term) (a b : ℕ) → t ≡ Seq a b → is_sound n t ≡ true → n < k → (a < k) × (b < k)
seq-known n k t a b q h lt = let u = seq-below n t a b q h in (omega (arith, u.0, lt), omega (arith, u.1, lt))

pub classed-not : (cs : List ℕ) (e a : Expression) → e ≡ complement a → IsClassed cs e → IsClassed cs a
classed-not cs e a q h = λ x y c. subst (λ e. sets_pass (agrees x y) e ≡ true) q (h x y c)

pub classed-star : (cs : List ℕ) (e a : Expression) → e ≡ star a → IsClassed cs e → IsClassed cs a
classed-star cs e a q h = λ x y c. subst (λ e. sets_pass (agrees x y) e ≡ true) q (h x y c)

pub classed-first : (cs : List ℕ) (e a b : Expression) → e ≡ seq a b → IsClassed cs e → IsClassed cs a
classed-first cs e a b q h = λ x y c. (and_parts (sets_pass (agrees x y) a) (sets_pass (agrees x y) b) (subst (λ e. sets_pass (agrees x y) e ≡ true) q (h x y c))).0

pub classed-second : (cs : List ℕ) (e a b : Expression) → e ≡ seq a b → IsClassed cs e → IsClassed cs b
classed-second cs e a b q h = λ x y c. (and_parts (sets_pass (agrees x y) a) (sets_pass (agrees x y) b) (subst (λ e. sets_pass (agrees x y) e ≡ true) q (h x y c))).1

pub classed-same : (cs : List ℕ) (e f : Expression) → f ≡ e → IsClassed cs e → IsClassed cs f
classed-same cs e f q h = λ x y c. subst (λ e. sets_pass (agrees x y) e ≡ true) (sym q) (h x y c)

pub never-made : (x : ℕ) (e v r : Expression) → e ≡ v → derivative x v ≡ never → r ≡ never → r ≡ derivative x e
never-made x e v r q1 q2 q3 = q3 ∙ sym (ap (derivative x) q1 ∙ q2)

pub set-made : (x : ℕ) (e r : Expression) (s : LocSet) (b : Bool) → e ≡ set s → holds s x ≡ b → r ≡ cond b empty never → r ≡ derivative x e
set-made x e r s b q1 q2 q3 = q3 ∙ sym (ap (derivative x) q1 ∙ ap (λ b. cond b empty never) q2)

pub not-made : (x : ℕ) (e va da r : Expression) → e ≡ complement va → da ≡ derivative x va → r ≡ complement_of da → r ≡ derivative x e
not-made x e va da r q1 q2 q3 = q3 ∙ ap complement_of q2 ∙ sym (ap (derivative x) q1)

pub star-made : (x : ℕ) (e va da e' r : Expression) → e ≡ star va → da ≡ derivative x va → e' ≡ e → r ≡ seq_of da e' → r ≡ derivative x e
star-made x e va da e' r q1 q2 q3 q4 = q4 ∙ ap (λ d. seq_of d e') q2 ∙ ap (seq_of (derivative x va)) (q3 ∙ q1) ∙ sym (ap (derivative x) q1)

pub seq-front : (x : ℕ) (e va vb da b' r : Expression) → e ≡ seq va vb → da ≡ derivative x va → b' ≡ vb → r ≡ seq_of da b' → member va [] ≡ false → r ≡ derivative x e
seq-front x e va vb da b' r q1 q2 q3 q4 h =
    q4 ∙ ap (λ d. seq_of d b') q2 ∙ ap (seq_of (derivative x va)) q3
    ∙ sym (ap (derivative x) q1 ∙ ap (λ b. cond b (either_of (seq_of (derivative x va) vb ∷ derivative x vb ∷ [])) (seq_of (derivative x va) vb)) h)

pub seq-both : (x : ℕ) (e va vb da b' r f g : Expression) → e ≡ seq va vb → da ≡ derivative x va → b' ≡ vb → f ≡ seq_of da b' → g ≡ derivative x vb → member va [] ≡ true
    → r ≡ either_of (f ∷ g ∷ []) → r ≡ derivative x e
seq-both x e va vb da b' r f g q1 q2 q3 q4 q5 h q6 =
    q6 ∙ ap (λ f. either_of (f ∷ g ∷ [])) (q4 ∙ ap (λ d. seq_of d b') q2 ∙ ap (seq_of (derivative x va)) q3)
    ∙ ap (λ g. either_of (seq_of (derivative x va) vb ∷ g ∷ [])) q5
    ∙ sym (ap (derivative x) q1 ∙ ap (λ b. cond b (either_of (seq_of (derivative x va) vb ∷ derivative x vb ∷ [])) (seq_of (derivative x va) vb)) h)
