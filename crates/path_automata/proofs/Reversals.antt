-- Reversed expressions, one after another.
use Rattle.std.proofs.Common.{◌≡◌, ℕ, zero, suc, ◌<◌, ◌+◌, true, List, [], ◌∷◌, ◌++◌, map, length, get_or, take, Vec, Global, refl, sym, ap, subst, ◌∙◌, arith}
use Rattle.std.specs.Prelude.{nat_lt}
use Rattle.std.proofs.lemmas.Bool.{and_parts, and_from, lt-ltb, ltb-true}
use Rattle.std.proofs.lemmas.List.{length-map, map-append, take_more}
use Rattle.net_base.specs.declared.loc.LocSet.{LocSet}
use Rattle.path_exprs.specs.declared.expr.Expr.{Expr}
use Rattle.path_exprs.specs.Expression.{Expression, expressions_of}
use Rattle.path_exprs.specs.Normal.{both_of, complement_of, either_of, normal, normal_each, reversed, reversed_each}
use Rattle.path_exprs.specs.Runs.{start_of}
use Rattle.path_exprs.specs.View.{view, views}
use Rattle.path_exprs.specs.Parts.{expression_of, expressions_of_parts, is_earlier}
use Rattle.path_exprs.specs.declared.parts.Part.{Part}
use Rattle.path_exprs.specs.declared.parts.Part.TheVariants.{Both, Either, Not}
use Rattle.path_exprs.proofs.Numbers.{known-at, map-extends, parts-turn}
use Rattle.path_terms.specs.Terms.{at, are_known, Extends}

pub start-each : (full : LocSet) (es : List Expression) → start_of full es ≡ normal_each full (reversed_each (expressions_of es))
start-each full [] = refl
start-each full (e ∷ es) = ap (λ l. normal full (reversed e) ∷ l) (start-each full es)

pub start-turn : (full : LocSet) (cur new : List Expression) (ms : List ℕ) (es : List Expr) (i r : ℕ) (e : Expr) → Extends cur new
    → are_known (length cur) ms ≡ true → i < length es → e ≡ get_or es i e
    → map (at cur) ms ≡ start_of full (views (take i es)) → at new r ≡ normal full (reversed (view e)) → map (at new) (ms ++ r ∷ []) ≡ start_of full (views (take (i + 1) es))
start-turn full cur new ms es i r e x known lt is q p =
    map-append (at new) ms (r ∷ [])
    ∙ ap (λ l. l ++ at new r ∷ []) (map-extends cur new ms x known ∙ q)
    ∙ ap (λ d. start_of full (views (take i es)) ++ d ∷ []) (p ∙ ap (λ d. normal full (reversed (view d))) is)
    ∙ sym (ap (λ l. start_of full (views l)) (take_more es i e lt)
    ∙ ap (start_of full) (map-append view (take i es) (get_or es i e ∷ []))
    ∙ map-append (λ d. normal full (reversed d)) (views (take i es)) (view (get_or es i e) ∷ []))

pub members-made : (full : LocSet) (vs : List Expression) (ms ns : List ℕ) (es ds : List Expr) → ms ≡ ns → map (at vs) ns ≡ start_of full (views ds) → ds ≡ es
    → map (at vs) ms ≡ normal_each full (reversed_each (expressions_of (views es)))
members-made full vs ms ns es ds these made those =
    ap (map (at vs)) these ∙ made ∙ ap (λ l. start_of full (views l)) those ∙ start-each full (views es)

-- terms at places

start-at : (full : LocSet) (vs : List Expression) (ns : List ℕ) (es : List Expression) (i d : ℕ) → map (at vs) ns ≡ start_of full es → i < length ns
    → at vs (get_or ns i d) ≡ normal full (reversed (at es i))
start-at full vs [] es i d q lt = absurd (omega (arith, lt))
start-at full vs (n ∷ ns) [] i d q lt = cc
start-at full vs (n ∷ ns) (e ∷ es) zero d q lt = cc
start-at full vs (n ∷ ns) (e ∷ es) (suc i) d q lt = let rest : map (at vs) ns ≡ start_of full es = cc in start-at full vs ns es i d rest (omega (arith, lt))

pub starts-at : (full : LocSet) (vs : List Expression) (ns : List ℕ) (es : List Expression) (ps : List ℕ) → map (at vs) ns ≡ start_of full es → are_known (length ns) ps ≡ true
    → map (at vs) (map (λ p. get_or ns p 0) ps) ≡ start_of full (map (at es) ps)
starts-at full vs ns es [] q h = refl
starts-at full vs ns es (p ∷ ps) q h =
    let u = and_parts (nat_lt p (length ns)) (are_known (length ns) ps) h in
    ap (λ e. e ∷ map (at vs) (map (λ p. get_or ns p 0) ps)) (start-at full vs ns es p 0 q (ltb-true p (length ns) u.0))
    ∙ ap (λ l. normal full (reversed (at es p)) ∷ l) (starts-at full vs ns es ps q u.1)

pub known-places : (k : ℕ) (ns ps : List ℕ) → are_known k ns ≡ true → are_known (length ns) ps ≡ true → are_known k (map (λ p. get_or ns p 0) ps) ≡ true
known-places k ns [] h g = refl
known-places k ns (p ∷ ps) h g =
    let u = and_parts (nat_lt p (length ns)) (are_known (length ns) ps) g in
    let lt = known-at k ns p 0 (ltb-true p (length ns) u.0) h in
    and_from (nat_lt (get_or ns p 0) k) (are_known k (map (λ p. get_or ns p 0) ps)) (lt-ltb (get_or ns p 0) k lt) (known-places k ns ps h u.1)

pub as-many : (full : LocSet) (vs : List Expression) (ns : List ℕ) (es : List Expression) → map (at vs) ns ≡ start_of full es → length ns ≡ length es
as-many full vs ns es q = sym (length-map ns (at vs)) ∙ ap length q ∙ length-map es (λ e. normal full (reversed e))

pub part-turn : (full : LocSet) (cur new : List Expression) (ms : List ℕ) (ps : List Part) (i r : ℕ) (p : Part) → Extends cur new → are_known (length cur) ms ≡ true → i < length ps → p ≡ get_or ps i p
    → map (at cur) ms ≡ start_of full (expressions_of_parts (take i ps)) → at new r ≡ normal full (reversed (expression_of (expressions_of_parts (take i ps)) p))
    → map (at new) (ms ++ r ∷ []) ≡ start_of full (expressions_of_parts (take (i + 1) ps))
part-turn full cur new ms ps i r p x known lt is q made =
    let es = expressions_of_parts (take i ps) in
    map-append (at new) ms (r ∷ [])
    ∙ ap (λ l. l ++ at new r ∷ []) (map-extends cur new ms x known ∙ q)
    ∙ ap (λ d. start_of full es ++ d ∷ []) (made ∙ ap (λ p. normal full (reversed (expression_of es p))) is)
    ∙ sym (ap (start_of full) (parts-turn ps i p lt) ∙ map-append (λ d. normal full (reversed d)) es (expression_of es (get_or ps i p) ∷ []))

-- parts that are made of others

pub both-within : (k a b : ℕ) (p : Part) → is_earlier k p ≡ true → p ≡ Both a b → (a < k) × (b < k)
both-within k a b p h is =
    let u = and_parts (nat_lt a k) (nat_lt b k) (subst (λ p. is_earlier k p ≡ true) is h) in
    (ltb-true a k u.0, ltb-true b k u.1)

pub not-within : (k a : ℕ) (p : Part) → is_earlier k p ≡ true → p ≡ Not a → a < k
not-within k a p h is = ltb-true a k (subst (λ p. is_earlier k p ≡ true) is h)

pub part-Both : (full : LocSet) (vs : List Expression) (ns : List ℕ) (es : List Expression) (a b : ℕ) (p : Part) (v : Expression) → is_earlier (length ns) p ≡ true → p ≡ Both a b
    → v ≡ both_of (at vs (get_or ns a 0) ∷ at vs (get_or ns b 0) ∷ []) → map (at vs) ns ≡ start_of full es → v ≡ normal full (reversed (expression_of es p))
part-Both full vs ns es a b p v h is made q =
    let u = both-within (length ns) a b p h is in
    made
    ∙ ap (λ x. both_of (x ∷ at vs (get_or ns b 0) ∷ [])) (start-at full vs ns es a 0 q u.0)
    ∙ ap (λ x. both_of (normal full (reversed (at es a)) ∷ x ∷ [])) (start-at full vs ns es b 0 q u.1)
    ∙ sym (ap (λ p. normal full (reversed (expression_of es p))) is)

pub members-known : (k : ℕ) (ms : Vec ℕ Global) (p : Part) → is_earlier k p ≡ true → p ≡ Either ms → are_known k ms.items ≡ true
members-known k ms p h is = subst (λ p. is_earlier k p ≡ true) is h

pub part-Either : (full : LocSet) (vs : List Expression) (ns rs : List ℕ) (es : List Expression) (ms : Vec ℕ Global) (p : Part) (v : Expression) → is_earlier (length ns) p ≡ true → p ≡ Either ms
    → v ≡ either_of (map (at vs) rs) → rs ≡ map (λ m. get_or ns m 0) ms.items → map (at vs) ns ≡ start_of full es → v ≡ normal full (reversed (expression_of es p))
part-Either full vs ns rs es ms p v h is made places q =
    made
    ∙ ap (λ l. either_of (map (at vs) l)) places
    ∙ ap either_of (starts-at full vs ns es ms.items q (members-known (length ns) ms p h is) ∙ start-each full (map (at es) ms.items))
    ∙ sym (ap (λ p. normal full (reversed (expression_of es p))) is)

pub part-Not : (full : LocSet) (vs : List Expression) (ns : List ℕ) (es : List Expression) (a : ℕ) (p : Part) (v : Expression) → is_earlier (length ns) p ≡ true → p ≡ Not a
    → v ≡ complement_of (at vs (get_or ns a 0)) → map (at vs) ns ≡ start_of full es → v ≡ normal full (reversed (expression_of es p))
part-Not full vs ns es a p v h is made q =
    made
    ∙ ap complement_of (start-at full vs ns es a 0 q (not-within (length ns) a p h is))
    ∙ sym (ap (λ p. normal full (reversed (expression_of es p))) is)
