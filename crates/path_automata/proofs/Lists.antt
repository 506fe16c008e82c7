-- Lists of terms, and derivatives of lists of members.
use Rattle.std.proofs.Common.{◌≡◌, ℕ, zero, suc, ◌<◌, ◌+◌, Bool, true, cond, List, [], ◌∷◌, ◌++◌, inl, inr, ⊎_elim, map, length, get_or, take, refl, sym, ap, subst, ◌∙◌, arith}
use Rattle.std.specs.List.{list_all, list_any, flat_map}
use Rattle.std.proofs.lemmas.Bool.{and_parts, and_from}
use Rattle.std.proofs.lemmas.List.{map-append, take_more}
use Rattle.path_exprs.specs.Expression.{Expression, never, either, both, expressions_of}
use Rattle.path_exprs.specs.Normal.{sorted, all, is_all, is_never, either_parts, either_from, either_of, both_parts, both_from, both_of}
use Rattle.path_exprs.specs.Derivative.{derivative, derivative_each}
use Rattle.path_exprs.proofs.Numbers.{at-extends, known-append, known-more, known-one, map-extends, no-shorter}
use Rattle.net_base.specs.declared.loc.LocSet.{LocSet}
use Rattle.path_law.proofs.Sorting.{In}
use Rattle.path_automata.specs.Sets.{agrees, sets_pass, each_pass}
use Rattle.path_terms.specs.Terms.{are_known, are_members, ascending, at, Extends}
use Rattle.path_automata.specs.Classes.{AreSorted, IsClassed}
use Rattle.path_terms.proofs.Numbers.{In-sorted, sorted-In}
use Rattle.path_terms.proofs.Members.{sorted-same, In-append, append-In}

flat-In : (f : Expression → List Expression) (g : Expression) (es : List Expression) → In g (flat_map f es) → (e : Expression) × In e es × In g (f e)
flat-In f g [] i = absurd i
flat-In f g (e ∷ es) i = ⊎_elim (λ j. (e, inl refl, j)) (λ j. let r = flat-In f g es j in (r.0, inr r.1, r.2)) (In-append g (f e) (flat_map f es) i)

In-flat : (f : Expression → List Expression) (g e : Expression) (es : List Expression) → In e es → In g (f e) → In g (flat_map f es)
In-flat f g e [] i j = absurd i
In-flat f g e (d ∷ es) i j =
    append-In g (f d) (flat_map f es) (⊎_elim (λ q. inl (subst (λ e. In g (f e)) q j)) (λ k. inr (In-flat f g e es k j)) i)

flat-same : (f : Expression → List Expression) (es fs : List Expression) → ((g : Expression) → In g es → In g fs) → ((g : Expression) → In g fs → In g es)
    → sorted (flat_map f es) ≡ sorted (flat_map f fs)
flat-same f es fs to from =
    sorted-same (flat_map f es) (flat_map f fs)
    (λ g i. let r = flat-In f g es i in In-flat f g r.0 fs (to r.0 r.1) r.2)
    (λ g i. let r = flat-In f g fs i in In-flat f g r.0 es (from r.0 r.1) r.2)

map-fn-In : (f : Expression → Expression) (g : Expression) (es : List Expression) → In g (map f es) → (e : Expression) × In e es × (g ≡ f e)
map-fn-In f g [] i = absurd i
map-fn-In f g (e ∷ es) i = ⊎_elim (λ q. (e, inl refl, q)) (λ j. let r = map-fn-In f g es j in (r.0, inr r.1, r.2)) i

In-map-fn : (f : Expression → Expression) (e : Expression) (es : List Expression) → In e es → In (f e) (map f es)
In-map-fn f e [] i = absurd i
In-map-fn f e (d ∷ es) i = ⊎_elim (λ q. inl (ap f q)) (λ j. inr (In-map-fn f e es j)) i

map-sorted-to : (f : Expression → Expression) (es : List Expression) (g : Expression) → In g (map f es) → In g (map f (sorted es))
map-sorted-to f es g i = let r = map-fn-In f g es i in subst (λ e. In e (map f (sorted es))) (sym r.2) (In-map-fn f r.0 (sorted es) (In-sorted r.0 es r.1))

map-sorted-from : (f : Expression → Expression) (es : List Expression) (g : Expression) → In g (map f (sorted es)) → In g (map f es)
map-sorted-from f es g i = let r = map-fn-In f g (sorted es) i in subst (λ e. In e (map f es)) (sym r.2) (In-map-fn f r.0 es (sorted-In r.0 es r.1))

each-map : (x : ℕ) (es : List Expression) → derivative_each x (expressions_of es) ≡ map (derivative x) es
each-map x [] = refl
each-map x (e ∷ es) = ap (λ l. derivative x e ∷ l) (each-map x es)

pub either-made : (x : ℕ) (es : List Expression) (e r : Expression) → e ≡ either (expressions_of (sorted es)) → r ≡ either_of (map (derivative x) es) → r ≡ derivative x e
either-made x es e r q p =
    p
    ∙ ap (λ l. cond (list_any is_all l) all (either_from l)) (flat-same either_parts (map (derivative x) es) (map (derivative x) (sorted es))
    (map-sorted-to (derivative x) es) (map-sorted-from (derivative x) es))
    ∙ sym (ap (derivative x) q ∙ ap either_of (each-map x (sorted es)))

pub both-made : (x : ℕ) (es : List Expression) (e r : Expression) → e ≡ both (expressions_of (sorted es)) → r ≡ both_of (map (derivative x) es) → r ≡ derivative x e
both-made x es e r q p =
    p
    ∙ ap (λ l. cond (list_any is_never l) never (both_from l)) (flat-same both_parts (map (derivative x) es) (map (derivative x) (sorted es))
    (map-sorted-to (derivative x) es) (map-sorted-from (derivative x) es))
    ∙ sym (ap (derivative x) q ∙ ap both_of (each-map x (sorted es)))

-- the derivatives of members that were copied
pub copied-made : (x : ℕ) (old one : List Expression) (ms ns rs ds : List ℕ) → ds ≡ rs → map (at one) rs ≡ map (derivative x) (map (at old) ns) → ns ≡ ms
    → map (at one) ds ≡ map (derivative x) (map (at old) ms)
copied-made x old one ms ns rs ds these made those = ap (map (at one)) these ∙ made ∙ ap (λ l. map (derivative x) (map (at old) l)) those

pub copied-below : (k : ℕ) (ms ns : List ℕ) → ns ≡ ms → are_members k ms ≡ true → are_known k ns ≡ true
copied-below k ms ns same h = subst (λ l. are_known k l ≡ true) (sym same) (and_parts (are_known k ms) (ascending ms) h).0

-- locations of a class are in the same sets of each member

each-pass : (p : LocSet → Bool) (g : Expression) (es : List Expression) → each_pass p (expressions_of es) ≡ true → In g es → sets_pass p g ≡ true
each-pass p g [] h i = absurd i
each-pass p g (e ∷ es) h i =
    let u = and_parts (sets_pass p e) (each_pass p (expressions_of es)) h in
    ⊎_elim (λ q. ap (sets_pass p) q ∙ u.0) (λ j. each-pass p g es u.1 j) i

all-passes : (p : LocSet → Bool) (es : List Expression) → ((g : Expression) → In g es → sets_pass p g ≡ true) → list_all (sets_pass p) es ≡ true
all-passes p [] h = refl
all-passes p (e ∷ es) h = and_from _ _ (h e (inl refl)) (all-passes p es (λ g i. h g (inr i)))

pub classed-either : (cs : List ℕ) (es : List Expression) (e : Expression) → e ≡ either (expressions_of (sorted es)) → IsClassed cs e → AreSorted cs es
classed-either cs es e q h x y c =
    all-passes (agrees x y) es (λ g i. each-pass (agrees x y) g (sorted es) (subst (λ e. sets_pass (agrees x y) e ≡ true) q (h x y c)) (In-sorted g es i))

pub classed-both : (cs : List ℕ) (es : List Expression) (e : Expression) → e ≡ both (expressions_of (sorted es)) → IsClassed cs e → AreSorted cs es
classed-both cs es e q h x y c =
    all-passes (agrees x y) es (λ g i. each-pass (agrees x y) g (sorted es) (subst (λ e. sets_pass (agrees x y) e ≡ true) q (h x y c)) (In-sorted g es i))

at-passes : (p : LocSet → Bool) (vs : List Expression) (ns : List ℕ) (i d : ℕ) → i < length ns → list_all (sets_pass p) (map (at vs) ns) ≡ true → sets_pass p (at vs (get_or ns i d)) ≡ true
at-passes p vs [] i d lt h = absurd (omega (arith, lt))
at-passes p vs (n ∷ ns) zero d lt h = (and_parts (sets_pass p (at vs n)) (list_all (sets_pass p) (map (at vs) ns)) h).0
at-passes p vs (n ∷ ns) (suc i) d lt h = at-passes p vs ns i d (omega (arith, lt)) (and_parts (sets_pass p (at vs n)) (list_all (sets_pass p) (map (at vs) ns)) h).1

pub classed-at : (cs : List ℕ) (vs : List Expression) (ns : List ℕ) (i d : ℕ) → i < length ns → AreSorted cs (map (at vs) ns) → IsClassed cs (at vs (get_or ns i d))
classed-at cs vs ns i d lt h x y c = at-passes (agrees x y) vs ns i d lt (h x y c)

pub each-turn : (old cur new : List Expression) (ms ns : List ℕ) (i d r x : ℕ) → Extends old cur → Extends cur new → are_known (length cur) ms ≡ true → get_or ns i d < length old → i < length ns
    → map (at cur) ms ≡ map (derivative x) (map (at old) (take i ns)) → at new r ≡ derivative x (at cur (get_or ns i d))
    → map (at new) (ms ++ r ∷ []) ≡ map (derivative x) (map (at old) (take (i + 1) ns))
each-turn old cur new ms ns i d r x e1 e2 h lo lt q p =
    map-append (at new) ms (r ∷ [])
    ∙ ap (λ l. l ++ at new r ∷ []) (map-extends cur new ms e2 h ∙ q)
    ∙ ap (λ e. map (derivative x) (map (at old) (take i ns)) ++ e ∷ []) (p ∙ ap (derivative x) (at-extends old cur (get_or ns i d) e1 lo))
    ∙ sym (ap (λ l. map (derivative x) (map (at old) l)) (take_more ns i d lt)
    ∙ ap (map (derivative x)) (map-append (at old) (take i ns) (get_or ns i d ∷ []))
    ∙ map-append (derivative x) (map (at old) (take i ns)) (at old (get_or ns i d) ∷ []))

pub known-turn : (cur new : List Expression) (ns more : List ℕ) (n : ℕ) → more ≡ ns ++ n ∷ [] → Extends cur new → are_known (length cur) ns ≡ true → n < length new
    → are_known (length new) more ≡ true
known-turn cur new ns more n is x known lt =
    subst (λ l. are_known (length new) l ≡ true) (sym is)
    (known-append (length new) ns (n ∷ []) (known-more (length cur) (length new) ns (no-shorter cur new x) known) (known-one (length new) n lt))
