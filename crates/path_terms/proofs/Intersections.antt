-- Members of intersections.
use Rattle.std.proofs.Common.{◌≡◌, ℕ, true, false, List, [], ◌∷◌, ◌++◌, map, refl, sym, ap, ◌∙◌, Vec, Global}
use Rattle.std.proofs.lemmas.Bool.{true≢false}
use Rattle.std.proofs.lemmas.List.{append-nil, map-append}
use Rattle.path_exprs.specs.Expression.{Expression, never, complement}
use Rattle.path_exprs.specs.Normal.{sorted, is_all, both_parts}
use Rattle.path_terms.specs.declared.term.Term.{Term}
use Rattle.path_terms.specs.declared.term.Term.TheVariants.{Never, Empty, Set, Seq, Either, Both, Not, Star}
use Rattle.path_terms.specs.Terms.{at, node}

all-parts : (e : Expression) → is_all e ≡ true → both_parts e ≡ []
all-parts (complement never) h = refl
all-parts e h = cc

pub add-nothing : (es : List Expression) (e : Expression) → is_all e ≡ true → sorted es ≡ sorted (es ++ both_parts e)
add-nothing es e h = ap sorted (sym (append-nil es) ∙ ap (λ x. es ++ x) (sym (all-parts e h)))

complement-parts : (e : Expression) → is_all (complement e) ≡ false → both_parts (complement e) ≡ complement e ∷ []
complement-parts never h = absurd (true≢false h)
complement-parts e h = refl

parts-default : (vs : List Expression) (t : Term) → is_all (node vs t) ≡ false → ((v : Vec ℕ Global) → t ≡ Both v → ⊥) → both_parts (node vs t) ≡ node vs t ∷ []
parts-default vs Never h k = refl
parts-default vs Empty h k = refl
parts-default vs (Set s) h k = refl
parts-default vs (Seq a b) h k = refl
parts-default vs (Either v) h k = refl
parts-default vs (Both v) h k = absurd (k v refl)
parts-default vs (Not a) h k = complement-parts (at vs a) h
parts-default vs (Star a) h k = refl

pub add-one : (vs : List Expression) (ns : List ℕ) (n : ℕ) (t : Term) → at vs n ≡ node vs t → is_all (at vs n) ≡ false → ((v : Vec ℕ Global) → t ≡ Both v → ⊥)
    → sorted (map (at vs) (ns ++ n ∷ [])) ≡ sorted (map (at vs) ns ++ both_parts (at vs n))
add-one vs ns n t q h k =
    ap sorted (map-append (at vs) ns (n ∷ []))
    ∙ ap (λ l. sorted (map (at vs) ns ++ l)) (ap (λ e. e ∷ []) q ∙ sym (parts-default vs t (ap is_all (sym q) ∙ h) k) ∙ ap both_parts (sym q))
