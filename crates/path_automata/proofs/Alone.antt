-- What a sequence and an alternation are in the common cases.
use Rattle.std.proofs.Common.{◌≡◌, ℕ, false, List, [], ◌∷◌, refl, sym, ap, ◌∙◌, Vec, Global}
use Rattle.path_exprs.specs.Expression.{Expression, never, empty, set, seq, either, both, complement, star}
use Rattle.path_exprs.specs.Normal.{after, seq_of, either_of, is_never}
use Rattle.path_terms.specs.declared.term.Term.{Term}
use Rattle.path_terms.specs.declared.term.Term.TheVariants.{Never, Empty, Set, Seq, Either, Both, Not, Star}
use Rattle.path_terms.specs.Terms.{at, node, is_empty}
use Rattle.path_terms.proofs.Sequences.{seq-after}

complement-alone : (e : Expression) → complement e ≡ either_of (complement e ∷ never ∷ [])
complement-alone never = refl
complement-alone empty = refl
complement-alone (set s) = refl
complement-alone (seq a b) = refl
complement-alone (either es) = refl
complement-alone (both es) = refl
complement-alone (complement a) = refl
complement-alone (star a) = refl

pub alone : (vs : List Expression) (e : Expression) (t : Term) → e ≡ node vs t → ((v : Vec ℕ Global) → t ≡ Either v → ⊥) → e ≡ either_of (e ∷ never ∷ [])
alone vs e t q k = q ∙ by_term t k ∙ ap (λ e. either_of (e ∷ never ∷ [])) (sym q)
  where
    by_term : (t : Term) → ((v : Vec ℕ Global) → t ≡ Either v → ⊥) → node vs t ≡ either_of (node vs t ∷ never ∷ [])
    by_term Never k = refl
    by_term Empty k = refl
    by_term (Set s) k = refl
    by_term (Seq a b) k = refl
    by_term (Either v) k = absurd (k v refl)
    by_term (Both v) k = refl
    by_term (Not a) k = complement-alone (at vs a)
    by_term (Star a) k = refl

pub seq-kept : (e a b : Expression) → e ≡ seq a b → ((c : Expression) → after a c ≡ seq a c) → is_never a ≡ false → is_empty a ≡ false → is_never b ≡ false → is_empty b ≡ false → e ≡ seq_of a b
seq-kept e a b q h na ea nb eb = q ∙ sym (h b) ∙ seq-after a b na ea nb eb
