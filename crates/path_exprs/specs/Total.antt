-- The order of expressions is total. It is the order of their spellings, lists of numbers of which none begins another.
use Rattle.std.proofs.Common.{◌≡◌, ℕ, List, [], ◌∷◌, refl, sym, ap, subst, ◌∙◌}
use Rattle.std.specs.Cmp.{IsTotalOrder}
use Rattle.std.specs.declared.cmp.Ordering.TheVariants.{Equal}
use Rattle.std.specs.Coded.{Coded, coded_list, coded_ℕ}
use base.Stored.{coded_via}
use Rattle.std.specs.Ordering.{nat_cmp, ordering_then, on}
use Rattle.std.specs.Cmp.Lexicographic.{slice_cmp}
use Rattle.std.proofs.lemmas.Cmp.{nat_list_cmp_total, on_total, tied_itself}
use Rattle.list_law.proofs.Orders.{ordering_then-last, ordering_then_assoc}
use Rattle.path_exprs.specs.Expression.{Expression, never, empty, set, seq, either, both, complement, star, Expressions, none, more}
use Rattle.path_exprs.specs.Order.{compare, compare_lists}
use Rattle.path_exprs.specs.Ordered.{compare-equal}

abbrev spell_words : List ℕ → List ℕ → List ℕ
spell_words [] t = 0 ∷ t
spell_words (w ∷ ws) t = 1 ∷ w ∷ spell_words ws t

-- the spelling of an expression in front of t
abbrev mutual
  spell : Expression → List ℕ → List ℕ
  spell never t = 0 ∷ t
  spell empty t = 1 ∷ t
  spell (set s) t = 2 ∷ spell_words s.words t
  spell (seq a b) t = 3 ∷ spell a (spell b t)
  spell (either es) t = 4 ∷ spell_each es t
  spell (both es) t = 5 ∷ spell_each es t
  spell (complement a) t = 6 ∷ spell a t
  spell (star a) t = 7 ∷ spell a t

  spell_each : Expressions → List ℕ → List ℕ
  spell_each none t = 0 ∷ t
  spell_each (more e es) t = 1 ∷ spell e (spell_each es t)

spell_words-cmp : (v w x y : List ℕ) → slice_cmp nat_cmp (spell_words v x) (spell_words w y) ≡ ordering_then (slice_cmp nat_cmp v w) (slice_cmp nat_cmp x y)
spell_words-cmp [] [] x y = refl
spell_words-cmp [] (w ∷ ws) x y = refl
spell_words-cmp (v ∷ vs) [] x y = refl
spell_words-cmp (v ∷ vs) (w ∷ ws) x y =
    ap (ordering_then (nat_cmp v w)) (spell_words-cmp vs ws x y) ∙ sym (ordering_then_assoc (nat_cmp v w) (slice_cmp nat_cmp vs ws) (slice_cmp nat_cmp x y))

mutual
  spell-cmp : (e f : Expression) (x y : List ℕ) → slice_cmp nat_cmp (spell e x) (spell f y) ≡ ordering_then (compare e f) (slice_cmp nat_cmp x y)
  spell-cmp never never x y = refl
  spell-cmp empty empty x y = refl
  spell-cmp (set s) (set t) x y = spell_words-cmp s.words t.words x y
  spell-cmp (seq a b) (seq c d) x y =
      spell-cmp a c (spell b x) (spell d y) ∙ ap (ordering_then (compare a c)) (spell-cmp b d x y) ∙ sym (ordering_then_assoc (compare a c) (compare b d) (slice_cmp nat_cmp x y))
  spell-cmp (either es) (either fs) x y = spell_each-cmp es fs x y
  spell-cmp (both es) (both fs) x y = spell_each-cmp es fs x y
  spell-cmp (complement a) (complement b) x y = spell-cmp a b x y
  spell-cmp (star a) (star b) x y = spell-cmp a b x y
  spell-cmp e f x y = refl

  spell_each-cmp : (es fs : Expressions) (x y : List ℕ) → slice_cmp nat_cmp (spell_each es x) (spell_each fs y) ≡ ordering_then (compare_lists es fs) (slice_cmp nat_cmp x y)
  spell_each-cmp none none x y = refl
  spell_each-cmp none (more f fs) x y = refl
  spell_each-cmp (more e es) none x y = refl
  spell_each-cmp (more e es) (more f fs) x y =
      spell-cmp e f (spell_each es x) (spell_each fs y) ∙ ap (ordering_then (compare e f)) (spell_each-cmp es fs x y)
      ∙ sym (ordering_then_assoc (compare e f) (compare_lists es fs) (slice_cmp nat_cmp x y))

spelling-cmp : (e f : Expression) → slice_cmp nat_cmp (spell e []) (spell f []) ≡ compare e f
spelling-cmp e f = spell-cmp e f [] [] ∙ ordering_then-last (compare e f)

pub compare_total : IsTotalOrder compare
compare_total =
    let same : on (λ e. spell e []) (slice_cmp nat_cmp) ≡ compare = λ i. λ e f. spelling-cmp e f i in
    subst IsTotalOrder same (on_total (λ e. spell e []) nat_list_cmp_total)

pub compare_itself : (e : Expression) → compare e e ≡ Equal
compare_itself e = tied_itself compare_total e

-- expressions with one spelling are equal
pub spell_same : (e f : Expression) → spell e [] ≡ spell f [] → e ≡ f
spell_same e f same = compare-equal e f (sym (spelling-cmp e f) ∙ ap (λ s. slice_cmp nat_cmp s (spell f [])) same ∙ spelling-cmp f f ∙ compare_itself f)

-- the code of an expression is that of its spelling
abbrev pub coded_expression : Coded Expression
coded_expression = coded_via (coded_list coded_ℕ) (λ e. spell e []) spell_same
