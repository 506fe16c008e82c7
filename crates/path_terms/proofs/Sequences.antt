-- Sequences by the variants of their sides.
use Rattle.std.proofs.Common.{◌≡◌, Bool, true, false, refl, sym, ap, ◌∙◌}
use Rattle.std.proofs.lemmas.Bool.{true≢false}
use Rattle.path_exprs.specs.Expression.{Expression, never, empty, set, seq, either, both, complement, star}
use Rattle.path_exprs.specs.Normal.{after, before, seq_of, is_never}
use Rattle.path_terms.specs.Terms.{is_empty}

pub never-is : (e : Expression) → is_never e ≡ true → e ≡ never
never-is never h = refl
never-is e h = cc

pub empty-is : (e : Expression) → is_empty e ≡ true → e ≡ empty
empty-is empty h = refl
empty-is e h = cc

pub seq-first_never : (a b : Expression) → is_never a ≡ true → a ≡ seq_of a b
seq-first_never a b h = never-is a h ∙ sym (ap (λ e. seq_of e b) (never-is a h))

pub seq-first_empty : (a b : Expression) → is_empty a ≡ true → b ≡ seq_of a b
seq-first_empty a b h = sym (ap (λ e. seq_of e b) (empty-is a h))

before_end : (a : Expression) → (a ≡ seq_of a empty) × (never ≡ seq_of a never)
before_end never = (refl, refl)
before_end empty = (refl, refl)
before_end (set s) = (refl, refl)
before_end (seq a c) = (refl, refl)
before_end (either es) = (refl, refl)
before_end (both es) = (refl, refl)
before_end (complement c) = (refl, refl)
before_end (star c) = (refl, refl)

pub seq-second_empty : (a b : Expression) → is_empty b ≡ true → a ≡ seq_of a b
seq-second_empty a b h = (before_end a).0 ∙ ap (seq_of a) (sym (empty-is b h))

pub seq-second_never : (a b : Expression) → is_never b ≡ true → b ≡ seq_of a b
seq-second_never a b h = never-is b h ∙ (before_end a).1 ∙ ap (seq_of a) (sym (never-is b h))

before-after : (a b : Expression) → is_never b ≡ false → is_empty b ≡ false → before a b ≡ after a b
before-after a never h k = absurd (true≢false h)
before-after a empty h k = absurd (true≢false k)
before-after a b h k = refl

pub seq-after : (a b : Expression) → is_never a ≡ false → is_empty a ≡ false → is_never b ≡ false → is_empty b ≡ false → after a b ≡ seq_of a b
seq-after never b h k m n = absurd (true≢false h)
seq-after empty b h k m n = absurd (true≢false k)
seq-after (set s) b h k m n = sym (before-after (set s) b m n)
seq-after (seq a c) b h k m n = sym (before-after (seq a c) b m n)
seq-after (either es) b h k m n = sym (before-after (either es) b m n)
seq-after (both es) b h k m n = sym (before-after (both es) b m n)
seq-after (complement a) b h k m n = sym (before-after (complement a) b m n)
seq-after (star a) b h k m n = sym (before-after (star a) b m n)

-- a sequence onto a tail

after-after : (a b c : Expression) → after (after a b) c ≡ after a (after b c)
after-after never b c = refl
after-after empty b c = refl
after-after (set s) b c = refl
after-after (seq x y) b c = ap (seq x) (after-after y b c)
after-after (either es) b c = refl
after-after (both es) b c = refl
after-after (complement x) b c = refl
after-after (star x) b c = refl

is-seq : (a b c : Expression) → is_never (after a b) ≡ false
is-seq never b c = refl
is-seq empty b c = refl
is-seq (set s) b c = refl
is-seq (seq x y) b c = refl
is-seq (either es) b c = refl
is-seq (both es) b c = refl
is-seq (complement x) b c = refl
is-seq (star x) b c = refl

is-no-empty : (a b : Expression) → is_empty (after a b) ≡ false
is-no-empty never b = refl
is-no-empty empty b = refl
is-no-empty (set s) b = refl
is-no-empty (seq x y) b = refl
is-no-empty (either es) b = refl
is-no-empty (both es) b = refl
is-no-empty (complement x) b = refl
is-no-empty (star x) b = refl

-- by whether each is Never or Empty
pub seq-seq : (a b c : Expression) → seq_of (seq_of a b) c ≡ seq_of a (seq_of b c)
seq-seq a b c = first (is_never a) (is_empty a) refl refl
  where
    last : (p q : Bool) → is_never a ≡ false → is_empty a ≡ false → is_never b ≡ false → is_empty b ≡ false → is_never c ≡ p → is_empty c ≡ q → seq_of (seq_of a b) c ≡ seq_of a (seq_of b c)
    last true q na ea nb eb h k = sym (seq-second_never (seq_of a b) c h) ∙ seq-second_never a c h ∙ ap (seq_of a) (seq-second_never b c h)
    last false true na ea nb eb h k = sym (seq-second_empty (seq_of a b) c k) ∙ ap (seq_of a) (seq-second_empty b c k)
    last false false na ea nb eb h k =
        ap (λ e. seq_of e c) (sym (seq-after a b na ea nb eb))
        ∙ sym (seq-after (after a b) c (is-seq a b c) (is-no-empty a b) h k)
        ∙ after-after a b c
        ∙ seq-after a (after b c) na ea (is-seq b c c) (is-no-empty b c)
        ∙ ap (seq_of a) (seq-after b c nb eb h k)

    middle : (p q : Bool) → is_never a ≡ false → is_empty a ≡ false → is_never b ≡ p → is_empty b ≡ q → seq_of (seq_of a b) c ≡ seq_of a (seq_of b c)
    middle true q na ea h k =
        ap (λ e. seq_of e c) (sym (seq-second_never a b h)) ∙ sym (seq-first_never b c h) ∙ seq-second_never a b h ∙ ap (seq_of a) (seq-first_never b c h)
    middle false true na ea h k =
        ap (λ e. seq_of e c) (sym (seq-second_empty a b k)) ∙ ap (seq_of a) (seq-first_empty b c k)
    middle false false na ea h k = last (is_never c) (is_empty c) na ea h k refl refl

    first : (p q : Bool) → is_never a ≡ p → is_empty a ≡ q → seq_of (seq_of a b) c ≡ seq_of a (seq_of b c)
    first true q h k =
        ap (λ e. seq_of e c) (sym (seq-first_never a b h)) ∙ sym (seq-first_never a c h) ∙ seq-first_never a (seq_of b c) h
    first false true h k =
        ap (λ e. seq_of e c) (sym (seq-first_empty a b k)) ∙ seq-first_empty a (seq_of b c) k
    first false false h k = middle (is_never b) (is_empty b) h k refl refl
