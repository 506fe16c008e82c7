-- The normal form holds the lists of locations of the net that the expression holds.
use Rattle.std.proofs.Common.{◌≡◌, ◌==◌, ℕ, List, [], ◌∷◌, Bool, true, false, not, cond, ◌&&◌, ◌||◌, refl, sym, ap, ◌∙◌}
use Rattle.std.proofs.lemmas.Bool.{and_parts}
use Rattle.std.proofs.lemmas.Slice.Eq.{bytes_eq-Decides}
use Rattle.std.specs.List.{list_all}
use Rattle.path_exprs.specs.Expression.{Expression, never, empty, set, seq, either, both, complement, star, Expressions, none, more}
use Rattle.path_exprs.specs.Language.{Language, nothing, one_of, divides, goes_on, repeats}
use Rattle.net_base.specs.declared.loc.LocSet.{LocSet}
use Rattle.net_base.specs.Sets.{holds, same_set}
use Rattle.net_base.proofs.SetLaws.{holds-zeros}
use Rattle.path_exprs.specs.Membership.{member, some_member, each_member}
use Rattle.path_exprs.specs.Normal.{all, normal_set, star_of, normal, normal_each}
use Rattle.path_law.proofs.Languages.{Same}
use Rattle.path_law.proofs.Repeats.{repeats-nothing, repeats-none, repeats-everything, repeats-one_of, repeats-repeats}
use Rattle.path_law.proofs.NormalForms.{in_some, in_each, member-seq_of, member-either_of, member-both_of, member-complement_of}

-- a set without a location

one_of-zeros : (s : LocSet) (xs : List ℕ) → list_all (λ w. w == 0) s.words ≡ true → false ≡ one_of s xs
one_of-zeros s [] h = refl
one_of-zeros s (x ∷ xs) h = sym (ap (λ b. b && nothing xs) (holds-zeros s x h))

normal_set-at : (b : Bool) (s : LocSet) (xs : List ℕ) → list_all (λ w. w == 0) s.words ≡ b → member (cond b never (set s)) xs ≡ one_of s xs
normal_set-at true s xs h = one_of-zeros s xs h
normal_set-at false s xs h = refl

pub member-normal_set : (s : LocSet) → Same (member (normal_set s)) (one_of s)
member-normal_set s xs = normal_set-at (list_all (λ w. w == 0) s.words) s xs refl

-- repetition

star_of-set : (full s : LocSet) (xs : List ℕ) → list_all (holds full) xs ≡ true → (b : Bool) → same_set s full ≡ b →
    member (cond b all (star (set s))) xs ≡ repeats (one_of s) xs
star_of-set full s xs h true e =
    let same : s ≡ full = ap (λ ws. record { words = ws }) ((bytes_eq-Decides s.words full.words).0 e) in
    sym (ap (λ v. repeats (one_of v) xs) same ∙ repeats-one_of full xs h)
star_of-set full s xs h false e = refl

pub member-star_of : (full : LocSet) (a : Expression) (xs : List ℕ) → list_all (holds full) xs ≡ true → member (star_of full a) xs ≡ repeats (member a) xs
member-star_of full never xs h = sym (repeats-none xs)
member-star_of full empty xs h = sym (repeats-nothing xs)
member-star_of full (star a) xs h = sym (repeats-repeats (member a) xs)
member-star_of full (set s) xs h = star_of-set full s xs h (same_set s full) refl
member-star_of full (complement never) xs h = sym (repeats-everything xs)
member-star_of full a xs h = refl

-- languages that hold the same lists of locations of the net

divides_within : (full : LocSet) (p p' q q' : Language) → ((xs : List ℕ) → list_all (holds full) xs ≡ true → p xs ≡ p' xs) → ((xs : List ℕ) → list_all (holds full) xs ≡ true → q xs ≡ q' xs) →
    (xs : List ℕ) → list_all (holds full) xs ≡ true → divides p q xs ≡ divides p' q' xs
divides_within full p p' q q' e f [] h = ap (λ b. b && q []) (e [] refl) ∙ ap (λ b. p' [] && b) (f [] refl)
divides_within full p p' q q' e f (x ∷ xs) h =
    let parts = and_parts (holds full x) (list_all (holds full) xs) h in
    ap (λ b. (b && q (x ∷ xs)) || divides (λ ys. p (x ∷ ys)) q xs) (e [] refl)
    ∙ ap (λ b. (p' [] && b) || divides (λ ys. p (x ∷ ys)) q xs) (f (x ∷ xs) h)
    ∙ ap (λ b. (p' [] && q' (x ∷ xs)) || b)
    (divides_within full (λ ys. p (x ∷ ys)) (λ ys. p' (x ∷ ys)) q q' (λ ys k. e (x ∷ ys) (ap (λ b. b && list_all (holds full) ys) parts.0 ∙ k)) f xs parts.1)

goes_on_within : (full : LocSet) (p p' q q' : Language) → ((xs : List ℕ) → list_all (holds full) xs ≡ true → p xs ≡ p' xs) → ((xs : List ℕ) → list_all (holds full) xs ≡ true → q xs ≡ q' xs) →
    (xs : List ℕ) → list_all (holds full) xs ≡ true → goes_on p q xs ≡ goes_on p' q' xs
goes_on_within full p p' q q' e f [] h = f [] refl
goes_on_within full p p' q q' e f (x ∷ xs) h =
    let parts = and_parts (holds full x) (list_all (holds full) xs) h in
    ap (λ b. (b && goes_on p (λ ys. p (x ∷ ys)) xs) || goes_on p (λ ys. q (x ∷ ys)) xs) (f [] refl)
    ∙ ap (λ b. (q' [] && b) || goes_on p (λ ys. q (x ∷ ys)) xs)
    (goes_on_within full p p' (λ ys. p (x ∷ ys)) (λ ys. p' (x ∷ ys)) e (λ ys k. e (x ∷ ys) (ap (λ b. b && list_all (holds full) ys) parts.0 ∙ k)) xs parts.1)
    ∙ ap (λ b. (q' [] && goes_on p' (λ ys. p' (x ∷ ys)) xs) || b)
    (goes_on_within full p p' (λ ys. q (x ∷ ys)) (λ ys. q' (x ∷ ys)) e (λ ys k. f (x ∷ ys) (ap (λ b. b && list_all (holds full) ys) parts.0 ∙ k)) xs parts.1)

repeats_within : (full : LocSet) (p p' : Language) → ((xs : List ℕ) → list_all (holds full) xs ≡ true → p xs ≡ p' xs) →
    (xs : List ℕ) → list_all (holds full) xs ≡ true → repeats p xs ≡ repeats p' xs
repeats_within full p p' e [] h = refl
repeats_within full p p' e (x ∷ xs) h =
    let parts = and_parts (holds full x) (list_all (holds full) xs) h in
    goes_on_within full p p' (λ ys. p (x ∷ ys)) (λ ys. p' (x ∷ ys)) e (λ ys k. e (x ∷ ys) (ap (λ b. b && list_all (holds full) ys) parts.0 ∙ k)) xs parts.1

mutual
  pub member-normal : (e : Expression) (full : LocSet) (xs : List ℕ) → list_all (holds full) xs ≡ true → member (normal full e) xs ≡ member e xs
  member-normal never full xs h = refl
  member-normal empty full xs h = refl
  member-normal (set s) full xs h = member-normal_set s xs
  member-normal (seq a b) full xs h =
      member-seq_of (normal full a) (normal full b) xs
      ∙ divides_within full (member (normal full a)) (member a) (member (normal full b)) (member b) (member-normal a full) (member-normal b full) xs h
  member-normal (either es) full xs h = member-either_of (normal_each full es) xs ∙ some_member-normal es full xs h
  member-normal (both es) full xs h = member-both_of (normal_each full es) xs ∙ each_member-normal es full xs h
  member-normal (complement a) full xs h = member-complement_of (normal full a) xs ∙ ap not (member-normal a full xs h)
  member-normal (star a) full xs h =
      member-star_of full (normal full a) xs h ∙ repeats_within full (member (normal full a)) (member a) (member-normal a full) xs h

  pub some_member-normal : (es : Expressions) (full : LocSet) (xs : List ℕ) → list_all (holds full) xs ≡ true → in_some (normal_each full es) xs ≡ some_member es xs
  some_member-normal none full xs h = refl
  some_member-normal (more e es) full xs h =
      ap (λ t. t || in_some (normal_each full es) xs) (member-normal e full xs h) ∙ ap (λ t. member e xs || t) (some_member-normal es full xs h)

  pub each_member-normal : (es : Expressions) (full : LocSet) (xs : List ℕ) → list_all (holds full) xs ≡ true → in_each (normal_each full es) xs ≡ each_member es xs
  each_member-normal none full xs h = refl
  each_member-normal (more e es) full xs h =
      ap (λ t. t && in_each (normal_each full es) xs) (member-normal e full xs h) ∙ ap (λ t. member e xs && t) (each_member-normal es full xs h)
