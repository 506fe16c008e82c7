-- A derivative has no sets but those of its expression.
use Rattle.std.proofs.Common.{◌≡◌, ℕ, Bool, true, false, cond, List, [], ◌∷◌, ◌++◌, refl, ap, ◌∙◌}
use Rattle.std.specs.List.{flat_map, list_all, list_any}
use Rattle.std.specs.Ordering.{match_ordering}
use Rattle.std.specs.declared.cmp.Ordering.{Ordering}
use Rattle.std.specs.declared.cmp.Ordering.TheVariants.{Less, Equal, Greater}
use Rattle.std.proofs.lemmas.Bool.{and_parts, and_from}
use Rattle.net_base.specs.declared.loc.LocSet.{LocSet}
use Rattle.net_base.specs.Sets.{holds}
use Rattle.path_exprs.specs.Expression.{Expression, never, empty, set, seq, either, both, complement, star, Expressions, none, more, expressions_of, list_of}
use Rattle.path_exprs.specs.Derivative.{derivative, derivative_each}
use Rattle.path_exprs.specs.Membership.{member}
use Rattle.path_exprs.specs.Normal.{after, before, seq_of, insert, insert_each, sorted, either_parts, either_from, either_of, both_parts, both_from, both_of, complement_of, all, is_all, is_never}
use Rattle.path_exprs.specs.Order.{compare}
use Rattle.path_automata.specs.Sets.{agrees, sets_pass, each_pass}

abbrev all_pass : (LocSet → Bool) → List Expression → Bool
all_pass p es = list_all (sets_pass p) es

module _ (p : LocSet → Bool) where
  to_each : (es : List Expression) → all_pass p es ≡ true → each_pass p (expressions_of es) ≡ true
  to_each [] h = refl
  to_each (e ∷ es) h = let u = and_parts (sets_pass p e) (all_pass p es) h in and_from _ _ u.0 (to_each es u.1)

  from_each : (es : Expressions) → each_pass p es ≡ true → all_pass p (list_of es) ≡ true
  from_each none h = refl
  from_each (more e es) h = let u = and_parts (sets_pass p e) (each_pass p es) h in and_from _ _ u.0 (from_each es u.1)

  append : (es fs : List Expression) → all_pass p es ≡ true → all_pass p fs ≡ true → all_pass p (es ++ fs) ≡ true
  append [] fs h k = k
  append (e ∷ es) fs h k = let u = and_parts (sets_pass p e) (all_pass p es) h in and_from _ _ u.0 (append es fs u.1 k)

  after_pass : (a c : Expression) → sets_pass p a ≡ true → sets_pass p c ≡ true → sets_pass p (after a c) ≡ true
  after_pass (seq a b) c h k = let u = and_parts (sets_pass p a) (sets_pass p b) h in and_from _ _ u.0 (after_pass b c u.1 k)
  after_pass never c h k = k
  after_pass empty c h k = k
  after_pass (set s) c h k = and_from _ _ h k
  after_pass (either es) c h k = and_from _ _ h k
  after_pass (both es) c h k = and_from _ _ h k
  after_pass (complement a) c h k = and_from _ _ h k
  after_pass (star a) c h k = and_from _ _ h k

  before_pass : (a b : Expression) → sets_pass p a ≡ true → sets_pass p b ≡ true → sets_pass p (before a b) ≡ true
  before_pass a never h k = refl
  before_pass a empty h k = h
  before_pass a (set s) h k = after_pass a (set s) h k
  before_pass a (seq b c) h k = after_pass a (seq b c) h k
  before_pass a (either es) h k = after_pass a (either es) h k
  before_pass a (both es) h k = after_pass a (both es) h k
  before_pass a (complement b) h k = after_pass a (complement b) h k
  before_pass a (star b) h k = after_pass a (star b) h k

  seq_pass : (a b : Expression) → sets_pass p a ≡ true → sets_pass p b ≡ true → sets_pass p (seq_of a b) ≡ true
  seq_pass never b h k = refl
  seq_pass empty b h k = k
  seq_pass (set s) b h k = before_pass (set s) b h k
  seq_pass (seq a c) b h k = before_pass (seq a c) b h k
  seq_pass (either es) b h k = before_pass (either es) b h k
  seq_pass (both es) b h k = before_pass (both es) b h k
  seq_pass (complement a) b h k = before_pass (complement a) b h k
  seq_pass (star a) b h k = before_pass (star a) b h k

  insert_by : (o : Ordering) (e f : Expression) (fs rest : List Expression) → sets_pass p e ≡ true → sets_pass p f ≡ true → all_pass p fs ≡ true
      → all_pass p rest ≡ true → all_pass p (match_ordering o (e ∷ f ∷ fs) (f ∷ fs) (f ∷ rest)) ≡ true
  insert_by Less e f fs rest h k l m = and_from _ _ h (and_from _ _ k l)
  insert_by Equal e f fs rest h k l m = and_from _ _ k l
  insert_by Greater e f fs rest h k l m = and_from _ _ k m

  insert_pass : (e : Expression) (fs : List Expression) → sets_pass p e ≡ true → all_pass p fs ≡ true → all_pass p (insert e fs) ≡ true
  insert_pass e [] h k = and_from _ _ h refl
  insert_pass e (f ∷ fs) h k = let u = and_parts (sets_pass p f) (all_pass p fs) k in insert_by (compare e f) e f fs (insert e fs) h u.0 u.1 (insert_pass e fs h u.1)

  insert_each_pass : (es fs : List Expression) → all_pass p es ≡ true → all_pass p fs ≡ true → all_pass p (insert_each es fs) ≡ true
  insert_each_pass [] fs h k = k
  insert_each_pass (e ∷ es) fs h k = let u = and_parts (sets_pass p e) (all_pass p es) h in insert_each_pass es (insert e fs) u.1 (insert_pass e fs u.0 k)

  pub sorted_pass : (es : List Expression) → all_pass p es ≡ true → each_pass p (expressions_of (sorted es)) ≡ true
  sorted_pass es h = to_each (sorted es) (insert_each_pass es [] h refl)

  either_parts_pass : (e : Expression) → sets_pass p e ≡ true → all_pass p (either_parts e) ≡ true
  either_parts_pass never h = refl
  either_parts_pass (either es) h = from_each es h
  either_parts_pass empty h = refl
  either_parts_pass (set s) h = and_from _ _ h refl
  either_parts_pass (seq a b) h = and_from _ _ h refl
  either_parts_pass (both es) h = and_from _ _ h refl
  either_parts_pass (complement a) h = and_from _ _ h refl
  either_parts_pass (star a) h = and_from _ _ h refl

  both_parts_pass : (e : Expression) → sets_pass p e ≡ true → all_pass p (both_parts e) ≡ true
  both_parts_pass never h = refl
  both_parts_pass (both es) h = from_each es h
  both_parts_pass empty h = refl
  both_parts_pass (set s) h = and_from _ _ h refl
  both_parts_pass (seq a b) h = and_from _ _ h refl
  both_parts_pass (either es) h = and_from _ _ h refl
  both_parts_pass (star a) h = and_from _ _ h refl
  both_parts_pass (complement never) h = refl
  both_parts_pass (complement empty) h = refl
  both_parts_pass (complement (set s)) h = and_from _ _ h refl
  both_parts_pass (complement (seq a b)) h = and_from _ _ h refl
  both_parts_pass (complement (either es)) h = and_from _ _ h refl
  both_parts_pass (complement (both es)) h = and_from _ _ h refl
  both_parts_pass (complement (complement a)) h = and_from _ _ h refl
  both_parts_pass (complement (star a)) h = and_from _ _ h refl

  flat_pass : (f : Expression → List Expression) → ((e : Expression) → sets_pass p e ≡ true → all_pass p (f e) ≡ true) → (es : List Expression)
      → all_pass p es ≡ true → all_pass p (flat_map f es) ≡ true
  flat_pass f each [] h = refl
  flat_pass f each (e ∷ es) h = let u = and_parts (sets_pass p e) (all_pass p es) h in append (f e) (flat_map f es) (each e u.0) (flat_pass f each es u.1)

  either_from_pass : (es : List Expression) → all_pass p es ≡ true → sets_pass p (either_from es) ≡ true
  either_from_pass [] h = refl
  either_from_pass (e ∷ []) h = (and_parts (sets_pass p e) true h).0
  either_from_pass (e ∷ f ∷ es) h = to_each (e ∷ f ∷ es) h

  both_from_pass : (es : List Expression) → all_pass p es ≡ true → sets_pass p (both_from es) ≡ true
  both_from_pass [] h = refl
  both_from_pass (e ∷ []) h = (and_parts (sets_pass p e) true h).0
  both_from_pass (e ∷ f ∷ es) h = to_each (e ∷ f ∷ es) h

  chosen : (b : Bool) (x y : Expression) → sets_pass p x ≡ true → sets_pass p y ≡ true → sets_pass p (cond b x y) ≡ true
  chosen true x y h k = h
  chosen false x y h k = k

  either_pass : (es : List Expression) → all_pass p es ≡ true → sets_pass p (either_of es) ≡ true
  either_pass es h =
      let fs : all_pass p (sorted (flat_map either_parts es)) ≡ true = insert_each_pass (flat_map either_parts es) [] (flat_pass either_parts either_parts_pass es h) refl in
      chosen (list_any is_all (sorted (flat_map either_parts es))) all (either_from (sorted (flat_map either_parts es))) refl (either_from_pass (sorted (flat_map either_parts es)) fs)

  both_pass : (es : List Expression) → all_pass p es ≡ true → sets_pass p (both_of es) ≡ true
  both_pass es h =
      let fs : all_pass p (sorted (flat_map both_parts es)) ≡ true = insert_each_pass (flat_map both_parts es) [] (flat_pass both_parts both_parts_pass es h) refl in
      chosen (list_any is_never (sorted (flat_map both_parts es))) never (both_from (sorted (flat_map both_parts es))) refl (both_from_pass (sorted (flat_map both_parts es)) fs)

  complement_pass : (a : Expression) → sets_pass p a ≡ true → sets_pass p (complement_of a) ≡ true
  complement_pass (complement a) h = h
  complement_pass never h = refl
  complement_pass empty h = refl
  complement_pass (set s) h = h
  complement_pass (seq a b) h = h
  complement_pass (either es) h = h
  complement_pass (both es) h = h
  complement_pass (star a) h = h

  mutual
    pub kept : (x : ℕ) (e : Expression) → sets_pass p e ≡ true → sets_pass p (derivative x e) ≡ true
    kept x never h = refl
    kept x empty h = refl
    kept x (set s) h = chosen (holds s x) empty never refl refl
    kept x (seq a b) h =
        let u = and_parts (sets_pass p a) (sets_pass p b) h in
        let front : sets_pass p (seq_of (derivative x a) b) ≡ true = seq_pass (derivative x a) b (kept x a u.0) u.1 in
        chosen (member a []) (either_of (seq_of (derivative x a) b ∷ derivative x b ∷ [])) (seq_of (derivative x a) b)
        (either_pass (seq_of (derivative x a) b ∷ derivative x b ∷ []) (and_from _ _ front (and_from _ _ (kept x b u.1) refl))) front
    kept x (either es) h = either_pass (derivative_each x es) (kept_each x es h)
    kept x (both es) h = both_pass (derivative_each x es) (kept_each x es h)
    kept x (complement a) h = complement_pass (derivative x a) (kept x a h)
    kept x (star a) h = seq_pass (derivative x a) (star a) (kept x a h) h

    kept_each : (x : ℕ) (es : Expressions) → each_pass p es ≡ true → all_pass p (derivative_each x es) ≡ true
    kept_each x none h = refl
    kept_each x (more e es) h = let u = and_parts (sets_pass p e) (each_pass p es) h in and_from _ _ (kept x e u.0) (kept_each x es u.1)

agreed : (b c : Bool) → cond b c (cond c false true) ≡ true → b ≡ c
agreed true true h = refl
agreed true false h = absurd (cc)
agreed false true h = absurd (cc)
agreed false false h = refl

mutual
  pub same : (x y : ℕ) (e : Expression) → sets_pass (agrees x y) e ≡ true → derivative x e ≡ derivative y e
  same x y never h = refl
  same x y empty h = refl
  same x y (set s) h = ap (λ b. cond b empty never) (agreed (holds s x) (holds s y) h)
  same x y (seq a b) h =
      let u = and_parts (sets_pass (agrees x y) a) (sets_pass (agrees x y) b) h in
      ap (λ d. cond (member a []) (either_of (seq_of d b ∷ derivative x b ∷ [])) (seq_of d b)) (same x y a u.0)
      ∙ ap (λ d. cond (member a []) (either_of (seq_of (derivative y a) b ∷ d ∷ [])) (seq_of (derivative y a) b)) (same x y b u.1)
  same x y (either es) h = ap either_of (same_each x y es h)
  same x y (both es) h = ap both_of (same_each x y es h)
  same x y (complement a) h = ap complement_of (same x y a h)
  same x y (star a) h = ap (λ d. seq_of d (star a)) (same x y a h)

  same_each : (x y : ℕ) (es : Expressions) → each_pass (agrees x y) es ≡ true → derivative_each x es ≡ derivative_each y es
  same_each x y none h = refl
  same_each x y (more e es) h =
      let u = and_parts (sets_pass (agrees x y) e) (each_pass (agrees x y) es) h in
      ap (λ d. d ∷ derivative_each x es) (same x y e u.0) ∙ ap (λ ds. derivative y e ∷ ds) (same_each x y es u.1)
