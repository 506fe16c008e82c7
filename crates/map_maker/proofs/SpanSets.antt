-- Spans that are put behind others.
use Rattle.std.proofs.Common.{◌≡◌, ℕ, ◌+◌, ◌<◌, ◌≤◌, length, take, get_or, zero, suc, Bool, true, false, List, [], ◌∷◌, ◌++◌, inl, inr, refl, ap, sym, ◌∙◌, arith, max}
use Rattle.std.specs.Prelude.{◌&&◌, ◌||◌, ◌==◌, nat_le, nat_lt, Result, Ok, Err, IfOk}
use Rattle.std.specs.List.{AllByRecursion}
use Rattle.std.specs.List.Sorted.{IsPermutation}
use Rattle.std.proofs.lemmas.List.Sorted.{list_any-IsPermutation}
use Rattle.route_maps.specs.OfConfig.{meets_some}
use Rattle.std.proofs.lemmas.Bool.{leb-true, le-leb, ltb-true, lt-ltb, and_parts, and_from, or_cases, or_left, or_right, cases_lt, false_from_ne_true}
use Rattle.std.proofs.lemmas.List.Folds.{list_any-append}
use Rattle.std.proofs.lemmas.List.{take_more}
use Rattle.std.proofs.Math.Bool.{or-false}
use Rattle.list_law.proofs.Truth.{same_tests}
use Rattle.net_base.specs.Prefixes.{PlainPattern, IsPattern}
use Rattle.route_maps.specs.Overlaps.{overlap}
use Rattle.map_maker.specs.Keys.{key, in_span, in_some, span_at, has, AreApart, AreJoined}
use Rattle.map_maker.proofs.SpanLaws.{span_key}
use Rattle.map_maker.specs.declared.spans.Span.{Span}

pub has-push : (xs : List ℕ) (x n : ℕ) → has (xs ++ x ∷ []) n ≡ (has xs n || x == n)
has-push xs x n = list_any-append (λ y. y == n) xs (x ∷ []) ∙ ap (λ b. has xs n || b) (or-false (x == n))

pub in_some-push : (spans : List Span) (s : Span) (k : ℕ) → in_some (spans ++ s ∷ []) k ≡ (in_some spans k || in_span s k)
in_some-push spans s k = list_any-append (λ (s : Span). in_span s k) spans (s ∷ []) ∙ ap (λ b. in_some spans k || b) (or-false (in_span s k))

-- an empty one has no key
pub in_span-empty : (s : Span) (k : ℕ) → s.to ≤ s.from → in_span s k ≡ false
in_span-empty s k le = false_from_ne_true (in_span s k) (λ h. let both = and_parts (nat_le s.from k) (nat_lt k s.to) h in absurd (omega (arith, le, leb-true s.from k both.0, ltb-true k s.to both.1)))

AreApart-push : (spans : List Span) (s : Span) → AreApart spans → ((k : ℕ) → in_span s k ≡ true → in_some spans k ≡ false) → AreApart (spans ++ s ∷ [])
AreApart-push [] s apart none = (λ k h. refl, tt)
AreApart-push (t ∷ spans) s apart none = (
  λ k h. in_some-push spans s k ∙ (let one : in_some spans k ≡ false = apart.0 k h in let other : in_span s k ≡ false = false_from_ne_true (in_span s k) (λ on. later k on h) in rw (one, other) refl),
  AreApart-push spans s apart.1 (λ k on. rest (in_span t k) (in_some spans k) (none k on)),
)
  where
    rest : (a b : Bool) → (a || b) ≡ false → b ≡ false
    rest false b e = e
    rest true b e = absurd cc

    later : (k : ℕ) → in_span s k ≡ true → in_span t k ≡ true → ⊥
    later k on h = let e : (in_span t k || in_some spans k) ≡ false = none k on in let f : (true || in_some spans k) ≡ false = ap (λ b. b || in_some spans k) (sym h) ∙ e in cc

module _ (spans : List Span) (reached : ℕ) (s : Span) (j : AreJoined spans reached s.from) where
  -- what is new begins where the others end
  abbrev pub new : Span
  new = record { from = max s.from reached; to = s.to }

  pub new_span : (k : ℕ) → in_some (spans ++ new ∷ []) k ≡ (in_some spans k || in_span s k)
  new_span k = in_some-push spans new k ∙ same_tests (in_some spans k || in_span new k) (in_some spans k || in_span s k) to from
    where
      to : (in_some spans k || in_span new k) ≡ true → (in_some spans k || in_span s k) ≡ true
      to h = elim (or_cases (in_some spans k) (in_span new k) h) [
        | inl t ↦ or_left (in_some spans k) (in_span s k) t
        | inr t ↦
            let both = and_parts (nat_le (max s.from reached) k) (nat_lt k s.to) t in
            let low : s.from ≤ k = let e = leb-true (max s.from reached) k both.0 in omega (arith, e) in
            or_right (in_some spans k) (in_span s k) (and_from _ _ (le-leb _ _ low) both.1)
      ]

      from : (in_some spans k || in_span s k) ≡ true → (in_some spans k || in_span new k) ≡ true
      from h = elim (or_cases (in_some spans k) (in_span s k) h) [
        | inl t ↦ or_left (in_some spans k) (in_span new k) t
        | inr t ↦ (
            let both = and_parts (nat_le s.from k) (nat_lt k s.to) t in
            let low : s.from ≤ k = leb-true s.from k both.0 in
            elim (cases_lt k reached) [
              | inl lt ↦ or_left (in_some spans k) (in_span new k) (j.full k low lt)
              | inr le ↦
                  let e : max s.from reached ≤ k = omega (arith, low, le) in
                  or_right (in_some spans k) (in_span new k) (and_from _ _ (le-leb _ _ e) both.1)
            ])
      ]

  pub new_joined : max s.from reached < s.to → AreJoined (spans ++ new ∷ []) s.to s.from
  new_joined lt = record {
    apart = AreApart-push spans new j.apart
        (λ k h. false_from_ne_true (in_some spans k) (λ on. let e =
        leb-true (max s.from reached) k (and_parts (nat_le (max s.from reached) k) (nat_lt k s.to) h).0 in
        absurd (omega (arith, e, j.below k on))));
    below = λ k h. elim (or_cases (in_some spans k) (in_span s k) (sym (new_span k) ∙ h)) [
      | inl t ↦ omega (arith, lt, j.below k t)
      | inr t ↦ ltb-true k s.to (and_parts (nat_le s.from k) (nat_lt k s.to) t).1
    ];
    full = λ k low high. new_span k ∙ or_right (in_some spans k) (in_span s k) (and_from _ _ (le-leb s.from k low) (lt-ltb k s.to high));
  }

-- a pattern's span of one length more
pub overlaps_more : (before first again overlaps : Bool) → ((before || (first && overlaps)) || (again && overlaps)) ≡ (before || ((first || again) && overlaps))
overlaps_more true first again overlaps = refl
overlaps_more false true again true = refl
overlaps_more false false again true = refl
overlaps_more false true true false = refl
overlaps_more false true false false = refl
overlaps_more false false again false = refl

-- the spans of a pattern, of one length after another
pub spans_more : (p q : PlainPattern) (lengths : List ℕ) (i len : ℕ) (old now next : List Span) (s : Span) → IsPattern p → IsPattern q → len ≤ 32
    → has (take (i + 1) lengths) q.base.len ≡ (has (take i lengths) q.base.len || len == q.base.len)
    → in_some now (key q) ≡ (in_some old (key q) || (has (take i lengths) q.base.len && overlap q p)) → s ≡ span_at p len → in_some next (key q) ≡ (in_some now (key q) || in_span s (key q))
    → in_some next (key q) ≡ (in_some old (key q) || (has (take (i + 1) lengths) q.base.len && overlap q p))
spans_more p q lengths i len old now next s lp lq low more so_far is added =
    added
    ∙ ap (λ (t : Span). in_some now (key q) || in_span t (key q)) is
    ∙ ap (λ b. in_some now (key q) || b) (span_key p q lp lq len low)
    ∙ ap (λ b. b || (len == q.base.len && overlap q p)) so_far
    ∙ overlaps_more (in_some old (key q)) (has (take i lengths) q.base.len) (len == q.base.len) (overlap q p)
    ∙ ap (λ b. in_some old (key q) || (b && overlap q p)) (sym more)

pub has-take_more : (xs : List ℕ) (i n : ℕ) → i < length xs → has (take (i + 1) xs) n ≡ (has (take i xs) n || get_or xs i 0 == n)
has-take_more xs i n h = ap (λ ys. has ys n) (take_more xs i 0 h) ∙ has-push (take i xs) (get_or xs i 0) n

pub in_some-take_more : (spans : List Span) (i : ℕ) (d : Span) (k : ℕ) → i < length spans → in_some (take (i + 1) spans) k ≡ (in_some (take i spans) k || in_span (get_or spans i d) k)
in_some-take_more spans i d k h = ap (λ (ys : List Span). in_some ys k) (take_more spans i d h) ∙ in_some-push (take i spans) (get_or spans i d) k

-- less is asked of keys from a later one on
pub AreJoined-later : (spans : List Span) (reached from later : ℕ) → from ≤ later → AreJoined spans reached from → AreJoined spans reached later
AreJoined-later spans reached from later le j = record { apart = j.apart; below = j.below; full = λ k low high. j.full k (omega (arith, le, low)) high }

pub each_at : {X : Type 0} (P : X → Type 0) (xs : List X) (i : ℕ) (d : X) → AllByRecursion P xs → i < length xs → P (get_or xs i d)
each_at P [] i d all lt = absurd (omega (arith, lt))
each_at P (x ∷ xs) zero d all lt = all.0
each_at P (x ∷ xs) (suc i) d all lt = each_at P xs i d all.1 (omega (arith, lt))

-- spans in order have the keys of those that were put in order
pub from_sorted : {V E : Type 0} (items : V → List Span) (class : List PlainPattern) (lengths : List ℕ) (spans sorted given : List Span) → IsPermutation spans sorted → given ≡ sorted
    → ((q : PlainPattern) → IsPattern q → has lengths q.base.len ≡ true → in_some spans (key q) ≡ meets_some class q)
    → (r : Result V E) → IfOk r (λ (v : V). (k : ℕ) → in_some (items v) k ≡ in_some given k)
    → IfOk r (λ (v : V). (q : PlainPattern) → IsPattern q → has lengths q.base.len ≡ true → in_some (items v) (key q) ≡ meets_some class q)
from_sorted items class lengths spans sorted given permutation is meets (Ok v) same = λ q lq known.
    same (key q) ∙ ap (λ (xs : List Span). in_some xs (key q)) is ∙ sym (list_any-IsPermutation (λ (s : Span). in_span s (key q)) spans sorted permutation) ∙ meets q lq known
from_sorted items class lengths spans sorted given permutation is meets (Err e) same = tt
