-- Where no two nodes are joined, paths with fewer places than the graph has nodes tell them apart: as long as longer paths tell
-- more nodes apart there are more classes for each place, and there are at most as many as nodes.
use Rattle.std.proofs.Common.{◌≡◌, ◌≢◌, ◌⊎◌, ℕ, zero, suc, ◌<◌, ◌≤◌, Bool, true, false, not, length, refl, sym, ◌∙◌, subst, inl, inr, arith}
use Rattle.std.specs.Prelude.{◌&&◌, is_none, is_some}
use Rattle.std.proofs.lemmas.Bool.{and_from, and_parts, both_ways, cases_Bool, cases_order, false_from_ne_true, not-true, not_from_false}
use Rattle.list_law.specs.Counts.{kept_below}
use Rattle.list_law.proofs.Kept.{kept_below-less, kept_below-one_more}
use Rattle.list_law.proofs.Options.{cases_Option, is_none_from, is_none_parts, is_some_from, is_some_parts, none_or_some}
use Rattle.graph_base.specs.Graphs.{PlainGraph, IsGraph}
use Rattle.graph_base.specs.Least.{least_below}
use Rattle.graph_base.specs.Runs.{place_of}
use Rattle.graph_base.proofs.Least.{least_exists, least_is_least, least_passes}
use Rattle.reach_prune.proofs.Keeping.{kept_below_le}
use Rattle.node_quotient.specs.Quotient.{AreAllToldApart, AreToldApart, IsReduced}
use Rattle.node_quotient.proofs.Paths.{apart, ends_alike, none_longer, not_apart, path_apart}

module _ (g : PlainGraph) (ok : IsGraph g) where
  -- nodes that no path of so many places tells apart

  apart_none : (k n : ℕ) → apart g ok k n n ≡ false
  apart_none k n = not_apart g ok k n n (λ path short. refl)

  apart_sym : (k m n : ℕ) → m < length g.nodes → n < length g.nodes → apart g ok k m n ≡ false → apart g ok k n m ≡ false
  apart_sym k m n lm ln h = let e = ends_alike g ok k m n lm ln h in not_apart g ok k n m (λ path short. sym (e path short))

  apart_trans : (k a b c : ℕ) → a < length g.nodes → b < length g.nodes → c < length g.nodes → apart g ok k a b ≡ false → apart g ok k b c ≡ false
      → apart g ok k a c ≡ false
  apart_trans k a b c la lb lc h i =
      let e = ends_alike g ok k a b la lb h in
      let f = ends_alike g ok k b c lb lc i in
      not_apart g ok k a c (λ path short. e path short ∙ f path short)

  apart_shorter : (k m n : ℕ) → m < length g.nodes → n < length g.nodes → apart g ok (suc k) m n ≡ false → apart g ok k m n ≡ false
  apart_shorter k m n lm ln h = let e = ends_alike g ok (suc k) m n lm ln h in not_apart g ok k m n (λ path short. e path (omega (arith, short)))

  -- classes, by their first nodes

  abbrev is_near : ℕ → ℕ → ℕ → Bool
  is_near k n m = not (apart g ok k m n)

  abbrev leads : ℕ → ℕ → Bool
  leads k n = is_none (least_below n (is_near k n))

  leads_none : (k n m : ℕ) → leads k n ≡ true → m < n → apart g ok k m n ≡ false → ⊥
  leads_none k n m h lt e =
      let f = least_exists n (is_near k n) m lt (not_from_false _ e) in
      none_or_some (least_below n (is_near k n)) f.0 (is_none_parts (least_below n (is_near k n)) h) f.1

  leads_from : (k n : ℕ) → ((m : ℕ) → m < n → apart g ok k m n ≡ false → ⊥) → leads k n ≡ true
  leads_from k n h = elim (cases_Option (least_below n (is_near k n))) [
    | inl none ↦ is_none_from (least_below n (is_near k n)) none
    | inr s ↦ let p = least_passes n (is_near k n) s.0 s.1 in absurd (h s.0 p.0 (not-true _ p.1))
  ]

  leader : (k n : ℕ) → n < length g.nodes → (m : ℕ) × (m ≤ n) × (apart g ok k m n ≡ false) × (leads k m ≡ true)
  leader k n ln =
      let f = least_exists (suc n) (is_near k n) n (omega arith) (not_from_false _ (apart_none k n)) in
      let p = least_passes (suc n) (is_near k n) f.0 f.1 in
      let le = p.0 in
      let near = not-true _ p.1 in (
        f.0,
        omega (arith, le),
        near,
        leads_from k f.0 (λ m lt e.
            let there = apart_trans k m f.0 n (omega (arith, lt, le, ln)) (omega (arith, le, ln)) ln e near in
            let least = least_is_least (suc n) (is_near k n) f.0 m f.1 (omega (arith, lt, le)) (not_from_false _ there) in
            omega (arith, least, lt)),
      )

  leads_longer : (k n : ℕ) → n < length g.nodes → leads k n ≡ true → leads (suc k) n ≡ true
  leads_longer k n ln h = leads_from (suc k) n (λ m lt e. leads_none k n m h lt (apart_shorter k m n (omega (arith, lt, ln)) ln e))

  abbrev classes : ℕ → ℕ
  classes k = kept_below (leads k) (length g.nodes)

  more_by : (k a b : ℕ) → a < b → b < length g.nodes → apart g ok k a b ≡ false → leads (suc k) b ≡ true → classes k < classes (suc k)
  more_by k a b lt lb e h =
      kept_below-one_more (leads k) (leads (suc k)) (length g.nodes) b (leads_longer k) lb (false_from_ne_true _ (λ t. leads_none k b a t lt e)) h

  more_classes : (k m n : ℕ) → m < length g.nodes → n < length g.nodes → apart g ok k m n ≡ false → apart g ok (suc k) m n ≡ true → classes k < classes (suc k)
  more_classes k m n lm ln e t =
      let a = leader (suc k) m lm in
      let b = leader (suc k) n ln in
      let lea = a.1 in
      let leb = b.1 in
      let la : a.0 < length g.nodes = omega (arith, lea, lm) in
      let lb : b.0 < length g.nodes = omega (arith, leb, ln) in
      let back = apart_sym (suc k) a.0 m la lm a.2 in
      let near = apart_trans k a.0 m b.0 la lm lb (apart_shorter k a.0 m la lm a.2)
      (apart_trans k m n b.0 lm ln lb e (apart_sym k b.0 n lb ln (apart_shorter k b.0 n lb ln b.2))) in
      elim (cases_order a.0 b.0) [
        | inl same ↦ absurd (both_ways _ (apart_trans (suc k) m b.0 n lm lb ln (subst (λ x. apart g ok (suc k) m x ≡ false) same back) b.2) t)
        | inr other ↦ elim other [
          | inl lt ↦ more_by k a.0 b.0 lt lb near b.3
          | inr gt ↦ more_by k b.0 a.0 gt la (apart_sym k a.0 b.0 la lb near) a.3
        ]
      ]

  -- one place more tells no more nodes apart
  abbrev IsSettled : ℕ → Type 0
  IsSettled k = (m n : ℕ) → m < length g.nodes → n < length g.nodes → apart g ok k m n ≡ false → apart g ok (suc k) m n ≡ false

  abbrev is_parted : ℕ → ℕ → ℕ → Bool
  is_parted k m n = not (apart g ok k m n) && apart g ok (suc k) m n

  settled_or_more : (k : ℕ) → IsSettled k ⊎ (classes k < classes (suc k))
  settled_or_more k = elim (cases_Option (least_below (length g.nodes) (λ m. is_some (least_below (length g.nodes) (is_parted k m))))) [
    | inl none ↦ inl (λ m n lm ln e. false_from_ne_true _ (λ t.
        let f = least_exists (length g.nodes) (is_parted k m) n ln (and_from (not (apart g ok k m n)) _ (not_from_false _ e) t) in
        let s = least_exists (length g.nodes) (λ m. is_some (least_below (length g.nodes) (is_parted k m))) m lm (is_some_from (least_below (length g.nodes) (is_parted k m)) f.0 f.1) in
        none_or_some _ s.0 none s.1))
    | inr m ↦
        let p = least_passes (length g.nodes) (λ m. is_some (least_below (length g.nodes) (is_parted k m))) m.0 m.1 in
        let n = is_some_parts (least_below (length g.nodes) (is_parted k m.0)) p.1 in
        let q = least_passes (length g.nodes) (is_parted k m.0) n.0 n.1 in
        let parts = and_parts (not (apart g ok k m.0 n.0)) _ q.1 in
        inr (more_classes k m.0 n.0 p.0 q.0 (not-true _ parts.0) parts.1)
  ]

  settled_before : (k : ℕ) → 0 < length g.nodes → ((j : ℕ) × (j < k) × IsSettled j) ⊎ (k < classes k)
  settled_before zero some = inr (kept_below-less (leads zero) zero (length g.nodes) refl some)
  settled_before (suc k) some = elim (settled_before k some) [
    | inl s ↦ let lt = s.1 in inl (s.0, omega (arith, lt), s.2)
    | inr many ↦ elim (settled_or_more k) [
      | inl s ↦ inl (k, omega arith, s)
      | inr more ↦ inr (omega (arith, many, more))
    ]
  ]

  by_settled : (j m n : ℕ) → j < length g.nodes → IsSettled j → IsReduced g → m < length g.nodes → n < length g.nodes → place_of g m ≡ place_of g n → m ≢ n → AreToldApart g m n
  by_settled j m n lj s reduced lm ln place other = elim (cases_Bool (apart g ok j m n)) [
    | inl t ↦ let p = path_apart g ok j m n t in let short = p.1 in (p.0, omega (arith, short, lj), p.2)
    | inr f ↦ absurd (other (reduced m n lm ln (record { place = place; ends = none_longer g ok j s m n lm ln f })))
  ]

  pub told_apart : IsReduced g → AreAllToldApart g
  told_apart reduced m n lm ln place other = elim (settled_before (length g.nodes) (omega (arith, lm))) [
    | inl s ↦ by_settled s.0 m n s.1 s.2 reduced lm ln place other
    | inr many ↦ let few = kept_below_le (leads (length g.nodes)) (length g.nodes) in absurd (omega (arith, many, few))
  ]
