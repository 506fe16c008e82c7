-- What lives where a cut comes besides what has failed, and which paths survive it.
use Rattle.std.proofs.Common.{◌≡◌, ℕ, Bool, true, false, List, [], ◌∷◌, refl, sym, ◌∙◌, inl, inr}
use Rattle.std.specs.Prelude.{◌&&◌, ◌||◌, ◌==◌, not}
use Rattle.std.specs.List.{list_any}
use Rattle.std.proofs.lemmas.Bool.{and_from, and_parts, not-true, not_from_false, or_from, or_parts}
use Rattle.std.proofs.Math.Bool.{and-false, and-true, or_comm}
use Rattle.list_law.proofs.Truth.{same_tests}
use Rattle.net_base.specs.Network.{PlainNet, joins, linked}
use Rattle.net_base.proofs.Links.{joins_ends, joins_straight, joins_turned}
use Rattle.policy_base.specs.Meaning.{some_step}
use Rattle.outcome_base.specs.Outcomes.{Failures, is_dead, is_dead_link, is_live, passes_live}
use Rattle.impact_law.specs.Cuts.{is_cut, with_cut}
use Rattle.impact_law.specs.declared.impact.Cut.{Cut}
use Rattle.impact_law.specs.declared.impact.Cut.TheVariants.{Link, Router}
use Rattle.drain_report.specs.Uses.{goes_over}

-- the cut is between two locations: their link, or one of them
abbrev pub cuts_off : Cut → ℕ → ℕ → Bool
cuts_off (Link a b) l k = joins l k (a, b)
cuts_off (Router x) l k = x == l || x == k

-- which two locations are joined has no direction
pub joins_turns : (a b : ℕ) (e : ℕ × ℕ) → joins a b e ≡ joins e.0 e.1 (a, b)
joins_turns a b e = same_tests _ _ (turn a b e.0 e.1) (turn e.0 e.1 a b)
  where
    turn : (a b c d : ℕ) → joins a b (c, d) ≡ true → joins c d (a, b) ≡ true
    turn a b c d h = elim (joins_ends a b (c, d) h) [
      | inl same ↦ joins_straight c d (a, b) (sym same.0) (sym same.1)
      | inr other ↦ joins_turned c d (a, b) (sym other.1) (sym other.0)
    ]

pub dead_with : (cut : Cut) (f : Failures) (l : ℕ) → is_dead (with_cut cut f) l ≡ (is_cut cut l || is_dead f l)
dead_with (Link a b) f l = refl
dead_with (Router x) f l = refl

link_off : (l d j a b : Bool) → (l && not (j || d) && not a && not b) ≡ ((l && not d && not a && not b) && not j)
link_off false d j a b = refl
link_off true d true a b = sym (and-false (not d && not a && not b))
link_off true d false a b = sym (and-true (not d && not a && not b))

end_off : (l a b i k : Bool) → (l && not (i || a) && not (k || b)) ≡ ((l && not a && not b) && not (i || k))
end_off false a b i k = refl
end_off true a b true k = sym (and-false (not a && not b))
end_off true a b false true = and-false (not a) ∙ sym (and-false (not a && not b))
end_off true a b false false = sym (and-true (not a && not b))

pub live_with : (net : PlainNet) (cut : Cut) (f : Failures) (a b : ℕ) → is_live net (with_cut cut f) a b ≡ (is_live net f a b && not (cuts_off cut a b))
live_with net (Link x y) f a b = link_off (linked net a b) (is_dead_link f a b) (joins a b (x, y)) (is_dead f a) (is_dead f b)
live_with net (Router x) f a b = end_off (linked net a b && not (is_dead_link f a b)) (is_dead f a) (is_dead f b) (x == a) (x == b)

pub live_parts : (net : PlainNet) (cut : Cut) (f : Failures) (a b : ℕ) → is_live net (with_cut cut f) a b ≡ true → (is_live net f a b ≡ true) × (cuts_off cut a b ≡ false)
live_parts net cut f a b h =
    let parts = and_parts (is_live net f a b) (not (cuts_off cut a b)) (sym (live_with net cut f a b) ∙ h) in
    (parts.0, not-true _ parts.1)

pub live_from : (net : PlainNet) (cut : Cut) (f : Failures) (a b : ℕ) → is_live net f a b ≡ true → cuts_off cut a b ≡ false → is_live net (with_cut cut f) a b ≡ true
live_from net cut f a b live off = live_with net cut f a b ∙ and_from (is_live net f a b) (not (cuts_off cut a b)) live (not_from_false _ off)

-- ---- what a cut that isn't between two locations spares

pub spares_ends : (cut : Cut) (a b : ℕ) → cuts_off cut a b ≡ false → (is_cut cut a ≡ false) × (is_cut cut b ≡ false)
spares_ends (Link x y) a b off = (refl, refl)
spares_ends (Router x) a b off = or_parts (x == a) (x == b) off

pub cuts_flip : (cut : Cut) (a b : ℕ) → cuts_off cut a b ≡ cuts_off cut b a
cuts_flip (Link x y) a b = or_comm (x == a && y == b) (x == b && y == a)
cuts_flip (Router x) a b = or_comm (x == a) (x == b)

-- a path that doesn't go over the cut
pub step_off : (cut : Cut) (l k : ℕ) (rest : List ℕ) → goes_over cut (l ∷ k ∷ rest) ≡ false → cuts_off cut l k ≡ false
step_off (Link a b) l k rest off = (or_parts (joins l k (a, b)) (some_step (λ m n. joins m n (a, b)) (k ∷ rest)) off).0
step_off (Router x) l k rest off =
    let first = or_parts (x == l) (list_any (λ m. x == m) (k ∷ rest)) off in
    let second = or_parts (x == k) (list_any (λ m. x == m) rest) first.1 in
    or_from (x == l) (x == k) first.0 second.0

pub more_off : (cut : Cut) (l k : ℕ) (rest : List ℕ) → cuts_off cut l k ≡ false → goes_over cut (k ∷ rest) ≡ false → goes_over cut (l ∷ k ∷ rest) ≡ false
more_off (Link a b) l k rest off more = or_from (joins l k (a, b)) (some_step (λ m n. joins m n (a, b)) (k ∷ rest)) off more
more_off (Router x) l k rest off more = or_from (x == l) (list_any (λ m. x == m) (k ∷ rest)) (or_parts (x == l) (x == k) off).0 more

-- the path of an origin is itself alone
pub alone_off : (cut : Cut) (r : ℕ) → is_cut cut r ≡ false → goes_over cut (r ∷ []) ≡ false
alone_off (Link a b) r off = refl
alone_off (Router x) r off = or_from (x == r) false off refl

-- what survives a cut doesn't go over it
pub surviving_off : (cut : Cut) (f : Failures) (path : List ℕ) → passes_live (with_cut cut f) path ≡ true → goes_over cut path ≡ false
surviving_off (Link a b) f [] h = refl
surviving_off (Link a b) f (l ∷ []) h = refl
surviving_off (Link a b) f (l ∷ k ∷ ls) h =
    let cut = not (joins l k (a, b) || is_dead_link f l k) in
    let parts = and_parts (not (is_dead f l) && cut) (passes_live (with_cut (Link a b) f) (k ∷ ls)) h in
    let link = (and_parts (not (is_dead f l)) cut parts.0).1 in
    or_from (joins l k (a, b)) (some_step (λ m n. joins m n (a, b)) (k ∷ ls)) (or_parts (joins l k (a, b)) (is_dead_link f l k) (not-true _ link)).0 (surviving_off (Link a b) f (k ∷ ls) parts.1)
surviving_off (Router x) f [] h = refl
surviving_off (Router x) f (l ∷ []) h = or_from (x == l) false (or_parts (x == l) (is_dead f l) (not-true _ h)).0 refl
surviving_off (Router x) f (l ∷ k ∷ ls) h =
    let dead = not (x == l || is_dead f l) in
    let parts = and_parts (dead && not (is_dead_link f l k)) (passes_live (with_cut (Router x) f) (k ∷ ls)) h in
    let here = (and_parts dead (not (is_dead_link f l k)) parts.0).0 in
    or_from (x == l) (list_any (λ m. x == m) (k ∷ ls)) (or_parts (x == l) (is_dead f l) (not-true _ here)).0 (surviving_off (Router x) f (k ∷ ls) parts.1)
