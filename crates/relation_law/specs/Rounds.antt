-- The relation round by round: in each round the pairs go for which a rule fails against those that went before.
use Rattle.std.specs.Prelude.{◌≡◌, ◌↔◌, ℕ, zero, suc, ◌<◌, Bool, false, not, ◌&&◌, ◌||◌, ◌==◌, IsTrue, nat_lt, if◌then◌else◌, List}
use Rattle.std.specs.List.{list_any}
use Rattle.relation_law.specs.Views.{View}
use Rattle.relation_law.specs.Relations.{Pair, no_worse, steps_on, is_heard}
use Rattle.relation_law.specs.Numbers.{any_below}

-- a test of what can be reached
abbrev pub IsReach : View → (ℕ → ℕ → Bool) → Type 0
IsReach v reach = (a b : ℕ) → a < v.size → b < v.size → IsTrue (reach a b) ↔ v.Leads a b

abbrev pub same_place : View → ℕ → ℕ → Bool
same_place v a b = v.place a == v.place b

-- m steps where t stands, to a node that hasn't gone below t
abbrev pub has_answer : View → (ℕ → ℕ → Bool) → ℕ → ℕ → Bool
has_answer v gone m t = any_below v.size (λ s. steps_on v m s && (same_place v s t && not (gone s t)))

-- m is heard where t hears, with no worse a rank
abbrev pub is_heard_there : View → ℕ → ℕ → Bool
is_heard_there v m t = any_below v.size (λ s. is_heard v m s && (same_place v s t && no_worse (v.rank s) (v.rank t)))

-- some node where t stands, from which m can be reached, has gone below t
abbrev pub is_looped : View → (ℕ → ℕ → Bool) → (ℕ → ℕ → Bool) → ℕ → ℕ → Bool
is_looped v reach gone m t = any_below v.size (λ k. same_place v k t && (reach k m && gone k t))

-- the step rule or the loop rule fails at t, or the listener rule
abbrev pub fails_at : View → (ℕ → ℕ → Bool) → (ℕ → ℕ → Bool) → ℕ → ℕ → Bool
fails_at v reach gone m t = if v.hears t then not (is_heard_there v m t) else (not (has_answer v gone m t) || is_looped v reach gone m t)

-- a rule fails for m above n, where the pairs of gone have gone
abbrev pub fails : View → (ℕ → ℕ → Bool) → (ℕ → ℕ → Bool) → ℕ → ℕ → Bool
fails v reach gone m n =
    (v.claimed (v.place n) && not (no_worse (v.rank m) (v.rank n)))
    || any_below v.size (λ t. v.step n t && fails_at v reach gone m t)

-- the pairs that have gone after so many rounds
abbrev pub gone_after : View → (ℕ → ℕ → Bool) → ℕ → ℕ → ℕ → Bool
gone_after v reach zero m n = false
gone_after v reach (suc rounds) m n = gone_after v reach rounds m n || fails v reach (gone_after v reach rounds) m n

abbrev pub is_pair : View → ℕ → ℕ → Bool
is_pair v m n = nat_lt m v.size && (nat_lt n v.size && same_place v m n)

-- the pairs that are left
abbrev pub left_after : View → (ℕ → ℕ → Bool) → ℕ → ℕ → ℕ → Bool
left_after v reach rounds m n = is_pair v m n && not (gone_after v reach rounds m n)

-- a round takes nothing more away
abbrev pub TakesNothingMore : View → (ℕ → ℕ → Bool) → ℕ → Type 0
TakesNothingMore v reach rounds = (m n : ℕ) → Pair v m n → IsTrue (gone_after v reach (suc rounds) m n) → IsTrue (gone_after v reach rounds m n)

-- ---- target by target

-- below each target that isn't touched the last round took nothing away
abbrev pub AreTouched : View → (ℕ → ℕ → Bool) → ℕ → (ℕ → Bool) → Type 0
AreTouched v reach rounds touched =
    (t a : ℕ) → t < v.size → a < v.size → touched t ≡ false → IsTrue (same_place v a t) → gone_after v reach (suc rounds) a t ≡ gone_after v reach rounds a t

-- a rule fails for m above n at a step to a target that is touched
abbrev pub goes_by : View → (ℕ → ℕ → Bool) → (ℕ → ℕ → Bool) → (ℕ → Bool) → ℕ → ℕ → Bool
goes_by v reach gone touched m n = any_below v.size (λ t. touched t && (v.step n t && fails_at v reach gone m t))

abbrev pub is_in : List (ℕ × ℕ) → ℕ → ℕ → Bool
is_in pairs a b = list_any (λ (x : ℕ × ℕ). x.0 == a && x.1 == b) pairs
