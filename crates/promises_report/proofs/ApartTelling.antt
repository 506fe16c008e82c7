-- The ranks that are told apart are those that no source has both of.
use Rattle.std.proofs.Common.{◌≡◌, ℕ, zero, suc, ◌+◌, ◌<◌, ◌≤◌, ◌==◌, Bool, true, false, not, ◌&&◌, ◌||◌, List, [], ◌∷◌, length, Option, Some, None, inl, inr, refl, sym, ap, ◌∙◌, subst, arith}
use Rattle.std.specs.Prelude.{nat_lt, slice_get, if◌then◌else◌}
use Rattle.std.proofs.lemmas.Bool.{and_from, and_parts, cases_Bool, eq-eqb, eqb-true, false_from_ne_true, lt-ltb, ltb-true, not-true, not_from_false, or_left, or_right, true≢false}
use Rattle.std.proofs.lemmas.Option.{same_Some, slice_get_within}
use Rattle.list_law.specs.Members.{IsIn}
use Rattle.list_law.proofs.Members.{IsIn-append_cases, IsIn-append_left, IsIn-append_right, IsIn-cons_cases, IsIn-flat_map, IsIn-flat_map_parts, IsIn-nil, list_any-from_IsIn, list_any_member}
use Rattle.net_base.specs.Locations.{numbers_below}
use Rattle.net_base.specs.Network.{PlainNet}
use Rattle.net_base.proofs.NumbersBelow.{In-numbers_below}
use Rattle.policy_base.specs.declared.case.Case.{Case}
use Rattle.policy_base.specs.declared.limits.TheConstants.{ALTERNATIVES}
use Rattle.policy_base.specs.Cases.{case_list}
use Rattle.policy_base.specs.Meaning.{alternative_count, alternatives}
use Rattle.policy_base.specs.Policies.{PlainPolicy, PlainStatement, statement_at}
use Rattle.policy_base.proofs.RankPlaces.{length-alternatives, place_of-within}
use Rattle.promises_report.specs.declared.apart.ApartRanks.{ApartRanks}
use Rattle.promises_report.specs.Apart.{ApartRanksAreApart, AreApart, Meet, all_apart, apart_pair, apart_ranks, are_apart, meet_at, meet_in, pairs_of, pairs_with, ranks_meet, ranks_of, sites}
use Rattle.promises_report.specs.Claims.{HasWalk, IsSourceIn, is_site}
use Rattle.promises_report.specs.Promises.{ArePromises, Promises}
use Rattle.promises_report.specs.Taken.{AreAllPromises}
use Rattle.promises_report.proofs.SiteLists.{listed_site, site_listed}

-- ---- a case in which two ranks meet, in lists of cases and promises

found : (net : PlainNet) (cs : List Case) (xs : List Promises) (number i j : ℕ) → ranks_meet net cs xs number i j ≡ true
    → (k : ℕ) × (c : Case) × (a : Promises) × (slice_get cs k ≡ Some c) × (slice_get xs k ≡ Some a) × (c.statement ≡ number) × (meet_in net a.has_rank i j ≡ true)
found net [] xs number i j h = absurd (true≢false (sym h))
found net (c ∷ cs) [] number i j h = absurd (true≢false (sym h))
found net (c ∷ cs) (a ∷ xs) number i j h = elim (cases_Bool (c.statement == number && meet_in net a.has_rank i j)) [
  | inl here ↦ (let parts = and_parts (c.statement == number) (meet_in net a.has_rank i j) here in (0, c, a, refl, refl, eqb-true _ _ parts.0, parts.1))
  | inr missed ↦ (
      let rest : ranks_meet net cs xs number i j ≡ true = ap (λ t. t || ranks_meet net cs xs number i j) (sym missed) ∙ h in
      let m = found net cs xs number i j rest in
      (suc m.0, m.1, m.2, m.3, m.4, m.5, m.6))
]

there : (net : PlainNet) (cs : List Case) (xs : List Promises) (number i j k : ℕ) (c : Case) (a : Promises) → slice_get cs k ≡ Some c → slice_get xs k ≡ Some a
    → c.statement ≡ number → meet_in net a.has_rank i j ≡ true → ranks_meet net cs xs number i j ≡ true
there net [] xs number i j k c a at same is meets = absurd cc
there net (d ∷ cs) [] number i j k c a at same is meets = absurd cc
there net (d ∷ cs) (b ∷ xs) number i j zero c a at same is meets =
    let one : d ≡ c = same_Some d c at in
    let other : b ≡ a = same_Some b a same in
    or_left _ _ (and_from (d.statement == number) (meet_in net b.has_rank i j) (eq-eqb _ _ (ap (λ (e : Case). e.statement) one ∙ is))
    (ap (λ (e : Promises). meet_in net e.has_rank i j) other ∙ meets))
there net (d ∷ cs) (b ∷ xs) number i j (suc k) c a at same is meets = or_right _ _ (there net cs xs number i j k c a at same is meets)

-- a list has an element at each place
some_there : (xs : List Promises) (k : ℕ) → k < length xs → (a : Promises) × (slice_get xs k ≡ Some a)
some_there [] k low = absurd (omega (arith, low))
some_there (a ∷ xs) zero low = (a, refl)
some_there (a ∷ xs) (suc k) low = some_there xs k (omega (arith, low))

-- ---- by the walks of the policy

-- a source is a router, or a session
source_site : (net : PlainNet) (s : PlainStatement) (c : Case) (r : ℕ) (peer : Option ℕ) → IsSourceIn net s c r peer → is_site net r peer ≡ true
source_site net s c r None source = source.at_router
source_site net s c r (Some peer) source = source.at.1

module _ (net : PlainNet) (policy : PlainPolicy) (xs : List Promises) (all : AreAllPromises net policy xs) where
  abbrev cs : List Case
  cs = case_list net policy

  module _ (number : ℕ) (s : PlainStatement) (is : statement_at policy number ≡ Some s) where
    promised : (k : ℕ) (c : Case) (a : Promises) → slice_get cs k ≡ Some c → slice_get xs k ≡ Some a → c.statement ≡ number → ArePromises net s c a
    promised k c a at same of = all.each k c s a at (ap (statement_at policy) of ∙ is) same

    met : (i j : ℕ) → ranks_meet net cs xs number i j ≡ true → Meet net policy number i j
    met i j h =
        let m = found net cs xs number i j h in
        let p = promised m.0 m.1 m.2 m.3 m.4 m.5 in
        let x = list_any_member (meet_at m.2.has_rank i j) (sites net) m.6 in
        let site = listed_site net x.0.0 x.0.1 x.1 in
        let parts = and_parts (m.2.has_rank x.0.0 x.0.1 i) (m.2.has_rank x.0.0 x.0.1 j) x.2 in
        record {
          c = m.1;
          listed = (m.0, m.3);
          of = m.5;
          s = s;
          is = is;
          router = x.0.0;
          peer = x.0.1;
          one = (p.have x.0.0 x.0.1 i site).0 parts.0;
          other = (p.have x.0.0 x.0.1 j site).0 parts.1;
        }

    meets : (i j : ℕ) → Meet net policy number i j → ranks_meet net cs xs number i j ≡ true
    meets i j h =
        let k = h.listed.0 in
        let low : k < length xs = omega (arith, slice_get_within cs k h.c h.listed.1, all.size) in
        by k h.listed.1 low
      where
        same_s : h.s ≡ s
        same_s = same_Some h.s s (sym h.is ∙ is)

        site : is_site net h.router h.peer ≡ true
        site = source_site net h.s h.c h.router h.peer h.one.source

        one : HasWalk net s h.c h.router h.peer i
        one = subst (λ (t : PlainStatement). HasWalk net t h.c h.router h.peer i) same_s h.one

        other : HasWalk net s h.c h.router h.peer j
        other = subst (λ (t : PlainStatement). HasWalk net t h.c h.router h.peer j) same_s h.other

        by : (k : ℕ) → slice_get cs k ≡ Some h.c → k < length xs → ranks_meet net cs xs number i j ≡ true
        by k at low =
            let a = some_there xs k low in
            let p = promised k h.c a.0 at a.1 h.of in
            there net cs xs number i j k h.c a.0 at a.1 h.of
            (list_any-from_IsIn (meet_at a.0.has_rank i j) (sites net) (h.router, h.peer) (site_listed net h.router h.peer site)
            (and_from (a.0.has_rank h.router h.peer i) (a.0.has_rank h.router h.peer j) ((p.have h.router h.peer i site).1 one) ((p.have h.router h.peer j site).1 other)))

    apart_parts : (i j : ℕ) → are_apart (ranks_meet net cs xs number) i j ≡ true
        → (i < j) × Meet net policy number i i × Meet net policy number j j × ¬ Meet net policy number i j
    apart_parts i j h =
        let last = and_parts (nat_lt i j && ranks_meet net cs xs number i i && ranks_meet net cs xs number j j) (not (ranks_meet net cs xs number i j)) h in
        let mid = and_parts (nat_lt i j && ranks_meet net cs xs number i i) (ranks_meet net cs xs number j j) last.0 in
        let first = and_parts (nat_lt i j) (ranks_meet net cs xs number i i) mid.0 in
        (ltb-true _ _ first.0, met i i first.1, met j j mid.1, λ m. true≢false (sym (meets i j m) ∙ not-true _ last.1))

    apart_from : (i j : ℕ) → i < j → Meet net policy number i i → Meet net policy number j j → (¬ Meet net policy number i j) → are_apart (ranks_meet net cs xs number) i j ≡ true
    apart_from i j less one other never =
        and_from _ _ (and_from _ _ (and_from _ _ (lt-ltb i j less) (meets i i one)) (meets j j other))
        (not_from_false _ (false_from_ne_true _ (λ h. never (met i j h))))

    -- a rank that is met is one of the statement
    rank_low : (n : ℕ) → alternative_count s.ranked ≤ ALTERNATIVES → Meet net policy number n n → (1 ≤ n) × (n ≤ ranks_of s.ranked)
    rank_low n few h =
        let same_s : h.s ≡ s = same_Some h.s s (sym h.is ∙ is) in
        let within = place_of-within (alternatives net h.s.ranked) _ 1 n h.one.rank in
        let size = length-alternatives net h.s.ranked ∙ ap (λ (t : PlainStatement). alternative_count t.ranked) same_s in
        (within.0, omega (arith, within.1, size, few))

-- ---- the pairs of all statements

pair_parts : (met : ℕ → ℕ → Bool) (number a b : ℕ) (x : ApartRanks) → IsIn (apart_pair met number a b) x
    → (x ≡ record { statement = number; better = a + 1; worse = b + 1 }) × (are_apart met (a + 1) (b + 1) ≡ true)
unfolding apart_pair
pair_parts met number a b x at = by (are_apart met (a + 1) (b + 1)) refl at
  where
    by : (t : Bool) → are_apart met (a + 1) (b + 1) ≡ t → IsIn (if t then record { statement = number; better = a + 1; worse = b + 1 } ∷ [] else []) x
        → (x ≡ record { statement = number; better = a + 1; worse = b + 1 }) × (are_apart met (a + 1) (b + 1) ≡ true)
    by true is at = elim (IsIn-cons_cases (record { statement = number; better = a + 1; worse = b + 1 }) [] x at) [
      | inl same ↦ (sym same, is)
      | inr later ↦ absurd (IsIn-nil x later)
    ]
    by false is at = absurd (IsIn-nil x at)

pair_there : (met : ℕ → ℕ → Bool) (number a b : ℕ) → are_apart met (a + 1) (b + 1) ≡ true → IsIn (apart_pair met number a b) (record { statement = number; better = a + 1; worse = b + 1 })
unfolding apart_pair
pair_there met number a b h = rw h (0, refl)

pairs_parts : (met : ℕ → ℕ → Bool) (number ranks : ℕ) (x : ApartRanks) → IsIn (pairs_of met number ranks) x → (x.statement ≡ number) × (are_apart met x.better x.worse ≡ true)
pairs_parts met number ranks x at =
    let a = IsIn-flat_map_parts (pairs_with met number ranks) (numbers_below ranks) x at in
    let b = IsIn-flat_map_parts (apart_pair met number a.0) (numbers_below ranks) x a.2 in
    let is = pair_parts met number a.0 b.0 x b.2 in
    (ap (λ (y : ApartRanks). y.statement) is.0, ap (λ (y : ApartRanks). are_apart met y.better y.worse) is.0 ∙ is.1)

pairs_there : (met : ℕ → ℕ → Bool) (ranks : ℕ) (x : ApartRanks) → 1 ≤ x.better → x.better ≤ ranks → 1 ≤ x.worse → x.worse ≤ ranks → are_apart met x.better x.worse ≡ true
    → IsIn (pairs_of met x.statement ranks) x
pairs_there met ranks x some_b low_b some_w low_w h = by x.better x.worse refl refl some_b low_b some_w low_w h
  where
    by : (i j : ℕ) → x.better ≡ i → x.worse ≡ j → 1 ≤ i → i ≤ ranks → 1 ≤ j → j ≤ ranks → are_apart met i j ≡ true → IsIn (pairs_of met x.statement ranks) x
    by zero j one other some_i low_i some_j low_j h = absurd (omega (arith, some_i))
    by (suc a) zero one other some_i low_i some_j low_j h = absurd (omega (arith, some_j))
    by (suc a) (suc b) one other some_i low_i some_j low_j h =
        let first : suc a ≡ a + 1 = omega arith in
        let second : suc b ≡ b + 1 = omega arith in
        let apart : are_apart met (a + 1) (b + 1) ≡ true = ap (λ k. are_apart met k (b + 1)) (sym first) ∙ (ap (are_apart met (suc a)) (sym second) ∙ h) in
        let better = one ∙ first in
        let worse = other ∙ second in
        let same : record { statement = x.statement; better = a + 1; worse = b + 1 } ≡ x = λ k. record { statement = x.statement; better = sym better k; worse = sym worse k } in
        IsIn-flat_map (pairs_with met x.statement ranks) (numbers_below ranks) a x (In-numbers_below a ranks (omega (arith, low_i)))
        (IsIn-flat_map (apart_pair met x.statement a) (numbers_below ranks) b x (In-numbers_below b ranks (omega (arith, low_j)))
        (subst (IsIn (apart_pair met x.statement a b)) same (pair_there met x.statement a b apart)))

all_parts : (met : ℕ → ℕ → ℕ → Bool) (n : ℕ) (ss : List PlainStatement) (x : ApartRanks) → IsIn (all_apart met n ss) x → are_apart (met x.statement) x.better x.worse ≡ true
all_parts met n [] x at = absurd (IsIn-nil x at)
all_parts met n (s ∷ ss) x at = elim (IsIn-append_cases (pairs_of (met n) n (ranks_of s.ranked)) (all_apart met (n + 1) ss) x at) [
  | inl here ↦ (let is = pairs_parts (met n) n (ranks_of s.ranked) x here in ap (λ k. are_apart (met k) x.better x.worse) is.0 ∙ is.1)
  | inr later ↦ all_parts met (n + 1) ss x later
]

all_there : (met : ℕ → ℕ → ℕ → Bool) (n k : ℕ) (ss : List PlainStatement) (s : PlainStatement) (x : ApartRanks) → slice_get ss k ≡ Some s → x.statement ≡ n + k
    → IsIn (pairs_of (met x.statement) x.statement (ranks_of s.ranked)) x → IsIn (all_apart met n ss) x
all_there met n k [] s x at is here = absurd cc
all_there met n zero (t ∷ ss) s x at is here =
    let same : t ≡ s = same_Some t s at in
    let number : x.statement ≡ n = omega (arith, is) in
    IsIn-append_left (pairs_of (met n) n (ranks_of t.ranked)) (all_apart met (n + 1) ss) x
    (subst (λ (u : PlainStatement). IsIn (pairs_of (met n) n (ranks_of u.ranked)) x) (sym same) (subst (λ m. IsIn (pairs_of (met m) m (ranks_of s.ranked)) x) number here))
all_there met n (suc k) (t ∷ ss) s x at is here =
    IsIn-append_right (pairs_of (met n) n (ranks_of t.ranked)) (all_apart met (n + 1) ss) x (all_there met (n + 1) k ss s x at (omega (arith, is)) here)

statement_there : (met : ℕ → ℕ → ℕ → Bool) (policy : PlainPolicy) (s : PlainStatement) (x : ApartRanks) (number : ℕ) → x.statement ≡ number → statement_at policy number ≡ Some s
    → IsIn (pairs_of (met x.statement) x.statement (ranks_of s.ranked)) x → IsIn (all_apart met 1 policy.statements) x
statement_there met policy s x zero same is here = absurd cc
statement_there met policy s x (suc k) same is here = all_there met 1 k policy.statements s x is (omega (arith, same)) here

pub apart_ranks_are_apart : ApartRanksAreApart
apart_ranks_are_apart net policy rules kept xs all x s is few = (forth, back)
  where
    forth : IsIn (apart_ranks net policy (case_list net policy) xs) x → AreApart net policy x
    forth at =
        let parts = apart_parts net policy xs all x.statement s is x.better x.worse (all_parts (ranks_meet net (case_list net policy) xs) 1 policy.statements x at) in
        record { order = parts.0; better = parts.1; worse = parts.2; never = parts.3 }

    back : AreApart net policy x → IsIn (apart_ranks net policy (case_list net policy) xs) x
    back h =
        let better = rank_low net policy xs all x.statement s is x.better few h.better in
        let worse = rank_low net policy xs all x.statement s is x.worse few h.worse in
        statement_there (ranks_meet net (case_list net policy) xs) policy s x x.statement refl is
        (pairs_there (ranks_meet net (case_list net policy) xs x.statement) (ranks_of s.ranked) x better.0 better.1 worse.0 worse.1
        (apart_from net policy xs all x.statement s is x.better x.worse h.order h.better h.worse h.never))
