-- Cases by their statement and their origins.
use Rattle.std.proofs.Common.{◌≡◌, ℕ, ◌+◌, Bool, true, false, List, [], ◌∷◌, ◌++◌, map, refl, sym, ap, ◌∙◌, inl, inr}
use Rattle.std.specs.Prelude.{◌&&◌, ◌||◌, ◌==◌, if◌then◌else◌}
use Rattle.std.specs.List.{list_any, position_or_len}
use Rattle.std.proofs.lemmas.Bool.{cases_Bool}
use Rattle.std.proofs.lemmas.Slice.Eq.{bytes_eq-Decides}
use Rattle.list_law.proofs.Numbers.{eqb_comm}
use Rattle.list_law.proofs.Positions.{position_or_len-first, position_or_len-next}
use Rattle.list_law.proofs.Truth.{same_tests}
use Rattle.net_base.specs.declared.loc.LocSet.{LocSet}
use Rattle.net_base.specs.Sets.{same_set}
use Rattle.policy_base.specs.declared.policy.Origin.{Origin}
use Rattle.policy_base.specs.declared.case.Case.{Case}
use Rattle.policy_base.specs.Cases.{with_prefix}
use Rattle.policy_base.specs.CaseIndex.{kind_of}
use Rattle.policy_base.proofs.CaseLemmas.{fits, here, later}

same_set_comm : (s t : LocSet) → same_set s t ≡ same_set t s
same_set_comm s t =
    same_tests (same_set s t) (same_set t s) (λ h. (bytes_eq-Decides t.words s.words).1 (sym ((bytes_eq-Decides s.words t.words).0 h)))
    (λ h. (bytes_eq-Decides s.words t.words).1 (sym ((bytes_eq-Decides t.words s.words).0 h)))

-- a kind is that of a case
abbrev pub is_kind : ℕ → LocSet → ℕ × LocSet → Bool
is_kind k at q = k == q.0 && same_set at q.1

is_kind-fits : (k : ℕ) (at : LocSet) (c : Case) → is_kind k at (kind_of c) ≡ fits k at c
unfolding fits
is_kind-fits k at c = ap (λ b. b && same_set at c.origins) (eqb_comm k c.statement) ∙ ap (λ b. c.statement == k && b) (same_set_comm at c.origins)

pub place_by_kind : (k : ℕ) (at : LocSet) (cs : List Case) → position_or_len (is_kind k at) (map kind_of cs) ≡ position_or_len (λ c. c.statement == k && same_set c.origins at) cs
unfolding fits
place_by_kind k at [] = refl
place_by_kind k at (c ∷ cs) = elim (cases_Bool (fits k at c)) [
  | inl met ↦ position_or_len-first (is_kind k at) (kind_of c) (map kind_of cs) (is_kind-fits k at c ∙ met) ∙ sym (position_or_len-first (fits k at) c cs met)
  | inr missed ↦
      position_or_len-next (is_kind k at) (kind_of c) (map kind_of cs) (is_kind-fits k at c ∙ missed) ∙ ap (λ n. 1 + n) (place_by_kind k at cs)
      ∙ sym (position_or_len-next (fits k at) c cs missed)
]

if_after : {A : Type 0} (b : Bool) (x : A) (xs ys : List A) → (if b then x ∷ xs else x ∷ ys) ≡ x ∷ (if b then xs else ys)
if_after true x xs ys = refl
if_after false x xs ys = refl

-- the kinds of the cases, with one more where it is new
pub kinds_joined : (k : ℕ) (o : Origin) (cs : List Case)
    → (if list_any (is_kind k o.at) (map kind_of cs) then map kind_of cs else map kind_of cs ++ (k, o.at) ∷ []) ≡ map kind_of (with_prefix k o cs)
kinds_joined k o [] = refl
kinds_joined k o (c ∷ cs) = elim (cases_Bool (fits k o.at c)) [
  | inl met ↦
      ap (λ b. if b || list_any (is_kind k o.at) (map kind_of cs) then map kind_of (c ∷ cs) else map kind_of (c ∷ cs) ++ (k, o.at) ∷ []) (is_kind-fits k o.at c ∙ met)
      ∙ ap (λ ds. map kind_of ds) (sym (here k o c cs met))
  | inr missed ↦
      ap (λ b. if b || list_any (is_kind k o.at) (map kind_of cs) then map kind_of (c ∷ cs) else map kind_of (c ∷ cs) ++ (k, o.at) ∷ []) (is_kind-fits k o.at c ∙ missed)
      ∙ if_after (list_any (is_kind k o.at) (map kind_of cs)) (kind_of c) (map kind_of cs) (map kind_of cs ++ (k, o.at) ∷ [])
      ∙ ap (λ ks. kind_of c ∷ ks) (kinds_joined k o cs) ∙ ap (λ ds. map kind_of ds) (sym (later k o c cs missed))
]
