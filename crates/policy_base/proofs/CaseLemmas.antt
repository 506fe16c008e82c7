-- A prefix that joins a case.
use Rattle.std.proofs.Common.{◌≡◌, ℕ, zero, suc, ◌+◌, ◌<◌, ◌≤◌, Bool, true, false, List, [], ◌∷◌, ◌++◌, length, get_or, set, drop, refl, sym, ap, ◌∙◌, arith, inl, inr}
use Rattle.std.proofs.Math.Seq.{drop-cons}
use Rattle.std.proofs.Math.Numerals.{add-one}
use Rattle.std.specs.Prelude.{Option, ◌&&◌, ◌==◌, if◌then◌else◌}
use Rattle.std.specs.List.{position_or_len}
use Rattle.std.proofs.lemmas.Bool.{cases_Bool}
use Rattle.list_law.proofs.Positions.{position_or_len-first, position_or_len-next}
use Rattle.net_base.specs.declared.loc.LocSet.{LocSet}
use Rattle.net_base.specs.Sets.{same_set}
use Rattle.net_base.specs.Prefixes.{PlainPrefix}
use Rattle.policy_base.specs.declared.policy.Origin.{Origin}
use Rattle.policy_base.specs.declared.case.Case.{Case}
use Rattle.policy_base.specs.Policies.{PlainPolicy}
use Rattle.policy_base.specs.Governing.{governing}
use Rattle.policy_base.specs.Cases.{with_prefix, with_governed, originated_cases}

-- a case that has the statement and the origins
unfoldable pub fits : ℕ → LocSet → Case → Bool
fits k at c = c.statement == k && same_set c.origins at

pub here : (k : ℕ) (o : Origin) (c : Case) (cs : List Case) → fits k o.at c ≡ true → with_prefix k o (c ∷ cs) ≡ (record c { prefixes = c.prefixes ++ o.prefix ∷ [] }) ∷ cs
unfolding fits
here k o c cs is = ap (λ b. if b then (record c { prefixes = c.prefixes ++ o.prefix ∷ [] }) ∷ cs else c ∷ with_prefix k o cs) is

pub later : (k : ℕ) (o : Origin) (c : Case) (cs : List Case) → fits k o.at c ≡ false → with_prefix k o (c ∷ cs) ≡ c ∷ with_prefix k o cs
unfolding fits
later k o c cs is = ap (λ b. if b then (record c { prefixes = c.prefixes ++ o.prefix ∷ [] }) ∷ cs else c ∷ with_prefix k o cs) is

-- it joins the first one that has its statement and its origins
pub with_prefix_found : (k : ℕ) (o : Origin) (cs : List Case) (d : Case) (i : ℕ) → i ≡ position_or_len (λ c. c.statement == k && same_set c.origins o.at) cs → i < length cs
    → with_prefix k o cs ≡ set cs i (record (get_or cs i d) { prefixes = (get_or cs i d).prefixes ++ o.prefix ∷ [] })
unfolding fits
with_prefix_found k o [] d i is within = absurd (omega arith)
with_prefix_found k o (c ∷ cs) d zero is within = elim (cases_Bool (fits k o.at c)) [
  | inl met ↦ here k o c cs met
  | inr missed ↦ absurd (omega (arith, is, position_or_len-next (fits k o.at) c cs missed))
]
with_prefix_found k o (c ∷ cs) d (suc i) is within = elim (cases_Bool (fits k o.at c)) [
  | inl met ↦ absurd (omega (arith, is, position_or_len-first (fits k o.at) c cs met))
  | inr missed ↦
      let next : suc i ≡ 1 + position_or_len (fits k o.at) cs = is ∙ position_or_len-next (fits k o.at) c cs missed in
      later k o c cs missed ∙ ap (λ ds. c ∷ ds) (with_prefix_found k o cs d i (omega (arith, next)) (omega arith))
]

-- the same as the program writes it: v is the case as it was, and ps are its prefixes then
pub joined : (k : ℕ) (o : Origin) (cs : List Case) (i : ℕ) (v : Case) (ps : List PlainPrefix) → i ≡ position_or_len (λ c. c.statement == k && same_set c.origins o.at) cs → i < length cs
    → v ≡ get_or cs i v → ps ≡ v.prefixes ++ o.prefix ∷ [] → set cs i (record v { prefixes = ps }) ≡ with_prefix k o cs
joined k o cs i v ps is within read grown =
    ap (λ qs. set cs i (record v { prefixes = qs })) grown ∙ ap (λ w. set cs i (record w { prefixes = w.prefixes ++ o.prefix ∷ [] })) read
    ∙ sym (with_prefix_found k o cs v i is within)

-- or begins a case at the end
pub with_prefix_new : (k : ℕ) (o : Origin) (cs : List Case) (i : ℕ) → i ≡ position_or_len (λ c. c.statement == k && same_set c.origins o.at) cs → length cs ≤ i
    → with_prefix k o cs ≡ cs ++ record { statement = k; origins = o.at; external = false; prefixes = o.prefix ∷ [] } ∷ []
unfolding fits
with_prefix_new k o [] i is past = refl
with_prefix_new k o (c ∷ cs) zero is past = absurd (omega arith)
with_prefix_new k o (c ∷ cs) (suc i) is past = elim (cases_Bool (fits k o.at c)) [
  | inl met ↦ absurd (omega (arith, is, position_or_len-first (fits k o.at) c cs met))
  | inr missed ↦
      let next : suc i ≡ 1 + position_or_len (fits k o.at) cs = is ∙ position_or_len-next (fits k o.at) c cs missed in
      later k o c cs missed ∙ ap (λ ds. c ∷ ds) (with_prefix_new k o cs i (omega (arith, next)) (omega arith))
]

-- one originated prefix more
pub originated_cases-next : (policy : PlainPolicy) (os : List Origin) (i : ℕ) (o : Origin) (g : Option ℕ) (cs ds : List Case) → i < length os → o ≡ get_or os i o
    → g ≡ governing policy o.prefix → with_governed g o cs ≡ ds → originated_cases policy (drop i os) cs ≡ originated_cases policy (drop (i + 1) os) ds
originated_cases-next policy os i o g cs ds within read found made =
    ap (λ l. originated_cases policy l cs) (drop-cons os i o within ∙ ap (λ q. q ∷ drop (suc i) os) (sym read))
    ∙ ap (λ h. originated_cases policy (drop (suc i) os) (with_governed h o cs)) (sym found) ∙ ap (λ es. originated_cases policy (drop (suc i) os) es) made
    ∙ ap (λ n. originated_cases policy (drop n os) ds) (sym (add-one i))
