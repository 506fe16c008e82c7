-- Two patterns overlap exactly where some prefix is contained in both.
use Rattle.std.proofs.Common.{◌≡◌, ℕ, ◌-◌, ◌/◌, ◌^◌, ◌≤◌, true, ⊎_elim, inl, inr, refl, sym, ◌∙◌, arith}
use Rattle.std.specs.Prelude.{◌↔◌, ◌⊎◌, IsTrue, nat_le}
use Rattle.std.proofs.lemmas.Bool.{eqb-true, eq-eqb, leb-true, le-leb, and_parts, and_from, or_cases, or_left, or_right, cases_lt}
use Rattle.net_base.specs.Prefixes.{PlainPrefix, PlainPattern, IsPattern, is_inside, contains}
use Rattle.route_maps.specs.Overlaps.{overlap, Meet}
use Rattle.route_maps.proofs.Bits.{fewer_agree}

-- the pattern contains the prefix, in numbers
pub record Contains (a : PlainPattern) (p : PlainPrefix) : Type 0 where
  pub least : a.base.len ≤ p.len
  pub agree : p.bits / 2 ^ (32 - a.base.len) ≡ a.base.bits / 2 ^ (32 - a.base.len)
  pub most : p.len ≤ a.upto

pub contains_parts : (a : PlainPattern) (p : PlainPrefix) → contains a p ≡ true → Contains a p
contains_parts a p h =
    let both = and_parts (is_inside a.base p) (nat_le p.len a.upto) h in
    let inside = and_parts (nat_le a.base.len p.len) _ both.0 in
    record { least = leb-true _ _ inside.0; agree = eqb-true _ _ inside.1; most = leb-true _ _ both.1 }

pub contains_whole : (a : PlainPattern) (p : PlainPrefix) → Contains a p → contains a p ≡ true
contains_whole a p c =
    and_from (is_inside a.base p) (nat_le p.len a.upto)
    (and_from (nat_le a.base.len p.len) _ (le-leb _ _ c.least) (eq-eqb _ _ c.agree))
    (le-leb _ _ c.most)

cases_le : (m n : ℕ) → (m ≤ n) ⊎ (n ≤ m)
cases_le m n = ⊎_elim (λ h. inl (omega arith)) (λ h. inr h) (cases_lt m n)

-- a prefix in both, the first with the shorter base
pub shorter_contains : (a b : PlainPattern) (p : PlainPrefix) → p.len ≤ 32 → a.base.len ≤ b.base.len → Contains a p → Contains b p → Contains a b.base
shorter_contains a b p within shorter ca cb = record {
  least = shorter;
  agree = sym (fewer_agree p.bits b.base.bits a.base.len b.base.len shorter (omega (arith, within, cb.least)) cb.agree) ∙ ca.agree;
  most = omega (arith, cb.least, ca.most);
}

both_contain : (a b : PlainPattern) (p : PlainPrefix) → p.len ≤ 32 → Contains a p → Contains b p → overlap a b ≡ true
both_contain a b p within ca cb = by_length (cases_le a.base.len b.base.len)
  where
    by_length : (a.base.len ≤ b.base.len) ⊎ (b.base.len ≤ a.base.len) → overlap a b ≡ true
    by_length (inl le) = or_left (contains a b.base) _ (contains_whole a b.base (shorter_contains a b p within le ca cb))
    by_length (inr le) = or_right (contains a b.base) _ (contains_whole b a.base (shorter_contains b a p within le cb ca))

-- a prefix in both makes them overlap, whatever numbers they have
pub overlap-from_both : (a b : PlainPattern) (p : PlainPrefix) → p.len ≤ 32 → contains a p ≡ true → contains b p ≡ true → overlap a b ≡ true
overlap-from_both a b p within ca cb = both_contain a b p within (contains_parts a p ca) (contains_parts b p cb)

base_in : (a : PlainPattern) → IsPattern a → contains a a.base ≡ true
base_in a lawful = contains_whole a a.base (record { least = omega arith; agree = refl; most = lawful.least })

pub overlap-Meet : (a b : PlainPattern) → IsPattern a → IsPattern b → IsTrue (overlap a b) ↔ Meet a b
overlap-Meet a b la lb = (λ h. by_base (or_cases (contains a b.base) _ h), λ m. overlap-from_both a b m.prefix m.lawful.within m.first m.second)
  where
    by_base : (contains a b.base ≡ true) ⊎ (contains b a.base ≡ true) → Meet a b
    by_base (inl h) = record { prefix = b.base; lawful = lb.prefix; first = h; second = base_in b lb }
    by_base (inr h) = record { prefix = a.base; lawful = la.prefix; first = base_in a la; second = h }
