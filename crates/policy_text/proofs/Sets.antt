-- Sets of a network's locations.
use Rattle.std.proofs.Common.{◌≡◌, ℕ, ◌+◌, ◌<◌, ◌≤◌, length, refl, sym, ap, ◌∙◌, arith, inl, inr}
use Rattle.std.specs.Prelude.{◌⊎◌, ◌==◌}
use Rattle.std.proofs.lemmas.Bool.{eq-eqb, cases_lt, or_right, lt-ltb}
use Rattle.net_base.specs.declared.loc.LocSet.{LocSet}
use Rattle.net_base.specs.Network.{PlainNet, IsNet, is_location}
use Rattle.net_base.specs.NetSets.{locations}
use Rattle.net_base.specs.Sets.{holds, IsWords}
use Rattle.net_base.specs.SetOperations.{no_location, with_location, union_of}
use Rattle.net_base.proofs.HeldSets.{AreBelow, none_held, one_held, union_below}
use Rattle.net_base.proofs.NetSetLaws.{holds-locations}
use Rattle.net_base.proofs.SetLaws.{IsWords-none, IsWords-with, IsWords-union, IsWords-set_of, holds-with, holds-either}
use Rattle.policy_text.specs.Printable.{HoldsSome, HoldsOnly, IsCallSet}
use Rattle.policy_text.specs.Values.{IsLocSet}
use Rattle.policy_text.proofs.LocSets.{words_set}

-- twelve words, and locations below a number alone
pub record IsPart (n : ℕ) (s : LocSet) : Type 0 where
  pub words : IsWords s
  pub below : AreBelow n s

-- such a set with a location at least
pub record IsSome (n : ℕ) (s : LocSet) : Type 0 where
  pub part : IsPart n s
  pub some : HoldsSome s

pub none_part : (n : ℕ) → IsPart n no_location
none_part n = record { words = IsWords-none; below = λ l h. absurd (none_held l h) }

-- one location
pub one_some : (n l : ℕ) → l < n → n ≤ 768 → IsSome n (with_location no_location l)
one_some n l low small = record {
  part = record { words = IsWords-with no_location l (omega (arith, low, small)) IsWords-none; below = λ m h. omega (arith, low, one_held l m h) };
  some = (l, holds-with no_location l l (omega (arith, low, small)) IsWords-none ∙ or_right (holds no_location l) (l == l) (eq-eqb l l refl));
}

-- the locations of both
pub both_some : (n : ℕ) (s t : LocSet) → IsPart n s → IsSome n t → IsSome n (union_of s t)
both_some n s t a b = record {
  part = record { words = IsWords-union s t a.words b.part.words; below = union_below n s t a.below b.part.below };
  some = (b.some.0, holds-either s t a.words.size b.part.words.size b.some.0 ∙ or_right (holds s b.some.0) (holds t b.some.0) b.some.1);
}

-- ---- in the words of what can be printed

pub part_set : (n : ℕ) (s : LocSet) → IsPart n s → IsLocSet s
part_set n s is = words_set s is.words

pub part_within : (net : PlainNet) (s : LocSet) → IsPart (length net.routers + length net.peers) s → HoldsOnly (is_location net) s
part_within net s is l on = lt-ltb l (length net.routers + length net.peers) (is.below l on)

-- all locations
pub locations_set : (net : PlainNet) → IsLocSet (locations net)
locations_set net = words_set (locations net) (IsWords-set_of (is_location net))

some_location : (net : PlainNet) → IsNet net → HoldsSome (locations net) ⊎ (length net.routers + length net.peers ≡ 0)
some_location net rules = elim (cases_lt 0 (length net.routers + length net.peers)) [
  | inl some ↦ inl (0, ap (λ p. p 0) (holds-locations net rules) ∙ lt-ltb 0 (length net.routers + length net.peers) some)
  | inr none ↦ inr (omega (arith, none))
]

pub locations_call : (net : PlainNet) → IsNet net → IsCallSet net (locations net)
locations_call net rules = ((λ l on. sym (ap (λ p. p l) (holds-locations net rules)) ∙ on), some_location net rules)
