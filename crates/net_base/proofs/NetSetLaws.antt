-- The sets of a network hold its locations and its peers.
use Rattle.std.proofs.Common.{◌≡◌, ℕ, ◌+◌, ◌<◌, List, Bool, true, length, sym, ap, ◌∙◌, arith, inl, inr}
use Rattle.std.specs.List.{list_all}
use Rattle.std.proofs.lemmas.Bool.{cases_lt, and_parts, ltb-true, false_from_ne_true}
use Rattle.net_base.specs.Network.{PlainNet, IsNet, is_location, is_peer}
use Rattle.net_base.specs.Sets.{holds, set_of}
use Rattle.net_base.proofs.SetOf.{holds-set_of, holds-set_of_past}
use Rattle.net_base.specs.NetSets.{locations, peers}

low : (net : PlainNet) → IsNet net → (l : ℕ) → is_location net l ≡ true → l < 768
low net rules l is = omega (arith, ltb-true l (length net.routers + length net.peers) is, rules.routers, rules.peers)

-- a test that no location from 768 on passes
holds-set : (p : ℕ → Bool) → ((l : ℕ) → p l ≡ true → l < 768) → holds (set_of p) ≡ p
holds-set p below = λ i. λ l. at l i
  where
    at : (l : ℕ) → holds (set_of p) l ≡ p l
    at l = elim (cases_lt l 768) [
      | inl in_reach ↦ holds-set_of p l in_reach
      | inr past ↦ holds-set_of_past p l past ∙ sym (false_from_ne_true (p l) (λ h. let q = below l h in absurd (omega arith)))
    ]

pub holds-locations : (net : PlainNet) → IsNet net → holds (locations net) ≡ is_location net
holds-locations net rules = holds-set (is_location net) (low net rules)

pub holds-peers : (net : PlainNet) → IsNet net → holds (peers net) ≡ is_peer net
holds-peers net rules = holds-set (is_peer net) (λ l h. low net rules l (and_parts _ (is_location net l) h).1)

pub all_held : (net : PlainNet) → IsNet net → (xs : List ℕ) → list_all (is_location net) xs ≡ true → list_all (holds (locations net)) xs ≡ true
all_held net rules xs h = ap (λ p. list_all p xs) (holds-locations net rules) ∙ h
