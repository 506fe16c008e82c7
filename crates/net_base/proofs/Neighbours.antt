-- The neighbours of a location are those that are linked to it, in order.
use Rattle.std.proofs.Common.{◌≡◌, ℕ, ◌+◌, ◌<◌, true, length, Some, arith}
use Rattle.std.specs.Prelude.{slice_get}
use Rattle.std.specs.List.Sorted.{IsStrictlySortedBy}
use Rattle.std.specs.Ordering.{nat_cmp}
use Rattle.std.proofs.lemmas.Bool.{ltb-true}
use Rattle.std.proofs.lemmas.List.Kept.{IsStrictlySortedBy-filter}
use Rattle.net_base.specs.Network.{PlainNet, IsNet, linked}
use Rattle.net_base.specs.Locations.{in_order, neighbours}
use Rattle.list_law.specs.Members.{IsIn}
use Rattle.list_law.proofs.Members.{IsIn-filter_parts, IsIn-filter}
use Rattle.net_base.proofs.NumbersBelow.{In-numbers_below, number_got, sorted_numbers}
use Rattle.net_base.proofs.Links.{linked_known}

pub neighbour_linked : (net : PlainNet) (x i z : ℕ) → slice_get (neighbours net x) i ≡ Some z → linked net x z ≡ true
neighbour_linked net x i z h = (IsIn-filter_parts (linked net x) (in_order net) z (i, h)).1

pub linked_neighbour : (net : PlainNet) (x z : ℕ) → IsNet net → linked net x z ≡ true → (i : ℕ) × (slice_get (neighbours net x) i ≡ Some z)
linked_neighbour net x z rules h =
    let known = (linked_known net x z rules h).1 in
    let at = In-numbers_below z (length net.routers + length net.peers) (ltb-true _ _ known) in
    IsIn-filter (linked net x) (in_order net) z (at.0, at.1) h

pub neighbour_known : (net : PlainNet) (x z : ℕ) → IsIn (neighbours net x) z → z < length net.routers + length net.peers
neighbour_known net x z at =
    let found = (IsIn-filter_parts (linked net x) (in_order net) z at).0 in
    let got = number_got (length net.routers + length net.peers) found.0 z found.1 in
    omega (arith, got.0, got.1)

pub sorted_neighbours : (net : PlainNet) (x : ℕ) → IsStrictlySortedBy nat_cmp (neighbours net x)
sorted_neighbours net x = IsStrictlySortedBy-filter nat_cmp (linked net x) (in_order net) (sorted_numbers (length net.routers + length net.peers))
