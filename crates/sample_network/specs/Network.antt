-- The network of the sample: a data centre of n leaves and four spines, each leaf linked with each spine, and two peers, each
-- at a spine of its own. Leaves, spines and peers are counted from 0; their names, as L1, from 1.
use Rattle.std.specs.Prelude.{ℕ, ◌+◌, ◌≤◌, List, ◌++◌, codes, map}
use Rattle.std.specs.List.{flat_map}
use Rattle.std.specs.Fmt.{decimal}
use Rattle.net_base.specs.Addresses.{bits_of}
use Rattle.net_base.specs.Locations.{numbers_below}
use Rattle.net_base.specs.Network.{PlainNet}
use Rattle.net_base.specs.declared.net.Site.{Site}

-- how many leaves a sample may have
abbrev pub IsSampleNumber : ℕ → Type 0
IsSampleNumber n = (2 ≤ n) × (n ≤ 96)

-- the address a.b.c.d
abbrev pub dotted : ℕ → ℕ → ℕ → ℕ → ℕ
dotted a b c d = bits_of (record { first = a; second = b; third = c; fourth = d })

-- ---- routers and peers

abbrev pub leaf : ℕ → Site
leaf k = record { name = codes "L" ++ decimal (k + 1); asn = 64512 + k; id = dotted 10 255 0 (k + 1) }

-- the AS numbers of the spines follow those of the leaves
abbrev pub spine : ℕ → ℕ → Site
spine n k = record { name = codes "S" ++ decimal (k + 1); asn = 64512 + n + k; id = dotted 10 255 1 (k + 1) }

abbrev pub peer : ℕ → Site
peer k = record { name = codes "W" ++ decimal (k + 1); asn = 1001 + k; id = dotted 10 255 2 (k + 1) }

-- ---- where they stand: first the leaves, then the spines, then the peers

abbrev pub spine_at : ℕ → ℕ → ℕ
spine_at n k = n + k

abbrev pub peer_at : ℕ → ℕ → ℕ
peer_at n k = n + 4 + k

-- a leaf is linked with each spine
abbrev pub leaf_links : ℕ → ℕ → List (ℕ × ℕ)
leaf_links n k = map (λ j. (k, spine_at n j)) (numbers_below 4)

-- the first peer with the first spine, and the second with the second
abbrev pub peer_links : ℕ → List (ℕ × ℕ)
peer_links n = map (λ j. (spine_at n j, peer_at n j)) (numbers_below 2)

abbrev pub sample_net : ℕ → PlainNet
sample_net n = record {
  routers = map leaf (numbers_below n) ++ map (spine n) (numbers_below 4);
  peers = map peer (numbers_below 2);
  links = flat_map (leaf_links n) (numbers_below n) ++ peer_links n;
}
