-- The names of a network's locations.
use Rattle.std.specs.Prelude.{ℕ, List, map}
use Rattle.std.proofs.Common.{Bor}
use Rattle.net_base.specs.declared.net.Site.{Site}
use Rattle.net_base.specs.Network.{PlainNet, sites}

-- what borrowed texts say
abbrev pub texts : List (Bor (List ℕ)) → List (List ℕ)
texts ks = map (λ k. k.now) ks

-- the names of the locations, in order
abbrev pub names_of : PlainNet → List (List ℕ)
names_of net = map (λ (s : Site). s.name) (sites net)
