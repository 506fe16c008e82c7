-- The locations of a network in their order.
use Rattle.std.specs.Prelude.{ℕ, ◌+◌, zero, suc, List, [], ◌∷◌, ◌++◌, length, filter}
use Rattle.net_base.specs.Network.{PlainNet, linked}

abbrev pub numbers_below : ℕ → List ℕ
numbers_below zero = []
numbers_below (suc n) = numbers_below n ++ n ∷ []

abbrev pub in_order : PlainNet → List ℕ
in_order net = numbers_below (length net.routers + length net.peers)

-- the locations to which a location is linked
abbrev pub neighbours : PlainNet → ℕ → List ℕ
neighbours net x = filter (linked net x) (in_order net)
