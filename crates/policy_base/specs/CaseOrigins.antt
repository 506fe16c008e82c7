-- The origins of a case.
use Rattle.std.specs.Prelude.{◌≡◌, ℕ, Bool, true, false, IsTrue}
use Rattle.net_base.specs.Network.{PlainNet, is_peer, is_router}

-- Where the case is external its origins are all peers, and else some routers.
abbrev pub AreOrigins : PlainNet → (ℕ → Bool) → Bool → Type 0
AreOrigins net origin true = (l : ℕ) → origin l ≡ is_peer net l
AreOrigins net origin false = (l : ℕ) → IsTrue (origin l) → IsTrue (is_router net l)
