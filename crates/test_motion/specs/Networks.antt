-- Two networks of three places. All routes have one preference, and each peer is an origin.
use Rattle.std.specs.Prelude.{ℕ, true, false, List, [], ◌∷◌}
use Rattle.net_base.specs.declared.net.Site.{Site}
use Rattle.net_base.specs.declared.numbers.Tag.{Tag}
use Rattle.net_base.specs.Network.{PlainNet}
use Rattle.net_base.specs.Numbers.{no_tag}
use Rattle.net_base.specs.Prefixes.{PlainPattern, PlainPrefix}
use Rattle.policy_base.specs.Policies.{PlainPolicy}
use Rattle.config_base.specs.declared.config.Import.{Import}
use Rattle.config_base.specs.declared.config.RouterConfig.{RouterConfig}
use Rattle.config_base.specs.declared.config.Session.{Session}
use Rattle.config_base.specs.Configs.{PlainConfig}

-- the prefix 0.0.0.0/0, which no router originates, so that peers do
abbrev pub default_route : PlainPrefix
default_route = record { bits = 0; len = 0 }

abbrev pub policy : PlainPolicy
policy = record { origins = []; statements = [] }

-- ---- parts: names have one letter, and each router marks what it takes with its one tag

abbrev pub site : ℕ → ℕ → ℕ → Site
site letter asn id = record { name = letter ∷ []; asn = asn; id = id }

abbrev pub mark : ℕ → Tag
mark asn = record { asn = asn; value = 1 }

abbrev pub takes : Tag → ℕ → Import
takes tag asn = record { class = 1; tag = tag; set = mark asn; pref = 100 }

-- a router takes all that a peer says
abbrev pub from_peer : ℕ → ℕ → ℕ → Session
from_peer letter peer asn = record { name = letter ∷ []; asn = peer; peer = true; imports = takes no_tag asn ∷ []; exports = [] }

-- it takes what another router says, and sends it its own route
abbrev pub with_router : ℕ → ℕ → ℕ → Session
with_router letter other asn = record { name = letter ∷ []; asn = other; peer = false; imports = takes (mark other) asn ∷ []; exports = record { class = 1; tag = mark asn } ∷ [] }

abbrev pub router : ℕ → ℕ → ℕ → List Session → RouterConfig
router letter asn id sessions = record { name = letter ∷ []; asn = asn; id = id; own = []; sessions = sessions }

abbrev pub all_prefixes : List (List PlainPattern)
all_prefixes = (record { base = default_route; upto = 32 } ∷ []) ∷ []

-- ---- a router R between two peers P and Q: locations 0, 1 and 2

abbrev pub exits : PlainNet
exits = record { routers = site 82 64512 1 ∷ []; peers = site 80 1001 2 ∷ site 81 1002 3 ∷ []; links = (0, 1) ∷ (0, 2) ∷ [] }

abbrev pub exits_config : PlainConfig
exits_config = record { classes = all_prefixes; routers = router 82 64512 1 (from_peer 80 1001 64512 ∷ from_peer 81 1002 64512 ∷ []) ∷ [] }

-- ---- two routers A and B, and a peer P with the highest identifier: locations 0, 1 and 2, each linked with the others

abbrev pub triangle : PlainNet
triangle = record { routers = site 65 64512 1 ∷ site 66 64513 2 ∷ []; peers = site 80 1001 3 ∷ []; links = (0, 1) ∷ (0, 2) ∷ (1, 2) ∷ [] }

abbrev pub router_a : RouterConfig
router_a = router 65 64512 1 (with_router 66 64513 64512 ∷ from_peer 80 1001 64512 ∷ [])

abbrev pub router_b : RouterConfig
router_b = router 66 64513 2 (with_router 65 64512 64513 ∷ from_peer 80 1001 64513 ∷ [])

abbrev pub triangle_config : PlainConfig
triangle_config = record { classes = all_prefixes; routers = router_a ∷ router_b ∷ [] }
