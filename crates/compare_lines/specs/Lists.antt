-- Lists of routers and of sessions.
use Rattle.std.specs.Prelude.{ℕ, Bool, not, ◌&&◌, nat_lt, List, [], ◌∷◌, ◌++◌, codes, filter, length, if◌then◌else◌}
use Rattle.std.specs.List.{flat_map}
use Rattle.net_base.specs.Locations.{numbers_below}
use Rattle.net_base.specs.Network.{PlainNet, is_peer, is_router}
use Rattle.outcome_report.specs.Lines.{next_name}

-- " but" and the others, where there are others
abbrev pub but_text : {X : Type 0} → (List X → List ℕ) → List X → List ℕ
but_text {X} items [] = []
but_text {X} items (x ∷ xs) = codes " but" ++ items (x ∷ xs)

-- the names of routers
abbrev pub router_names : PlainNet → List ℕ → List ℕ
router_names net routers = flat_map (next_name net) routers

abbrev pub all_routers_but : PlainNet → List ℕ → List ℕ
all_routers_but net others = codes "all routers" ++ but_text (router_names net) others

abbrev pub these_routers : PlainNet → List ℕ → List ℕ
these_routers net these = codes "routers" ++ router_names net these

-- these of all, or all but the others, where the others are fewer
abbrev pub router_list : PlainNet → List ℕ → List ℕ → List ℕ
router_list net these others = if nat_lt (length others) (length these) then all_routers_but net others else these_routers net these

-- the sessions of routers to peers, by router and then by peer
abbrev pub sessions_of : PlainNet → List (ℕ × ℕ)
sessions_of net = filter (λ (link : ℕ × ℕ). is_router net link.0 && is_peer net link.1) net.links

-- the names of the router and the peer
abbrev pub session_name : PlainNet → ℕ × ℕ → List ℕ
session_name net session = next_name net session.0 ++ next_name net session.1

abbrev pub next_session : PlainNet → ℕ × ℕ → List ℕ
next_session net session = codes "," ++ session_name net session

-- of several sessions, with commas between them
abbrev pub session_names : PlainNet → List (ℕ × ℕ) → List ℕ
session_names net [] = []
session_names net (session ∷ sessions) = session_name net session ++ flat_map (next_session net) sessions

abbrev pub all_sessions_but : PlainNet → List (ℕ × ℕ) → List ℕ
all_sessions_but net others = codes "all sessions" ++ but_text (session_names net) others

abbrev pub these_sessions : PlainNet → List (ℕ × ℕ) → List ℕ
these_sessions net these = codes "sessions" ++ session_names net these

abbrev pub session_list : PlainNet → List (ℕ × ℕ) → List (ℕ × ℕ) → List ℕ
session_list net these others = if nat_lt (length others) (length these) then all_sessions_but net others else these_sessions net these

-- ---- their lines

-- the routers of the network
abbrev pub all_routers : PlainNet → List ℕ
all_routers net = numbers_below (length net.routers)

-- a line of routers, or of all but the others, where there are some
abbrev pub routers_text : PlainNet → List ℕ → List ℕ → List ℕ → List ℕ
routers_text net word [] others = []
routers_text net word (r ∷ rs) others = word ++ router_list net (r ∷ rs) others ++ codes "\n"

-- a line of those of some routers at which something is so
abbrev pub routers_line : PlainNet → List ℕ → (ℕ → Bool) → List ℕ → List ℕ
routers_line net word is_here routers = routers_text net word (filter is_here routers) (filter (λ r. not (is_here r)) routers)

-- a line of sessions, or of all but the others, where there are some
abbrev pub sessions_text : PlainNet → List (ℕ × ℕ) → List (ℕ × ℕ) → List ℕ
sessions_text net [] others = []
sessions_text net (session ∷ sessions) others = session_list net (session ∷ sessions) others ++ codes "\n"
