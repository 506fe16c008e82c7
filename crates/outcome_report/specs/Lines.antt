-- The lines of a report.
use Rattle.std.specs.Prelude.{ℕ, Bool, List, ◌++◌, Option, Some, None, codes, length, if◌then◌else◌}
use Rattle.std.specs.Fmt.{decimal}
use Rattle.std.specs.List.{flat_map}
use Rattle.net_base.specs.Locations.{numbers_below}
use Rattle.net_base.specs.Network.{PlainNet}
use Rattle.net_base.specs.Prefixes.{PlainPrefix}
use Rattle.policy_base.specs.Governing.{is_origin, statement_of}
use Rattle.policy_base.specs.Policies.{PlainPolicy, PlainStatement}
use Rattle.config_base.specs.Configs.{PlainConfig}
use Rattle.config_base.specs.Lines.{class_of}
use Rattle.net_base.specs.Network.{name_of}
use Rattle.text_parts.specs.Texts.{prefix_text}
use Rattle.outcome_claims.specs.Claims.{Sources, rank_by}

-- what a report shows: who is dead, along which path a router sends, and which path a peer is offered over the session of a router
pub record Shown : Type 0 where
  pub dead : ℕ → Bool
  pub path : ℕ → Option (List ℕ)
  pub offer : ℕ → ℕ → Option (List ℕ)

-- ---- parts of a line

-- a location's name after a space
abbrev pub next_name : PlainNet → ℕ → List ℕ
next_name net l = codes " " ++ name_of net l

-- a source of traffic: a router, or its session to a peer
abbrev pub source_text : PlainNet → ℕ → Option ℕ → List ℕ
source_text net r None = codes "router" ++ next_name net r
source_text net r (Some peer) = codes "session" ++ next_name net r ++ next_name net peer

-- the names along a path
abbrev pub path_text : PlainNet → List ℕ → List ℕ
path_text net path = codes " path" ++ flat_map (next_name net) path

abbrev pub ranked_text : PlainNet → ℕ → List ℕ → List ℕ
ranked_text net n path = codes " rank " ++ decimal n ++ path_text net path

-- a router's path, with its rank where it is asked for and there is one
abbrev pub used_text : PlainNet → Option ℕ → List ℕ → List ℕ
used_text net None path = codes " transit" ++ path_text net path
used_text net (Some n) path = ranked_text net n path

-- the path that a peer is offered, where it has a rank
abbrev pub offered_text : PlainNet → Option ℕ → List ℕ → List ℕ
offered_text net None path = codes " none"
offered_text net (Some n) path = ranked_text net n path

abbrev pub class_text : Option ℕ → List ℕ
class_text None = codes " none"
class_text (Some k) = codes " " ++ decimal k

-- ---- lines; s ranks the paths of the sources that are claimed

-- what a router has that is neither dead nor an origin
abbrev pub held_text : PlainNet → Option PlainStatement → Bool → Option (List ℕ) → List ℕ
held_text net s claimed None = codes " none"
held_text net s claimed (Some path) = used_text net (if claimed then rank_by net s path else None) path

abbrev pub state_text : PlainNet → PlainPolicy → PlainPrefix → Option PlainStatement → Sources → Shown → ℕ → List ℕ
state_text net policy p s claimed shown r =
    if shown.dead r
    then codes " dead"
    else (if is_origin net policy p r then codes " origin" else held_text net s (claimed.routers r) (shown.path r))

unfoldable pub router_line : PlainNet → PlainPolicy → PlainPrefix → Option PlainStatement → Sources → Shown → ℕ → List ℕ
router_line net policy p s claimed shown r = codes "router" ++ next_name net r ++ state_text net policy p s claimed shown r ++ codes "\n"

abbrev pub offer_text : PlainNet → Option PlainStatement → Option (List ℕ) → List ℕ
offer_text net s None = codes " none"
offer_text net s (Some path) = offered_text net (rank_by net s path) path

unfoldable pub session_line : PlainNet → Option PlainStatement → Shown → ℕ × ℕ → List ℕ
session_line net s shown session = codes "session" ++ next_name net session.0 ++ next_name net session.1 ++ offer_text net s (shown.offer session.0 session.1) ++ codes "\n"

unfoldable pub head_lines : PlainConfig → PlainPrefix → List ℕ
head_lines config p = codes "prefix " ++ prefix_text p ++ codes "\nclass" ++ class_text (class_of config p) ++ codes "\n"

-- ---- the report

abbrev pub lines_by : PlainNet → PlainPolicy → PlainConfig → PlainPrefix → Option PlainStatement → Sources → Shown → List ℕ
lines_by net policy config p s claimed shown =
    head_lines config p
    ++ flat_map (router_line net policy p s claimed shown) (numbers_below (length net.routers))
    ++ flat_map (session_line net s shown) claimed.sessions

-- The prefix and its class, a line for each router in order of location, and one for each claimed session.
abbrev pub report_text : PlainNet → PlainPolicy → PlainConfig → PlainPrefix → Sources → Shown → List ℕ
report_text net policy config p claimed shown = lines_by net policy config p (statement_of policy p) claimed shown
