-- The text of where packets go. Its lines of routers and sessions are those of a report, with hops in place of the path.
use Rattle.std.specs.Prelude.{◌≡◌, ℕ, ◌-◌, Bool, List, ◌++◌, Option, Some, None, codes, filter, length, if◌then◌else◌}
use Rattle.std.specs.Fmt.{decimal}
use Rattle.std.specs.List.{flat_map}
use Rattle.net_base.specs.Locations.{in_order, numbers_below}
use Rattle.net_base.specs.Network.{PlainNet}
use Rattle.net_base.specs.Prefixes.{PlainPrefix}
use Rattle.location_names.specs.Neighbours.{is_held}
use Rattle.policy_base.specs.Governing.{is_origin, statement_of}
use Rattle.policy_base.specs.Policies.{PlainPolicy, PlainStatement}
use Rattle.config_base.specs.Configs.{PlainConfig}
use Rattle.outcome_base.specs.Outcomes.{Failures, Outcome}
use Rattle.outcome_claims.specs.Claims.{AreClaimed, Sources, rank_by}
use Rattle.outcome_report.specs.Lines.{Shown, head_lines, next_name}
use Rattle.outcome_report.specs.Report.{shown_of}
use Rattle.multipath_law.specs.declared.multipath.Multipath.{Multipath}

-- how many hops a path has, one fewer than places
abbrev pub hops_text : List ℕ → List ℕ
hops_text path = codes " hops " ++ decimal (length path - 1)

-- a multipath set, in order of location
abbrev pub next_text : PlainNet → (ℕ → Bool) → List ℕ
next_text net next = codes " next" ++ flat_map (next_name net) (filter next (in_order net))

-- a rank, where it is asked for and there is one
abbrev pub rank_text : Option ℕ → List ℕ
rank_text None = codes " transit"
rank_text (Some n) = codes " rank " ++ decimal n

-- ---- lines; s ranks the paths of the sources that are claimed

-- where a router sends packets that is neither dead nor an origin
abbrev pub sends_text : PlainNet → Option PlainStatement → Bool → (ℕ → Bool) → Option (List ℕ) → List ℕ
sends_text net s claimed next None = codes " none"
sends_text net s claimed next (Some path) = rank_text (if claimed then rank_by net s path else None) ++ hops_text path ++ next_text net next

abbrev pub state_text : PlainNet → PlainPolicy → PlainPrefix → Option PlainStatement → Sources → Shown → (ℕ → ℕ → Bool) → ℕ → List ℕ
state_text net policy p s claimed shown next r =
    if shown.dead r
    then codes " dead"
    else (if is_origin net policy p r then codes " origin" else sends_text net s (claimed.routers r) (next r) (shown.path r))

unfoldable pub router_line : PlainNet → PlainPolicy → PlainPrefix → Option PlainStatement → Sources → Shown → (ℕ → ℕ → Bool) → ℕ → List ℕ
router_line net policy p s claimed shown next r = codes "router" ++ next_name net r ++ state_text net policy p s claimed shown next r ++ codes "\n"

-- the path that a peer is offered, where it has a rank
abbrev pub offered_text : Option ℕ → List ℕ → List ℕ
offered_text None path = codes " none"
offered_text (Some n) path = rank_text (Some n) ++ hops_text path

abbrev pub offer_text : PlainNet → Option PlainStatement → Option (List ℕ) → List ℕ
offer_text net s None = codes " none"
offer_text net s (Some path) = offered_text (rank_by net s path) path

unfoldable pub session_line : PlainNet → Option PlainStatement → Shown → ℕ × ℕ → List ℕ
session_line net s shown session = codes "session" ++ next_name net session.0 ++ next_name net session.1 ++ offer_text net s (shown.offer session.0 session.1) ++ codes "\n"

unfoldable pub idle_line : PlainNet → ℕ × ℕ → List ℕ
idle_line net link = codes "idle link" ++ next_name net link.0 ++ next_name net link.1 ++ codes "\n"

unfoldable pub count_line : ℕ → ℕ → List ℕ
count_line idle live = codes "idle " ++ decimal idle ++ codes " of " ++ decimal live ++ codes "\n"

-- ---- the text

abbrev pub lines_by : PlainNet → PlainPolicy → PlainConfig → PlainPrefix → Option PlainStatement → Sources → Shown → (ℕ → ℕ → Bool) → List (ℕ × ℕ) → ℕ → List ℕ
lines_by net policy config p s claimed shown next idle live =
    head_lines config p
    ++ flat_map (router_line net policy p s claimed shown next) (numbers_below (length net.routers))
    ++ flat_map (session_line net s shown) claimed.sessions
    ++ flat_map (idle_line net) idle
    ++ count_line (length idle) live

-- The prefix and its class, a line for each router in order of location, one for each source of the policy that is a session, one for each idle link, and
-- how many of these there are of how many links that live.
pub record IsMultipathText (net : PlainNet) (policy : PlainPolicy) (config : PlainConfig) (f : Failures) (p : PlainPrefix) (outcome : Outcome) (m : Multipath) (text : List ℕ) : Type 0 where
  pub sources : Sources
  pub claimed : AreClaimed net policy p sources
  pub spelled : text ≡ lines_by net policy config p (statement_of policy p) sources (shown_of net policy config f p outcome) (is_held m.sets) m.idle m.live
