-- Where multipath sets differ, as a test, and over which links they can.
use Rattle.std.specs.Prelude.{ℕ, Bool, false, not, ◌||◌, ◌==◌, IsTrue, List, if◌then◌else◌}
use Rattle.std.specs.List.{list_any}
use Rattle.std.specs.Option.{option_map_or}
use Rattle.net_base.specs.declared.loc.LocSet.{LocSet}
use Rattle.net_base.specs.Network.{PlainNet, joins, linked}
use Rattle.net_base.specs.Prefixes.{PlainPrefix}
use Rattle.net_base.specs.Sets.{holds}
use Rattle.policy_base.specs.Policies.{PlainPolicy}
use Rattle.config_base.specs.Configs.{PlainConfig}
use Rattle.outcome_base.specs.Outcomes.{Failures, Outcome}
use Rattle.scenarios.specs.Tests.{far_end}
use Rattle.impact_law.specs.declared.impact.Cut.{Cut}
use Rattle.impact_law.specs.declared.impact.Cut.TheVariants.{Link, Router}
use Rattle.multipath_report.specs.Members.{is_member}

-- one is so and the other isn't
abbrev pub differ : Bool → Bool → Bool
differ a b = if a then not b else b

-- z is in the multipath set of r before or after, and not both times
abbrev pub differs : PlainNet → PlainPolicy → PlainConfig → Failures → Failures → PlainPrefix → Outcome → Outcome → ℕ → ℕ → Bool
differs net policy config f h p before after z r = differ (is_member net policy config f p before r z) (is_member net policy config h p after r z)

-- no neighbour is
abbrev pub keeps_set : PlainNet → PlainPolicy → PlainConfig → Failures → Failures → PlainPrefix → Outcome → Outcome → ℕ → Bool
keeps_set net policy config f h p before after r = not (list_any (λ link. option_map_or (λ z. differs net policy config f h p before after z r) (far_end r link) false) net.links)

-- ---- where that can be

-- a link, or an end of it, is cut
abbrev pub over_link : Cut → ℕ → ℕ → Bool
over_link (Link a b) r z = joins r z (a, b)
over_link (Router x) r z = x == r || x == z

-- it is, or an end of it holds another route
abbrev pub touches : Cut → LocSet → ℕ → ℕ → Bool
touches cut moved r z = (holds moved r || holds moved z) || over_link cut r z

-- the list has each such link
abbrev pub Covers : PlainNet → Cut → LocSet → List (ℕ × ℕ) → Type 0
Covers net cut moved links = (r z : ℕ) → IsTrue (linked net z r) → IsTrue (touches cut moved r z) → IsTrue (list_any (joins z r) links)
