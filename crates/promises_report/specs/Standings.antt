-- How routers and sessions stand in a case.
use Rattle.std.specs.Prelude.{ℕ, Bool, true, false, ◌==◌, List, [], Option, Some, None, length, map, if◌then◌else◌}
use Rattle.net_base.specs.Locations.{numbers_below}
use Rattle.net_base.specs.Network.{PlainNet}
use Rattle.net_base.specs.Sets.{holds}
use Rattle.policy_base.specs.declared.case.Case.{Case}
use Rattle.promises_report.specs.Places.{sessions_of}
use Rattle.promises_report.specs.Promises.{Promises}
use Rattle.promises_report.specs.declared.standing.Standing.{Standing}
use Rattle.promises_report.specs.declared.standing.Standing.TheVariants.{Source, Transit, Unclaimed, Used, Unused}
use Rattle.promises_report.specs.declared.standing.Wanted.{Wanted}
use Rattle.promises_report.specs.declared.standing.Wanted.TheVariants as wanted

-- by a best rank, and whether permitted walks pass
abbrev pub standing_of : Option ℕ → Bool → Standing
standing_of (Some n) passes = Source n
standing_of None passes = if passes then Transit else Unclaimed

-- of an origin
abbrev pub end_of : Bool → Standing
end_of passes = if passes then Used else Unused

-- how a router stands where it isn't an origin
unfoldable pub as_source : Case → Promises → ℕ → Option Standing
as_source c a r = if holds c.origins r then None else Some (standing_of (a.rank r None) (a.passes r))

-- and where it is one
unfoldable pub as_origin : Case → Promises → ℕ → Option Standing
as_origin c a r = if holds c.origins r then Some (end_of (a.passes r)) else None

-- how the session of a router to a peer stands
unfoldable pub as_session : Promises → ℕ × ℕ → Option Standing
as_session a link = Some (standing_of (a.rank link.0 (Some link.1)) false)

-- each session, where the origins are routers
abbrev pub session_row : PlainNet → Case → Promises → List (Option Standing)
session_row net c a = if c.external then [] else map (as_session a) (sessions_of net)

-- How each router stands as a source, and as an origin, by location; and each session, by router and peer.
pub record Row : Type 0 where
  pub routers : List (Option Standing)
  pub origins : List (Option Standing)
  pub sessions : List (Option Standing)

abbrev pub row_of : PlainNet → Case → Promises → Row
row_of net c a = record {
  routers = map (as_source c a) (numbers_below (length net.routers));
  origins = map (as_origin c a) (numbers_below (length net.routers));
  sessions = session_row net c a;
}

-- ---- what a line tells

abbrev pub is_source_of : ℕ → Standing → Bool
is_source_of n (Source m) = m == n
is_source_of n Transit = false
is_source_of n Unclaimed = false
is_source_of n Used = false
is_source_of n Unused = false

abbrev pub is_claimed : Standing → Bool
is_claimed (Source m) = true
is_claimed Transit = false
is_claimed Unclaimed = false
is_claimed Used = false
is_claimed Unused = false

-- who isn't claimed, whether it carries routes or not
abbrev pub is_unclaimed : Standing → Bool
is_unclaimed (Source m) = false
is_unclaimed Transit = true
is_unclaimed Unclaimed = true
is_unclaimed Used = false
is_unclaimed Unused = false

abbrev pub is_transit : Standing → Bool
is_transit (Source m) = false
is_transit Transit = true
is_transit Unclaimed = false
is_transit Used = false
is_transit Unused = false

abbrev pub is_left : Standing → Bool
is_left (Source m) = false
is_left Transit = false
is_left Unclaimed = true
is_left Used = false
is_left Unused = false

abbrev pub is_used : Standing → Bool
is_used (Source m) = false
is_used Transit = false
is_used Unclaimed = false
is_used Used = true
is_used Unused = false

abbrev pub is_unused : Standing → Bool
is_unused (Source m) = false
is_unused Transit = false
is_unused Unclaimed = false
is_unused Used = false
is_unused Unused = true

abbrev pub is_meant : Wanted → Standing → Bool
is_meant (wanted.Source n) x = is_source_of n x
is_meant wanted.Claimed x = is_claimed x
is_meant wanted.Unclaimed x = is_unclaimed x
is_meant wanted.Transit x = is_transit x
is_meant wanted.Unused x = is_unused x

abbrev pub is_wanted : Wanted → Option Standing → Bool
is_wanted w None = false
is_wanted w (Some x) = is_meant w x
