-- How many of each kind cases have: of those who could be claimed and aren't, of those who only carry, and of what promises nothing.
use Rattle.std.specs.Prelude.{ℕ, ◌+◌, ◌-◌, ◌==◌, Bool, false, nat_lt, ◌&&◌, List, [], ◌∷◌, Option, Some, None, slice_index_or, if◌then◌else◌}
use Rattle.std.specs.List.{count_by}
use Rattle.net_base.specs.Locations.{in_order}
use Rattle.net_base.specs.Network.{PlainNet, is_peer}
use Rattle.net_base.specs.Sets.{holds}
use Rattle.policy_base.specs.declared.case.Case.{Case}
use Rattle.policy_base.specs.declared.policy.FromSet.{FromSet}
use Rattle.policy_base.specs.declared.policy.FromSet.TheVariants.{Any, Named}
use Rattle.policy_base.specs.Policies.{PlainPolicy, PlainStatement, statement_at}
use Rattle.own_space.specs.Covers.{covered_in}
use Rattle.promises_report.specs.Standings.{Row, is_wanted}
use Rattle.promises_report.specs.declared.counts.Counts.{Counts}
use Rattle.promises_report.specs.declared.standing.Wanted.TheVariants.{Claimed, Unclaimed, Transit, Unused}

-- ---- the peers that a statement names

abbrev pub names : FromSet → ℕ → Bool
names Any l = false
names (Named set) l = holds set l

abbrev pub is_named_by : Option PlainStatement → ℕ → Bool
is_named_by None l = false
is_named_by (Some s) l = names s.from l

-- a peer that the `from` of the statement with a number names
unfoldable pub is_named_peer : PlainNet → PlainPolicy → ℕ → ℕ → Bool
is_named_peer net policy n l = is_peer net l && is_named_by (statement_at policy n) l

-- ---- statements that govern nothing

-- the mark of the statement with a number, from 1
abbrev pub mark_at : List Bool → ℕ → Bool
mark_at marks n = nat_lt 0 n && slice_index_or marks (n - 1) false

-- an external case of which no prefix is left: each is originated, or governed by an earlier statement
abbrev pub is_covered : PlainPolicy → Bool → ℕ → Bool
is_covered policy external n = external && mark_at (covered_in policy) n

-- ---- how many there are of each kind: each router, session or peer counts once in each case

-- where no session is claimed, and `from` names no peer, no peer could be: then its sessions don't count
abbrev pub missed_sessions : ℕ → Row → ℕ
missed_sessions named x = if count_by (is_wanted Claimed) x.sessions + named == 0 then 0 else count_by (is_wanted Unclaimed) x.sessions

abbrev pub named_peers : PlainNet → PlainPolicy → Case → ℕ
named_peers net policy c = count_by (is_named_peer net policy c.statement) (in_order net)

abbrev pub promised_counts : ℕ → Case → Row → Counts
promised_counts named c x = record {
  unclaimed = count_by (is_wanted Unclaimed) x.routers + missed_sessions named x + (if c.external then named else 0);
  transit = count_by (is_wanted Transit) x.routers;
  covered = 0;
  unused = count_by (is_wanted Unused) x.origins;
}

abbrev pub covered_counts : Row → Counts
covered_counts x = record { unclaimed = 0; transit = 0; covered = 1; unused = count_by (is_wanted Unused) x.origins }

unfoldable pub case_counts : PlainNet → PlainPolicy → Case → Row → Counts
case_counts net policy c x = if is_covered policy c.external c.statement then covered_counts x else promised_counts (named_peers net policy c) c x

abbrev pub sum_of : Counts → Counts → Counts
sum_of a b = record { unclaimed = a.unclaimed + b.unclaimed; transit = a.transit + b.transit; covered = a.covered + b.covered; unused = a.unused + b.unused }

abbrev pub no_counts : Counts
no_counts = record { unclaimed = 0; transit = 0; covered = 0; unused = 0 }

abbrev pub counts_in : PlainNet → PlainPolicy → List Case → List Row → Counts
counts_in net policy [] xs = no_counts
counts_in net policy (c ∷ cs) [] = no_counts
counts_in net policy (c ∷ cs) (x ∷ xs) = sum_of (case_counts net policy c x) (counts_in net policy cs xs)
