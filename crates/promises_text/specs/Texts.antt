-- The text of what a policy promises.
use Rattle.std.specs.Prelude.{ℕ, ◌+◌, ◌-◌, ◌^◌, ◌==◌, min, Bool, is_none, List, [], ◌∷◌, ◌++◌, codes, drop, length, Option, Some, None, slice_get, if◌then◌else◌}
use Rattle.std.specs.Fmt.{decimal}
use Rattle.std.specs.List.{count_by, flat_map}
use Rattle.net_base.specs.Locations.{in_order, numbers_below}
use Rattle.net_base.specs.Network.{PlainNet}
use Rattle.net_base.specs.Prefixes.{PlainPattern, PlainPrefix, same_prefix}
use Rattle.policy_base.specs.declared.case.Case.{Case}
use Rattle.policy_base.specs.declared.policy.Origin.{Origin}
use Rattle.policy_base.specs.Governing.{governing}
use Rattle.policy_base.specs.Meaning.{alternative_count}
use Rattle.policy_base.specs.Policies.{PlainPolicy, PlainStatement, Ranking}
use Rattle.policy_text.specs.Choices.{rank_lines}
use Rattle.text_parts.specs.Texts.{pattern_text, prefix_text}
use Rattle.cut_ranks.specs.Tops.{entry_at}
use Rattle.outcome_report.specs.Lines.{next_name}
use Rattle.own_space.specs.declared.open_case.OpenCase.{OpenCase}
use Rattle.own_space.specs.declared.open_part.OpenPart.{OpenPart}
use Rattle.own_space.specs.Open.{open_parts}
use Rattle.promises_report.specs.Apart.{apart_ranks}
use Rattle.promises_report.specs.declared.apart.ApartRanks.{ApartRanks}
use Rattle.promises_report.specs.Counting.{counts_in, is_covered, is_named_peer}
use Rattle.promises_report.specs.Groups.{groups_of, rows_of}
use Rattle.promises_report.specs.Places.{sessions_of}
use Rattle.promises_report.specs.Promises.{Promises}
use Rattle.promises_report.specs.Standings.{is_wanted}
use Rattle.promises_report.specs.Taking.{taking_cases}
use Rattle.promises_report.specs.declared.counts.Counts.{Counts}
use Rattle.promises_report.specs.declared.group.Group.{Group}
use Rattle.promises_report.specs.declared.standing.Standing.{Standing}
use Rattle.promises_report.specs.declared.standing.Wanted.{Wanted}
use Rattle.promises_report.specs.declared.standing.Wanted.TheVariants.{Source, Unclaimed, Transit, Unused}

-- ---- lines that name routers or sessions

-- A line of a head, names and a tail; none where it would name nobody.
unfoldable pub line_of : List ℕ → List ℕ → List ℕ → List ℕ
line_of head names tail = if length names == 0 then [] else head ++ names ++ tail

-- a router of which a line tells
unfoldable pub wanted_router : PlainNet → List (Option Standing) → Wanted → ℕ → List ℕ
wanted_router net xs w r = if is_wanted w (entry_at xs r) then next_name net r else []

abbrev pub wanted_routers : PlainNet → List (Option Standing) → Wanted → List ℕ
wanted_routers net xs w = flat_map (wanted_router net xs w) (numbers_below (length net.routers))

-- a router and its peer
abbrev pub session_name : PlainNet → Option (ℕ × ℕ) → List ℕ
session_name net None = []
session_name net (Some link) = next_name net link.0 ++ next_name net link.1

-- a session of which a line tells
unfoldable pub wanted_session : PlainNet → List (ℕ × ℕ) → List (Option Standing) → Wanted → ℕ → List ℕ
wanted_session net sessions xs w i = if is_wanted w (entry_at xs i) then session_name net (slice_get sessions i) else []

abbrev pub wanted_sessions : PlainNet → List (ℕ × ℕ) → List (Option Standing) → Wanted → List ℕ
wanted_sessions net sessions xs w = flat_map (wanted_session net sessions xs w) (numbers_below (length sessions))

unfoldable pub rank_tail : ℕ → List ℕ
rank_tail n = codes " rank " ++ decimal n ++ codes "\n"

-- the routers with a best rank, which is 1 more than k
unfoldable pub router_source : PlainNet → Group → ℕ → List ℕ
router_source net g k = line_of (codes "source router") (wanted_routers net g.routers (Source (k + 1))) (rank_tail (k + 1))

unfoldable pub session_source : PlainNet → Group → ℕ → List ℕ
session_source net g k = line_of (codes "source session") (wanted_sessions net (sessions_of net) g.sessions (Source (k + 1))) (rank_tail (k + 1))

-- ---- who could be claimed and isn't

unfoldable pub named_peer : PlainNet → PlainPolicy → ℕ → ℕ → List ℕ
named_peer net policy n l = if is_named_peer net policy n l then next_name net l else []

-- in an external case a peer can claim nothing, though `from` may name it
abbrev pub idle_line : PlainNet → PlainPolicy → Group → List ℕ
idle_line net policy g = if g.external then line_of (codes "unclaimed peer") (flat_map (named_peer net policy g.statement) (in_order net)) (codes "\n") else []

-- ---- the lines of a group

unfoldable pub case_line : Group → List ℕ
case_line g = codes "case" ++ g.numbers ++ codes " statement " ++ decimal g.statement ++ codes "\n"

unfoldable pub prefix_line : Group → List ℕ
prefix_line g = codes "prefix" ++ g.prefixes ++ codes "\n"

unfoldable pub origin_line : Group → List ℕ
origin_line g = codes "origin" ++ g.ends ++ codes "\n"

-- its cases, their prefixes and their origins
abbrev pub head_lines : Group → List ℕ
head_lines g = case_line g ++ prefix_line g ++ origin_line g

-- the sources by their best ranks, of which there are so many
abbrev pub source_lines : PlainNet → ℕ → Group → List ℕ
source_lines net ranks g = flat_map (router_source net g) (numbers_below ranks) ++ flat_map (session_source net g) (numbers_below ranks)

-- who isn't claimed
unfoldable pub unclaimed_routers : PlainNet → Group → List ℕ
unclaimed_routers net g = line_of (codes "unclaimed router") (wanted_routers net g.routers Unclaimed) (codes "\n")

unfoldable pub unclaimed_sessions : PlainNet → Group → List ℕ
unclaimed_sessions net g = line_of (codes "unclaimed session") (wanted_sessions net (sessions_of net) g.sessions Unclaimed) (codes "\n")

-- who carries routes without a claim
unfoldable pub transit_line : PlainNet → Group → List ℕ
transit_line net g = line_of (codes "transit router") (wanted_routers net g.routers Transit) (codes "\n")

abbrev pub other_lines : PlainNet → PlainPolicy → Group → List ℕ
other_lines net policy g = unclaimed_routers net g ++ unclaimed_sessions net g ++ idle_line net policy g ++ transit_line net g

-- nothing is promised to anybody where no prefix is left
abbrev pub told_lines : PlainNet → PlainPolicy → ℕ → Group → List ℕ
told_lines net policy ranks g = if is_covered policy g.external g.statement then codes "covered\n" else source_lines net ranks g ++ other_lines net policy g

-- the origins that no permitted walk goes over, so at which none ends
unfoldable pub unused_line : PlainNet → Group → List ℕ
unused_line net g = line_of (codes "unused origin") (wanted_routers net g.origins Unused) (codes "\n")

-- What its cases are, what is promised for each of them, and the origins that nobody uses. Of a line's routers those are left out, in a
-- case, that are its origins; an origin is unused in the cases whose origin it is.
abbrev pub group_text : PlainNet → PlainPolicy → ℕ → Group → List ℕ
group_text net policy ranks g = head_lines g ++ told_lines net policy ranks g ++ unused_line net g

-- ---- statements, with their ranks and groups

-- how many ranks an expression has
abbrev pub rank_count : Ranking → ℕ
rank_count r = min (alternative_count r) (2 ^ 64 - 1)

-- a group, where it is of the statement with a number
unfoldable pub own_text : PlainNet → PlainPolicy → ℕ → ℕ → Group → List ℕ
own_text net policy n ranks g = if g.statement == n then group_text net policy ranks g else []

unfoldable pub statement_head : PlainNet → ℕ → Ranking → List ℕ
statement_head net n r = codes "statement " ++ decimal n ++ codes "\n" ++ rank_lines net r

-- a statement that has a case: its ranks, then its groups
unfoldable pub statement_text : PlainNet → PlainPolicy → List Group → ℕ → PlainStatement → List ℕ
statement_text net policy gs n s = line_of (statement_head net n s.ranked) (flat_map (own_text net policy n (rank_count s.ranked)) gs) []

abbrev pub statements_text : PlainNet → PlainPolicy → List Group → ℕ → List PlainStatement → List ℕ
statements_text net policy gs n [] = []
statements_text net policy gs n (s ∷ ss) = statement_text net policy gs n s ++ statements_text net policy gs (n + 1) ss

-- ---- what is originated and that no statement governs

abbrev pub is_uncarried : PlainPolicy → Origin → Bool
is_uncarried policy o = is_none (governing policy o.prefix)

unfoldable pub uncarried_prefix : PlainPolicy → Origin → List ℕ
uncarried_prefix policy o = if is_uncarried policy o then codes " " ++ prefix_text o.prefix else []

abbrev pub uncarried_line : PlainPolicy → List Origin → List ℕ
uncarried_line policy os = line_of (codes "uncarried") (flat_map (uncarried_prefix policy) os) (codes "\n")

-- ---- what peers are believed in inside the network's own space

-- the originated prefix that a pattern is inside of, where it isn't all of that, up to a length
unfoldable pub within_text : PlainPattern → PlainPrefix → List ℕ
within_text t within = if same_prefix t.base within then [] else codes " in " ++ prefix_text within

-- a part behind a comma
unfoldable pub comma_part : OpenPart → List ℕ
comma_part part = codes ", " ++ pattern_text part.pattern ++ within_text part.pattern part.within

-- a part, where it is of the case with a number
unfoldable pub own_part : ℕ → OpenPart → List ℕ
own_part n part = if part.number == n then comma_part part else []

-- the line of a case that has parts: the first comma gives way
unfoldable pub open_line : List OpenPart → OpenCase → List ℕ
open_line parts c = line_of (codes "open") (drop 1 (flat_map (own_part c.number) parts)) (codes " case " ++ decimal c.number ++ codes "\n")

-- ---- ranks that no source has both of

unfoldable pub last_rank : ℕ → List ℕ
last_rank worse = codes " " ++ decimal worse ++ codes "\n"

unfoldable pub two_ranks : ℕ → ℕ → List ℕ
two_ranks better worse = codes " alternatives " ++ decimal better ++ last_rank worse

unfoldable pub apart_line : ApartRanks → List ℕ
apart_line x = codes "apart statement " ++ decimal x.statement ++ two_ranks x.better x.worse

-- ---- the whole

-- how many lines of each kind the cases have
unfoldable pub kinds_text : Counts → List ℕ
kinds_text counts =
    codes " unclaimed " ++ decimal counts.unclaimed
    ++ codes " transit " ++ decimal counts.transit
    ++ codes " covered " ++ decimal counts.covered
    ++ codes " unused " ++ decimal counts.unused

-- and how many prefixes, parts and pairs of ranks stand after them
unfoldable pub places_text : ℕ → ℕ → ℕ → List ℕ
places_text uncarried parts pairs = codes " uncarried " ++ decimal uncarried ++ codes " open " ++ decimal parts ++ codes " apart " ++ decimal pairs ++ codes "\n"

unfoldable pub count_line : ℕ → Counts → ℕ → ℕ → ℕ → List ℕ
count_line cases counts uncarried parts pairs = codes "cases " ++ decimal cases ++ kinds_text counts ++ places_text uncarried parts pairs

-- what is said after the cases, where in these of them some router takes what peers announce, these are the parts that peers are believed in, and
-- these the ranks that no source has both of
abbrev pub last_lines : PlainPolicy → ℕ → Counts → List OpenCase → List OpenPart → List ApartRanks → List ℕ
last_lines policy cases counts taking parts pairs =
    uncarried_line policy policy.origins
    ++ flat_map (open_line parts) taking
    ++ flat_map apart_line pairs
    ++ count_line cases counts (count_by (is_uncarried policy) policy.origins) (length parts) (length pairs)

-- Each statement that has a case, with its ranks and its cases, of which those stand together that say the same; the originated prefixes
-- that no statement governs, in order of the text; what peers are believed in inside the network's own space; ranks that no source has both
-- of; and how many cases there are, and of each kind that may surprise.
abbrev pub promises_text : PlainNet → PlainPolicy → List Case → List Promises → List ℕ
promises_text net policy cases told =
    statements_text net policy (groups_of net policy 1 cases (rows_of net cases told) []) 1 policy.statements
    ++ last_lines policy (length cases) (counts_in net policy cases (rows_of net cases told)) (taking_cases net 1 cases told) (open_parts policy (taking_cases net 1 cases told))
    (apart_ranks net policy cases told)
