-- In what the pairs of a group differ, for whom, and who carries in one policy alone.
use Rattle.std.specs.Prelude.{ℕ, Bool, not, ◌&&◌, ◌==◌, nat_lt, List, [], ◌∷◌, ◌++◌, codes, filter, length, Some, None, if◌then◌else◌}
use Rattle.std.specs.List.{count_by, flat_map, list_any}
use lib.Pointwise.{pointwise}
use Rattle.net_base.specs.Network.{PlainNet}
use Rattle.net_base.specs.Prefixes.{PlainPrefix}
use Rattle.policy_base.specs.Walks.{is_loop_free}
use Rattle.compare_base.specs.Cases.{is_originated, is_place}
use Rattle.compare_base.specs.declared.rows.Kind.{Kind}
use Rattle.compare_base.specs.declared.rows.Place.{Place}
use Rattle.compare_base.specs.declared.rows.Words.{Words}
use Rattle.compare_base.specs.declared.rows.Words.TheVariants.{Partly, Unclaimed, Claimed, Replaced}
use Rattle.compare_base.specs.Same.{same_place, same_row, same_words}
use Rattle.comparison.specs.declared.values.ComparedPair.{ComparedPair}
use Rattle.compare_report.specs.declared.carriers.Carrying.{Carrying}
use Rattle.compare_report.specs.declared.carriers.Carrying.TheVariants.{Lost, Gained}
use Rattle.compare_lines.specs.Lists.{all_routers, routers_line, sessions_of, sessions_text}
use Rattle.compare_report.specs.Groups.{part_lines}
use Rattle.compare_lines.specs.Rows.{row_lines}

-- ---- the same kind at several pairs

-- the same words and rows
abbrev pub same_kind : Kind → Kind → Bool
same_kind a b = same_words a.words b.words && pointwise same_row a.rows b.rows

-- some place of the pair differs in these words and shows these rows
abbrev pub has_kind : Kind → ComparedPair → Bool
has_kind k x = list_any (same_kind k) x.change.kinds

-- ---- for whom

abbrev pub has_place : Kind → Place → Kind → Bool
has_place k place other = same_kind k other && list_any (λ p. same_place p place) other.places

-- the place differs so in one of these pairs
abbrev pub is_one : Kind → List ComparedPair → Place → Bool
is_one k xs place = list_any (λ (x : ComparedPair). list_any (has_place k place) x.change.kinds) xs

abbrev pub router_place : ℕ → Place
router_place r = record { router = r; peer = None }

abbrev pub session_place : ℕ × ℕ → Place
session_place session = record { router = session.0; peer = Some session.1 }

-- the router is a place of one of these pairs
abbrev pub is_router_place : PlainNet → List ComparedPair → ℕ → Bool
is_router_place net xs r = list_any (λ (x : ComparedPair). is_place net x.pair.cases r None) xs

-- the routers that are
abbrev pub router_places : PlainNet → List ComparedPair → List ℕ
router_places net xs = filter (is_router_place net xs) (all_routers net)

-- the sessions are places of one of them
abbrev pub have_sessions : List ComparedPair → Bool
have_sessions xs = list_any (λ (x : ComparedPair). is_originated x.pair.cases) xs

-- a line of the sessions at which something is so, where it is at some
abbrev pub sessions_line : PlainNet → (ℕ × ℕ → Bool) → List ℕ
sessions_line net is_here = sessions_text net (filter is_here (sessions_of net)) (filter (λ s. not (is_here s)) (sessions_of net))

-- the routers and the sessions that differ so, of all places of these pairs
abbrev pub place_lines : PlainNet → Kind → List ComparedPair → List ℕ
place_lines net k xs =
    routers_line net [] (λ r. is_one k xs (router_place r)) (router_places net xs)
    ++ (if have_sessions xs then sessions_line net (λ s. is_one k xs (session_place s)) else [])

-- ---- by which walks

-- the walks by which a pair shows the kind
abbrev pub walks_in : Kind → List Kind → List (List ℕ)
walks_in k [] = []
walks_in k (other ∷ others) = if same_kind k other then other.walks else walks_in k others

-- the walks of the one, unless the other has more without a loop
abbrev pub with_more_paths : List (List ℕ) → List (List ℕ) → List (List ℕ)
with_more_paths one other = if nat_lt (count_by is_loop_free one) (count_by is_loop_free other) then other else one

abbrev pub most_paths : List (List ℕ) → Kind → List ComparedPair → List (List ℕ)
most_paths walks k [] = walks
most_paths walks k (x ∷ xs) = most_paths (with_more_paths walks (walks_in k x.change.kinds)) k xs

-- The walks of that of these pairs of which most have no loop, the first such: the kind is that of the first of them.
abbrev pub example_walks : Kind → List ComparedPair → List (List ℕ)
example_walks k xs = most_paths k.walks k xs

-- ---- the lines

unfoldable pub word_if : Bool → List ℕ → List ℕ
word_if b word = if b then word else []

abbrev pub words_text : Words → List ℕ
words_text (Partly lost gained reordered) = word_if lost (codes " lost") ++ word_if gained (codes " gained") ++ word_if reordered (codes " reordered")
words_text Unclaimed = codes " unclaimed"
words_text Claimed = codes " claimed"
words_text Replaced = codes " replaced"

-- the words; the prefixes, if not all; the routers and sessions; and the rows with their walks
abbrev pub kind_lines_of : PlainNet → List PlainPrefix → Kind → List ComparedPair → List ComparedPair → List ℕ
kind_lines_of net order k these others =
    codes "differs" ++ words_text k.words ++ codes "\n"
    ++ part_lines order these others
    ++ place_lines net k these
    ++ row_lines net k.rows (example_walks k these)

abbrev pub kind_lines : PlainNet → List PlainPrefix → List ComparedPair → Kind → List ℕ
kind_lines net order group k = kind_lines_of net order k (filter (has_kind k) group) (filter (λ x. not (has_kind k x)) group)

-- unless an earlier pair has told it
abbrev pub kind_lines_unless : PlainNet → List PlainPrefix → List ComparedPair → List ComparedPair → Kind → List ℕ
kind_lines_unless net order group before k = if list_any (has_kind k) before then [] else kind_lines net order group k

-- Each kind is told once, at the first pair that has it.
abbrev pub all_kind_lines : PlainNet → List PlainPrefix → List ComparedPair → List ComparedPair → List ComparedPair → List ℕ
all_kind_lines net order group before [] = []
all_kind_lines net order group before (x ∷ xs) =
    flat_map (kind_lines_unless net order group before) x.change.kinds ++ all_kind_lines net order group (before ++ x ∷ []) xs

-- ---- carriers

-- the routers of a pair over which walks go in one policy alone
abbrev pub carriers_of : Carrying → ComparedPair → List ℕ
carriers_of Lost x = x.change.lost
carriers_of Gained x = x.change.gained

abbrev pub has_carriers : Carrying → ComparedPair → Bool
has_carriers which x = nat_lt 0 (length (carriers_of which x))

abbrev pub is_carrier : Carrying → List ComparedPair → ℕ → Bool
is_carrier which xs r = list_any (λ (x : ComparedPair). list_any (λ l. l == r) (carriers_of which x)) xs

abbrev pub carriers_word : Carrying → List ℕ
carriers_word Lost = codes "carriers lost\n"
carriers_word Gained = codes "carriers gained\n"

-- the prefixes, if not all, and the routers
abbrev pub carrier_lines_of : PlainNet → List PlainPrefix → Carrying → List ComparedPair → List ComparedPair → List ℕ
carrier_lines_of net order which these others =
    carriers_word which ++ part_lines order these others ++ routers_line net [] (is_carrier which these) (router_places net these)

abbrev pub carrier_lines : PlainNet → List PlainPrefix → List ComparedPair → Carrying → List ℕ
carrier_lines net order group which =
    if list_any (has_carriers which) group
    then carrier_lines_of net order which (filter (has_carriers which) group) (filter (λ x. not (has_carriers which x)) group)
    else []
