-- Which pairs are told as one change, and of which prefixes and origins it is.
use Rattle.std.specs.Prelude.{ℕ, Bool, false, not, ◌&&◌, ◌||◌, nat_eq, nat_le, nat_lt, List, [], ◌∷◌, ◌++◌, codes, filter, is_none, length, map, Option, Some, None, if◌then◌else◌}
use Rattle.std.specs.List.{flat_map, list_any}
use Rattle.std.specs.Option.{option_eq}
use Rattle.std.proofs.Common.{Bor}
use Rattle.net_base.specs.declared.loc.LocSet.{LocSet}
use Rattle.net_base.specs.Network.{PlainNet}
use Rattle.net_base.specs.Prefixes.{PlainPrefix, same_prefix}
use Rattle.net_base.specs.Sets.{holds, same_set}
use Rattle.net_base.specs.SetOperations.{no_location, union_of, common as common_of, outside as outside_of}
use Rattle.policy_base.specs.declared.policy.Origin.{Origin}
use Rattle.policy_base.specs.Policies.{PlainPolicy}
use Rattle.compare_base.specs.Cases.{is_originated}
use Rattle.compare_base.specs.declared.cases.CasePair.{CasePair}
use Rattle.compare_base.specs.declared.pairs.PairPrefixes.{PairPrefixes}
use Rattle.compare_base.specs.declared.pairs.PairPrefixes.TheVariants.{Originated, Others}
use Rattle.comparison.specs.declared.values.ComparedPair.{ComparedPair}
use Rattle.compare_lines.specs.Lists.{all_routers, routers_line}
use Rattle.compare_lines.specs.Prefixes.{common_line, run_lines}

-- ---- groups

-- the pairs that are borrowed
abbrev pub seen : List (Bor ComparedPair) → List ComparedPair
seen xs = map (λ x. x.now) xs

abbrev pub same_statements : CasePair → CasePair → Bool
same_statements a b = option_eq nat_eq a.old.statement b.old.statement && option_eq nat_eq a.new.statement b.new.statement

-- the origins are the same in both policies
abbrev pub origins_stay : CasePair → Bool
origins_stay c = option_eq same_set c.old.origins c.new.origins

-- origins that change in the same way: not at all, from the peers, or to the peers
abbrev pub move_alike : CasePair → CasePair → Bool
move_alike a b =
    (origins_stay a && origins_stay b)
    || ((is_none a.old.origins && is_none b.old.origins) || (is_none a.new.origins && is_none b.new.origins))

-- Two pairs of originated prefixes are told as one change where they have the same two statements and their origins change in the same way.
abbrev pub same_group : CasePair → CasePair → Bool
same_group a b = (is_originated a && is_originated b) && (same_statements a b && move_alike a b)

abbrev pub is_with : ComparedPair → ComparedPair → Bool
is_with x y = same_group x.pair.cases y.pair.cases

-- ---- prefixes

abbrev pub prefixes_of : List Origin → List PlainPrefix
prefixes_of origins = map (λ (o : Origin). o.prefix) origins

-- the originated prefixes in order: those of the old policy, and then those of the new one alone
abbrev pub originated_prefixes : PlainPolicy → PlainPolicy → List PlainPrefix
originated_prefixes old new =
    prefixes_of old.origins ++ filter (λ p. not (list_any (λ q. same_prefix q p) (prefixes_of old.origins))) (prefixes_of new.origins)

abbrev pub is_among : PlainPrefix → PairPrefixes → Bool
is_among p (Originated ps) = list_any (λ q. same_prefix q p) ps
is_among p (Others patterns) = false

-- those of some pairs
abbrev pub prefixes_in : List PlainPrefix → List ComparedPair → List PlainPrefix
prefixes_in order xs = filter (λ p. list_any (λ (x : ComparedPair). is_among p x.pair.prefixes) xs) order

-- the lines of the prefixes of a group, of which this is the first pair
abbrev pub prefix_lines : List PlainPrefix → List ComparedPair → PairPrefixes → List ℕ
prefix_lines order group (Originated ps) = run_lines (codes "prefix ") (prefixes_in order group)
prefix_lines order group (Others patterns) = flat_map common_line patterns

-- the lines of those of some, or of the others where they are fewer
abbrev pub fewer_lines : List PlainPrefix → List PlainPrefix → List ℕ
fewer_lines these others = if nat_le (length these) (length others) then run_lines (codes "only ") these else run_lines (codes "but ") others

-- of which prefixes something is so, where it isn't so of all
abbrev pub part_lines : List PlainPrefix → List ComparedPair → List ComparedPair → List ℕ
part_lines order these [] = []
part_lines order these (other ∷ others) = fewer_lines (prefixes_in order these) (prefixes_in order (other ∷ others))

-- ---- origins

-- with the routers that are origins, where routers are
abbrev pub with_origins : LocSet → Option LocSet → LocSet
with_origins set None = set
with_origins set (Some more) = union_of set more

-- with those of some pairs in the old policy
abbrev pub with_old : LocSet → List ComparedPair → LocSet
with_old set [] = set
with_old set (x ∷ xs) = with_old (with_origins set x.pair.cases.old.origins) xs

-- and in the new one
abbrev pub with_new : LocSet → List ComparedPair → LocSet
with_new set [] = set
with_new set (x ∷ xs) = with_new (with_origins set x.pair.cases.new.origins) xs

-- the routers that are origins in some pair of a group
abbrev pub old_origins : List ComparedPair → LocSet
old_origins xs = with_old no_location xs

abbrev pub new_origins : List ComparedPair → LocSet
new_origins xs = with_new no_location xs

-- a line for the peers where they are the origins, in a network that has some
abbrev pub peers_line : PlainNet → List ℕ → Option LocSet → List ℕ
peers_line net word (Some s) = []
peers_line net word None = if nat_lt 0 (length net.peers) then word ++ codes "peers\n" else []

-- those that are origins in both policies
abbrev pub kept_lines : PlainNet → List ComparedPair → CasePair → List ℕ
kept_lines net group c =
    peers_line net (codes "origins ") c.old.origins ++ routers_line net (codes "origins ") (holds (old_origins group)) (all_routers net)

-- those of the old policy alone, of both, and of the new one alone
abbrev pub moved_lines : PlainNet → List ComparedPair → CasePair → List ℕ
moved_lines net group c =
    peers_line net (codes "origins lost ") c.old.origins
    ++ routers_line net (codes "origins lost ") (holds (outside_of (old_origins group) (new_origins group))) (all_routers net)
    ++ routers_line net (codes "origins kept ") (holds (common_of (old_origins group) (new_origins group))) (all_routers net)
    ++ peers_line net (codes "origins gained ") c.new.origins
    ++ routers_line net (codes "origins gained ") (holds (outside_of (new_origins group) (old_origins group))) (all_routers net)

-- the origins of a group, of which this is the first pair
abbrev pub origin_lines : PlainNet → List ComparedPair → CasePair → List ℕ
origin_lines net group c = if origins_stay c then kept_lines net group c else moved_lines net group c
