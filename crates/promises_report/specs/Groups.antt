-- Cases that stand together: those of one statement that say the same of every router, origin and session.
use Rattle.std.specs.Prelude.{◌≡◌, ℕ, suc, ◌==◌, Bool, false, not, ◌&&◌, List, [], ◌∷◌, ◌++◌, codes, length, map, Option, Some, None, slice_get, if◌then◌else◌}
use Rattle.std.specs.Fmt.{decimal}
use Rattle.std.specs.List.{flat_map, list_any}
use Rattle.std.specs.Option.{option_or}
use Rattle.list_law.specs.Members.{IsIn}
use Rattle.net_base.specs.Locations.{numbers_below}
use Rattle.net_base.specs.Network.{PlainNet, name_of}
use Rattle.net_base.specs.Prefixes.{PlainPattern}
use Rattle.net_base.specs.Sets.{holds}
use Rattle.policy_base.specs.declared.case.Case.{Case}
use Rattle.policy_base.specs.Policies.{PlainPolicy}
use Rattle.evidence_base.specs.Made.{patterns_of}
use Rattle.text_parts.specs.Texts.{pattern_text}
use Rattle.cut_ranks.specs.Tops.{entry_at}
use Rattle.promises_report.specs.Promises.{Promises}
use Rattle.promises_report.specs.Standings.{Row, is_left, is_source_of, is_transit, is_unused, is_used, row_of}
use Rattle.promises_report.specs.declared.standing.Standing.{Standing}
use Rattle.promises_report.specs.declared.standing.Standing.TheVariants.{Source, Transit, Unclaimed, Used, Unused}
use Rattle.promises_report.specs.declared.group.Group.{Group}

-- ---- what lines have of one case: a word behind a space, in which items stand behind commas

-- what stands behind commas, as a word: the first comma gives way
abbrev pub word_of : List ℕ → List ℕ
word_of [] = []
word_of (x ∷ xs) = codes " " ++ xs

unfoldable pub number_word : ℕ → List ℕ
number_word k = codes " " ++ decimal k

unfoldable pub comma_pattern : PlainPattern → List ℕ
comma_pattern t = codes "," ++ pattern_text t

-- the prefixes of a case, or the patterns of its statement where it is external
abbrev pub prefixes_word : PlainPolicy → Case → List ℕ
prefixes_word policy c = word_of (flat_map comma_pattern (patterns_of policy c))

unfoldable pub comma_origin : PlainNet → Case → ℕ → List ℕ
comma_origin net c r = if holds c.origins r then codes "," ++ name_of net r else []

abbrev pub origins_word : PlainNet → Case → List ℕ
origins_word net c = if c.external then codes " peers" else word_of (flat_map (comma_origin net c) (numbers_below (length net.routers)))

-- ---- groups

-- a group of one case, with its number and how all stand in it
abbrev pub alone : PlainNet → PlainPolicy → ℕ → Case → Row → Group
alone net policy k c x = record {
  statement = c.statement;
  external = c.external;
  numbers = number_word k;
  prefixes = prefixes_word policy c;
  ends = origins_word net c;
  routers = x.routers;
  origins = x.origins;
  sessions = x.sessions;
}

abbrev pub same_standing : Standing → Standing → Bool
same_standing (Source m) y = is_source_of m y
same_standing Transit y = is_transit y
same_standing Unclaimed y = is_left y
same_standing Used y = is_used y
same_standing Unused y = is_unused y

-- Two that are both known differ. An origin isn't known as a source, nor any other router as an origin.
abbrev pub differ : Option Standing → Option Standing → Bool
differ None y = false
differ (Some x) None = false
differ (Some x) (Some y) = not (same_standing x y)

abbrev pub differ_at : List (Option Standing) → List (Option Standing) → ℕ → Bool
differ_at xs ys i = differ (entry_at xs i) (entry_at ys i)

abbrev pub agree : List (Option Standing) → List (Option Standing) → Bool
agree xs ys = not (list_any (differ_at xs ys) (numbers_below (length xs)))

-- what one of them knows
abbrev pub known_at : List (Option Standing) → List (Option Standing) → ℕ → Option Standing
known_at xs ys i = option_or (entry_at xs i) (entry_at ys i)

abbrev pub known : List (Option Standing) → List (Option Standing) → List (Option Standing)
known xs ys = map (known_at xs ys) (numbers_below (length xs))

-- two groups can be one: the origins of both are routers, they have one statement, and say the same
unfoldable pub fits : Group → Group → Bool
fits g x = not g.external && not x.external && g.statement == x.statement && agree g.routers x.routers && agree g.origins x.origins && agree g.sessions x.sessions

abbrev pub merged : Group → Group → Group
merged g x = record {
  statement = g.statement;
  external = g.external;
  numbers = g.numbers ++ x.numbers;
  prefixes = g.prefixes ++ x.prefixes;
  ends = g.ends ++ x.ends;
  routers = known g.routers x.routers;
  origins = known g.origins x.origins;
  sessions = known g.sessions x.sessions;
}

-- it joins the first one that it fits, or stands at the end
abbrev pub joined : Group → List Group → List Group
joined x [] = x ∷ []
joined x (g ∷ gs) = if fits g x then merged g x ∷ gs else g ∷ joined x gs

-- how all stand in cases
abbrev pub rows_of : PlainNet → List Case → List Promises → List Row
rows_of net [] xs = []
rows_of net (c ∷ cs) [] = []
rows_of net (c ∷ cs) (a ∷ xs) = row_of net c a ∷ rows_of net cs xs

-- the groups of cases, from a number on, with their rows, and those before them
abbrev pub groups_of : PlainNet → PlainPolicy → ℕ → List Case → List Row → List Group → List Group
groups_of net policy k [] xs gs = gs
groups_of net policy k (c ∷ cs) [] gs = gs
groups_of net policy k (c ∷ cs) (x ∷ xs) gs = groups_of net policy (suc k) cs xs (joined (alone net policy k c x) gs)

-- ---- what they tell

-- what is known of everybody is known so
abbrev pub IsKnownIn : List (Option Standing) → List (Option Standing) → Type 0
IsKnownIn xs gs = (i : ℕ) (x : Standing) → entry_at xs i ≡ Some x → entry_at gs i ≡ Some x

-- a group tells of the cases of another one, or of a case alone, how each router, origin and session stands there
pub record TellsOf (g x : Group) : Type 0 where
  pub statement : g.statement ≡ x.statement
  pub external : g.external ≡ x.external
  pub routers : IsKnownIn x.routers g.routers
  pub origins : IsKnownIn x.origins g.origins
  pub sessions : IsKnownIn x.sessions g.sessions

-- Of each case some group tells.
abbrev pub GroupsTellOfCases : Type 0
GroupsTellOfCases =
    (net : PlainNet) (policy : PlainPolicy) (cs : List Case) (xs : List Promises) (k : ℕ) (c : Case) (a : Promises) → slice_get cs k ≡ Some c → slice_get xs k ≡ Some a
    → (g : Group) × IsIn (groups_of net policy 1 cs (rows_of net cs xs) []) g × TellsOf g (alone net policy (suc k) c (row_of net c a))
