-- The rules of a scenario, each for itself, by the number of its fault.
use Rattle.std.specs.Prelude.{◌≡◌, ℕ, ◌&&◌, Bool, false, IsTrue, List, [], ◌∷◌, Ok}
use Rattle.std.specs.List.{position, AllByRecursion}
use Rattle.std.specs.Option.{option_map_or}
use Rattle.std.specs.Str.{bytes_eq}
use Rattle.json_values.specs.TextRules.{is_known}
use Rattle.net_base.specs.Network.{PlainNet, linked}
use Rattle.net_base.specs.PrefixText.{prefix_spelled}
use Rattle.net_base.specs.Prefixes.{PlainPrefix}
use Rattle.location_names.specs.Names.{names_of}
use Rattle.scenario_reader.specs.Rules.{is_session}
use Rattle.scenario_reader.specs.Shape.{Ends, Said}

abbrev pub are_known : PlainNet → Ends → Bool
are_known net e = is_known (names_of net) e.from && is_known (names_of net) e.to

-- the locations of two names pass a test
abbrev pub passes : PlainNet → (ℕ × ℕ → Bool) → Ends → Bool
passes net test e =
    option_map_or (λ a. option_map_or (λ b. test (a, b)) (position (bytes_eq e.to) (names_of net)) false) (position (bytes_eq e.from) (names_of net)) false

-- ---- what each rule says

abbrev pub NamesAreKnown : PlainNet → Said → Type 0
NamesAreKnown net said =
    AllByRecursion (λ name. IsTrue (is_known (names_of net) name)) said.dead
    × AllByRecursion (λ e. IsTrue (are_known net e)) said.dead_links
    × AllByRecursion (λ e. IsTrue (are_known net e)) said.silent

abbrev pub DeadLinksAreLinks : PlainNet → Said → Type 0
DeadLinksAreLinks net said = AllByRecursion (λ e. IsTrue (passes net (λ p. linked net p.0 p.1) e)) said.dead_links

-- a silent pair is a link of a router and a peer
abbrev pub SilentPairsAreSessions : PlainNet → Said → Type 0
SilentPairsAreSessions net said = AllByRecursion (λ e. IsTrue (passes net (is_session net) e)) said.silent

abbrev pub HasPrefix : Said → Type 0
HasPrefix said = (p : PlainPrefix) × (prefix_spelled said.prefix ≡ Ok p)

-- the rules in order, of which the first has the number 3
abbrev pub rules : PlainNet → Said → List {1} (Type 0)
rules net said = NamesAreKnown net said ∷ DeadLinksAreLinks net said ∷ SilentPairsAreSessions net said ∷ HasPrefix said ∷ []
