-- The rules of an event text, each for itself, by the number of its fault.
use Rattle.std.specs.Prelude.{◌≡◌, ◌≤◌, ◌&&◌, Bool, IsTrue, List, [], ◌∷◌, Ok, length}
use Rattle.std.specs.List.{AllByRecursion}
use Rattle.json_values.specs.TextRules.{is_known}
use Rattle.net_base.specs.Network.{PlainNet}
use Rattle.net_base.specs.PrefixText.{prefix_spelled}
use Rattle.net_base.specs.Prefixes.{PlainPrefix}
use Rattle.location_names.specs.Names.{names_of}
use Rattle.event_reader.specs.declared.limits.TheConstants.{EVENTS}
use Rattle.event_reader.specs.Shape.{SaidEvent, OnLink, AtRouter, Said}

-- the network has locations of the names of an event
abbrev pub has_names : PlainNet → SaidEvent → Bool
has_names net (OnLink word first second) = is_known (names_of net) first && is_known (names_of net) second
has_names net (AtRouter word router) = is_known (names_of net) router

-- ---- what each rule says

abbrev pub AreFew : Said → Type 0
AreFew said = length said.events ≤ EVENTS

abbrev pub NamesAreKnown : PlainNet → Said → Type 0
NamesAreKnown net said = AllByRecursion (λ e. IsTrue (has_names net e)) said.events

abbrev pub HasPrefix : Said → Type 0
HasPrefix said = (p : PlainPrefix) × (prefix_spelled said.prefix ≡ Ok p)

-- the rules in order, of which the first has the number 3
abbrev pub rules : PlainNet → Said → List {1} (Type 0)
rules net said = AreFew said ∷ NamesAreKnown net said ∷ HasPrefix said ∷ []
