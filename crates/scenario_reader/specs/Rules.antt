-- The rules of a scenario.
use Rattle.std.specs.Prelude.{ℕ, ◌+◌, ◌||◌, ◌&&◌, not, Bool, fold, map, option_map, List, Option, Some, None, Result, Ok, Err, ⊤, if◌then◌else◌}
use Rattle.std.specs.List.{position}
use Rattle.std.specs.Result.{result_ok}
use Rattle.std.specs.Str.{bytes_eq}
use Rattle.net_base.specs.declared.loc.LocSet.{LocSet}
use Rattle.scenario_reader.specs.declared.parts.Field.{Field}
use Rattle.scenario_reader.specs.declared.parts.Field.TheVariants as field
use Rattle.net_base.specs.Network.{PlainNet, is_peer, linked}
use Rattle.net_base.specs.PrefixText.{prefix_spelled}
use Rattle.net_base.specs.SetOperations.{no_location, with_location}
use Rattle.net_base.specs.Steps.{◌>>=◌, or_fault}
use Rattle.location_names.specs.Names.{names_of}
use Rattle.scenarios.specs.declared.scenario.Scenario.{Scenario}
use Rattle.scenario_reader.specs.declared.fault.ScenarioFault.{ScenarioFault}
use Rattle.scenario_reader.specs.declared.fault.ScenarioFault.TheVariants.{Unknown, NoLink, NotPeerLink, BadPrefix}
use Rattle.scenario_reader.specs.Shape.{each, Ends, Said}

-- the location of a name
unfoldable pub located : List (List ℕ) → Field → List ℕ → Result ℕ ScenarioFault
located names f name = or_fault (Unknown f) (position (bytes_eq name) names)

-- the locations of a pair of names
unfoldable pub both_located : List (List ℕ) → Field → Ends → Result (ℕ × ℕ) ScenarioFault
both_located names f ends = do
  a ← or_fault (Unknown f) (position (bytes_eq ends.from) names)
  b ← or_fault (Unknown f) (position (bytes_eq ends.to) names)
  Ok (a, b)

-- this fault, where there is one
abbrev pub no_fault : Option ScenarioFault → Result ⊤ ScenarioFault
no_fault None = Ok tt
no_fault (Some e) = Err e

-- each pair is a link
unfoldable pub links_known : PlainNet → List (ℕ × ℕ) → Result ⊤ ScenarioFault
links_known net pairs = no_fault (option_map (λ i. NoLink (i + 1)) (position (λ (p : ℕ × ℕ). not (linked net p.0 p.1)) pairs))

-- a link of a router and a peer
abbrev pub is_session : PlainNet → ℕ × ℕ → Bool
is_session net p = linked net p.0 p.1 && (is_peer net p.0 || is_peer net p.1)

-- each pair is one
unfoldable pub sessions_known : PlainNet → List (ℕ × ℕ) → Result ⊤ ScenarioFault
sessions_known net pairs = no_fault (option_map (λ i. NotPeerLink (i + 1)) (position (λ (p : ℕ × ℕ). not (is_session net p)) pairs))

-- the router of a session first
abbrev pub turned : PlainNet → ℕ × ℕ → ℕ × ℕ
turned net p = if is_peer net p.0 then (p.1, p.0) else p

-- the set of these locations
abbrev pub set_of_all : List ℕ → LocSet
set_of_all ls = fold with_location no_location ls

-- the scenario, or the least rule that is broken
unfoldable pub judged : PlainNet → Said → Result Scenario ScenarioFault
judged net said = do
  dead ← each (located (names_of net) field.Dead) said.dead
  links ← each (both_located (names_of net) field.DeadLinks) said.dead_links
  pairs ← each (both_located (names_of net) field.Silent) said.silent
  _ ← links_known net links
  _ ← sessions_known net pairs
  prefix ← or_fault BadPrefix (result_ok (prefix_spelled said.prefix))
  Ok (record { prefix = prefix; dead = set_of_all dead; dead_links = links; silent = map (turned net) pairs })
