-- What borrowed parts of a text say, and what is found of them.
use Rattle.std.specs.Prelude.{◌≡◌, ℕ, List, Ok, map}
use Rattle.net_base.specs.Network.{PlainNet}
use Rattle.net_base.specs.Prefixes.{PlainPrefix}
use Rattle.location_names.specs.Names.{texts}
use Rattle.scenarios.specs.declared.scenario.Scenario.{Scenario}
use Rattle.scenario_reader.specs.declared.judge.Located.{Located}
use Rattle.scenario_reader.specs.declared.parts.Field.TheVariants as field
use Rattle.scenario_reader.specs.declared.shape.RawEnds.{RawEnds}
use Rattle.scenario_reader.specs.declared.shape.RawScenario.{RawScenario}
use Rattle.scenario_reader.specs.Rules.{both_located, located, set_of_all, turned}
use Rattle.scenario_reader.specs.Shape.{each, Ends, Said}

abbrev pub raw_ends : RawEnds → Ends
raw_ends r = record { from = r.from.now; to = r.to.now }

abbrev pub raw_scenario : RawScenario → Said
raw_scenario r = record { prefix = r.prefix.now; dead = texts r.dead.items; dead_links = map raw_ends r.dead_links.items; silent = map raw_ends r.silent.items }

-- these are the locations that it names
abbrev pub Locates : List (List ℕ) → Said → Located → Type 0
Locates names said all =
    (each (located names field.Dead) said.dead ≡ Ok all.dead.items)
    × (each (both_located names field.DeadLinks) said.dead_links ≡ Ok all.links.items)
    × (each (both_located names field.Silent) said.silent ≡ Ok all.pairs.items)

-- the scenario of locations and a prefix
abbrev pub scenario_of : PlainNet → Located → PlainPrefix → Scenario
scenario_of net all prefix = record { prefix = prefix; dead = set_of_all all.dead.items; dead_links = all.links.items; silent = map (turned net) all.pairs.items }
