-- The shape of a scenario.
use Rattle.std.specs.Prelude.{ℕ, ◌==◌, length, slice_get, List, Result, Ok, codes, option_and_then}
use Rattle.serde_json.specs.Data.{Data}
use Rattle.serde_json.specs.Events.{members_len}
use Rattle.serde_json.specs.Find.{get, as_object, as_str}
use Rattle.json_values.specs.Json.{list_at}
use Rattle.scenario_reader.specs.declared.parts.Field.{Field}
use Rattle.scenario_reader.specs.declared.parts.Field.TheVariants as field
use Rattle.net_base.specs.Steps.{◌>>=◌, or_fault, unless, each_from}
use Rattle.scenario_reader.specs.declared.fault.ScenarioFault.{ScenarioFault}
use Rattle.scenario_reader.specs.declared.fault.ScenarioFault.TheVariants.{Shape}

-- each of them in order
abbrev pub each : {A B : Type 0} → (A → Result B ScenarioFault) → List A → Result (List B) ScenarioFault
each f xs = each_from (λ _. f) 1 xs

-- a text
unfoldable pub text_of : Field → Data → Result (List ℕ) ScenarioFault
text_of f d = or_fault (Shape f) (as_str d)

pub record Ends : Type 0 where
  pub from : List ℕ
  pub to : List ℕ

-- an array of exactly two texts
unfoldable pub ends_of : Field → Data → Result Ends ScenarioFault
ends_of f d = do
  ends ← or_fault (Shape f) (list_at d)
  _ ← unless (Shape f) (length ends == 2)
  from ← or_fault (Shape f) (option_and_then as_str (slice_get ends 0))
  to ← or_fault (Shape f) (option_and_then as_str (slice_get ends 1))
  Ok (record { from = from; to = to })

-- what a scenario says, before its names are looked up
pub record Said : Type 0 where
  pub prefix : List ℕ
  pub dead : List (List ℕ)
  pub dead_links : List Ends
  pub silent : List Ends

-- an object with exactly the keys `prefix`, `dead`, `dead_links` and `silent`: a text, an array of texts and two arrays of pairs
unfoldable pub shape_of : Data → Result Said ScenarioFault
shape_of d = do
  members ← or_fault (Shape field.Top) (as_object d)
  prefix ← or_fault (Shape field.Top) (get (codes "prefix") d)
  dead ← or_fault (Shape field.Top) (get (codes "dead") d)
  links ← or_fault (Shape field.Top) (get (codes "dead_links") d)
  silent ← or_fault (Shape field.Top) (get (codes "silent") d)
  _ ← unless (Shape field.Top) (members_len members == 4)
  prefix ← or_fault (Shape field.Prefix) (as_str prefix)
  dead ← or_fault (Shape field.Dead) (list_at dead)
  dead ← each (text_of field.Dead) dead
  links ← or_fault (Shape field.DeadLinks) (list_at links)
  links ← each (ends_of field.DeadLinks) links
  silent ← or_fault (Shape field.Silent) (list_at silent)
  silent ← each (ends_of field.Silent) silent
  Ok (record { prefix = prefix; dead = dead; dead_links = links; silent = silent })
