-- The shape of a topology.
use Rattle.std.specs.Prelude.{ℕ, ◌≢◌, ◌<◌, ◌^◌, length, slice_get, List, Option, Some, None, Result, Ok, codes, option_and_then, ◌==◌, if◌then◌else◌}
use Rattle.serde_json.specs.Data.{Data}
use Rattle.serde_json.specs.Find.{get, as_object, as_str}
use Rattle.serde_json.specs.Events.{members_len}
use Rattle.topology.specs.declared.parts.Field.TheVariants as field
use Rattle.net_base.specs.Addresses.{address_of}
use Rattle.net_base.specs.Steps.{◌>>=◌, or_fault, unless, each_from}
use Rattle.topology.specs.declared.fault.TopoFault.{TopoFault}
use Rattle.topology.specs.declared.fault.TopoFault.TheVariants.{Shape}
use Rattle.json_values.specs.Json.{list_at, text_at, number_at}

-- each of them in order
unfoldable pub each : {A B : Type 0} → (A → Result B TopoFault) → List A → Result (List B) TopoFault
each f xs = each_from (λ _. f) 1 xs

-- what an entry of `routers` or `peers` says
pub record Entry : Type 0 where
  pub name : List ℕ
  pub asn : ℕ
  pub id : ℕ

-- the identifier that a text spells: an address other than 0.0.0.0
abbrev pub identifier_of : List ℕ → Option ℕ
identifier_of text = option_and_then (λ n. if n == 0 then None else Some n) (address_of text)

-- what every identifier is
abbrev pub IsIdentifier : ℕ → Type 0
IsIdentifier n = (n ≢ 0) × (n < 2 ^ 32)

-- an object with exactly the keys `name`, `asn` and `id`
unfoldable pub entry_of : Data → Result Entry TopoFault
entry_of d = do
  members ← or_fault (Shape field.Entry) (as_object d)
  name ← or_fault (Shape field.Name) (text_at (codes "name") d)
  asn ← or_fault (Shape field.Asn) (number_at (codes "asn") d)
  text ← or_fault (Shape field.Id) (text_at (codes "id") d)
  id ← or_fault (Shape field.Id) (identifier_of text)
  _ ← unless (Shape field.Entry) (members_len members == 3)
  Ok (record { name = name; asn = asn; id = id })

-- what an entry of `links` says
pub record Ends : Type 0 where
  pub from : List ℕ
  pub to : List ℕ

-- an array of exactly two texts
unfoldable pub ends_of : Data → Result Ends TopoFault
ends_of d = do
  ends ← or_fault (Shape field.Entry) (list_at d)
  _ ← unless (Shape field.Entry) (length ends == 2)
  from ← or_fault (Shape field.Entry) (option_and_then as_str (slice_get ends 0))
  to ← or_fault (Shape field.Entry) (option_and_then as_str (slice_get ends 1))
  Ok (record { from = from; to = to })

pub record Topology : Type 0 where
  pub routers : List Entry
  pub peers : List Entry
  pub links : List Ends

-- an object with exactly the keys `routers`, `peers` and `links`, each an array
unfoldable pub shape_of : Data → Result Topology TopoFault
shape_of d = do
  members ← or_fault (Shape field.Top) (as_object d)
  routers ← or_fault (Shape field.Top) (get (codes "routers") d)
  peers ← or_fault (Shape field.Top) (get (codes "peers") d)
  links ← or_fault (Shape field.Top) (get (codes "links") d)
  _ ← unless (Shape field.Top) (members_len members == 3)
  routers ← or_fault (Shape field.Routers) (list_at routers)
  routers ← each entry_of routers
  peers ← or_fault (Shape field.Peers) (list_at peers)
  peers ← each entry_of peers
  links ← or_fault (Shape field.Links) (list_at links)
  links ← each ends_of links
  Ok (record { routers = routers; peers = peers; links = links })
