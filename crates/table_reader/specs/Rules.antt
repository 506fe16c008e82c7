-- The rules of tables.
use Rattle.std.specs.Prelude.{ℕ, ◌+◌, ◌==◌, Bool, true, false, List, [], ◌∷◌, length, slice_get, Option, Some, None, Result, Ok, Err, ⊤, if◌then◌else◌}
use Rattle.std.specs.List.{position}
use Rattle.std.specs.Option.{option_map_or}
use Rattle.std.specs.Str.{bytes_eq}
use Rattle.net_base.specs.Network.{PlainNet}
use Rattle.net_base.specs.Steps.{◌>>=◌, or_fault, unless, each_from}
use Rattle.location_names.specs.Names.{names_of}
use Rattle.config_base.specs.declared.route.Route.{Route}
use Rattle.table_reader.specs.declared.fault.TablesFault.{TablesFault}
use Rattle.table_reader.specs.declared.fault.TablesFault.TheVariants.{Count, Unknown, Holder}
use Rattle.table_reader.specs.Shape.{each, Said}

-- the location of a name on the path of an entry
unfoldable pub located : List (List ℕ) → ℕ → List ℕ → Result ℕ TablesFault
located names place name = or_fault (Unknown place) (position (bytes_eq name) names)

-- what the router of an entry holds
unfoldable pub held_by : List (List ℕ) → ℕ → Option Said → Result (Option Route) TablesFault
held_by names place None = Ok None
held_by names place (Some said) = do
  path ← each (located names place) said.path
  Ok (Some (record { path = path; tag = said.tag; pref = said.pref }))

-- the path of a route begins with this location; where there is no route it does
abbrev pub begins_at : ℕ → Option Route → Bool
begins_at r None = true
begins_at r (Some h) = option_map_or (λ l. l == r) (slice_get h.path 0) false

-- each route, from that of the router r on, begins with its router
abbrev pub at_holders : ℕ → List (Option Route) → Result ⊤ TablesFault
at_holders r [] = Ok tt
at_holders r (held ∷ more) = if begins_at r held then at_holders (r + 1) more else Err (Holder (r + 1))

-- what each router holds, or the least rule that is broken
unfoldable pub judged : PlainNet → List (Option Said) → Result (List (Option Route)) TablesFault
judged net said = do
  _ ← unless (Count (length said)) (length said == length net.routers)
  routes ← each_from (held_by (names_of net)) 1 said
  _ ← at_holders 0 routes
  Ok routes
