-- The speakers of a configured network, for one prefix.
use Rattle.std.specs.Prelude.{ℕ, Bool, true, false, ◌&&◌, ◌||◌, ◌==◌, nat_lt, List, [], ◌∷◌, length, fold, Option, Some, None, option_map, option_and_then, if◌then◌else◌}
use Rattle.std.specs.Str.{bytes_eq}
use Rattle.net_base.specs.declared.numbers.Tag.{Tag}
use Rattle.net_base.specs.Network.{PlainNet, is_router, linked, id_of}
use Rattle.net_base.specs.Numbers.{no_tag}
use Rattle.net_base.specs.Prefixes.{PlainPrefix}
use Rattle.policy_base.specs.Policies.{PlainPolicy}
use Rattle.policy_base.specs.Governing.{is_origin}
use Rattle.net_base.specs.Locations.{neighbours}
use Rattle.config_base.specs.declared.route.Route.{Route}
use Rattle.config_base.specs.Configs.{PlainConfig}
use Rattle.config_base.specs.Lines.{class_of, export_of, import_of, own_route, same_tag}
use Rattle.event_base.specs.World.{Speakers}

-- a route as it travels: nobody hears the preference of another
abbrev pub message : Route → Tag → Route
message h tag = record { path = h.path; tag = tag; pref = 0 }

-- what the lines of a give b of a's route
abbrev pub exported_by : PlainNet → PlainConfig → PlainPrefix → ℕ → ℕ → Option Route → Option Route
exported_by net config p a b o = option_and_then (λ class. option_and_then (λ (h : Route). option_map (message h) (export_of net config class a b h.tag)) o) (class_of config p)

-- a peer that is an origin announces the path of itself alone
abbrev pub announced_by : PlainNet → PlainPolicy → PlainPrefix → ℕ → Option Route
announced_by net policy p a = if is_origin net policy p a then Some (record { path = a ∷ []; tag = no_tag; pref = 0 }) else None

abbrev pub extended : ℕ → Route → Tag × ℕ → Route
extended r m line = record { path = r ∷ m.path; tag = line.0; pref = line.1 }

-- what the lines of r make of what u was heard to say
abbrev pub taken_by : PlainNet → PlainConfig → PlainPrefix → ℕ → ℕ → Option Route → Option Route
taken_by net config p r u o = option_and_then (λ class. option_and_then (λ (m : Route). option_map (extended r m) (import_of net config class r u m.path m.tag)) o) (class_of config p)

-- the route that u gives comes before that of v: a higher preference, then fewer AS numbers, then the lower identifier
abbrev pub is_before : PlainNet → ℕ × Route → ℕ × Route → Bool
is_before net x y =
    nat_lt y.1.pref x.1.pref
    || (x.1.pref == y.1.pref && (nat_lt (length x.1.path) (length y.1.path) || (length x.1.path == length y.1.path && nat_lt (id_of net x.0) (id_of net y.0))))

-- the first so far, and what u gives
abbrev pub picked : PlainNet → Option (ℕ × Route) → ℕ → Option Route → Option (ℕ × Route)
picked net best u None = best
picked net None u (Some h) = Some (u, h)
picked net (Some x) u (Some h) = if is_before net (u, h) x then Some (u, h) else Some x

abbrev pub with_gift : PlainNet → (ℕ → Option Route) → Option (ℕ × Route) → ℕ → Option (ℕ × Route)
with_gift net gives best u = picked net best u (gives u)

-- the first of what these give
abbrev pub first_of : PlainNet → (ℕ → Option Route) → List ℕ → Option (ℕ × Route)
first_of net gives us = fold (with_gift net gives) None us

-- a router's choice: its own route where it's an origin, or else the first of what it makes of what it has heard
abbrev pub chosen_by : PlainNet → PlainPolicy → PlainConfig → PlainPrefix → ℕ → (ℕ → Option Route) → Option Route
chosen_by net policy config p r heard =
    if is_origin net policy p r then Some (own_route net config p r)
    else option_map (λ (x : ℕ × Route). x.1) (first_of net (λ u. taken_by net config p r u (heard u)) (neighbours net r))

abbrev pub same_message : Option Route → Option Route → Bool
same_message None None = true
same_message (Some g) (Some h) = bytes_eq g.path h.path && (same_tag g.tag h.tag && g.pref == h.pref)
same_message _ _ = false

abbrev pub speakers_of : PlainNet → PlainPolicy → PlainConfig → PlainPrefix → Speakers Route
speakers_of net policy config p = record {
  linked = linked net;
  is_router = is_router net;
  neighbours = neighbours net;
  same = same_message;
  export = exported_by net config p;
  announced = announced_by net policy p;
  choose = chosen_by net policy config p;
}
