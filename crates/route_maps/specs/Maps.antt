-- Route maps: numbered lists of lines, and routers whose entries name the lists.
use Rattle.std.specs.Prelude.{◌≢◌, ℕ, zero, suc, ◌<◌, ◌^◌, Bool, false, ◌&&◌, ◌||◌, nat_eq, List, [], ◌∷◌, length, map, Option, Some, None, option_and_then, unwrap_or, slice_get, if◌then◌else◌}
use Rattle.std.specs.List.{list_any, find, AllByRecursion, IsDistinct}
use Rattle.std.specs.Str.{bytes_eq}
use Rattle.net_base.specs.declared.numbers.Tag.{Tag}
use Rattle.net_base.specs.Network.{PlainNet, is_peer}
use Rattle.net_base.specs.Numbers.{no_tag}
use Rattle.net_base.specs.Prefixes.{PlainPrefix, contains, same_prefix}
use Rattle.config_base.specs.declared.config.RouterConfig.{RouterConfig}
use Rattle.config_base.specs.declared.config.Session.{Session}
use Rattle.config_base.specs.declared.config.Import.{Import}
use Rattle.config_base.specs.declared.config.Export.{Export}
use Rattle.config_base.specs.declared.config.Origination.{Origination}
use Rattle.config_base.specs.Configs.{PlainConfig, IsRouter}
use Rattle.config_base.specs.Lines.{router_at, block_at, same_tag, is_looped}
use Rattle.route_maps.specs.declared.maps.ListLine.{ListLine}

pub record PlainMaps : Type 0 where
  pub lists : List (List ListLine)
  pub routers : List RouterConfig

-- What all maps keep: a line's class is the number of a list.
pub record IsMaps (m : PlainMaps) : Type 0 where
  pub count : length m.lists < 2 ^ 32
  pub lines : AllByRecursion (λ (lines : List ListLine). lines ≢ []) m.lists
  pub routers : AllByRecursion (IsRouter (length m.lists)) m.routers
  pub names : IsDistinct bytes_eq (map (λ (r : RouterConfig). r.name) m.routers)
  pub asns : IsDistinct nat_eq (map (λ (r : RouterConfig). r.asn) m.routers)
  pub ids : IsDistinct nat_eq (map (λ (r : RouterConfig). r.id) m.routers)

-- ---- lists

-- the first line whose pattern contains the prefix decides; without one it's refused
abbrev pub permits : List ListLine → PlainPrefix → Bool
permits [] p = false
permits (line ∷ lines) p = if contains line.pattern p then line.permit else permits lines p

-- the lines of a list, which is counted from 1
abbrev pub lines_of : List (List ListLine) → ℕ → List ListLine
lines_of lists zero = []
lines_of lists (suc k) = unwrap_or (slice_get lists k) []

abbrev pub list_permits : PlainMaps → ℕ → PlainPrefix → Bool
list_permits maps list p = permits (lines_of maps.lists list) p

-- ---- entries: blocks are found as in a configuration, and the first entry that fits decides; without one the route is refused

abbrev pub blocks : PlainMaps → PlainConfig
blocks maps = record { classes = []; routers = maps.routers }

-- the tag that goes with a route by the `out` entries of a block: it's removed towards peers
abbrev pub out_by : PlainNet → PlainMaps → PlainPrefix → ℕ → Tag → Session → Option Tag
out_by net maps p to tag b =
    if list_any (λ (e : Export). list_permits maps e.class p && same_tag e.tag tag) b.exports
    then Some (if is_peer net to then no_tag else tag)
    else None

abbrev pub map_out : PlainNet → PlainMaps → PlainPrefix → ℕ → ℕ → Tag → Option Tag
map_out net maps p from to tag = option_and_then (out_by net maps p to tag) (block_at net (blocks maps) from to)

-- the tag and the preference of the first `in` entry of a block whose list permits the prefix and, from a router, whose tag is the route's
abbrev pub in_by : PlainNet → PlainMaps → PlainPrefix → ℕ → Tag → Session → Option (Tag × ℕ)
in_by net maps p from tag b = found (find applies b.imports)
  where
    applies : Import → Bool
    applies rule = list_permits maps rule.class p && (is_peer net from || same_tag rule.tag tag)

    found : Option Import → Option (Tag × ℕ)
    found None = None
    found (Some rule) = Some (rule.set, rule.pref)

-- AS numbers on the path are judged as in a configuration
abbrev pub map_in : PlainNet → PlainMaps → PlainPrefix → ℕ → ℕ → List ℕ → Tag → Option (Tag × ℕ)
map_in net maps p at from path tag = if is_looped net at from path then None else option_and_then (in_by net maps p from tag) (block_at net (blocks maps) at from)

-- the tag of an origin's own route: that of the first `network` line that names the prefix and whose list permits it, or none
abbrev pub map_own : PlainNet → PlainMaps → PlainPrefix → ℕ → Tag
map_own net maps p r = unwrap_or (option_and_then (λ (c : RouterConfig). tag_of (find names c.own)) (router_at net (blocks maps) r)) no_tag
  where
    names : Origination → Bool
    names o = list_permits maps o.class p && same_prefix o.prefix p

    tag_of : Option Origination → Option Tag
    tag_of None = None
    tag_of (Some o) = Some o.tag
