-- What the lines of a configuration make of a neighbour's route.
use Rattle.std.specs.Prelude.{ℕ, ◌+◌, Bool, true, false, not, ◌&&◌, ◌||◌, ◌==◌, List, [], ◌∷◌, map, Option, Some, None, option_and_then, unwrap_or, if◌then◌else◌}
use Rattle.std.specs.List.{list_any, find}
use Rattle.net_base.specs.declared.net.Site.{Site}
use Rattle.net_base.specs.declared.numbers.Tag.{Tag}
use Rattle.net_base.specs.Network.{PlainNet, is_peer, is_router, is_named, asn_of}
use Rattle.net_base.specs.Numbers.{no_tag}
use Rattle.net_base.specs.Prefixes.{PlainPrefix, PlainPattern, contains, same_prefix}
use Rattle.config_base.specs.declared.config.RouterConfig.{RouterConfig}
use Rattle.config_base.specs.declared.config.Session.{Session}
use Rattle.config_base.specs.declared.config.Import.{Import}
use Rattle.config_base.specs.declared.config.Export.{Export}
use Rattle.config_base.specs.declared.config.Origination.{Origination}
use Rattle.config_base.specs.declared.route.Route.{Route}
use Rattle.config_base.specs.Configs.{PlainConfig}

abbrev pub class_from : List (List PlainPattern) → PlainPrefix → ℕ → Option ℕ
class_from [] p k = None
class_from (patterns ∷ rest) p k = if list_any (λ pattern. contains pattern p) patterns then Some k else class_from rest p (k + 1)

-- the class, from 1, of a prefix: the first one with a pattern that contains it
abbrev pub class_of : PlainConfig → PlainPrefix → Option ℕ
class_of config p = class_from config.classes p 1

abbrev pub same_tag : Tag → Tag → Bool
same_tag t u = t.asn == u.asn && t.value == u.value

-- the part of the configuration that a router runs, found by its name
abbrev pub router_at : PlainNet → PlainConfig → ℕ → Option RouterConfig
router_at net config r = if is_router net r then find (λ (c : RouterConfig). is_named net c.name r) config.routers else None

-- the block of a neighbour, found by its name; a `peer` block is for a peer alone
abbrev pub block_at : PlainNet → PlainConfig → ℕ → ℕ → Option Session
block_at net config r z =
    option_and_then (λ (c : RouterConfig). find (λ (b : Session). is_named net b.name z && same_kind b.peer (is_peer net z)) c.sessions) (router_at net config r)
  where
    same_kind : Bool → Bool → Bool
    same_kind true b = b
    same_kind false b = not b

-- the tag that goes with a route over an export line of a block, if one permits it: it's removed towards peers
abbrev pub export_by : PlainNet → ℕ → ℕ → Tag → Session → Option Tag
export_by net class to tag b =
    if list_any (λ (e : Export). e.class == class && same_tag e.tag tag) b.exports
    then Some (if is_peer net to then no_tag else tag)
    else None

abbrev pub export_of : PlainNet → PlainConfig → ℕ → ℕ → ℕ → Tag → Option Tag
export_of net config class from to tag = option_and_then (export_by net class to tag) (block_at net config from to)

-- the numbers on a path
abbrev pub as_path : PlainNet → List ℕ → List ℕ
as_path net path = map (asn_of net) path

-- the importer's number stands on the path or, where it comes from a peer, the number of any router
abbrev pub is_looped : PlainNet → ℕ → ℕ → List ℕ → Bool
is_looped net at from path =
    if is_peer net from
    then list_any (λ n. list_any (λ (r : Site). r.asn == n) net.routers) (as_path net path)
    else list_any (λ n. n == asn_of net at) (as_path net path)

-- the tag and the preference that the first import line of a block gives that applies
abbrev pub line_by : PlainNet → ℕ → ℕ → Tag → Session → Option (Tag × ℕ)
line_by net class from tag b = found (find applies b.imports)
  where
    applies : Import → Bool
    applies rule = rule.class == class && (is_peer net from || same_tag rule.tag tag)

    found : Option Import → Option (Tag × ℕ)
    found None = None
    found (Some rule) = Some (rule.set, rule.pref)

-- the tag and the preference that an import line of a block gives a neighbour's route, whose path begins with the neighbour
abbrev pub import_by : PlainNet → ℕ → ℕ → ℕ → List ℕ → Tag → Session → Option (Tag × ℕ)
import_by net class at from path tag b = if is_looped net at from path then None else line_by net class from tag b

abbrev pub import_of : PlainNet → PlainConfig → ℕ → ℕ → ℕ → List ℕ → Tag → Option (Tag × ℕ)
import_of net config class at from path tag = if is_looped net at from path then None else option_and_then (line_by net class from tag) (block_at net config at from)

-- the tag of an origin's own route: that of its `originate` line with the prefix's class and the prefix, or none
abbrev pub own_tag : PlainNet → PlainConfig → PlainPrefix → ℕ → Tag
own_tag net config p r =
    unwrap_or (option_and_then (λ (c : RouterConfig). option_and_then (λ class. tag_of (find (names class) c.own)) (class_of config p)) (router_at net config r)) no_tag
  where
    names : ℕ → Origination → Bool
    names class o = o.class == class && same_prefix o.prefix p

    tag_of : Option Origination → Option Tag
    tag_of None = None
    tag_of (Some o) = Some o.tag

-- an origin's own route: the path of itself alone; nobody compares its preference
abbrev pub own_route : PlainNet → PlainConfig → PlainPrefix → ℕ → Route
own_route net config p r = record { path = r ∷ []; tag = own_tag net config p r; pref = 0 }
