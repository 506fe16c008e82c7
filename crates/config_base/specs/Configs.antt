-- Configurations without where they lie in memory, and the rules that each keeps.
use Rattle.std.specs.Prelude.{◌≡◌, ◌≢◌, ℕ, ◌<◌, ◌≤◌, ◌^◌, IsTrue, nat_eq, List, [], ◌∷◌, length, map, MatchBool}
use Rattle.std.specs.List.{AllByRecursion, IsDistinct}
use Rattle.std.specs.Str.{bytes_eq}
use Rattle.net_base.specs.Prefixes.{PlainPattern}
use Rattle.net_base.specs.Numbers.{is_router_as, is_peer_as, is_tag, no_tag}
use Rattle.net_base.specs.declared.numbers.Tag.{Tag}
use Rattle.config_base.specs.declared.config.RouterConfig.{RouterConfig}
use Rattle.config_base.specs.declared.config.Session.{Session}
use Rattle.config_base.specs.declared.config.Import.{Import}
use Rattle.config_base.specs.declared.config.Export.{Export}
use Rattle.config_base.specs.declared.config.Origination.{Origination}

pub record PlainConfig : Type 0 where
  pub classes : List (List PlainPattern)
  pub routers : List RouterConfig

-- ---- the order of lines: three numbers, the first one first

pub record Key : Type 0 where
  pub first : ℕ
  pub second : ℕ
  pub third : ℕ

abbrev pub IsBelow : Key → Key → Type 0
IsBelow a b = (a.first ≤ b.first) × (a.first ≡ b.first → (a.second ≤ b.second) × (a.second ≡ b.second → a.third < b.third))

-- each line stands above all that follow it
abbrev pub Ascend : List Key → Type 0
Ascend [] = Unit {0}
Ascend (k ∷ ks) = AllByRecursion (IsBelow k) ks × Ascend ks

-- by class, and then by the tag
abbrev pub tag_key : ℕ → Tag → Key
tag_key class tag = record { first = class; second = tag.asn; third = tag.value }

-- by class, and then by the prefix's bits and its length
abbrev pub origination_key : Origination → Key
origination_key o = record { first = o.class; second = o.prefix.bits; third = o.prefix.len }

-- ---- what the lines keep, where there are `count` classes

abbrev pub IsClass : ℕ → ℕ → Type 0
IsClass count class = (1 ≤ class) × (class ≤ count)

-- in a session block an import names a tag, in a peer block it names none
abbrev pub HasTag : Session → Tag → Type 0
HasTag s tag = MatchBool s.peer (tag ≡ no_tag) (IsTrue (is_tag tag))

abbrev pub IsImport : ℕ → Session → Import → Type 0
IsImport count s r = IsClass count r.class × HasTag s r.tag × IsTrue (is_tag r.set) × (r.pref < 2 ^ 32)

abbrev pub IsExport : ℕ → Export → Type 0
IsExport count e = IsClass count e.class × IsTrue (is_tag e.tag)

abbrev pub IsOrigination : ℕ → Origination → Type 0
IsOrigination count o = IsClass count o.class × IsTrue (is_tag o.tag)

-- a block of a neighbour
pub record IsSession (count : ℕ) (s : Session) : Type 0 where
  pub number : MatchBool s.peer (IsTrue (is_peer_as s.asn)) (IsTrue (is_router_as s.asn))
  pub imports : AllByRecursion (IsImport count s) s.imports
  pub import_order : Ascend (map (λ (r : Import). tag_key r.class r.tag) s.imports)
  pub exports : AllByRecursion (IsExport count) s.exports
  pub export_order : Ascend (map (λ (e : Export). tag_key e.class e.tag) s.exports)

-- a block of a router
pub record IsRouter (count : ℕ) (r : RouterConfig) : Type 0 where
  pub number : IsTrue (is_router_as r.asn)
  pub identifier : (r.id ≢ 0) × (r.id < 2 ^ 32)
  pub own : AllByRecursion (IsOrigination count) r.own
  pub own_order : Ascend (map origination_key r.own)
  pub sessions : AllByRecursion (IsSession count) r.sessions
  pub names : IsDistinct bytes_eq (map (λ (s : Session). s.name) r.sessions)

-- What every configuration keeps.
pub record IsConfig (c : PlainConfig) : Type 0 where
  pub count : length c.classes < 2 ^ 32
  pub patterns : AllByRecursion (λ (ps : List PlainPattern). ps ≢ []) c.classes
  pub routers : AllByRecursion (IsRouter (length c.classes)) c.routers
  pub names : IsDistinct bytes_eq (map (λ (r : RouterConfig). r.name) c.routers)
  pub asns : IsDistinct nat_eq (map (λ (r : RouterConfig). r.asn) c.routers)
  pub ids : IsDistinct nat_eq (map (λ (r : RouterConfig). r.id) c.routers)
