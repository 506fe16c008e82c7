-- Entries over the lists of a configuration's maps decide as the configuration's lines.
use Rattle.std.proofs.Common.{◌≡◌, ℕ, ◌≤◌, List, Option, Some, None, refl, ap, ◌∙◌}
use Rattle.std.specs.Prelude.{◌&&◌, ◌||◌, ◌==◌, option_and_then, unwrap_or, if◌then◌else◌}
use Rattle.std.specs.List.{find}
use Rattle.list_law.proofs.Tests.{find-same, list_any-same, find-never, list_any-never}
use Rattle.list_law.proofs.Options.{option_and_then-never}
use Rattle.net_base.specs.declared.numbers.Tag.{Tag}
use Rattle.net_base.specs.Network.{PlainNet, is_peer}
use Rattle.net_base.specs.Numbers.{no_tag}
use Rattle.net_base.specs.Prefixes.{PlainPrefix, same_prefix}
use Rattle.config_base.specs.declared.config.RouterConfig.{RouterConfig}
use Rattle.config_base.specs.declared.config.Session.{Session}
use Rattle.config_base.specs.declared.config.Import.{Import}
use Rattle.config_base.specs.declared.config.Export.{Export}
use Rattle.config_base.specs.declared.config.Origination.{Origination}
use Rattle.config_base.specs.Configs.{PlainConfig}
use Rattle.config_base.specs.Lines.{class_of, export_by, export_of, line_by, import_of, own_tag, same_tag, block_at, router_at, is_looped}
use Rattle.route_maps.specs.Maps.{list_permits, out_by, map_out, in_by, map_in, map_own}
use Rattle.route_maps.specs.OfConfig.{maps_of, MeansAs}
use Rattle.route_maps.proofs.ListLaws.{is_class, list_permits-maps_of, permits_class, none_either_way}

-- chains that agree at each value
chain_agree : {X Y : Type 0} (f g : X → Option Y) → ((x : X) → f x ≡ g x) → (o : Option X) → option_and_then f o ≡ option_and_then g o
chain_agree f g e None = refl
chain_agree f g e (Some x) = e x

abbrev values : Option Import → Option (Tag × ℕ)
values None = None
values (Some rule) = Some (rule.set, rule.pref)

abbrev own_value : Option Origination → Option Tag
own_value None = None
own_value (Some o) = Some o.tag

module _ (net : PlainNet) (config : PlainConfig) (p : PlainPrefix) (within : p.len ≤ 32) where
  -- a list that an entry names permits the prefix exactly where it is the prefix's class
  permits_as : (o : Option ℕ) → class_of config p ≡ o → (n : ℕ) → list_permits (maps_of config) n p ≡ is_class o n
  permits_as o is n = list_permits-maps_of config n p within ∙ ap (λ c. is_class c n) is

  out_as : (o : Option ℕ) → class_of config p ≡ o → (from to : ℕ) (tag : Tag)
      → map_out net (maps_of config) p from to tag ≡ option_and_then (λ class. export_of net config class from to tag) o
  out_as None is from to tag = option_and_then-never (out_by net (maps_of config) p to tag) (block_at net config from to) none
    where
      none : (b : Session) → out_by net (maps_of config) p to tag b ≡ None
      none b = rw (list_any-never (λ (e : Export). list_permits (maps_of config) e.class p && same_tag e.tag tag) (λ e. ap (λ t. t && same_tag e.tag tag) (permits_as None is e.class)) b.exports) refl
  out_as (Some class) is from to tag = chain_agree (out_by net (maps_of config) p to tag) (export_by net class to tag) same (block_at net config from to)
    where
      same : (b : Session) → out_by net (maps_of config) p to tag b ≡ export_by net class to tag b
      same b =
          ap (λ t. if t then Some (if is_peer net to then no_tag else tag) else None)
          (list_any-same (λ (e : Export). list_permits (maps_of config) e.class p && same_tag e.tag tag) (λ (e : Export). e.class == class && same_tag e.tag tag)
          (λ e. ap (λ t. t && same_tag e.tag tag) (permits_as (Some class) is e.class)) b.exports)

  pub map_out-maps_of : (from to : ℕ) (tag : Tag)
      → map_out net (maps_of config) p from to tag ≡ option_and_then (λ class. export_of net config class from to tag) (class_of config p)
  map_out-maps_of from to tag = out_as (class_of config p) refl from to tag

  in_as : (o : Option ℕ) → class_of config p ≡ o → (at from : ℕ) (path : List ℕ) (tag : Tag)
      → map_in net (maps_of config) p at from path tag ≡ option_and_then (λ class. import_of net config class at from path tag) o
  in_as None is at from path tag = none_either_way (is_looped net at from path) (option_and_then-never (in_by net (maps_of config) p from tag) (block_at net config at from) none)
    where
      none : (b : Session) → in_by net (maps_of config) p from tag b ≡ None
      none b =
          ap values (find-never (λ (rule : Import). list_permits (maps_of config) rule.class p && (is_peer net from || same_tag rule.tag tag))
          (λ rule. ap (λ t. t && (is_peer net from || same_tag rule.tag tag)) (permits_as None is rule.class)) b.imports)
  in_as (Some class) is at from path tag =
      ap (λ (o : Option (Tag × ℕ)). if is_looped net at from path then None else o)
      (chain_agree (in_by net (maps_of config) p from tag) (line_by net class from tag) same (block_at net config at from))
    where
      same : (b : Session) → in_by net (maps_of config) p from tag b ≡ line_by net class from tag b
      same b =
          ap values (find-same (λ (rule : Import). list_permits (maps_of config) rule.class p && (is_peer net from || same_tag rule.tag tag))
          (λ (rule : Import). rule.class == class && (is_peer net from || same_tag rule.tag tag))
          (λ rule. ap (λ t. t && (is_peer net from || same_tag rule.tag tag)) (permits_as (Some class) is rule.class)) b.imports)

  pub map_in-maps_of : (at from : ℕ) (path : List ℕ) (tag : Tag)
      → map_in net (maps_of config) p at from path tag ≡ option_and_then (λ class. import_of net config class at from path tag) (class_of config p)
  map_in-maps_of at from path tag = in_as (class_of config p) refl at from path tag

  own_as : (o : Option ℕ) → class_of config p ≡ o → (c : RouterConfig)
      → own_value (find (λ (o : Origination). list_permits (maps_of config) o.class p && same_prefix o.prefix p) c.own)
      ≡ option_and_then (λ class. own_value (find (λ (o : Origination). o.class == class && same_prefix o.prefix p) c.own)) o
  own_as None is c =
      ap own_value (find-never (λ (o : Origination). list_permits (maps_of config) o.class p && same_prefix o.prefix p)
      (λ o. ap (λ t. t && same_prefix o.prefix p) (permits_as None is o.class)) c.own)
  own_as (Some class) is c =
      ap own_value (find-same (λ (o : Origination). list_permits (maps_of config) o.class p && same_prefix o.prefix p)
      (λ (o : Origination). o.class == class && same_prefix o.prefix p)
      (λ o. ap (λ t. t && same_prefix o.prefix p) (permits_as (Some class) is o.class)) c.own)

  pub map_own-maps_of : (r : ℕ) → map_own net (maps_of config) p r ≡ own_tag net config p r
  map_own-maps_of r = at_router (router_at net config r)
    where
      at_router : (b : Option RouterConfig)
          → unwrap_or (option_and_then (λ (c : RouterConfig). own_value (find (λ (o : Origination). list_permits (maps_of config) o.class p && same_prefix o.prefix p) c.own)) b) no_tag
          ≡ unwrap_or (option_and_then
          (λ (c : RouterConfig). option_and_then (λ class. own_value (find (λ (o : Origination). o.class == class && same_prefix o.prefix p) c.own)) (class_of config p)) b)
          no_tag
      at_router None = refl
      at_router (Some c) = ap (λ o. unwrap_or o no_tag) (own_as (class_of config p) refl c)

pub MeansAs-maps_of : (config : PlainConfig) → MeansAs config (maps_of config)
MeansAs-maps_of config = record {
  lists = λ list p lawful. permits_class config list p lawful.within;
  imports = λ net p at from path tag lawful. map_in-maps_of net config p lawful.within at from path tag;
  exports = λ net p from to tag lawful. map_out-maps_of net config p lawful.within from to tag;
  own = λ net p r lawful. map_own-maps_of net config p lawful.within r;
}
