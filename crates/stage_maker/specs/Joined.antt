-- The configuration that has the lines of two, and the starts of the first of them.
use Rattle.std.specs.Prelude.{ℕ, ◌+◌, ◌==◌, Bool, ◌&&◌, false, List, [], ◌∷◌, ◌++◌, map, if◌then◌else◌}
use Rattle.std.specs.List.{filter}
use Rattle.std.specs.Option.{option_map_or}
use Rattle.net_base.specs.Prefixes.{PlainPattern, PlainPrefix}
use Rattle.policy_base.specs.Governing.{some_contains}
use Rattle.config_base.specs.declared.config.RouterConfig.{RouterConfig}
use Rattle.config_base.specs.declared.config.Session.{Session}
use Rattle.config_base.specs.declared.config.Import.{Import}
use Rattle.config_base.specs.declared.config.Export.{Export}
use Rattle.config_base.specs.declared.config.Origination.{Origination}
use Rattle.config_base.specs.Configs.{PlainConfig}
use Rattle.config_base.specs.Lines.{class_from}
use Rattle.stage_classes.specs.declared.cell.Cell.{Cell}
use Rattle.stage_blocks.specs.Merging.{put_export, put_import, spread}

-- the patterns of the cells are those of the classes
abbrev pub classes_of : List Cell → List (List PlainPattern)
classes_of cells = map (λ (c : Cell). c.patterns) cells

-- an `originate` line in another class
abbrev pub put_own : ℕ → Origination → Origination
put_own class o = record { class = class; prefix = o.prefix; tag = o.tag }

module _ (cells : List Cell) where
  -- ---- a neighbour's block

  abbrev pub imports_in : List Import → List Import → List Import
  imports_in start other = spread (λ (r : Import). r.tag) (λ (r : Import). r.class) put_import 1 cells start other

  abbrev pub exports_in : List Export → List Export → List Export
  exports_in start other = spread (λ (e : Export). e.tag) (λ (e : Export). e.class) put_export 1 cells start other

  -- from a peer is taken what the first takes, and from a router what either takes
  abbrev pub session_of : Session → Session → Session
  session_of a b = record {
    name = a.name;
    asn = a.asn;
    peer = a.peer;
    imports = imports_in a.imports (if a.peer then [] else b.imports);
    exports = exports_in a.exports b.exports;
  }

  abbrev pub sessions_of : List Session → List Session → List Session
  sessions_of (a ∷ xs) (b ∷ bs) = session_of a b ∷ sessions_of xs bs
  sessions_of _ _ = []

  -- ---- originate lines

  -- the class of the prefix in the stage is this one
  abbrev pub is_of_class : ℕ → PlainPrefix → Bool
  is_of_class class p = option_map_or (λ n. n == class) (class_from (classes_of cells) p 1) false

  -- the line is of the first class of the cell, and its prefix is of the cell, which has this class
  abbrev pub belongs : ℕ → Cell → Origination → Bool
  belongs class c o = o.class == c.first && (some_contains c.patterns o.prefix && is_of_class class o.prefix)

  -- those of cells that have the classes from this one on
  abbrev pub own_from : ℕ → List Cell → List Origination → List Origination
  own_from class [] lines = []
  own_from class (c ∷ cs) lines = map (put_own class) (filter (belongs class c) lines) ++ own_from (class + 1) cs lines

  -- ---- a router's block

  abbrev pub router_of : RouterConfig → RouterConfig → RouterConfig
  router_of a b = record { name = a.name; asn = a.asn; id = a.id; own = own_from 1 cells a.own; sessions = sessions_of a.sessions b.sessions }

  abbrev pub routers_of : List RouterConfig → List RouterConfig → List RouterConfig
  routers_of (a ∷ xs) (b ∷ bs) = router_of a b ∷ routers_of xs bs
  routers_of _ _ = []

abbrev pub joined : List Cell → PlainConfig → PlainConfig → PlainConfig
joined cells start other = record { classes = classes_of cells; routers = routers_of cells start.routers other.routers }
