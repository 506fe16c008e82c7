-- The tags and the preferences that stand in a configuration.
use Rattle.std.specs.Prelude.{ℕ, List, [], ◌∷◌, ◌++◌, map, max}
use Rattle.std.specs.List.{flat_map, fold}
use Rattle.net_base.specs.declared.numbers.Tag.{Tag}
use Rattle.config_base.specs.declared.config.RouterConfig.{RouterConfig}
use Rattle.config_base.specs.declared.config.Session.{Session}
use Rattle.config_base.specs.declared.config.Import.{Import}
use Rattle.config_base.specs.declared.config.Export.{Export}
use Rattle.config_base.specs.declared.config.Origination.{Origination}
use Rattle.config_base.specs.Configs.{PlainConfig}

-- the tag that an import asks for, and the one that it sets
abbrev pub tags_of_import : Import → List Tag
tags_of_import i = i.tag ∷ i.set ∷ []

abbrev pub tag_of_export : Export → Tag
tag_of_export e = e.tag

abbrev pub tag_of_own : Origination → Tag
tag_of_own o = o.tag

abbrev pub tags_of_session : Session → List Tag
tags_of_session b = flat_map tags_of_import b.imports ++ map tag_of_export b.exports

abbrev pub tags_of_router : RouterConfig → List Tag
tags_of_router c = map tag_of_own c.own ++ flat_map tags_of_session c.sessions

-- the tags of all lines
abbrev pub tags_in : PlainConfig → List Tag
tags_in config = flat_map tags_of_router config.routers

abbrev pub pref_of_import : Import → ℕ
pref_of_import i = i.pref

abbrev pub prefs_of_session : Session → List ℕ
prefs_of_session b = map pref_of_import b.imports

abbrev pub prefs_of_router : RouterConfig → List ℕ
prefs_of_router c = flat_map prefs_of_session c.sessions

-- the preferences of all lines
abbrev pub prefs_in : PlainConfig → List ℕ
prefs_in config = flat_map prefs_of_router config.routers

-- the greatest of some numbers, or 0 where there is none
abbrev pub greatest : List ℕ → ℕ
greatest ns = fold max 0 ns
