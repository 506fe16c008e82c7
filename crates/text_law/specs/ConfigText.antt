-- The text of a configuration, line by line.
use Rattle.std.specs.Prelude.{◌≡◌, ◌≢◌, ℕ, ◌+◌, ◌<◌, ◌^◌, IsTrue, MatchBool, Bool, List, [], ◌∷◌, ◌++◌, codes, if◌then◌else◌}
use Rattle.std.specs.List.{flat_map, AllByRecursion}
use Rattle.std.specs.Fmt.{decimal}
use Rattle.net_base.specs.NameRule.{is_name}
use Rattle.net_base.specs.Numbers.{no_tag}
use Rattle.net_base.specs.Prefixes.{PlainPattern, IsPattern, IsPrefix}
use Rattle.net_base.specs.declared.numbers.Tag.{Tag}
use Rattle.text_parts.specs.Texts.{address_text, prefix_text}
use Rattle.config_base.specs.declared.config.RouterConfig.{RouterConfig}
use Rattle.config_base.specs.declared.config.Session.{Session}
use Rattle.config_base.specs.declared.config.Import.{Import}
use Rattle.config_base.specs.declared.config.Export.{Export}
use Rattle.config_base.specs.declared.config.Origination.{Origination}
use Rattle.config_base.specs.Configs.{PlainConfig}
use Rattle.config_lines.specs.LineText.{joined_patterns}

-- ---- how it is written

abbrev pub tag_text : Tag → List ℕ
tag_text t = decimal t.asn ++ codes ":0:" ++ decimal t.value

-- the patterns of each class, numbered from k
abbrev pub class_lines : ℕ → List (List PlainPattern) → List ℕ
class_lines k [] = []
class_lines k (ps ∷ cs) = codes "class " ++ decimal k ++ codes " " ++ joined_patterns ps ++ codes "\n" ++ class_lines (k + 1) cs

abbrev pub own_line : Origination → List ℕ
own_line o = codes "originate " ++ decimal o.class ++ codes " " ++ prefix_text o.prefix ++ codes " tag " ++ tag_text o.tag ++ codes "\n"

-- an import; in the block of a peer it asks for no tag
abbrev pub import_line : Bool → Import → List ℕ
import_line peer r =
    codes "import " ++ decimal r.class ++ (if peer then [] else codes " tag " ++ tag_text r.tag)
    ++ (codes " set " ++ tag_text r.set ++ codes " pref " ++ decimal r.pref) ++ codes "\n"

abbrev pub export_line : Export → List ℕ
export_line e = codes "export " ++ decimal e.class ++ codes " tag " ++ tag_text e.tag ++ codes "\n"

-- the block of a neighbour
abbrev pub session_text : Session → List ℕ
session_text s =
    ((if s.peer then codes "peer " else codes "session ") ++ s.name ++ codes " asn " ++ decimal s.asn ++ codes "\n")
    ++ flat_map (import_line s.peer) s.imports ++ flat_map export_line s.exports

-- the block of a router
abbrev pub router_text : RouterConfig → List ℕ
router_text r =
    (codes "router " ++ r.name ++ codes " asn " ++ decimal r.asn ++ codes " id " ++ address_text r.id ++ codes "\n")
    ++ flat_map own_line r.own ++ flat_map session_text r.sessions ++ codes "end\n"

abbrev pub config_text : PlainConfig → List ℕ
config_text c = codes "propane-config 2\n" ++ class_lines 1 c.classes ++ flat_map router_text c.routers

-- ---- what is written: names are names, prefixes are prefixes, and numbers have four bytes

abbrev pub IsTag : Tag → Type 0
IsTag t = (t.asn < 2 ^ 32) × (t.value < 2 ^ 32)

abbrev pub IsOrigination : Origination → Type 0
IsOrigination o = (o.class < 2 ^ 32) × IsPrefix o.prefix × IsTag o.tag

abbrev pub IsImport : Bool → Import → Type 0
IsImport peer r = (r.class < 2 ^ 32) × MatchBool peer (r.tag ≡ no_tag) (IsTag r.tag) × IsTag r.set × (r.pref < 2 ^ 32)

abbrev pub IsExport : Export → Type 0
IsExport e = (e.class < 2 ^ 32) × IsTag e.tag

abbrev pub IsSession : Session → Type 0
IsSession s = IsTrue (is_name s.name) × (s.asn < 2 ^ 32) × AllByRecursion (IsImport s.peer) s.imports × AllByRecursion IsExport s.exports

abbrev pub IsRouter : RouterConfig → Type 0
IsRouter r = IsTrue (is_name r.name) × (r.asn < 2 ^ 32) × (r.id < 2 ^ 32) × AllByRecursion IsOrigination r.own × AllByRecursion IsSession r.sessions

-- The bytes are the text of this configuration.
pub record IsTextOf (bytes : List ℕ) (c : PlainConfig) : Type 0 where
  pub written : bytes ≡ config_text c
  pub classes : AllByRecursion (λ (ps : List PlainPattern). (ps ≢ []) × AllByRecursion IsPattern ps) c.classes
  pub routers : AllByRecursion IsRouter c.routers
