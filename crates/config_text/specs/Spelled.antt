-- Which configuration a text spells.
use Rattle.std.specs.Prelude.{◌≡◌, ℕ, IsTrue, List, length}
use Rattle.std.specs.List.{AllByRecursion}
use Rattle.net_base.specs.NameRule.{is_name}
use Rattle.net_base.specs.Prefixes.{PlainPattern, IsPrefix, IsPattern}
use Rattle.config_base.specs.declared.config.RouterConfig.{RouterConfig}
use Rattle.config_base.specs.declared.config.Session.{Session}
use Rattle.config_base.specs.declared.config.Origination.{Origination}
use Rattle.config_base.specs.Configs.{PlainConfig, IsConfig}
use Rattle.config_lines.specs.declared.edition.Edition.{Edition}
use Rattle.config_lines.specs.declared.edition.Edition.TheVariants.{Second}
use Rattle.config_lines.specs.LineText.{IsLine}
use Rattle.config_text.specs.ConfigLines.{lines}
use Rattle.config_text.specs.ConfigText.{text_in}

-- a class whose patterns are patterns
abbrev pub ArePatterns : List PlainPattern → Type 0
ArePatterns patterns = AllByRecursion IsPattern patterns

abbrev pub HasPrefix : Origination → Type 0
HasPrefix o = IsPrefix o.prefix

abbrev pub IsNamed : Session → Type 0
IsNamed s = IsTrue (is_name s.name)

-- a router's block whose names are names and whose prefixes are prefixes
pub record HasLawfulParts (r : RouterConfig) : Type 0 where
  pub name : IsTrue (is_name r.name)
  pub prefixes : AllByRecursion HasPrefix r.own
  pub names : AllByRecursion IsNamed r.sessions

-- It keeps the rules of configurations, and its parts are what they are said to be: names, prefixes and patterns.
pub record IsLawful (c : PlainConfig) : Type 0 where
  pub rules : IsConfig c
  pub patterns : AllByRecursion ArePatterns c.classes
  pub routers : AllByRecursion HasLawfulParts c.routers

-- Each of its lines is one of the edition: its numbers are in the edition's ranges.
abbrev pub HasLinesOf : Edition → PlainConfig → Type 0
HasLinesOf edition c = AllByRecursion (IsLine edition (length c.classes)) (lines c)

-- the text is that of this lawful configuration in the edition
pub record SpellsIn (edition : Edition) (bytes : List ℕ) (c : PlainConfig) : Type 0 where
  pub lawful : IsLawful c
  pub fits : HasLinesOf edition c
  pub written : bytes ≡ text_in edition c

-- as texts are written: in the second edition
abbrev pub Spells : List ℕ → PlainConfig → Type 0
Spells bytes c = SpellsIn Second bytes c
