-- Patterns by their bases.
use Rattle.std.specs.Prelude.{◌≡◌, ℕ, ◌-◌, ◌*◌, ◌/◌, ◌^◌, List, Option, unwrap_or}
use Rattle.std.specs.List.{AllByRecursion}
use Rattle.indexmap.specs.IndexMap.{get}
use Rattle.net_base.specs.Prefixes.{PlainPrefix, PlainPattern, IsPattern, same_prefix}
use Rattle.lint_cover.specs.declared.table.PatternTable.{PatternTable}
use Rattle.lint_cover.specs.Covered.{exact_at}

-- for each base one more than the greatest end of the patterns with it; 0 where there is none
abbrev pub AreEnds : (PlainPrefix → Option ℕ) → List PlainPattern → Type 0
AreEnds ends qs = (p : PlainPrefix) → unwrap_or (ends p) 0 ≡ exact_at qs p

-- these patterns were put into the table
pub record Holds (table : PatternTable) (qs : List PlainPattern) : Type 0 where
  pub lawful : AllByRecursion IsPattern qs
  pub ends : AreEnds (get same_prefix table.ends) qs

-- the first bits of a prefix, as many as k
abbrev pub cut_at : PlainPrefix → ℕ → PlainPrefix
cut_at p k = record { bits = p.bits / 2 ^ (32 - k) * 2 ^ (32 - k); len = k }
