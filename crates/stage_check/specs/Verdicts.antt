-- Whether there are stages between two configurations, or what stands in the way.
use Rattle.std.specs.Prelude.{ℕ, ◌+◌, Bool, ◌&&◌, nat_lt, min, List, [], ◌∷◌, length, sum_by, Option, Some, None, if◌then◌else◌}
use Rattle.std.specs.List.{flat_map}
use Rattle.net_base.specs.declared.numbers.Tag.{Tag}
use Rattle.config_base.specs.Configs.{PlainConfig}
use Rattle.class_lines.specs.declared.class_line.ClassLine.{ClassLine}
use Rattle.class_lines.specs.ClassLines.{lines_about, same_lines}
use Rattle.class_lines.specs.Marks.{least_of_prefs, least_of_tags, low_prefs, shared_tags}
use Rattle.class_lines.specs.Tables.{by_class}
use Rattle.stage_classes.specs.declared.cell.Cell.{Cell}
use Rattle.stage_classes.specs.Cells.{cells}
use Rattle.stage_check.specs.declared.judging.Verdict.{Verdict}
use Rattle.stage_check.specs.declared.judging.Verdict.TheVariants.{MayMix, Unlike, TooManyLines, SharedTag, LowPref}
use Rattle.stage_check.specs.declared.judging.TheConstants.{MAX_LINES}
use Rattle.stage_check.specs.Unlike.{first_unlike}

-- the greatest number that is told
abbrev pub top : ℕ
top = 18446744073709551615

-- the least preference that is in the way, or that nothing is
abbrev pub of_pref : Option ℕ → Verdict
of_pref None = MayMix
of_pref (Some n) = LowPref n

-- Of a pair of classes, where these are the lines of each class of the old configuration and of the new one:
module _ (old new : ℕ → List ClassLine) where
  -- both have the same lines in every block, as far as they are about the prefixes that both share
  abbrev pub stays : Cell → Bool
  stays c = same_lines (lines_about c.patterns (old c.first)) (lines_about c.patterns (new c.second))

  -- how many lines a stage has of the pair at most, with that of the class itself: of both classes, or where both have the same, once
  abbrev pub lines_of_cell : Cell → ℕ
  lines_of_cell c = if stays c then length (old c.first) + 1 else length (old c.first) + length (new c.second) + 1

  -- the tags that stand in both, where the lines aren't the same
  abbrev pub tags_of_cell : Cell → List Tag
  tags_of_cell c = if stays c then [] else shared_tags (old c.first) (new c.second)

  -- the new preferences that aren't above all old ones, where the lines aren't the same
  abbrev pub prefs_of_cell : Cell → List ℕ
  prefs_of_cell c = if stays c then [] else low_prefs (old c.first) (new c.second)

  -- ---- of all pairs

  -- the least tag, or else the least preference
  abbrev pub of_tag : List Cell → Option Tag → Verdict
  of_tag cs None = of_pref (least_of_prefs (flat_map prefs_of_cell cs))
  of_tag cs (Some t) = SharedTag t

  abbrev pub tag_or_pref : List Cell → Verdict
  tag_or_pref cs = of_tag cs (least_of_tags (flat_map tags_of_cell cs))

  -- the number of lines, where they are too many, or else those
  abbrev pub of_count : List Cell → ℕ → Verdict
  of_count cs n = if nat_lt MAX_LINES n then TooManyLines n else tag_or_pref cs

  abbrev pub of_cells : List Cell → Verdict
  of_cells cs = of_count cs (min (sum_by lines_of_cell cs) top)

-- ---- of two configurations

-- the first router that isn't the same in both, or what is in the way of the cells of their classes
abbrev pub of_unlike : PlainConfig → PlainConfig → Option ℕ → Verdict
of_unlike old new None = of_cells (by_class old) (by_class new) (cells old.classes new.classes)
of_unlike old new (Some n) = Unlike n

unfoldable pub verdict : PlainConfig → PlainConfig → Verdict
verdict old new = of_unlike old new (first_unlike old.routers new.routers)
