-- Lines of two configurations, put together in the cells of a stage. A line has a class and a tag.
use Rattle.std.specs.Prelude.{ℕ, ◌+◌, ◌==◌, Bool, ◌&&◌, ◌||◌, nat_lt, suc, List, [], ◌∷◌, ◌++◌, map, take, drop, if◌then◌else◌}
use Rattle.std.specs.List.{filter}
use Rattle.net_base.specs.declared.numbers.Tag.{Tag}
use Rattle.config_base.specs.declared.config.Import.{Import}
use Rattle.config_base.specs.declared.config.Export.{Export}
use Rattle.config_base.specs.Lines.{same_tag}
use Rattle.stage_classes.specs.declared.cell.Cell.{Cell}

-- ---- a line in another class

abbrev pub put_import : ℕ → Import → Import
put_import class r = record { class = class; tag = r.tag; set = r.set; pref = r.pref }

abbrev pub put_export : ℕ → Export → Export
put_export class e = record { class = class; tag = e.tag }

-- ---- lines of one class

-- the order of tags
abbrev pub is_below : Tag → Tag → Bool
is_below t u = nat_lt t.asn u.asn || (t.asn == u.asn && nat_lt t.value u.value)

module _ {L : Type 0} (tag_of : L → Tag) where
  -- how many lines in front are of smaller tags
  abbrev pub count_below : Tag → List L → ℕ
  count_below tag [] = 0
  count_below tag (l ∷ ls) = if is_below (tag_of l) tag then suc (count_below tag ls) else 0

  -- the lines, but for the first one if it is about this tag
  abbrev pub without : Tag → List L → List L
  without tag [] = []
  without tag (l ∷ ls) = if same_tag (tag_of l) tag then ls else l ∷ ls

  -- the lines behind those of smaller tags, without one of this tag
  abbrev pub back : Tag → List L → List L
  back tag ls = without tag (drop (count_below tag ls) ls)

  -- the lines of both lists in order of their tags, of one tag that of the first list alone
  abbrev pub merged : List L → List L → List L
  merged [] others = others
  merged (l ∷ ls) others = take (count_below (tag_of l) others) others ++ l ∷ merged ls (back (tag_of l) others)

  -- ---- all cells

  module _ (class_of : L → ℕ) (put : ℕ → L → L) where
    abbrev pub of_class : ℕ → List L → List L
    of_class class ls = filter (λ l. class_of l == class) ls

    -- the lines of a cell, which has this class in the stage
    abbrev pub in_cell : ℕ → Cell → List L → List L → List L
    in_cell class c old new = map (put class) (merged (of_class c.first old) (of_class c.second new))

    -- those of all cells, which have the classes from this one on
    abbrev pub spread : ℕ → List Cell → List L → List L → List L
    spread class [] old new = []
    spread class (c ∷ cs) old new = in_cell class c old new ++ spread (class + 1) cs old new
