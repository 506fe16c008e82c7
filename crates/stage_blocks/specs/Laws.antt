-- What is found among the lines of a block in a stage, and which order and rules they keep.
use Rattle.std.specs.Prelude.{◌≡◌, ℕ, ◌+◌, Bool, ◌&&◌, ◌==◌, List, [], length, map, Option, Some, option_map, slice_get}
use Rattle.std.specs.List.{AllByRecursion, find}
use Rattle.std.specs.Option.{option_or}
use Rattle.net_base.specs.declared.numbers.Tag.{Tag}
use Rattle.config_base.specs.declared.config.Import.{Import}
use Rattle.config_base.specs.declared.config.Export.{Export}
use Rattle.config_base.specs.declared.config.Session.{Session}
use Rattle.config_base.specs.Configs.{Ascend, IsExport, IsImport, Key, tag_key}
use Rattle.config_base.specs.Lines.{same_tag}
use Rattle.stage_classes.specs.declared.cell.Cell.{Cell}
use Rattle.stage_blocks.specs.Merging.{put_export, put_import, spread}

module _ {L : Type 0} (tag_of : L → Tag) (class_of : L → ℕ) (put : ℕ → L → L) where
  -- the key by which a block's lines ascend
  abbrev pub key_of : L → Key
  key_of l = tag_key (class_of l) (tag_of l)

  -- the line of a class about a tag
  abbrev pub line_of : ℕ → Tag → List L → Option L
  line_of class tag ls = find (λ l. class_of l == class && same_tag (tag_of l) tag) ls

  -- the first line of a class that passes a test
  abbrev pub first_of : ℕ → (L → Bool) → List L → Option L
  first_of class test ls = find (λ l. class_of l == class && test l) ls

  -- In the k-th cell the line about a tag is that of the old configuration's class, or else that of the new one's.
  abbrev pub CellsFind : Type 0
  CellsFind = (cells : List Cell) (old new : List L) (k : ℕ) (c : Cell) (tag : Tag) → Ascend (map key_of old) → slice_get cells k ≡ Some c
      → line_of (k + 1) tag (spread tag_of class_of put 1 cells old new) ≡ option_map (put (k + 1)) (option_or (line_of c.first tag old) (line_of c.second tag new))

  -- Where the new configuration has no lines in the block, the first line that passes a test is that of the old configuration's class,
  abbrev pub CellsFindOld : Type 0
  CellsFindOld = (cells : List Cell) (old : List L) (k : ℕ) (c : Cell) (test : L → Bool) → ((n : ℕ) (l : L) → test (put n l) ≡ test l) → slice_get cells k ≡ Some c
      → first_of (k + 1) test (spread tag_of class_of put 1 cells old []) ≡ option_map (put (k + 1)) (first_of c.first test old)

  -- and the other way round.
  abbrev pub CellsFindNew : Type 0
  CellsFindNew = (cells : List Cell) (new : List L) (k : ℕ) (c : Cell) (test : L → Bool) → ((n : ℕ) (l : L) → test (put n l) ≡ test l) → slice_get cells k ≡ Some c
      → first_of (k + 1) test (spread tag_of class_of put 1 cells [] new) ≡ option_map (put (k + 1)) (first_of c.second test new)

  -- Where the lines of both ascend, those of the stage do.
  abbrev pub SpreadAscends : Type 0
  SpreadAscends = (cells : List Cell) (old new : List L) → Ascend (map key_of old) → Ascend (map key_of new) → Ascend (map key_of (spread tag_of class_of put 1 cells old new))

  pub record SpreadsRight : Type 0 where
    pub both : CellsFind
    pub old : CellsFindOld
    pub new : CellsFindNew
    pub order : SpreadAscends

abbrev pub ImportsSpreadRight : Type 0
ImportsSpreadRight = SpreadsRight (λ (r : Import). r.tag) (λ (r : Import). r.class) put_import

abbrev pub ExportsSpreadRight : Type 0
ExportsSpreadRight = SpreadsRight (λ (e : Export). e.tag) (λ (e : Export). e.class) put_export

-- The lines of the stage keep the rules of lines, where there are as many classes as cells.
abbrev pub ImportsKeep : Type 0
ImportsKeep = (cells : List Cell) (old new : List Import) (m n : ℕ) (s : Session) → AllByRecursion (IsImport m s) old → AllByRecursion (IsImport n s) new
    → AllByRecursion (IsImport (length cells) s) (spread (λ (r : Import). r.tag) (λ (r : Import). r.class) put_import 1 cells old new)

abbrev pub ExportsKeep : Type 0
ExportsKeep = (cells : List Cell) (old new : List Export) (m n : ℕ) → AllByRecursion (IsExport m) old → AllByRecursion (IsExport n) new
    → AllByRecursion (IsExport (length cells)) (spread (λ (e : Export). e.tag) (λ (e : Export). e.class) put_export 1 cells old new)
