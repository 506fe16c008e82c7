-- Two configurations change places.
use Rattle.std.proofs.Common.{◌≡◌, ◌≢◌, ℕ, ◌+◌, ◌<◌, ◌^◌, List, [], ◌∷◌, length, map, Option, Some, None, refl, sym, ap, ap₂, ◌∙◌, subst}
use Rattle.std.specs.List.{AllByRecursion, find}
use Rattle.std.specs.Option.{option_map}
use Rattle.std.proofs.lemmas.List.{length-map}
use Rattle.net_base.specs.Prefixes.{PlainPattern, PlainPrefix, IsPrefix}
use Rattle.policy_base.specs.Governing.{some_contains}
use Rattle.config_base.specs.declared.config.RouterConfig.{RouterConfig}
use Rattle.config_base.specs.declared.config.Session.{Session}
use Rattle.config_base.specs.Configs.{PlainConfig}
use Rattle.config_base.specs.Lines.{class_from}
use Rattle.stage_classes.specs.declared.cell.Cell.{Cell}
use Rattle.stage_classes.specs.Cells.{turn, turned}
use Rattle.stage_classes.specs.Laws.{cell_of, pair_of, paired}
use Rattle.stage_blocks.proofs.Spreading.{find-map}
use Rattle.stage_maker.specs.Alike.{AreAlike, SameNeighbours}
use Rattle.stage_maker.specs.Laws.{ArePairsOf, CellsTurn}

-- ---- the cells

abbrev swapped : Option (ℕ × ℕ) → Option (ℕ × ℕ)
swapped o = option_map (λ (q : ℕ × ℕ). (q.1, q.0)) o

numbers_turned : (o : Option Cell) → option_map (λ (c : Cell). (c.first, c.second)) (option_map turn o) ≡ swapped (option_map (λ (c : Cell). (c.first, c.second)) o)
numbers_turned None = refl
numbers_turned (Some c) = refl

paired_turned : (o n : Option ℕ) (k m : ℕ) → swapped (paired o n k m) ≡ paired n o m k
paired_turned None None k m = refl
paired_turned None (Some x) k m = refl
paired_turned (Some x) None k m = refl
paired_turned (Some x) (Some y) k m = refl

pairs_turned : (cells : List Cell) (start other : PlainConfig) → ArePairsOf cells start other → ArePairsOf (turned cells) other start
pairs_turned cells start other pairs p prefix =
    ap (option_map (λ (c : Cell). (c.first, c.second))) (find-map (λ (c : Cell). some_contains c.patterns p) turn cells)
    ∙ numbers_turned (cell_of cells p)
    ∙ ap swapped (pairs p prefix)
    ∙ paired_turned (class_from start.classes p 1) (class_from other.classes p 1) (length start.classes + 1) (length other.classes + 1)

patterns_turned : (cells : List Cell) → AllByRecursion (λ (c : Cell). c.patterns ≢ []) cells → AllByRecursion (λ (c : Cell). c.patterns ≢ []) (turned cells)
patterns_turned [] all = tt
patterns_turned (c ∷ cs) all = (all.0, patterns_turned cs all.1)

-- ---- the routers

neighbours_turned : (xs ys : List Session) → SameNeighbours xs ys → SameNeighbours ys xs
neighbours_turned [] [] same = tt
neighbours_turned [] (y ∷ ys) same = absurd same
neighbours_turned (x ∷ xs) [] same = absurd same
neighbours_turned (x ∷ xs) (y ∷ ys) same = (record { name = sym same.0.name; asn = sym same.0.asn; peer = sym same.0.peer }, neighbours_turned xs ys same.1)

alike_turned : (xs ys : List RouterConfig) → AreAlike xs ys → AreAlike ys xs
alike_turned [] [] same = tt
alike_turned [] (y ∷ ys) same = absurd same
alike_turned (x ∷ xs) [] same = absurd same
alike_turned (x ∷ xs) (y ∷ ys) same =
    (record { name = sym same.0.name; asn = sym same.0.asn; id = sym same.0.id; sessions = neighbours_turned x.sessions y.sessions same.0.sessions }, alike_turned xs ys same.1)

pub cells_turn : CellsTurn
cells_turn cells start other may = record {
  start_is = may.other_is;
  other_is = may.start_is;
  alike = alike_turned start.routers other.routers may.alike;
  count = subst (λ n. n < 2 ^ 32) (sym (length-map cells turn)) may.count;
  patterns = patterns_turned cells may.patterns;
  pairs = pairs_turned cells start other may.pairs;
}
