-- Numbers of entries are below the lengths of the texts in which they stand.
use Rattle.std.proofs.Common.{ℕ, ◌+◌, ◌*◌, ◌<◌, ◌≤◌, ◌^◌, List, [], ◌∷◌, ◌++◌, length, Some, arith, length-append}
use Rattle.std.specs.Prelude.{codes}
use Rattle.std.specs.List.{flat_map, AllByRecursion}
use Rattle.std.specs.Fmt.{decimal}
use Rattle.config_lines.specs.declared.edition.Edition.TheVariants.{Second}
use Rattle.config_lines.specs.declared.line.Line.{Line}
use Rattle.config_lines.specs.declared.line.Line.TheVariants as line
use Rattle.config_lines.specs.Editions.{tag_text}
use Rattle.config_lines.specs.LineText.{set_text, IsLine}
use Rattle.config_reader.proofs.TakenTexts.{IsOther}
use Rattle.route_map_text.specs.declared.line.MapLine.TheVariants as written
use Rattle.route_map_text.specs.MapLineText.{entry_text, IsEntry, IsMapLine}
use Rattle.route_map_text.specs.MapsLines.{fed}
use Rattle.map_reader.proofs.Numbering.{Counts, none, step, number_line, number_from}

-- ten for each entry
abbrev pub weight : List Line → ℕ
weight [] = 0
weight (line.Import r ∷ ls) = 10 + weight ls
weight (line.PeerImport r ∷ ls) = 10 + weight ls
weight (line.Export e ∷ ls) = 10 + weight ls
weight (_ ∷ ls) = weight ls

front : (a b : List ℕ) → length a ≤ length (a ++ b)
front a b = let e = length-append a b in omega (arith, e)

both : (a b : List ℕ) → length a + length b ≤ length (a ++ b)
both a b = let e = length-append a b in omega (arith, e)

listed : (n : ℕ) → 6 ≤ length (codes " list " ++ decimal n)
listed n = front (codes " list ") (decimal n)

-- the text of an entry and its line feed have ten bytes at least
entry_long : (k : ℕ) (l : Line) → IsEntry l → 10 ≤ length (fed (written.Entry (Some k) l))
entry_long k (line.Import r) is =
    let rest : 6 ≤ length (entry_text (line.Import r)) =
    omega (
      arith,
      listed r.class,
      front (codes " list " ++ decimal r.class) (codes " match "),
      front (codes " list " ++ decimal r.class ++ codes " match ") (tag_text Second r.tag),
      front (codes " list " ++ decimal r.class ++ codes " match " ++ tag_text Second r.tag) (set_text Second r),
    ) in
    let head : 3 ≤ length (codes "in " ++ decimal k) = front (codes "in ") (decimal k) in
    omega (arith, rest, head, both (codes "in " ++ decimal k) (entry_text (line.Import r)), both (codes "in " ++ decimal k ++ entry_text (line.Import r)) (codes "\n"))
entry_long k (line.PeerImport r) is =
    let rest : 6 ≤ length (entry_text (line.PeerImport r)) = omega (arith, listed r.class, front (codes " list " ++ decimal r.class) (set_text Second r)) in
    let head : 3 ≤ length (codes "in " ++ decimal k) = front (codes "in ") (decimal k) in
    omega (arith, rest, head, both (codes "in " ++ decimal k) (entry_text (line.PeerImport r)), both (codes "in " ++ decimal k ++ entry_text (line.PeerImport r)) (codes "\n"))
entry_long k (line.Export e) is =
    let rest : 6 ≤ length (entry_text (line.Export e)) =
    omega (arith, listed e.class, front (codes " list " ++ decimal e.class) (codes " match "), front (codes " list " ++ decimal e.class ++ codes " match ") (tag_text Second e.tag)) in
    let head : 4 ≤ length (codes "out " ++ decimal k) = front (codes "out ") (decimal k) in
    omega (arith, rest, head, both (codes "out " ++ decimal k) (entry_text (line.Export e)), both (codes "out " ++ decimal k ++ entry_text (line.Export e)) (codes "\n"))
entry_long k _ is = absurd is

-- an entry more
one_below : (k : Counts) (l : Line) (ls : List Line) → 10 ≤ length (fed (number_line k l)) → weight ls ≤ length (flat_map fed (number_from (step k l) ls))
    → 10 + weight ls ≤ length (flat_map fed (number_from k (l ∷ ls)))
one_below k l ls long later = omega (arith, long, later, both (fed (number_line k l)) (flat_map fed (number_from (step k l) ls)))

pub weight_below : (k : Counts) (ls : List Line) → weight ls ≤ length (flat_map fed (number_from k ls))
weight_below k [] = omega arith
weight_below k (line.Import r ∷ ls) = one_below k (line.Import r) ls (entry_long (10 * (k.ins + 1)) (line.Import r) tt) (weight_below (step k (line.Import r)) ls)
weight_below k (line.PeerImport r ∷ ls) = one_below k (line.PeerImport r) ls (entry_long (10 * (k.ins + 1)) (line.PeerImport r) tt) (weight_below (step k (line.PeerImport r)) ls)
weight_below k (line.Export e ∷ ls) = one_below k (line.Export e) ls (entry_long (10 * (k.outs + 1)) (line.Export e) tt) (weight_below (step k (line.Export e)) ls)
weight_below k (l ∷ ls) = omega (arith, weight_below none ls, both (fed (number_line k l)) (flat_map fed (number_from none ls)))

-- numbered lines keep the rules where their numbers are below a bound
pub numbered_are : (count bound : ℕ) → bound < 2 ^ 32 → (k : Counts) (ls : List Line) → 10 * k.ins + weight ls ≤ bound → 10 * k.outs + weight ls ≤ bound
    → AllByRecursion (IsLine Second count) ls → AllByRecursion IsOther ls → AllByRecursion (IsMapLine count) (number_from k ls)
numbered_are count bound low k [] i o all other = tt
numbered_are count bound low k (line.Import r ∷ ls) i o all other =
    ((omega (arith, i, low), tt, all.0), numbered_are count bound low (step k (line.Import r)) ls (omega (arith, i)) (omega (arith, o)) all.1 other.1)
numbered_are count bound low k (line.PeerImport r ∷ ls) i o all other = (
  (omega (arith, i, low), tt, all.0),
  numbered_are count bound low (step k (line.PeerImport r)) ls (omega (arith, i)) (omega (arith, o)) all.1 other.1,
)
numbered_are count bound low k (line.Export e ∷ ls) i o all other =
    ((omega (arith, o, low), tt, all.0), numbered_are count bound low (step k (line.Export e)) ls (omega (arith, i)) (omega (arith, o)) all.1 other.1)
numbered_are count bound low k (line.Class n ps ∷ ls) i o all other = absurd other.0
numbered_are count bound low k (l ∷ ls) i o all other = ((tt, all.0), numbered_are count bound low none ls (omega (arith, i)) (omega (arith, o)) all.1 other.1)
