-- A text that is read is that of its configuration, which is lawful.
use Rattle.std.proofs.Common.{◌≡◌, ℕ, ◌+◌, ◌-◌, ◌<◌, ◌≤◌, List, [], ◌∷◌, ◌++◌, length, map, min, true, false, Option, None, Ok, refl, sym, ◌∙◌, ap, ap₂, subst, arith, append-nil, append_assoc}
use Rattle.std.specs.Prelude.{◌≢◌, ◌&&◌, ◌==◌, not, is_none, Result, Err, IfOk}
use Rattle.std.specs.List.{join_with_byte, flat_map, AllByRecursion}
use Rattle.std.specs.Str.{bytes_eq}
use Rattle.std.proofs.lemmas.Bool.{and_parts, eqb-true, eqb-false, not-true}
use Rattle.std.proofs.lemmas.List.Splits.{join_with_byte-slice_split}
use Rattle.std.proofs.lemmas.List.{length-take, nil_from_length}
use Rattle.std.proofs.lemmas.Slice.Eq.{bytes_eq-Decides}
use Rattle.list_law.proofs.Options.{is_none_parts}
use Rattle.net_base.specs.Gives.{GivesUnless}
use Rattle.net_base.specs.Steps.{unless}
use Rattle.net_base.proofs.StepLemmas.{bind_ok, unless_ok, ok_same}
use Rattle.config_base.specs.Configs.{PlainConfig}
use Rattle.config_lines.specs.declared.edition.Edition.{Edition}
use Rattle.config_lines.specs.declared.line.Line.{Line}
use Rattle.config_lines.specs.declared.line.Line.TheVariants as line
use Rattle.config_lines.specs.Editions.{first_line}
use Rattle.config_lines.specs.LineText.{line_text, IsLine, IsNumbered}
use Rattle.config_lines.proofs.Ranges.{line_wide}
use Rattle.config_lines.proofs.ReadForms.{lines_written}
use Rattle.config_text.specs.ConfigLines.{fed, lines, lines_of_classes, lines_of_router}
use Rattle.config_text.specs.ConfigText.{text_in}
use Rattle.config_text.specs.Spelled.{IsLawful, HasLinesOf, SpellsIn}
use Rattle.config_text.proofs.TextLines.{text_of_lines}
use Rattle.config_reader.specs.declared.fault.ConfigFault.{ConfigFault}
use Rattle.config_reader.specs.declared.fault.ConfigFault.TheVariants as fault
use Rattle.config_reader.specs.declared.reading.OpenRouter.{OpenRouter}
use Rattle.config_reader.specs.declared.reading.Reading.{Reading}
use Rattle.config_reader.specs.Reading.{opening, after}
use Rattle.config_lines.specs.LineLines.{lines_of, whole_lines, last_line}
use Rattle.config_lines.proofs.CutLines.{few_lines}
use Rattle.config_lines.proofs.FedLines.{fed_lines, fed_texts, join_front}
use Rattle.config_lines.proofs.WholeLines.{last_split}
use Rattle.config_reader.specs.Text.{with_line, with_lines, finished, behind_heading, in_lines, spelled_in}
use Rattle.config_reader.proofs.Lawful.{IsReading, after_keeps, opening_keeps, reading_lawful}
use Rattle.config_reader.proofs.SoFar.{so_far, open_lines, after_adds}
use Rattle.config_reader.proofs.Steps.{with_line_ok, with_line-classes, class_ok}

false_not_true : false ≡ true → ⊥
false_not_true e = cc

-- the number of a class that was read is one
pub numbered : (r s : Reading) (l : Line) → after r l ≡ Ok s → IsNumbered l
numbered r s (line.Class None patterns) h = false_not_true (class_ok r s None patterns h).1
numbered r s _ h = tt

-- a line keeps its rules below more classes
line_below : (edition : Edition) (k m : ℕ) (l : Line) → k ≤ m → IsLine edition k l → IsLine edition m l
line_below edition k m (line.Origination o) le is = (((is.0.0.0, omega (arith, is.0.0.1, le)), is.0.1), is.1)
line_below edition k m (line.Import r) le is = (is.0, ((is.1.0.0, omega (arith, is.1.0.1, le)), is.1.1, is.1.2))
line_below edition k m (line.PeerImport r) le is = (is.0, ((is.1.0.0, omega (arith, is.1.0.1, le)), is.1.1, is.1.2))
line_below edition k m (line.Export e) le is = ((is.0.0, omega (arith, is.0.1, le)), is.1)
line_below edition k m _ le is = is

-- the lines that were read, one after another
pub record AreRead (edition : Edition) (r s : Reading) (texts : List (List ℕ)) : Type 0 where
  pub ls : List Line
  pub written : map (line_text edition) ls ≡ texts
  pub more : so_far s ≡ so_far r ++ ls
  pub keeps : IsReading s
  pub fits : AllByRecursion (IsLine edition (length s.classes)) ls
  pub least : length r.classes ≤ length s.classes
  pub few : length s.classes ≤ length r.classes + length texts

pub lines_back : (edition : Edition) (n : ℕ) (r s : Reading) (texts : List (List ℕ)) → IsReading r → with_lines edition n r texts ≡ Ok s → AreRead edition r s texts
lines_back edition n r s [] is h =
    let same : r ≡ s = ok_same r s h in
    record {
      ls = [];
      written = refl;
      more = ap so_far (sym same) ∙ sym (append-nil (so_far r));
      keeps = subst IsReading same is;
      fits = tt;
      least = rw (← same) (omega arith);
      few = rw (← same) (omega arith);
    }
lines_back edition n r s (t ∷ ts) is h =
    let b = bind_ok (with_line edition n r t) _ s h in
    let k = with_line_ok edition n r b.0 t b.1 in
    let w = lines_written edition t (length r.classes) k.0 k.1 (numbered r b.0 k.0 k.2) in
    let wide = line_wide edition (length r.classes) k.0 w.1 in
    let count = with_line-classes edition n r b.0 t b.1 in
    let rest = lines_back edition (n + 1) b.0 s ts (after_keeps r b.0 k.0 is wide k.2) b.2 in
    let least : length r.classes ≤ length s.classes = omega (arith, rest.least, count.0) in
    record {
      ls = k.0 ∷ rest.ls;
      written = ap₂ (λ (x : List ℕ) (xs : List (List ℕ)). x ∷ xs) (sym w.0) rest.written;
      more = rest.more ∙ ap (λ (x : List Line). x ++ rest.ls) (after_adds r b.0 k.0 is k.2) ∙ append_assoc (so_far r) (k.0 ∷ []) rest.ls;
      keeps = rest.keeps;
      fits = (line_below edition (length r.classes) (length s.classes) k.0 least w.1, rest.fits);
      least = least;
      few = omega (arith, rest.few, count.1);
    }

pub finished_ok : (r : Reading) (rest : List ℕ) (c : PlainConfig) → finished r rest ≡ Ok c
    → (r.opened ≡ None) × (rest ≡ []) × ((let d : PlainConfig = record { classes = r.classes; routers = r.routers } in d) ≡ c)
unfolding finished
finished_ok r rest c h =
    let a = bind_ok (unless fault.Unfinished (is_none r.opened && length rest == 0)) _ c h in
    let both = and_parts (is_none r.opened) (length rest == 0) (unless_ok fault.Unfinished _ a.0 a.1) in
    (is_none_parts r.opened both.0, nil_from_length rest (eqb-true (length rest) 0 both.1), ok_same _ c a.2)

-- behind the first line
record IsBehind (edition : Edition) (more : List (List ℕ)) (c : PlainConfig) : Type 0 where
  s : Reading
  read : AreRead edition opening s (whole_lines more)
  none : s.opened ≡ None
  rest : last_line more ≡ []
  made : (let d : PlainConfig = record { classes = s.classes; routers = s.routers } in d) ≡ c

behind_back : (edition : Edition) (more : List (List ℕ)) (c : PlainConfig) → behind_heading edition more ≡ Ok c → IsBehind edition more c
unfolding behind_heading
behind_back edition more c h =
    let s = bind_ok (with_lines edition 2 opening (whole_lines more)) _ c h in
    let f = finished_ok s.0 (last_line more) c s.2 in
    record { s = s.0; read = lines_back edition 2 opening s.0 (whole_lines more) opening_keeps s.1; none = f.0; rest = f.1; made = f.2 }

-- the lines that were read are those of the configuration
behind_lines : (edition : Edition) (more : List (List ℕ)) (c : PlainConfig) (b : IsBehind edition more c) → b.read.ls ≡ lines (record { classes = b.s.classes; routers = b.s.routers })
behind_lines edition more c b =
    sym b.read.more ∙ ap (λ (x : Option OpenRouter). lines_of_classes 1 b.s.classes ++ (flat_map lines_of_router b.s.routers ++ open_lines x)) b.none
    ∙ ap (λ (x : List Line). lines_of_classes 1 b.s.classes ++ x) (append-nil (flat_map lines_of_router b.s.routers))

behind_fits : (edition : Edition) (more : List (List ℕ)) (c : PlainConfig) → IsBehind edition more c → HasLinesOf edition c
behind_fits edition more c b =
    subst (HasLinesOf edition) b.made (subst (AllByRecursion (IsLine edition (length b.s.classes))) (behind_lines edition more c b) b.read.fits)

-- the text behind the first line
behind_text : (edition : Edition) (more : List (List ℕ)) (c : PlainConfig) → length more ≢ 0 → IsBehind edition more c → join_with_byte 10 (first_line edition ∷ more) ≡ text_in edition c
behind_text edition more c some b =
    let ts : List (List ℕ) = whole_lines more in
    let split : more ≡ ts ++ [] ∷ [] = last_split more some ∙ ap (λ (x : List ℕ). ts ++ x ∷ []) b.rest in
    let d : PlainConfig = record { classes = b.s.classes; routers = b.s.routers } in
    let feeds : List (List ℕ) → List ℕ = flat_map (λ (t : List ℕ). t ++ 10 ∷ []) in
    ap (λ (x : List (List ℕ)). join_with_byte 10 (first_line edition ∷ x)) split
    ∙ join_front (first_line edition) [] ts
    ∙ ap (λ (x : List ℕ). first_line edition ++ (10 ∷ x))
    (fed_lines ts ∙ ap feeds (sym b.read.written) ∙ sym (fed_texts (line_text edition) b.read.ls) ∙ ap (flat_map (fed edition)) (behind_lines edition more c b))
    ∙ sym (append_assoc (first_line edition) (10 ∷ []) (flat_map (fed edition) (lines d)))
    ∙ sym (text_of_lines edition d)
    ∙ ap (text_in edition) b.made

pub behind_lawful : (edition : Edition) (more : List (List ℕ)) (s : Reading) → length more < 4294967295
    → with_lines edition 2 opening (whole_lines more) ≡ Ok s → s.opened ≡ None → IsLawful (record { classes = s.classes; routers = s.routers })
behind_lawful edition more s short h none =
    let read = lines_back edition 2 opening s (whole_lines more) opening_keeps h in
    let long : length (whole_lines more) ≡ min (length more - 1) (length more) = length-take (length more - 1) more in
    reading_lawful s read.keeps none (omega (arith, read.few, long, short))

lines_spell : (edition : Edition) (first : List ℕ) (more : List (List ℕ)) (c : PlainConfig) → length more < 4294967295 → in_lines edition (first ∷ more) ≡ Ok c
    → (join_with_byte 10 (first ∷ more) ≡ text_in edition c) × IsLawful c × HasLinesOf edition c
unfolding in_lines
lines_spell edition first more c short h =
    let a = bind_ok (unless fault.Version (not (length more == 0) && bytes_eq first (first_line edition))) _ c h in
    let both = and_parts (not (length more == 0)) (bytes_eq first (first_line edition)) (unless_ok fault.Version _ a.0 a.1) in
    let some = eqb-false (length more) 0 (not-true (length more == 0) both.0) in
    let head : first ≡ first_line edition = (bytes_eq-Decides first (first_line edition)).0 both.1 in
    let b = behind_back edition more c a.2 in
    let k = lawful b in
    (ap (λ (x : List ℕ). join_with_byte 10 (x ∷ more)) head ∙ behind_text edition more c some b, k, behind_fits edition more c b)
  where
    lawful : IsBehind edition more c → IsLawful c
    lawful b = subst IsLawful b.made (by b.read)
      where
        by : AreRead edition opening b.s (whole_lines more) → IsLawful (record { classes = b.s.classes; routers = b.s.routers })
        by read =
            let long : length (whole_lines more) ≡ min (length more - 1) (length more) = length-take (length more - 1) more in
            reading_lawful b.s read.keeps b.none (omega (arith, read.few, long, short))

no_lines : (edition : Edition) (c : PlainConfig) → in_lines edition [] ≡ Ok c → ⊥
unfolding in_lines
no_lines edition c h = cc

-- what is read is spelled so
pub read_is_spelled : (edition : Edition) (bytes : List ℕ) (c : PlainConfig) → length bytes < 4294967295 → spelled_in edition bytes ≡ Ok c → SpellsIn edition bytes c
read_is_spelled edition bytes c short h = by (lines_of bytes) refl h
  where
    by : (ps : List (List ℕ)) → lines_of bytes ≡ ps → in_lines edition ps ≡ Ok c → SpellsIn edition bytes c
    by [] e k = absurd (no_lines edition c k)
    by (first ∷ more) e k =
        let back = lines_spell edition first more c (few_lines bytes first more 4294967295 e short) k in
        record { lawful = back.1; fits = back.2; written = sym (join_with_byte-slice_split 10 bytes) ∙ ap (join_with_byte 10) e ∙ back.0 }

-- what comes back is spelled so
pub what_is_read : (edition : Edition) (bytes : List ℕ) (r : Result PlainConfig ConfigFault) → length bytes < 4294967295
    → GivesUnless fault.NoMemory (λ c. c) r (spelled_in edition bytes) → IfOk r (λ c. SpellsIn edition bytes c)
what_is_read edition bytes (Ok c) short h = read_is_spelled edition bytes c short h
what_is_read edition bytes (Err e) short h = tt
