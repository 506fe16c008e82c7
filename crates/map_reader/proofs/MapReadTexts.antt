-- A maps text that is read is that of its maps, which are lawful.
use Rattle.std.proofs.Common.{◌≡◌, ℕ, ◌+◌, ◌-◌, ◌<◌, ◌≤◌, ◌^◌, List, [], ◌∷◌, ◌++◌, length, map, min, Option, None, Ok, refl, sym, ◌∙◌, ap, ap₂, subst, arith, append-nil, append_assoc}
use Rattle.std.specs.Prelude.{◌≢◌, ◌&&◌, ◌==◌, not, is_none, Result, Err, IfOk}
use Rattle.std.specs.List.{join_with_byte, flat_map, AllByRecursion}
use Rattle.std.specs.Str.{bytes_eq}
use Rattle.std.proofs.lemmas.Bool.{and_parts, eqb-true, eqb-false, not-true}
use Rattle.std.proofs.lemmas.List.Splits.{join_with_byte-slice_split}
use Rattle.std.proofs.lemmas.List.{length-take, nil_from_length}
use Rattle.std.proofs.lemmas.Slice.Eq.{bytes_eq-Decides}
use Rattle.list_law.proofs.Options.{is_none_parts}
use Rattle.net_base.specs.Gives.{GivesUnless}
use Rattle.net_base.specs.Steps.{unless}
use Rattle.net_base.proofs.StepLemmas.{bind_ok, unless_ok, ok_same}
use Rattle.config_base.specs.Configs.{IsRouter}
use Rattle.config_text.specs.ConfigLines.{lines_of_router}
use Rattle.config_reader.specs.declared.reading.OpenRouter.{OpenRouter}
use Rattle.config_reader.proofs.Lawful.{reading_lawful}
use Rattle.config_reader.proofs.SoFar.{open_lines}
use Rattle.config_lines.specs.LineLines.{lines_of, whole_lines, last_line}
use Rattle.config_lines.proofs.CutLines.{few_lines}
use Rattle.config_lines.proofs.FedLines.{fed_lines, fed_texts, join_front}
use Rattle.config_lines.proofs.WholeLines.{last_split}
use Rattle.route_maps.specs.Maps.{PlainMaps}
use Rattle.route_map_text.specs.declared.line.MapLine.{MapLine}
use Rattle.route_map_text.specs.MapLineText.{map_line_text}
use Rattle.route_map_text.proofs.MapForms.{map_lines_written}
use Rattle.route_map_text.specs.MapsLines.{lines_of_lists, map_lines, fed, first_line, maps_text}
use Rattle.route_map_text.specs.MapsSpelled.{IsLawful, Spells}
use Rattle.config_reader.specs.declared.fault.ConfigFault.{ConfigFault}
use Rattle.config_reader.specs.declared.fault.ConfigFault.TheVariants as fault
use Rattle.map_reader.specs.declared.reading.MapsReading.{MapsReading}
use Rattle.map_reader.specs.MapsReading.{opening}
use Rattle.map_reader.specs.MapsRead.{with_line, with_lines, finished, behind_heading, in_lines, spelled}
use Rattle.map_reader.proofs.MapSteps.{with_line_ok, with_line-lists}
use Rattle.map_reader.proofs.MapSoFar.{maps_so_far, AreKept, opening_kept, after_added, line_numbered}
use Rattle.map_reader.proofs.Numbering.{none, number_from, routers_numbered}

-- the lines that were read, one after another
pub record AreRead (r s : MapsReading) (texts : List (List ℕ)) : Type 0 where
  pub ls : List MapLine
  pub written : map map_line_text ls ≡ texts
  pub more : maps_so_far s ≡ maps_so_far r ++ ls
  pub kept : AreKept s
  pub few : length s.lists ≤ length r.lists + length texts

pub lines_back : (n : ℕ) (r s : MapsReading) (texts : List (List ℕ)) → AreKept r → with_lines n r texts ≡ Ok s → AreRead r s texts
lines_back n r s [] k h =
    let same : r ≡ s = ok_same r s h in
    record { ls = []; written = refl; more = ap maps_so_far (sym same) ∙ sym (append-nil (maps_so_far r)); kept = subst AreKept same k; few = rw (← same) (omega arith) }
lines_back n r s (t ∷ ts) k h =
    let b = bind_ok (with_line n r t) _ s h in
    let l = with_line_ok n r b.0 t b.1 in
    let w = map_lines_written t (length r.lists) l.0 l.1 (line_numbered r b.0 l.0 l.2) in
    let a = after_added r b.0 l.0 k w.1 l.2 in
    let count = with_line-lists n r b.0 t b.1 in
    let rest = lines_back (n + 1) b.0 s ts a.kept b.2 in
    record {
      ls = l.0 ∷ rest.ls;
      written = ap₂ (λ (x : List ℕ) (xs : List (List ℕ)). x ∷ xs) (sym w.0) rest.written;
      more = rest.more ∙ ap (λ (x : List MapLine). x ++ rest.ls) a.more ∙ append_assoc (maps_so_far r) (l.0 ∷ []) rest.ls;
      kept = rest.kept;
      few = omega (arith, rest.few, count.1);
    }

finished_ok : (r : MapsReading) (rest : List ℕ) (m : PlainMaps) → finished r rest ≡ Ok m
    → (r.blocks.opened ≡ None) × (rest ≡ []) × ((let d : PlainMaps = record { lists = r.lists; routers = r.blocks.routers } in d) ≡ m)
unfolding finished
finished_ok r rest m h =
    let a = bind_ok (unless fault.Unfinished (is_none r.blocks.opened && length rest == 0)) _ m h in
    let both = and_parts (is_none r.blocks.opened) (length rest == 0) (unless_ok fault.Unfinished _ a.0 a.1) in
    (is_none_parts r.blocks.opened both.0, nil_from_length rest (eqb-true (length rest) 0 both.1), ok_same _ m a.2)

-- behind the first line
record IsBehind (more : List (List ℕ)) (m : PlainMaps) : Type 0 where
  s : MapsReading
  read : AreRead opening s (whole_lines more)
  none_open : s.blocks.opened ≡ None
  rest : last_line more ≡ []
  made : (let d : PlainMaps = record { lists = s.lists; routers = s.blocks.routers } in d) ≡ m

behind_back : (more : List (List ℕ)) (m : PlainMaps) → behind_heading more ≡ Ok m → IsBehind more m
unfolding behind_heading
behind_back more m h =
    let s = bind_ok (with_lines 2 opening (whole_lines more)) _ m h in
    let f = finished_ok s.0 (last_line more) m s.2 in
    record { s = s.0; read = lines_back 2 opening s.0 (whole_lines more) opening_kept s.1; none_open = f.0; rest = f.1; made = f.2 }

-- the lines that were read are those of the maps
behind_lines : (more : List (List ℕ)) (m : PlainMaps) (b : IsBehind more m) → b.read.ls ≡ map_lines (record { lists = b.s.lists; routers = b.s.blocks.routers })
behind_lines more m b =
    sym b.read.more
    ∙ ap (λ (x : Option OpenRouter). lines_of_lists 1 b.s.lists ++ number_from none (flat_map lines_of_router b.s.blocks.routers ++ open_lines x)) b.none_open
    ∙ ap (λ x. lines_of_lists 1 b.s.lists ++ number_from none x) (append-nil (flat_map lines_of_router b.s.blocks.routers))
    ∙ ap (λ (ls : List MapLine). lines_of_lists 1 b.s.lists ++ ls) (routers_numbered none b.s.blocks.routers)

-- the text behind the first line
behind_text : (more : List (List ℕ)) (m : PlainMaps) → length more ≢ 0 → IsBehind more m → join_with_byte 10 (first_line ∷ more) ≡ maps_text m
behind_text more m some b =
    let ts : List (List ℕ) = whole_lines more in
    let split : more ≡ ts ++ [] ∷ [] = last_split more some ∙ ap (λ (x : List ℕ). ts ++ x ∷ []) b.rest in
    let feeds : List (List ℕ) → List ℕ = flat_map (λ (t : List ℕ). t ++ 10 ∷ []) in
    let d : PlainMaps = record { lists = b.s.lists; routers = b.s.blocks.routers } in
    ap (λ (x : List (List ℕ)). join_with_byte 10 (first_line ∷ x)) split
    ∙ join_front first_line [] ts
    ∙ ap (λ (x : List ℕ). first_line ++ (10 ∷ x)) (fed_lines ts ∙ ap feeds (sym b.read.written) ∙ sym (fed_texts map_line_text b.read.ls) ∙ ap (flat_map fed) (behind_lines more m b))
    ∙ sym (append_assoc first_line (10 ∷ []) (flat_map fed (map_lines d)))
    ∙ ap maps_text b.made

maps_lawful : (s : MapsReading) → AreKept s → s.blocks.opened ≡ None → length s.lists < 2 ^ 32 → IsLawful (record { lists = s.lists; routers = s.blocks.routers })
maps_lawful s k none_open few =
    let c = reading_lawful s.blocks k.blocks none_open (omega (arith, few, k.same)) in
    record {
      rules = record {
        count = few;
        lines = k.filled;
        routers = subst (λ n. AllByRecursion (IsRouter n) s.blocks.routers) k.same c.rules.routers;
        names = c.rules.names;
        asns = c.rules.asns;
        ids = c.rules.ids;
      };
      patterns = k.patterns;
      routers = c.routers;
    }

pub behind_lawful : (more : List (List ℕ)) (s : MapsReading) → length more < 4294967295 → with_lines 2 opening (whole_lines more) ≡ Ok s
    → s.blocks.opened ≡ None → IsLawful (record { lists = s.lists; routers = s.blocks.routers })
behind_lawful more s short h none_open =
    let read = lines_back 2 opening s (whole_lines more) opening_kept h in
    let long : length (whole_lines more) ≡ min (length more - 1) (length more) = length-take (length more - 1) more in
    maps_lawful s read.kept none_open (omega (arith, read.few, long, short))

lines_spell : (first : List ℕ) (more : List (List ℕ)) (m : PlainMaps) → length more < 4294967295 → in_lines (first ∷ more) ≡ Ok m → (join_with_byte 10 (first ∷ more) ≡ maps_text m) × IsLawful m
unfolding in_lines
lines_spell first more m short h =
    let a = bind_ok (unless fault.Version (not (length more == 0) && bytes_eq first first_line)) _ m h in
    let both = and_parts (not (length more == 0)) (bytes_eq first first_line) (unless_ok fault.Version _ a.0 a.1) in
    let some = eqb-false (length more) 0 (not-true (length more == 0) both.0) in
    let head : first ≡ first_line = (bytes_eq-Decides first first_line).0 both.1 in
    let b = behind_back more m a.2 in
    let long : length (whole_lines more) ≡ min (length more - 1) (length more) = length-take (length more - 1) more in
    (ap (λ (x : List ℕ). join_with_byte 10 (x ∷ more)) head ∙ behind_text more m some b, subst IsLawful b.made (maps_lawful b.s b.read.kept b.none_open (omega (arith, b.read.few, long, short))))

no_lines : (m : PlainMaps) → in_lines [] ≡ Ok m → ⊥
unfolding in_lines
no_lines m h = cc

-- what is read is spelled so
pub read_is_spelled : (bytes : List ℕ) (m : PlainMaps) → length bytes < 4294967295 → spelled bytes ≡ Ok m → Spells bytes m
read_is_spelled bytes m short h = by (lines_of bytes) refl h
  where
    by : (ps : List (List ℕ)) → lines_of bytes ≡ ps → in_lines ps ≡ Ok m → Spells bytes m
    by [] e k = absurd (no_lines m k)
    by (first ∷ more) e k =
        let back = lines_spell first more m (few_lines bytes first more 4294967295 e short) k in
        record { lawful = back.1; written = sym (join_with_byte-slice_split 10 bytes) ∙ ap (join_with_byte 10) e ∙ back.0 }

-- what comes back is spelled so
pub what_is_read : (bytes : List ℕ) (r : Result PlainMaps ConfigFault) → length bytes < 4294967295 → GivesUnless fault.NoMemory (λ m. m) r (spelled bytes) → IfOk r (λ m. Spells bytes m)
what_is_read bytes (Ok m) short h = read_is_spelled bytes m short h
what_is_read bytes (Err e) short h = tt
