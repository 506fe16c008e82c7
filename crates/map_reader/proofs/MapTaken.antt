-- The text of lawful maps is read.
use Rattle.std.proofs.Common.{◌≡◌, ℕ, ◌+◌, ◌*◌, ◌<◌, ◌≤◌, ◌^◌, List, [], ◌∷◌, ◌++◌, length, map, true, false, Some, None, Result, Ok, refl, sym, ◌∙◌, ap, subst, arith}
use Rattle.std.proofs.Common.{append-nil, append_assoc, length-append}
use Rattle.std.specs.Prelude.{◌≢◌, ◌==◌, nat_lt, codes}
use Rattle.std.specs.List.{flat_map, AllByRecursion}
use Rattle.std.proofs.lemmas.Bool.{ne_eqb, eq-eqb, lt-ltb}
use Rattle.std.proofs.lemmas.List.{map-append}
use Rattle.std.proofs.lemmas.List.Concat.{flat_map-append}
use Rattle.list_law.proofs.Each.{AllByRecursion-append, AllByRecursion-append_parts, AllByRecursion-weaker, AllByRecursion-both}
use Rattle.net_base.specs.Gives.{GivesUnless}
use Rattle.net_base.specs.Prefixes.{PlainPattern}
use Rattle.net_base.specs.Steps.{◌>>=◌, unless}
use Rattle.net_base.proofs.StepLemmas.{bind_ok, ok_same}
use Rattle.text_parts.proofs.PrefixTexts.{have_no}
use Rattle.config_base.specs.Configs.{PlainConfig, IsRouter}
use Rattle.config_lines.specs.declared.edition.Edition.TheVariants.{Second}
use Rattle.config_lines.specs.declared.line.Line.{Line}
use Rattle.config_lines.specs.declared.line.Line.TheVariants as line
use Rattle.config_lines.specs.LineText.{IsLine}
use Rattle.config_text.specs.ConfigLines.{lines_of_classes, lines_of_router}
use Rattle.config_text.specs.Spelled.{ArePatterns, IsLawful as IsLawfulConfig}
use Rattle.config_text.proofs.LawfulLines.{lawful_lines}
use Rattle.config_reader.specs.declared.reading.Reading.{Reading}
use Rattle.config_reader.specs.declared.reading.Misplaced.{Misplaced}
use Rattle.config_reader.specs.declared.reading.Misplaced.TheVariants.{Order}
use Rattle.config_reader.specs.Reading.{after}
use Rattle.config_reader.proofs.Runs.{run, at, class_step, run_routers}
use Rattle.config_reader.proofs.TakenTexts.{IsOther, flat_other, router_other}
use Rattle.config_lines.specs.LineLines.{lines_of}
use Rattle.config_lines.proofs.FedLines.{cut_lines}
use Rattle.config_lines.proofs.LineByLine.{line_by_line-append}
use Rattle.config_lines.proofs.Runs.{run as run_by, run_step, run_append, run_taken}
use Rattle.config_lines.proofs.WholeLines.{whole_push}
use Rattle.route_maps.specs.declared.maps.ListLine.{ListLine}
use Rattle.route_maps.specs.Maps.{PlainMaps}
use Rattle.route_map_text.specs.declared.line.MapLine.{MapLine}
use Rattle.route_map_text.specs.declared.line.MapLine.TheVariants as written
use Rattle.route_map_text.specs.MapLines.{map_line_of}
use Rattle.route_map_text.specs.MapLineText.{map_line_text, IsMapLine}
use Rattle.route_map_text.proofs.MapWritten.{IsMapReadAgain, list_there, map_lines_read}
use Rattle.route_map_text.specs.MapsLines.{lines_of_list, lines_of_lists, map_lines, fed, first_line, maps_text, lines_of_router as map_lines_of_router}
use Rattle.route_map_text.specs.MapsSpelled.{HavePatterns, IsLawful, Spells}
use Rattle.config_reader.specs.declared.fault.ConfigFault.{ConfigFault}
use Rattle.map_reader.specs.declared.reading.MapsReading.{MapsReading}
use Rattle.config_reader.specs.declared.fault.ConfigFault.TheVariants.{NoMemory}
use Rattle.map_reader.specs.MapsReading.{opening, on_last, with_list, in_blocks, with_entry, is_out, entries_of, is_number_of, after_map}
use Rattle.map_reader.specs.MapsRead.{with_line, with_lines, finished, behind_heading, in_lines, spelled}
use Rattle.map_reader.proofs.Bounds.{weight, weight_below, numbered_are}
use Rattle.map_reader.proofs.MapSteps.{made, block_ok, entry_ok, on_last_push}
use Rattle.map_reader.proofs.Numbering.{Counts, none, step, number_line, number_from, routers_numbered, counts, counts-after}

-- ---- the classes that stand for lists

abbrev first_pattern : List ListLine → List PlainPattern
first_pattern [] = []
first_pattern (l ∷ ls) = l.pattern ∷ []

abbrev firsts : List (List ListLine) → List (List PlainPattern)
firsts [] = []
firsts (x ∷ xs) = first_pattern x ∷ firsts xs

length-firsts : (xs : List (List ListLine)) → length (firsts xs) ≡ length xs
length-firsts [] = refl
length-firsts (x ∷ xs) = let h = length-firsts xs in omega (arith, h)

firsts-append : (xs ys : List (List ListLine)) → firsts (xs ++ ys) ≡ firsts xs ++ firsts ys
firsts-append [] ys = refl
firsts-append (x ∷ xs) ys = ap (λ (ps : List (List PlainPattern)). first_pattern x ∷ ps) (firsts-append xs ys)

-- ---- lines one after another

abbrev run_map : MapsReading → List MapLine → Result MapsReading Misplaced
run_map = run_by after_map

ok_map : (r s : MapsReading) → r ≡ s → (let o : Result MapsReading Misplaced = Ok r in o) ≡ Ok s
ok_map r s e = ap (λ (q : MapsReading). let o : Result MapsReading Misplaced = Ok q in o) e

abbrev listed : List (List ListLine) → List (List PlainPattern) → MapsReading
listed lists cs = made lists (at cs [] None)

-- ---- lists

list_first : (done : List (List ListLine)) (l : ListLine)
    → after_map (listed done (firsts done)) (written.List (Some (length done + 1)) l) ≡ Ok (listed (done ++ (l ∷ []) ∷ []) (firsts done ++ (l.pattern ∷ []) ∷ []))
unfolding with_list
list_first done l =
    let off : (length done + 1 == length done) ≡ false = ne_eqb (length done + 1) (length done) (λ e. omega (arith, e)) in
    let c : after (at (firsts done) [] None) (line.Class (Some (length done + 1)) (l.pattern ∷ [])) ≡ Ok (at (firsts done ++ (l.pattern ∷ []) ∷ []) [] None) =
    ap (λ n. after (at (firsts done) [] None) (line.Class (Some (n + 1)) (l.pattern ∷ []))) (sym (length-firsts done)) ∙ class_step (firsts done) (l.pattern ∷ []) in
    rw off (ap (λ (o : Result Reading Misplaced). o >>= (λ b. Ok (made (done ++ (l ∷ []) ∷ []) b))) c)

list_more : (done : List (List ListLine)) (x : List ListLine) (cs : List (List PlainPattern)) (l : ListLine)
    → after_map (listed (done ++ x ∷ []) cs) (written.List (Some (length done + 1)) l) ≡ Ok (listed (done ++ (x ++ l ∷ []) ∷ []) cs)
unfolding with_list
list_more done x cs l =
    let long : length done + 1 ≡ length (done ++ x ∷ []) = sym (length-append done (x ∷ [])) in
    let on : (length done + 1 == length (done ++ x ∷ [])) ≡ true = eq-eqb (length done + 1) (length (done ++ x ∷ [])) long in
    let some : nat_lt 0 (length done + 1) ≡ true = lt-ltb 0 (length done + 1) (omega arith) in
    rw (on, some) (ok_map (listed (on_last (done ++ x ∷ []) l) cs) (listed (done ++ (x ++ l ∷ []) ∷ []) cs) (ap (λ (ls : List (List ListLine)). listed ls cs) (on_last_push done x l)))

run_list : (done : List (List ListLine)) (x ls : List ListLine) (cs : List (List PlainPattern))
    → run_map (listed (done ++ x ∷ []) cs) (lines_of_list (length done + 1) ls) ≡ Ok (listed (done ++ (x ++ ls) ∷ []) cs)
run_list done x [] cs = ok_map (listed (done ++ x ∷ []) cs) (listed (done ++ (x ++ []) ∷ []) cs) (ap (λ (y : List ListLine). listed (done ++ y ∷ []) cs) (sym (append-nil x)))
run_list done x (l ∷ ls) cs =
    run_step after_map (listed (done ++ x ∷ []) cs) (listed (done ++ (x ++ l ∷ []) ∷ []) cs) (listed (done ++ (x ++ l ∷ ls) ∷ []) cs)
    (written.List (Some (length done + 1)) l) (lines_of_list (length done + 1) ls) (list_more done x cs l)
    (run_list done (x ++ l ∷ []) ls cs
    ∙ ok_map (listed (done ++ ((x ++ l ∷ []) ++ ls) ∷ []) cs) (listed (done ++ (x ++ l ∷ ls) ∷ []) cs) (ap (λ (y : List ListLine). listed (done ++ y ∷ []) cs) (append_assoc x (l ∷ []) ls)))

run_lists : (done lists : List (List ListLine)) → AllByRecursion (λ (ls : List ListLine). ls ≢ []) lists
    → run_map (listed done (firsts done)) (lines_of_lists (length done + 1) lists) ≡ Ok (listed (done ++ lists) (firsts (done ++ lists)))
run_lists done [] all = ok_map (listed done (firsts done)) (listed (done ++ []) (firsts (done ++ []))) (ap (λ (ls : List (List ListLine)). listed ls (firsts ls)) (sym (append-nil done)))
run_lists done ([] ∷ lists) all = absurd (all.0 refl)
run_lists done ((l ∷ ls) ∷ lists) all =
    let next : List (List ListLine) = done ++ (l ∷ ls) ∷ [] in
    let cs : firsts done ++ (l.pattern ∷ []) ∷ [] ≡ firsts next = sym (firsts-append done ((l ∷ ls) ∷ [])) in
    let number : length done + 1 + 1 ≡ length next + 1 = omega (arith, length-append done ((l ∷ ls) ∷ [])) in
    run_append after_map (listed done (firsts done)) (listed next (firsts next))
    (listed (done ++ (l ∷ ls) ∷ lists) (firsts (done ++ (l ∷ ls) ∷ lists))) (lines_of_list (length done + 1) (l ∷ ls))
    (lines_of_lists (length done + 1 + 1) lists)
    (run_step after_map (listed done (firsts done)) (listed (done ++ (l ∷ []) ∷ []) (firsts done ++ (l.pattern ∷ []) ∷ []))
    (listed next (firsts next)) (written.List (Some (length done + 1)) l) (lines_of_list (length done + 1) ls) (list_first done l)
    (run_list done (l ∷ []) ls (firsts done ++ (l.pattern ∷ []) ∷ []) ∙ ok_map (listed next (firsts done ++ (l.pattern ∷ []) ∷ [])) (listed next (firsts next)) (ap (listed next) cs)))
    (ap (λ n. run_map (listed next (firsts next)) (lines_of_lists n lists)) number
    ∙ run_lists next lists all.1
    ∙ ok_map (listed (next ++ lists) (firsts (next ++ lists))) (listed (done ++ (l ∷ ls) ∷ lists) (firsts (done ++ (l ∷ ls) ∷ lists)))
    (ap (λ (xs : List (List ListLine)). listed xs (firsts xs)) (append_assoc done ((l ∷ ls) ∷ []) lists)))

-- ---- blocks

block_taken : (lists : List (List ListLine)) (b d : Reading) (l : Line) → after b l ≡ Ok d → in_blocks (made lists b) l ≡ Ok (made lists d)
unfolding in_blocks
block_taken lists b d l h = ap (λ (o : Result Reading Misplaced). o >>= (λ q. Ok (made lists q))) h

entry_taken : (lists : List (List ListLine)) (b d : Reading) (l : Line) (n : ℕ) → after b l ≡ Ok d → entries_of (is_out l) d ≡ n → with_entry (made lists b) (Some (10 * n)) l ≡ Ok (made lists d)
unfolding with_entry
entry_taken lists b d l n h e =
    let on : is_number_of (Some (10 * n)) (entries_of (is_out l) d) ≡ true = eq-eqb (10 * n) (10 * entries_of (is_out l) d) (ap (λ m. 10 * m) (sym e)) in
    ap (λ (o : Result MapsReading Misplaced). o >>= (λ next. unless Order (is_number_of (Some (10 * n)) (entries_of (is_out l) next.blocks)) >>= (λ _. Ok next))) (block_taken lists b d l h)
    ∙ rw on refl

numbered_taken : (lists : List (List ListLine)) (b d : Reading) (l : Line) → IsOther l → after b l ≡ Ok d → after_map (made lists b) (number_line (counts b) l) ≡ Ok (made lists d)
numbered_taken lists b d (line.Import r) is h = entry_taken lists b d (line.Import r) ((counts b).ins + 1) h (ap (λ (c : Counts). c.ins) (counts-after b d (line.Import r) is h))
numbered_taken lists b d (line.PeerImport r) is h = entry_taken lists b d (line.PeerImport r) ((counts b).ins + 1) h (ap (λ (c : Counts). c.ins) (counts-after b d (line.PeerImport r) is h))
numbered_taken lists b d (line.Export e) is h = entry_taken lists b d (line.Export e) ((counts b).outs + 1) h (ap (λ (c : Counts). c.outs) (counts-after b d (line.Export e) is h))
numbered_taken lists b d (line.Class n ps) is h = absurd is
numbered_taken lists b d (line.Router name asn id) is h = block_taken lists b d (line.Router name asn id) h
numbered_taken lists b d (line.Origination o) is h = block_taken lists b d (line.Origination o) h
numbered_taken lists b d (line.Session name asn) is h = block_taken lists b d (line.Session name asn) h
numbered_taken lists b d (line.Peer name asn) is h = block_taken lists b d (line.Peer name asn) h
numbered_taken lists b d line.End is h = block_taken lists b d line.End h

run_numbered : (lists : List (List ListLine)) (b t : Reading) (ls : List Line) → AllByRecursion IsOther ls → run b ls ≡ Ok t → run_map (made lists b) (number_from (counts b) ls) ≡ Ok (made lists t)
run_numbered lists b t [] other h = ok_map (made lists b) (made lists t) (ap (made lists) (ok_same b t h))
run_numbered lists b t (l ∷ ls) other h =
    let d = bind_ok (after b l) (λ q. run q ls) t h in
    run_step after_map (made lists b) (made lists d.0) (made lists t) (number_line (counts b) l) (number_from (step (counts b) l) ls) (numbered_taken lists b d.0 l other.0 d.1)
    (ap (λ (c : Counts). run_map (made lists d.0) (number_from c ls)) (sym (counts-after b d.0 l other.0 d.1)) ∙ run_numbered lists d.0 t ls other.1 d.2)

-- ---- the text of a line that is read where it stands, and is taken

line_taken : (n : ℕ) (r s : MapsReading) (l : MapLine) → map_line_of (map_line_text l) (length r.lists) ≡ Ok l → after_map r l ≡ Ok s → with_line n r (map_line_text l) ≡ Ok s
unfolding with_line
line_taken n r s l h k = rw (h, k) refl

-- ---- what the lines keep

-- a line of a list, whatever stands above it
abbrev IsListRead : MapLine → Type 0
IsListRead l = (k : ℕ) → IsMapReadAgain k l

list_reads : (n : ℕ) (ls : List ListLine) → n < 2 ^ 32 → HavePatterns ls → AllByRecursion IsListRead (lines_of_list n ls)
list_reads n [] low all = tt
list_reads n (l ∷ ls) low all = (λ k. list_there k n l low all.0, list_reads n ls low all.1)

lists_reads : (n : ℕ) (lists : List (List ListLine)) → n + length lists ≤ 2 ^ 32 → AllByRecursion HavePatterns lists → AllByRecursion IsListRead (lines_of_lists n lists)
lists_reads n [] few all = tt
lists_reads n (x ∷ xs) few all =
    AllByRecursion-append IsListRead (lines_of_list n x) (lines_of_lists (n + 1) xs) (list_reads n x (omega (arith, few)) all.0)
    (lists_reads (n + 1) xs (omega (arith, few)) all.1)

-- the configuration with the classes that stand for the lists
firsts_some : (xs : List (List ListLine)) → AllByRecursion (λ (ls : List ListLine). ls ≢ []) xs → AllByRecursion (λ (ps : List PlainPattern). ps ≢ []) (firsts xs)
firsts_some [] all = tt
firsts_some ([] ∷ xs) all = absurd (all.0 refl)
firsts_some ((l ∷ ls) ∷ xs) all = ((λ (e : l.pattern ∷ [] ≡ []). absurd cc), firsts_some xs all.1)

firsts_are : (xs : List (List ListLine)) → AllByRecursion HavePatterns xs → AllByRecursion ArePatterns (firsts xs)
firsts_are [] all = tt
firsts_are ([] ∷ xs) all = (tt, firsts_are xs all.1)
firsts_are ((l ∷ ls) ∷ xs) all = ((all.0.0, tt), firsts_are xs all.1)

abbrev as_config : PlainMaps → PlainConfig
as_config m = record { classes = firsts m.lists; routers = m.routers }

config_lawful : (m : PlainMaps) → IsLawful m → IsLawfulConfig (as_config m)
config_lawful m is = record {
  rules = record {
    count = omega (arith, length-firsts m.lists, is.rules.count);
    patterns = firsts_some m.lists is.rules.lines;
    routers = subst (λ n. AllByRecursion (IsRouter n) m.routers) (sym (length-firsts m.lists)) is.rules.routers;
    names = is.rules.names;
    asns = is.rules.asns;
    ids = is.rules.ids;
  };
  patterns = firsts_are m.lists is.patterns;
  routers = is.routers;
}

block_lines : (m : PlainMaps) → IsLawful m → AllByRecursion (IsLine Second (length m.lists)) (flat_map lines_of_router m.routers)
block_lines m is =
    let all = lawful_lines (as_config m) (config_lawful m is) in
    subst (λ n. AllByRecursion (IsLine Second n) (flat_map lines_of_router m.routers)) (length-firsts m.lists)
    (AllByRecursion-append_parts (IsLine Second (length (firsts m.lists))) (lines_of_classes 1 (firsts m.lists)) (flat_map lines_of_router m.routers) all).1

behind : (a b : List ℕ) → length b ≤ length (a ++ b)
behind a b = let e = length-append a b in omega (arith, e)

-- the lines of blocks keep their rules where the text is short
map_block_lines : (m : PlainMaps) → IsLawful m → length (maps_text m) < 2 ^ 32 → AllByRecursion (IsMapLine (length m.lists)) (flat_map map_lines_of_router m.routers)
map_block_lines m is short =
    let ls : List Line = flat_map lines_of_router m.routers in
    let w = weight_below none ls in
    let same : number_from none ls ≡ flat_map map_lines_of_router m.routers = routers_numbered none m.routers in
    let inner : length (flat_map fed (flat_map map_lines_of_router m.routers)) ≤ length (flat_map fed (map_lines m)) =
    subst (λ (t : List ℕ). length (flat_map fed (flat_map map_lines_of_router m.routers)) ≤ length t)
    (sym (flat_map-append fed (lines_of_lists 1 m.lists) (flat_map map_lines_of_router m.routers)))
    (behind (flat_map fed (lines_of_lists 1 m.lists)) (flat_map fed (flat_map map_lines_of_router m.routers))) in
    let outer : length (flat_map fed (map_lines m)) ≤ length (maps_text m) = behind (first_line ++ codes "\n") (flat_map fed (map_lines m)) in
    let low : weight ls < 2 ^ 32 = omega (arith, ap (λ (xs : List MapLine). length (flat_map fed xs)) same, w, inner, outer, short) in
    subst (AllByRecursion (IsMapLine (length m.lists))) same
    (numbered_are (length m.lists) (weight ls) low none ls (omega arith) (omega arith) (block_lines m is) (flat_other lines_of_router router_other m.routers))

-- ---- the whole text

-- a line that is none of a list
abbrev IsNoList : MapLine → Type 0
IsNoList (written.List number l) = ⊥
IsNoList (written.Entry number l) = Unit {0}
IsNoList (written.Block l) = Unit {0}

kept_lists : (r s : MapsReading) (l : MapLine) (lists : List (List ListLine)) → r.lists ≡ lists → IsNoList l → after_map r l ≡ Ok s → s.lists ≡ lists
kept_lists r s (written.List number l) lists e is h = absurd is
kept_lists r s (written.Entry number l) lists e is h = let b = block_ok r s l (entry_ok r s number l h).0 in ap (λ (q : MapsReading). q.lists) (sym b.2) ∙ e
kept_lists r s (written.Block l) lists e is h = let b = block_ok r s l h in ap (λ (q : MapsReading). q.lists) (sym b.2) ∙ e

numbered_no_list : (k : Counts) (ls : List Line) → AllByRecursion IsNoList (number_from k ls)
numbered_no_list k [] = tt
numbered_no_list k (l ∷ ls) = (by l, numbered_no_list (step k l) ls)
  where
    by : (l : Line) → IsNoList (number_line k l)
    by (line.Import r) = tt
    by (line.PeerImport r) = tt
    by (line.Export e) = tt
    by _ = tt

maps_taken : (m : PlainMaps) → IsLawful m → length (maps_text m) < 2 ^ 32 → with_lines 2 opening (map map_line_text (map_lines m)) ≡ Ok (made m.lists (at (firsts m.lists) m.routers None))
maps_taken m is short =
    let lists : List MapLine = lines_of_lists 1 m.lists in
    let blocks : List MapLine = flat_map map_lines_of_router m.routers in
    let ls : List Line = flat_map lines_of_router m.routers in
    let count : ℕ = length m.lists in
    let same : number_from none ls ≡ blocks = routers_numbered none m.routers in
    let are = map_block_lines m is short in
    let none_lists : AllByRecursion IsNoList blocks = subst (AllByRecursion IsNoList) same (numbered_no_list none ls) in
    let ran : run_map (made m.lists (at (firsts m.lists) [] None)) blocks ≡ Ok (made m.lists (at (firsts m.lists) m.routers None)) =
    ap (run_map (made m.lists (at (firsts m.lists) [] None))) (sym same)
    ∙ run_numbered m.lists (at (firsts m.lists) [] None) (at (firsts m.lists) m.routers None) ls (flat_other lines_of_router router_other m.routers)
    (run_routers count (firsts m.lists) [] m.routers (record { names = is.rules.names; asns = is.rules.asns; ids = is.rules.ids }) is.rules.routers) in
    ap (with_lines 2 opening) (map-append map_line_text lists blocks)
    ∙ line_by_line-append with_line 2 opening (listed m.lists (firsts m.lists)) (made m.lists (at (firsts m.lists) m.routers None)) (map map_line_text lists) (map map_line_text blocks)
    (run_taken after_map with_line map_line_text (λ _. Unit {0}) IsListRead (λ n r s l p q. line_taken n r s l (q (length r.lists)).0)
    (λ r s l p q h. tt) 2 opening (listed m.lists (firsts m.lists)) lists tt (lists_reads 1 m.lists (omega (arith, is.rules.count)) is.patterns)
    (run_lists [] m.lists is.rules.lines))
    (λ n. run_taken after_map with_line map_line_text (λ (r : MapsReading). r.lists ≡ m.lists) (λ l. IsMapLine count l × IsNoList l)
    (λ n r s l p q. line_taken n r s l (ap (λ (k : ℕ). map_line_of (map_line_text l) k) (ap length p) ∙ (map_lines_read count l is.rules.count q.0).0))
    (λ r s l p q h. kept_lists r s l m.lists p q.1 h)
    n (listed m.lists (firsts m.lists)) (made m.lists (at (firsts m.lists) m.routers None)) blocks refl
    (AllByRecursion-both (IsMapLine count) IsNoList (λ l. IsMapLine count l × IsNoList l) (λ l a b. (a, b)) blocks are none_lists) ran)

-- no line feed stands in a line
abbrev HasNoFeed : MapLine → Type 0
HasNoFeed l = have_no 10 (map_line_text l) ≡ true

no_feeds : (m : PlainMaps) → IsLawful m → length (maps_text m) < 2 ^ 32 → AllByRecursion HasNoFeed (map_lines m)
no_feeds m is short =
    AllByRecursion-append HasNoFeed (lines_of_lists 1 m.lists) (flat_map map_lines_of_router m.routers)
    (AllByRecursion-weaker IsListRead HasNoFeed (lines_of_lists 1 m.lists) (λ l q. (q 0).1) (lists_reads 1 m.lists (omega (arith, is.rules.count)) is.patterns))
    (AllByRecursion-weaker (IsMapLine (length m.lists)) HasNoFeed (flat_map map_lines_of_router m.routers) (λ l q. (map_lines_read (length m.lists) l is.rules.count q).1) (map_block_lines m is short))

-- a text that lawful maps have is read
pub spelled_is_read : (bytes : List ℕ) (m : PlainMaps) → length bytes < 4294967295 → Spells bytes m → spelled bytes ≡ Ok m
unfolding in_lines behind_heading finished
spelled_is_read bytes m short s =
    let ts : List (List ℕ) = map map_line_text (map_lines m) in
    let few : length (maps_text m) < 2 ^ 32 = omega (arith, short, ap length s.written) in
    let whole = whole_push ts [] in
    let cut : lines_of bytes ≡ first_line ∷ (ts ++ [] ∷ []) =
    ap lines_of (s.written ∙ append_assoc first_line (codes "\n") (flat_map fed (map_lines m))) ∙ cut_lines map_line_text first_line (map_lines m) refl (no_feeds m s.lawful few) in
    let long : length (ts ++ [] ∷ []) ≡ length ts + 1 = length-append ts ([] ∷ []) in
    let some : (length (ts ++ [] ∷ []) == 0) ≡ false = ne_eqb (length (ts ++ [] ∷ [])) 0 (λ e. omega (arith, e, long)) in
    ap in_lines cut ∙ rw (some, whole.0, whole.1, maps_taken m s.lawful few) refl

-- what comes back of such a text
pub what_is_spelled : (bytes : List ℕ) (m : PlainMaps) (r : Result PlainMaps ConfigFault) → length bytes < 4294967295 → Spells bytes m
    → GivesUnless NoMemory (λ n. n) r (spelled bytes) → GivesUnless NoMemory (λ n. n) r (Ok m)
what_is_spelled bytes m r short s h = subst (λ (o : Result PlainMaps ConfigFault). GivesUnless NoMemory (λ n. n) r o) (spelled_is_read bytes m short s) h
