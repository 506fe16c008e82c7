-- The lines of a maps text that were read so far, and what they keep.
use Rattle.std.proofs.Common.{◌≡◌, ℕ, ◌+◌, ◌*◌, ◌<◌, List, [], ◌∷◌, ◌++◌, length, true, false, Option, Some, None, Ok, inl, inr, refl, sym, ◌∙◌, ap, ap₂, subst, arith}
use Rattle.std.proofs.Common.{append-nil, append_assoc, length-append}
use Rattle.std.specs.Prelude.{◌≢◌, ◌&&◌, ◌==◌, nat_lt, is_none}
use Rattle.std.specs.List.{flat_map, AllByRecursion}
use Rattle.std.proofs.lemmas.Bool.{and_parts, eqb-true, ltb-true}
use Rattle.std.proofs.lemmas.List.{append_cancel_left, map-append, nil_from_length}
use Rattle.list_law.proofs.Each.{AllByRecursion-push}
use Rattle.list_law.proofs.Options.{is_none_parts}
use Rattle.net_base.specs.Prefixes.{PlainPattern}
use Rattle.config_base.specs.declared.config.RouterConfig.{RouterConfig}
use Rattle.config_lines.specs.declared.edition.Edition.TheVariants.{Second}
use Rattle.config_lines.specs.declared.line.Line.{Line}
use Rattle.config_lines.specs.declared.line.Line.TheVariants as line
use Rattle.config_lines.specs.LineText.{IsLine}
use Rattle.config_text.specs.ConfigLines.{lines_of_classes, lines_of_router}
use Rattle.config_reader.specs.declared.reading.OpenRouter.{OpenRouter}
use Rattle.config_reader.specs.declared.reading.Reading.{Reading}
use Rattle.config_reader.specs.Reading.{after}
use Rattle.config_reader.proofs.Lawful.{IsReading, after_keeps, opening_keeps}
use Rattle.config_reader.proofs.SoFar.{open_lines, after_adds, next_is}
use Rattle.config_reader.proofs.Steps.{class_ok}
use Rattle.config_reader.proofs.TakenTexts.{IsOther, same_classes}
use Rattle.route_maps.specs.declared.maps.ListLine.{ListLine}
use Rattle.route_map_text.specs.declared.line.MapLine.{MapLine}
use Rattle.route_map_text.specs.declared.line.MapLine.TheVariants as written
use Rattle.route_map_text.specs.MapLineText.{IsEntry, IsBlock, IsMapLine, IsNumbered}
use Rattle.route_map_text.specs.MapsLines.{lines_of_list, lines_of_lists}
use Rattle.route_map_text.specs.MapsSpelled.{HasPattern, HavePatterns}
use Rattle.map_reader.specs.declared.reading.MapsReading.{MapsReading}
use Rattle.map_reader.specs.MapsReading.{opening, continues, on_last, is_out, entries_of, is_number_of, after_map}
use Rattle.map_reader.proofs.MapSteps.{made, IsMore, IsNew, list_ok, block_ok, entry_ok, on_last_push, length-on_last}
use Rattle.map_reader.proofs.Numbering.{Counts, none, step, steps, number_line, number_from, steps-append, number_from-append, counts, counts-after}

-- ---- the last list

-- lists of which there is one
record IsLast (xs : List (List ListLine)) : Type 0 where
  front : List (List ListLine)
  last : List ListLine
  is : xs ≡ front ++ last ∷ []

last_of : (xs : List (List ListLine)) → 0 < length xs → IsLast xs
last_of [] some = absurd (omega (arith, some))
last_of (x ∷ []) some = record { front = []; last = x; is = refl }
last_of (x ∷ y ∷ xs) some =
    let rest = last_of (y ∷ xs) (omega arith) in
    record { front = x ∷ rest.front; last = rest.last; is = ap (λ (ls : List (List ListLine)). x ∷ ls) rest.is }

lines_of_lists-push : (n : ℕ) (xs : List (List ListLine)) (x : List ListLine) → lines_of_lists n (xs ++ x ∷ []) ≡ lines_of_lists n xs ++ lines_of_list (length xs + n) x
lines_of_lists-push n [] x = let e : 0 + n ≡ n = omega arith in append-nil (lines_of_list n x) ∙ ap (λ k. lines_of_list k x) (sym e)
lines_of_lists-push n (y ∷ xs) x =
    let e : length xs + (n + 1) ≡ length (y ∷ xs) + n = omega arith in
    ap (λ (ls : List MapLine). lines_of_list n y ++ ls) (lines_of_lists-push (n + 1) xs x ∙ ap (λ k. lines_of_lists (n + 1) xs ++ lines_of_list k x) e)
    ∙ sym (append_assoc (lines_of_list n y) (lines_of_lists (n + 1) xs) (lines_of_list (length (y ∷ xs) + n) x))

-- the last list with a line more
last_more : (xs : List (List ListLine)) (l : ListLine) → 0 < length xs → lines_of_lists 1 (on_last xs l) ≡ lines_of_lists 1 xs ++ written.List (Some (length xs)) l ∷ []
last_more xs l some =
    let last = last_of xs some in
    let n : length last.front + 1 ≡ length xs = sym (ap length last.is ∙ length-append last.front (last.last ∷ [])) in
    ap (λ (ls : List (List ListLine)). lines_of_lists 1 (on_last ls l)) last.is
    ∙ ap (lines_of_lists 1) (on_last_push last.front last.last l)
    ∙ lines_of_lists-push 1 last.front (last.last ++ l ∷ [])
    ∙ ap (λ (ls : List MapLine). lines_of_lists 1 last.front ++ ls) (map-append (written.List (Some (length last.front + 1))) last.last (l ∷ []))
    ∙ sym (append_assoc (lines_of_lists 1 last.front) (lines_of_list (length last.front + 1) last.last) (written.List (Some (length last.front + 1)) l ∷ []))
    ∙ ap (λ (ls : List MapLine). ls ++ written.List (Some (length last.front + 1)) l ∷ []) (sym (lines_of_lists-push 1 last.front last.last) ∙ ap (lines_of_lists 1) (sym last.is))
    ∙ ap (λ k. lines_of_lists 1 xs ++ written.List (Some k) l ∷ []) n

-- ---- what was read

abbrev pub blocks_so_far : Reading → List Line
blocks_so_far r = flat_map lines_of_router r.routers ++ open_lines r.opened

abbrev pub maps_so_far : MapsReading → List MapLine
maps_so_far r = lines_of_lists 1 r.lists ++ number_from none (blocks_so_far r.blocks)

pub record AreKept (r : MapsReading) : Type 0 where
  pub same : length r.blocks.classes ≡ length r.lists
  pub blocks : IsReading r.blocks
  pub filled : AllByRecursion (λ (lines : List ListLine). lines ≢ []) r.lists
  pub patterns : AllByRecursion HavePatterns r.lists
  pub counted : steps none (blocks_so_far r.blocks) ≡ counts r.blocks

pub opening_kept : AreKept opening
opening_kept = record { same = refl; blocks = opening_keeps; filled = tt; patterns = tt; counted = refl }

-- what a line adds
pub record IsAdded (r s : MapsReading) (l : MapLine) : Type 0 where
  pub kept : AreKept s
  pub more : maps_so_far s ≡ maps_so_far r ++ l ∷ []

-- ---- lines of lists

no_blocks : (b : Reading) → (is_none b.opened && length b.routers == 0) ≡ true → blocks_so_far b ≡ []
no_blocks b h =
    let both = and_parts (is_none b.opened) (length b.routers == 0) h in
    ap₂ (λ (rs : List RouterConfig) (x : Option OpenRouter). flat_map lines_of_router rs ++ open_lines x)
    (nil_from_length b.routers (eqb-true (length b.routers) 0 both.1)) (is_none_parts b.opened both.0)

-- the number of the last list, and no router yet
record IsLastNumber (number : Option ℕ) (lists : ℕ) (b : Reading) : Type 0 where
  number_is : number ≡ Some lists
  some : 0 < lists
  alone : (is_none b.opened && length b.routers == 0) ≡ true

last_number : (number : Option ℕ) (lists : ℕ) (b : Reading) → continues number lists b ≡ true → IsLastNumber number lists b
last_number None lists b h = absurd cc
last_number (Some n) lists b h =
    let one = and_parts (n == lists) (nat_lt 0 n && (is_none b.opened && length b.routers == 0)) h in
    let two = and_parts (nat_lt 0 n) (is_none b.opened && length b.routers == 0) one.1 in
    let same : n ≡ lists = eqb-true n lists one.0 in
    record { number_is = ap Some same; some = subst (λ k. 0 < k) same (ltb-true 0 n two.0); alone = two.1 }

some_lines : (lines : List ListLine) (l : ListLine) → lines ++ l ∷ [] ≢ []
some_lines [] l e = absurd cc
some_lines (x ∷ lines) l e = absurd cc

on_last-filled : (xs : List (List ListLine)) (l : ListLine) → AllByRecursion (λ (lines : List ListLine). lines ≢ []) xs → AllByRecursion (λ (lines : List ListLine). lines ≢ []) (on_last xs l)
on_last-filled [] l all = tt
on_last-filled (x ∷ []) l all = (some_lines x l, tt)
on_last-filled (x ∷ y ∷ xs) l all = (all.0, on_last-filled (y ∷ xs) l all.1)

on_last-patterns : (xs : List (List ListLine)) (l : ListLine) → HasPattern l → AllByRecursion HavePatterns xs → AllByRecursion HavePatterns (on_last xs l)
on_last-patterns [] l is all = tt
on_last-patterns (x ∷ []) l is all = (AllByRecursion-push HasPattern x l all.0 is, tt)
on_last-patterns (x ∷ y ∷ xs) l is all = (all.0, on_last-patterns (y ∷ xs) l is all.1)

more_added : (r s : MapsReading) (number : Option ℕ) (l : ListLine) → AreKept r → HasPattern l → IsMore r s number l → IsAdded r s (written.List number l)
more_added r s number l k is m =
    let n = last_number number (length r.lists) r.blocks m.last in
    let empty = no_blocks r.blocks n.alone in
    let rest : number_from none (blocks_so_far r.blocks) ≡ [] = ap (number_from none) empty in
    subst (λ (q : MapsReading). IsAdded r q (written.List number l)) m.is (record {
      kept = record {
        same = k.same ∙ sym (length-on_last r.lists l);
        blocks = k.blocks;
        filled = on_last-filled r.lists l k.filled;
        patterns = on_last-patterns r.lists l is k.patterns;
        counted = k.counted;
      };
      more =
          ap (λ (ls : List MapLine). lines_of_lists 1 (on_last r.lists l) ++ ls) rest
          ∙ append-nil (lines_of_lists 1 (on_last r.lists l))
          ∙ last_more r.lists l n.some
          ∙ ap₂ (λ (ls : List MapLine) (o : Option ℕ). ls ++ written.List o l ∷ [])
          (sym (ap (λ (ls : List MapLine). lines_of_lists 1 r.lists ++ ls) rest ∙ append-nil (lines_of_lists 1 r.lists))) (sym n.number_is);
    })

new_added : (r s : MapsReading) (number : Option ℕ) (l : ListLine) → AreKept r → IsMapLine (length r.lists) (written.List number l) → IsNew r s number l → IsAdded r s (written.List number l)
new_added r s number l k is m =
    let c = class_ok r.blocks m.blocks number (l.pattern ∷ []) m.taken in
    let number_is : number ≡ Some (length r.lists + 1) = next_is number (length r.blocks.classes) c.1 ∙ ap (λ n. Some (n + 1)) k.same in
    let before = no_blocks r.blocks c.0 in
    let after_blocks : blocks_so_far m.blocks ≡ [] = ap blocks_so_far (sym c.2) ∙ before in
    let rest : number_from none (blocks_so_far m.blocks) ≡ [] = ap (number_from none) after_blocks in
    let rest_before : number_from none (blocks_so_far r.blocks) ≡ [] = ap (number_from none) before in
    let line_is : IsLine Second (length r.blocks.classes) (line.Class number (l.pattern ∷ [])) = (is.0, (λ (e : l.pattern ∷ [] ≡ []). absurd cc), (is.1, tt)) in
    subst (λ (q : MapsReading). IsAdded r q (written.List number l)) m.is (record {
      kept = record {
        same = ap (λ (b : Reading). length b.classes) (sym c.2) ∙ length-append r.blocks.classes ((l.pattern ∷ []) ∷ []) ∙ ap (λ n. n + 1) k.same ∙ sym (length-append r.lists ((l ∷ []) ∷ []));
        blocks = after_keeps r.blocks m.blocks (line.Class number (l.pattern ∷ [])) k.blocks line_is m.taken;
        filled = AllByRecursion-push (λ (lines : List ListLine). lines ≢ []) r.lists (l ∷ []) k.filled (λ (e : l ∷ [] ≡ []). absurd cc);
        patterns = AllByRecursion-push HavePatterns r.lists (l ∷ []) k.patterns (is.1, tt);
        counted = ap (steps none) (after_blocks ∙ sym before) ∙ k.counted ∙ ap counts c.2;
      };
      more =
          ap (λ (ls : List MapLine). lines_of_lists 1 (r.lists ++ (l ∷ []) ∷ []) ++ ls) rest
          ∙ append-nil (lines_of_lists 1 (r.lists ++ (l ∷ []) ∷ []))
          ∙ lines_of_lists-push 1 r.lists (l ∷ [])
          ∙ ap₂ (λ (ls : List MapLine) (o : Option ℕ). ls ++ written.List o l ∷ [])
          (sym (ap (λ (ls : List MapLine). lines_of_lists 1 r.lists ++ ls) rest_before ∙ append-nil (lines_of_lists 1 r.lists))) (sym number_is);
    })

-- ---- lines of blocks

entry_other : (l : Line) → IsEntry l → IsOther l
entry_other (line.Class n ps) is = is
entry_other _ is = tt

block_other : (l : Line) → IsBlock l → IsOther l
block_other (line.Class n ps) is = is
block_other _ is = tt

-- a line of a configuration more, with its number
taken_added : (r s : MapsReading) (l : Line) (b : Reading) → AreKept r → IsOther l → IsLine Second (length r.lists) l → after r.blocks l ≡ Ok b
    → made r.lists b ≡ s → IsAdded r s (number_line (counts r.blocks) l)
taken_added r s l b k other is h e =
    let classes : b.classes ≡ r.blocks.classes = same_classes r.blocks b l other h in
    let whole : lines_of_classes 1 b.classes ++ blocks_so_far b ≡ (lines_of_classes 1 r.blocks.classes ++ blocks_so_far r.blocks) ++ l ∷ [] = after_adds r.blocks b l k.blocks h in
    let grown : blocks_so_far b ≡ blocks_so_far r.blocks ++ l ∷ [] =
    append_cancel_left (lines_of_classes 1 r.blocks.classes) (blocks_so_far b) (blocks_so_far r.blocks ++ l ∷ [])
    (ap (λ (cs : List (List PlainPattern)). lines_of_classes 1 cs ++ blocks_so_far b) (sym classes) ∙ whole ∙ append_assoc (lines_of_classes 1 r.blocks.classes) (blocks_so_far r.blocks) (l ∷ [])) in
    let numbers : number_from none (blocks_so_far b) ≡ number_from none (blocks_so_far r.blocks) ++ number_line (counts r.blocks) l ∷ [] =
    ap (number_from none) grown ∙ number_from-append none (blocks_so_far r.blocks) (l ∷ []) ∙ ap (λ (c : Counts). number_from none (blocks_so_far r.blocks) ++ number_line c l ∷ []) k.counted in
    subst (λ (q : MapsReading). IsAdded r q (number_line (counts r.blocks) l)) e (record {
      kept = record {
        same = ap length classes ∙ k.same;
        blocks = after_keeps r.blocks b l k.blocks (subst (λ n. IsLine Second n l) (sym k.same) is) h;
        filled = k.filled;
        patterns = k.patterns;
        counted = ap (steps none) grown ∙ steps-append none (blocks_so_far r.blocks) (l ∷ []) ∙ ap (λ (c : Counts). step c l) k.counted ∙ sym (counts-after r.blocks b l other h);
      };
      more =
          ap (λ (ls : List MapLine). lines_of_lists 1 r.lists ++ ls) numbers
          ∙ sym (append_assoc (lines_of_lists 1 r.lists) (number_from none (blocks_so_far r.blocks)) (number_line (counts r.blocks) l ∷ []));
    })

-- a block's line has no number
block_line : (k : Counts) (l : Line) → IsBlock l → number_line k l ≡ written.Block l
block_line k (line.Import r) is = absurd is
block_line k (line.PeerImport r) is = absurd is
block_line k (line.Export e) is = absurd is
block_line k _ is = refl

number_is : (number : Option ℕ) (n : ℕ) → is_number_of number n ≡ true → number ≡ Some (10 * n)
number_is None n h = absurd cc
number_is (Some k) n h = ap Some (eqb-true k (10 * n) h)

numbered_entry : (number : Option ℕ) (n m : ℕ) (l : Line) → m ≡ n + 1 → is_number_of number m ≡ true → written.Entry (Some (10 * (n + 1))) l ≡ written.Entry number l
numbered_entry number n m l e is = ap (λ (o : Option ℕ). written.Entry o l) (ap (λ k. Some (10 * k)) (sym e) ∙ sym (number_is number m is))

-- an entry's number is that of its place
entry_line : (r b : Reading) (number : Option ℕ) (l : Line) → IsEntry l → after r l ≡ Ok b → is_number_of number (entries_of (is_out l) b) ≡ true → number_line (counts r) l ≡ written.Entry number l
entry_line r b number (line.Import rule) is h n =
    numbered_entry number (counts r).ins (entries_of false b) (line.Import rule) (ap (λ (c : Counts). c.ins) (counts-after r b (line.Import rule) tt h)) n
entry_line r b number (line.PeerImport rule) is h n =
    numbered_entry number (counts r).ins (entries_of false b) (line.PeerImport rule) (ap (λ (c : Counts). c.ins) (counts-after r b (line.PeerImport rule) tt h)) n
entry_line r b number (line.Export export) is h n =
    numbered_entry number (counts r).outs (entries_of true b) (line.Export export) (ap (λ (c : Counts). c.outs) (counts-after r b (line.Export export) tt h)) n
entry_line r b number _ is h n = absurd is

-- a line more was read
pub after_added : (r s : MapsReading) (l : MapLine) → AreKept r → IsMapLine (length r.lists) l → after_map r l ≡ Ok s → IsAdded r s l
after_added r s (written.List number l) k is h = elim (list_ok r s number l h) [
  | inl m ↦ more_added r s number l k is.1 m
  | inr m ↦ new_added r s number l k is m
]
after_added r s (written.Entry number l) k is h =
    let e = entry_ok r s number l h in
    let b = block_ok r s l e.0 in
    let at : is_number_of number (entries_of (is_out l) b.0) ≡ true = ap (λ (q : MapsReading). is_number_of number (entries_of (is_out l) q.blocks)) b.2 ∙ e.1 in
    subst (IsAdded r s) (entry_line r.blocks b.0 number l is.1 b.1 at) (taken_added r s l b.0 k (entry_other l is.1) is.2 b.1 b.2)
after_added r s (written.Block l) k is h =
    let b = block_ok r s l h in
    subst (IsAdded r s) (block_line (counts r.blocks) l is.0) (taken_added r s l b.0 k (block_other l is.0) is.1 b.1 b.2)

-- the number of a line that was read isn't too large
pub line_numbered : (r s : MapsReading) (l : MapLine) → after_map r l ≡ Ok s → IsNumbered l
line_numbered r s (written.List None l) h = elim (list_ok r s None l h) [
  | inl m ↦ let e : false ≡ true = m.last in absurd cc
  | inr m ↦ let e : false ≡ true = (class_ok r.blocks m.blocks None (l.pattern ∷ []) m.taken).1 in absurd cc
]
line_numbered r s (written.List (Some n) l) h = tt
line_numbered r s (written.Entry None l) h = let e : false ≡ true = (entry_ok r s None l h).1 in absurd cc
line_numbered r s (written.Entry (Some n) l) h = tt
line_numbered r s (written.Block l) h = tt
