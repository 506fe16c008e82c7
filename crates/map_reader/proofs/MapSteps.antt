-- What was read with one line more.
use Rattle.std.proofs.Common.{◌≡◌, ℕ, ◌+◌, ◌≤◌, List, [], ◌∷◌, ◌++◌, length, Bool, true, false, Option, Result, Ok, Err, inl, inr, refl, sym, ◌∙◌, ap, arith, length-append}
use Rattle.std.specs.Prelude.{◌⊎◌, if◌then◌else◌}
use Rattle.net_base.specs.Steps.{◌>>=◌, unless}
use Rattle.net_base.proofs.StepLemmas.{bind_ok, unless_ok, ok_same}
use Rattle.config_lines.specs.declared.line.Line.{Line}
use Rattle.config_lines.specs.declared.line.Line.TheVariants as line
use Rattle.config_lines.specs.declared.line.LineFault.{LineFault}
use Rattle.config_lines.specs.declared.line.LineFault.TheVariants as linefault
use Rattle.config_reader.specs.declared.reading.Reading.{Reading}
use Rattle.config_reader.specs.declared.reading.Misplaced.{Misplaced}
use Rattle.config_reader.specs.declared.reading.Misplaced.TheVariants as misplaced
use Rattle.config_reader.specs.Reading.{after}
use Rattle.route_maps.specs.declared.maps.ListLine.{ListLine}
use Rattle.route_map_text.specs.declared.line.MapLine.{MapLine}
use Rattle.route_map_text.specs.declared.line.MapLine.TheVariants as written
use Rattle.route_map_text.specs.MapLines.{map_line_of}
use Rattle.map_reader.specs.declared.reading.MapsReading.{MapsReading}
use Rattle.map_reader.specs.MapsReading.{continues, on_last, with_list, in_blocks, is_out, entries_of, is_number_of, with_entry, after_map}
use Rattle.map_reader.specs.MapsRead.{read_at, placed_at, with_line}

read_at_ok : (n : ℕ) (r : Result MapLine LineFault) (l : MapLine) → read_at n r ≡ Ok l → r ≡ Ok l
read_at_ok n (Ok m) l h = ap Ok (ok_same m l h)
read_at_ok n (Err linefault.Form) l h = absurd cc
read_at_ok n (Err linefault.Number) l h = absurd cc
read_at_ok n (Err linefault.NoMemory) l h = absurd cc

placed_at_ok : (n : ℕ) (r : Result MapsReading Misplaced) (s : MapsReading) → placed_at n r ≡ Ok s → r ≡ Ok s
placed_at_ok n (Ok q) s h = ap Ok (ok_same q s h)
placed_at_ok n (Err misplaced.Order) s h = absurd cc
placed_at_ok n (Err misplaced.Twice) s h = absurd cc
placed_at_ok n (Err misplaced.NoMemory) s h = absurd cc

-- the line that was read, and what it made
pub with_line_ok : (n : ℕ) (r s : MapsReading) (bytes : List ℕ) → with_line n r bytes ≡ Ok s → (l : MapLine) × (map_line_of bytes (length r.lists) ≡ Ok l) × (after_map r l ≡ Ok s)
unfolding with_line
with_line_ok n r s bytes h =
    let l = bind_ok (read_at n (map_line_of bytes (length r.lists))) _ s h in
    (l.0, read_at_ok n _ l.0 l.1, placed_at_ok n _ s l.2)

-- ---- what each line wanted, and what it made

abbrev pub made : List (List ListLine) → Reading → MapsReading
made lists blocks = record { lists = lists; blocks = blocks }

pub record IsMore (r s : MapsReading) (number : Option ℕ) (l : ListLine) : Type 0 where
  pub last : continues number (length r.lists) r.blocks ≡ true
  pub is : made (on_last r.lists l) r.blocks ≡ s

pub record IsNew (r s : MapsReading) (number : Option ℕ) (l : ListLine) : Type 0 where
  pub blocks : Reading
  pub taken : after r.blocks (line.Class number (l.pattern ∷ [])) ≡ Ok blocks
  pub is : made (r.lists ++ (l ∷ []) ∷ []) blocks ≡ s

pub list_ok : (r s : MapsReading) (number : Option ℕ) (l : ListLine) → with_list r number l ≡ Ok s → IsMore r s number l ⊎ IsNew r s number l
unfolding with_list
list_ok r s number l h = by (continues number (length r.lists) r.blocks) refl h
  where
    by : (b : Bool) → continues number (length r.lists) r.blocks ≡ b
        → (if b then Ok (made (on_last r.lists l) r.blocks) else
        (after r.blocks (line.Class number (l.pattern ∷ [])) >>= (λ blocks. Ok (made (r.lists ++ (l ∷ []) ∷ []) blocks)))) ≡ Ok s
        → IsMore r s number l ⊎ IsNew r s number l
    by true e k = inl (record { last = e; is = ok_same _ s k })
    by false e k = let b = bind_ok (after r.blocks (line.Class number (l.pattern ∷ []))) _ s k in inr (record { blocks = b.0; taken = b.1; is = ok_same _ s b.2 })

pub block_ok : (r s : MapsReading) (l : Line) → in_blocks r l ≡ Ok s → (b : Reading) × (after r.blocks l ≡ Ok b) × (made r.lists b ≡ s)
unfolding in_blocks
block_ok r s l h = let b = bind_ok (after r.blocks l) _ s h in (b.0, b.1, ok_same _ s b.2)

pub entry_ok : (r s : MapsReading) (number : Option ℕ) (l : Line) → with_entry r number l ≡ Ok s → (in_blocks r l ≡ Ok s) × (is_number_of number (entries_of (is_out l) s.blocks) ≡ true)
unfolding with_entry
entry_ok r s number l h =
    let a = bind_ok (in_blocks r l) _ s h in
    let b = bind_ok (unless misplaced.Order (is_number_of number (entries_of (is_out l) a.0.blocks))) _ s a.2 in
    let same : a.0 ≡ s = ok_same a.0 s b.2 in
    (a.1 ∙ ap Ok same, ap (λ (q : MapsReading). is_number_of number (entries_of (is_out l) q.blocks)) (sym same) ∙ unless_ok misplaced.Order _ b.0 b.1)

pub on_last_push : (xs : List (List ListLine)) (x : List ListLine) (l : ListLine) → on_last (xs ++ x ∷ []) l ≡ xs ++ (x ++ l ∷ []) ∷ []
on_last_push [] x l = refl
on_last_push (y ∷ []) x l = refl
on_last_push (y ∷ z ∷ xs) x l = ap (λ (ls : List (List ListLine)). y ∷ ls) (on_last_push (z ∷ xs) x l)

-- ---- no list less, and at most one more

pub length-on_last : (xs : List (List ListLine)) (l : ListLine) → length (on_last xs l) ≡ length xs
length-on_last [] l = refl
length-on_last (x ∷ []) l = refl
length-on_last (x ∷ y ∷ xs) l = let h = length-on_last (y ∷ xs) l in omega (arith, h)

abbrev pub OneMore : MapsReading → MapsReading → Type 0
OneMore r s = (length r.lists ≤ length s.lists) × (length s.lists ≤ length r.lists + 1)

same_count : (r s q : MapsReading) → length q.lists ≡ length r.lists → q ≡ s → OneMore r s
same_count r s q er es = rw (← es, er) (omega arith, omega arith)

pub after-lists : (r s : MapsReading) (l : MapLine) → after_map r l ≡ Ok s → OneMore r s
after-lists r s (written.List number l) h = elim (list_ok r s number l h) [
  | inl m ↦ same_count r s (made (on_last r.lists l) r.blocks) (length-on_last r.lists l) m.is
  | inr n ↦ let e : length (r.lists ++ (l ∷ []) ∷ []) ≡ length r.lists + 1 = length-append r.lists ((l ∷ []) ∷ []) in rw (← n.is, e) (omega arith, omega arith)
]
after-lists r s (written.Entry number l) h = let b = block_ok r s l (entry_ok r s number l h).0 in same_count r s (made r.lists b.0) refl b.2
after-lists r s (written.Block l) h = let b = block_ok r s l h in same_count r s (made r.lists b.0) refl b.2

pub with_line-lists : (n : ℕ) (r s : MapsReading) (bytes : List ℕ) → with_line n r bytes ≡ Ok s → OneMore r s
with_line-lists n r s bytes h = let l = with_line_ok n r s bytes h in after-lists r s l.0 l.2
