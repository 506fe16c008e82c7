-- The answer at the first fault of a text, and where all its lines are taken.
use Rattle.std.proofs.Common.{◌≡◌, ℕ, List, length, Bool, true, false, Option, None, Result, Ok, Err, refl, sym, ◌∙◌, ap, arith}
use Rattle.std.specs.Str.{bytes_eq}
use Rattle.std.specs.Prelude.{◌&&◌, ◌==◌, is_none}
use Rattle.std.specs.Bool.{then_some}
use Rattle.std.specs.Option.{ok_or}
use Rattle.std.proofs.lemmas.Bool.{ne_eqb, and_parts}
use Rattle.list_law.proofs.Options.{is_none_parts}
use Rattle.net_base.proofs.StepLemmas.{ok_same}
use Rattle.net_base.specs.Addresses.{cut_at}
use Rattle.config_lines.specs.declared.edition.Edition.{Edition}
use Rattle.config_lines.specs.Editions.{first_line}
use Rattle.config_lines.proofs.CutParts.{halves, no_halves, split_there, split_nowhere}
use Rattle.config_reader.specs.declared.fault.ConfigFault.{ConfigFault}
use Rattle.config_reader.specs.declared.fault.ConfigFault.TheVariants as fault
use Rattle.config_reader.specs.declared.reading.Reading.{Reading}
use Rattle.config_reader.specs.Reading.{opening}
use Rattle.config_lines.specs.LineLines.{lines_of}
use Rattle.config_lines.proofs.CutLines.{lines_of-some}
use Rattle.config_lines.proofs.LineByLine.{IsTaken, fault_stops, all_taken}
use Rattle.config_reader.specs.Text.{with_line, finished, behind_heading, in_lines, spelled_in}

-- the line has a fault
pub faulty : (edition : Edition) {n : ℕ} {r : Reading} {text left : List ℕ} (line rest : List ℕ) (e : ConfigFault) → IsTaken (with_line edition) 2 opening text n r left
    → halves line rest ≡ cut_at 10 left → with_line edition n r line ≡ Err e → behind_heading edition (lines_of text) ≡ Err e
unfolding behind_heading
faulty edition line rest e so_far cut here = rw (fault_stops (with_line edition) so_far line rest e cut here) refl

-- all whole lines are read
pub finished_behind : (edition : Edition) {n : ℕ} {r : Reading} {text left : List ℕ} → IsTaken (with_line edition) 2 opening text n r left → no_halves ≡ cut_at 10 left
    → behind_heading edition (lines_of text) ≡ finished r left
unfolding behind_heading
finished_behind edition {r = r} so_far cut = let all = all_taken (with_line edition) so_far cut in rw all.0 (ap (finished r) all.1)

-- ---- the first line

pub no_feed : (edition : Edition) (bytes : List ℕ) → no_halves ≡ cut_at 10 bytes → spelled_in edition bytes ≡ Err fault.Version
unfolding in_lines
no_feed edition bytes cut = ap (in_lines edition) (split_nowhere 10 bytes cut)

pub other_heading : (edition : Edition) (bytes line rest : List ℕ) → halves line rest ≡ cut_at 10 bytes → bytes_eq line (first_line edition) ≡ false → spelled_in edition bytes ≡ Err fault.Version
unfolding in_lines
other_heading edition bytes line rest cut other =
    ap (in_lines edition) (split_there 10 bytes line rest cut) ∙ rw (ne_eqb (length (lines_of rest)) 0 (λ e. omega (arith, e, lines_of-some rest)), other) refl

pub behind_first : (edition : Edition) (bytes line rest : List ℕ) → halves line rest ≡ cut_at 10 bytes → bytes_eq line (first_line edition) ≡ true
    → spelled_in edition bytes ≡ behind_heading edition (lines_of rest)
unfolding in_lines
behind_first edition bytes line rest cut same =
    ap (in_lines edition) (split_there 10 bytes line rest cut) ∙ rw (ne_eqb (length (lines_of rest)) 0 (λ e. omega (arith, e, lines_of-some rest)), same) refl

-- what is kept of a text that is whole
pub whole_kept : {A R : Type 0} (opened : Option A) (r s : R) (rest : List ℕ) (whole : Bool) (o : Option R) (x : Result R ConfigFault) → whole ≡ (is_none opened && length rest == 0)
    → o ≡ then_some whole r → x ≡ ok_or o fault.Unfinished → x ≡ Ok s → (opened ≡ None) × (r ≡ s)
whole_kept {R = R} opened r s rest true o x is some ok kept =
    let both = and_parts (is_none opened) (length rest == 0) (sym is) in
    (is_none_parts opened both.0, ok_same r s (sym (ok ∙ ap (λ (p : Option R). ok_or p fault.Unfinished) some) ∙ kept))
whole_kept {R = R} opened r s rest false o x is some ok kept = absurd (let e = sym (ok ∙ ap (λ (p : Option R). ok_or p fault.Unfinished) some) ∙ kept in cc)
