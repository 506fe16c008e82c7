-- The answer at the first fault of a maps text, and where all its lines are taken.
use Rattle.std.proofs.Common.{◌≡◌, ℕ, List, length, true, false, Result, Ok, Err, refl, sym, ◌∙◌, ap, arith}
use Rattle.std.specs.Str.{bytes_eq}
use Rattle.std.proofs.lemmas.Bool.{ne_eqb}
use Rattle.config_base.specs.declared.config.RouterConfig.{RouterConfig}
use Rattle.net_base.specs.Addresses.{cut_at}
use Rattle.config_lines.proofs.CutParts.{halves, no_halves, split_there, split_nowhere}
use Rattle.config_lines.specs.LineLines.{lines_of}
use Rattle.config_lines.proofs.CutLines.{lines_of-some}
use Rattle.config_lines.proofs.LineByLine.{IsTaken, fault_stops, all_taken}
use Rattle.route_maps.specs.declared.maps.ListLine.{ListLine}
use Rattle.route_maps.specs.Maps.{PlainMaps}
use Rattle.route_map_text.specs.declared.line.MapLine.{MapLine}
use Rattle.route_map_text.specs.MapLines.{map_line_of}
use Rattle.route_map_text.specs.MapsLines.{first_line}
use Rattle.config_reader.specs.declared.fault.ConfigFault.{ConfigFault}
use Rattle.config_reader.specs.declared.fault.ConfigFault.TheVariants as fault
use Rattle.map_reader.specs.declared.reading.MapsReading.{MapsReading}
use Rattle.map_reader.specs.MapsReading.{opening, after_map}
use Rattle.map_reader.specs.MapsRead.{read_at, placed_at, with_line, finished, behind_heading, in_lines, spelled}

-- the line has a fault
pub faulty : {n : ℕ} {r : MapsReading} {text left : List ℕ} (line rest : List ℕ) (e : ConfigFault) → IsTaken with_line 2 opening text n r left → halves line rest ≡ cut_at 10 left
    → with_line n r line ≡ Err e → behind_heading (lines_of text) ≡ Err e
unfolding behind_heading
faulty line rest e so_far cut here = rw (fault_stops with_line so_far line rest e cut here) refl

-- all whole lines are read
pub finished_behind : {n : ℕ} {r : MapsReading} {text left : List ℕ} → IsTaken with_line 2 opening text n r left → no_halves ≡ cut_at 10 left
    → behind_heading (lines_of text) ≡ finished r left
unfolding behind_heading
finished_behind {r = r} so_far cut = let all = all_taken with_line so_far cut in rw all.0 (ap (finished r) all.1)

-- a line that is read where it stands
pub line_placed : (n : ℕ) (r same : MapsReading) (bytes : List ℕ) (lists : List (List ListLine)) (l : MapLine) (read : Result MapLine ConfigFault) → lists ≡ r.lists
    → read ≡ read_at n (map_line_of bytes (length lists)) → read ≡ Ok l → same ≡ r → with_line n r bytes ≡ placed_at n (after_map same l)
unfolding with_line
line_placed n r same bytes lists l read count is ok kept =
    let here : read_at n (map_line_of bytes (length r.lists)) ≡ Ok l = ap (λ (ls : List (List ListLine)). read_at n (map_line_of bytes (length ls))) (sym count) ∙ sym is ∙ ok in
    rw here (ap (λ (q : MapsReading). placed_at n (after_map q l)) (sym kept))

-- the maps of what is kept
pub as_maps : (r s : MapsReading) (routers : List RouterConfig) → r ≡ s → routers ≡ s.blocks.routers
    → (let m : PlainMaps = record { lists = r.lists; routers = r.blocks.routers } in m) ≡ record { lists = s.lists; routers = routers }
as_maps r s routers same are =
    ap (λ (q : MapsReading). let m : PlainMaps = record { lists = q.lists; routers = q.blocks.routers } in m) same
    ∙ ap (λ (rs : List RouterConfig). let m : PlainMaps = record { lists = s.lists; routers = rs } in m) (sym are)

-- ---- the first line

pub no_feed : (bytes : List ℕ) → no_halves ≡ cut_at 10 bytes → spelled bytes ≡ Err fault.Version
unfolding in_lines
no_feed bytes cut = ap in_lines (split_nowhere 10 bytes cut)

pub other_heading : (bytes line rest : List ℕ) → halves line rest ≡ cut_at 10 bytes → bytes_eq line first_line ≡ false → spelled bytes ≡ Err fault.Version
unfolding in_lines
other_heading bytes line rest cut other = ap in_lines (split_there 10 bytes line rest cut) ∙ rw (ne_eqb (length (lines_of rest)) 0 (λ e. omega (arith, e, lines_of-some rest)), other) refl

pub behind_first : (bytes line rest : List ℕ) → halves line rest ≡ cut_at 10 bytes → bytes_eq line first_line ≡ true → spelled bytes ≡ behind_heading (lines_of rest)
unfolding in_lines
behind_first bytes line rest cut same = ap in_lines (split_there 10 bytes line rest cut) ∙ rw (ne_eqb (length (lines_of rest)) 0 (λ e. omega (arith, e, lines_of-some rest)), same) refl
