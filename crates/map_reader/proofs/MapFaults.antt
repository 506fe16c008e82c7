-- Of the lines of a maps text the first fault is told.
use Rattle.std.proofs.Common.{◌≡◌, ℕ, ◌+◌, List, ◌∷◌, ◌++◌, length, Ok, Err}
use Rattle.config_reader.specs.declared.fault.ConfigFault.{ConfigFault}
use Rattle.map_reader.specs.declared.reading.MapsReading.{MapsReading}
use Rattle.map_reader.specs.FirstFault.{IsFirstFault}
use Rattle.map_reader.specs.MapsReading.{opening}
use Rattle.config_lines.proofs.FirstFaults.{first_from, fault_from}
use Rattle.map_reader.specs.MapsRead.{with_line, with_lines}

pub first_fault : (texts : List (List ℕ)) (e : ConfigFault) → with_lines 2 opening texts ≡ Err e → IsFirstFault texts e
first_fault texts e h =
    let f = first_from with_line 2 opening texts e h in
    record { taken = f.taken; line = f.line; more = f.more; reading = f.reading; whole = f.whole; fine = f.fine; wrong = f.wrong }

pub fault_told : (taken more : List (List ℕ)) (line : List ℕ) (r : MapsReading) (e : ConfigFault) → with_lines 2 opening taken ≡ Ok r
    → with_line (length taken + 2) r line ≡ Err e → with_lines 2 opening (taken ++ line ∷ more) ≡ Err e
fault_told taken more line r e h k = fault_from with_line 2 opening r taken more line e h k
