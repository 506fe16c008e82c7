-- Of the lines of a text the first fault is told.
use Rattle.std.proofs.Common.{◌≡◌, ℕ, ◌+◌, List, ◌∷◌, ◌++◌, length, Ok, Err}
use Rattle.config_lines.specs.declared.edition.Edition.{Edition}
use Rattle.config_reader.specs.declared.fault.ConfigFault.{ConfigFault}
use Rattle.config_reader.specs.declared.reading.Reading.{Reading}
use Rattle.config_reader.specs.FirstFault.{IsFirstFault}
use Rattle.config_reader.specs.Reading.{opening}
use Rattle.config_reader.specs.Text.{with_line, with_lines}
use Rattle.config_lines.proofs.FirstFaults.{first_from, fault_from}

pub first_fault : (edition : Edition) (texts : List (List ℕ)) (e : ConfigFault) → with_lines edition 2 opening texts ≡ Err e → IsFirstFault edition texts e
first_fault edition texts e h =
    let f = first_from (with_line edition) 2 opening texts e h in
    record { taken = f.taken; line = f.line; more = f.more; reading = f.reading; whole = f.whole; fine = f.fine; wrong = f.wrong }

pub fault_told : (edition : Edition) (taken more : List (List ℕ)) (line : List ℕ) (r : Reading) (e : ConfigFault)
    → with_lines edition 2 opening taken ≡ Ok r → with_line edition (length taken + 2) r line ≡ Err e
    → with_lines edition 2 opening (taken ++ line ∷ more) ≡ Err e
fault_told edition taken more line r e h k = fault_from (with_line edition) 2 opening r taken more line e h k
