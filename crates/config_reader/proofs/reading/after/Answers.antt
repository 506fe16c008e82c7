use Rattle.std.proofs.Common.{Result, Ok, Err}
use Rattle.std.specs.Prelude.{⊤}
use Rattle.std.specs.Result.{result_and}
use Rattle.net_base.specs.Gives.{GivesUnless}
use Rattle.config_reader.specs.declared.reading.Reading.{Reading}
use Rattle.config_reader.specs.declared.reading.Misplaced.{Misplaced}
use Rattle.config_reader.specs.declared.reading.Misplaced.TheVariants.{NoMemory}
use Rattle.config_reader.proofs.reading.after.Goals as goal

when_done : (done : Result ⊤ Misplaced) (next : Reading) (read : Result Reading Misplaced) → GivesUnless NoMemory (λ _. next) done read → GivesUnless NoMemory (λ r. r) (result_and done (Ok next)) read
when_done (Ok u) next read h = h
when_done (Err e) next read h = h

pub returns : goal.returns
returns c = rw c.and.ensures (when_done c.follow-followed.result _ _ c.follow-followed.ensures)
