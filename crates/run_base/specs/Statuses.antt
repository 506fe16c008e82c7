-- The numbers of statuses.
use Rattle.std.specs.Prelude.{ℕ}
use Rattle.run_base.specs.declared.outcome.Status.{Status}
use Rattle.run_base.specs.declared.outcome.Status.TheVariants.{Done, Refused, Usage, BadInput, ReadFault, WriteFault, NoMemory, CheckFails}

-- the number with which the program ends
abbrev pub number_of : Status → ℕ
number_of Done = 0
number_of Refused = 1
number_of Usage = 2
number_of BadInput = 3
number_of ReadFault = 4
number_of WriteFault = 5
number_of NoMemory = 6
number_of CheckFails = 7
