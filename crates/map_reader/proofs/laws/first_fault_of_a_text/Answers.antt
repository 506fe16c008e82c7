use Rattle.map_reader.proofs.MapFaults.{first_fault, fault_told}
use Rattle.map_reader.proofs.laws.first_fault_of_a_text.Goals as goal

pub returns-clause-only : goal.returns-clause-only
returns-clause-only c = first_fault

pub returns-clause-all : goal.returns-clause-all
returns-clause-all c = fault_told
