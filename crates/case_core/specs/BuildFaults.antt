-- What the fault of standings is as a fault of a graph.
use Rattle.walk_states.specs.declared.fault.StandingsFault.{StandingsFault}
use Rattle.walk_states.specs.declared.fault.StandingsFault.TheVariants.{TooMany, NoMemory}
use Rattle.case_core.specs.declared.build_fault.BuildFault.{BuildFault}
use Rattle.case_core.specs.declared.build_fault.BuildFault.TheVariants as graphs

abbrev pub fault_of : StandingsFault → BuildFault
fault_of TooMany = graphs.TooManyStates
fault_of NoMemory = graphs.NoMemory
