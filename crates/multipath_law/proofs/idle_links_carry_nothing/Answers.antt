use Rattle.multipath_law.proofs.Idle.{idle_links_carry_nothing}
use Rattle.multipath_law.proofs.idle_links_carry_nothing.Goals as goal

pub returns : goal.returns
returns c = idle_links_carry_nothing
