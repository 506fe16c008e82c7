-- Loads that change nothing.
use Rattle.rollout_law.proofs.Loads.{loaded_so}
use Rattle.rollout_law.proofs.Same.{loads_change_nothing, rollouts_begin_alike}
use Rattle.rollout_stages.specs.Laws.{FirstLoadsChangeNothing, LastLoadsChangeNothing}
use Rattle.rollout_stages.proofs.Saying.{first_read, last_read}

pub first_loads_change_nothing : FirstLoadsChangeNothing
first_loads_change_nothing net says p old new one two cs m rules are runs loaded =
    let reads = first_read net p old new one two are in
    rollouts_begin_alike net says p old cs m rules (λ r. reads r (m r) (runs r)) (loaded_so _ _ reads cs loaded)

pub last_loads_change_nothing : LastLoadsChangeNothing
last_loads_change_nothing net says p old new one two cs s rules are kept tags runs loaded =
    let reads = last_read net p old new one two are in
    let alike = loads_change_nothing net says p new cs s rules kept tags (λ r. reads r (s.runs r) (runs r)) (loaded_so _ _ reads cs loaded) in
    (alike.0, alike.1)
