use Rattle.std.proofs.Common.{refl}
use Rattle.test_motion.proofs.moves_do_as_worked.Goals as goal

pub returns-clause-peers : goal.returns-clause-peers
returns-clause-peers c = record {
  sent = refl;
  heard = refl;
  named = refl;
  other = refl;
  keeps = refl;
  unsent = refl;
  news = refl;
  once = refl;
  longer = refl;
  as_long = refl;
  ours = refl;
  late = refl;
  noticed = refl;
  lost = refl;
  anew = refl;
}

pub returns-clause-triangle : goal.returns-clause-triangle
returns-clause-triangle c = record {
  first = refl;
  second = refl;
  third = refl;
  detour = refl;
  withdrawn = refl;
  nothing = refl;
}
