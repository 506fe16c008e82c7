use Rattle.std.proofs.Common.{Bool, take}
use Rattle.std.specs.Bool.{IsTrue}
use Rattle.std.specs.List.{list_all}
use Rattle.net_base.specs.declared.loc.LocSet.{LocSet}
use Rattle.path_terms.specs.Values.{values}
use Rattle.path_automata.specs.Sets.{sets_pass}
use Rattle.path_automata.proofs.classes.gather.Given as goal

abbrev pub invariant-loop-number : goal.invariant-loop-number
invariant-loop-number l = (p : LocSet → Bool) → IsTrue (list_all p l.sets.keys) → IsTrue (list_all (sets_pass p) (take l.number (values l.terms)))
