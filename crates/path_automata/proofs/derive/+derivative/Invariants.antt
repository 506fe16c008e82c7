use Rattle.std.proofs.Common.{◌≡◌, ◌+◌, ◌*◌, map, take, length, true, vec_len}
use Rattle.path_exprs.specs.Derivative.{derivative}
use Rattle.path_automata.specs.Derived.{AreDerivatives}
use Rattle.path_terms.specs.Terms.{are_known, Extends}
use Rattle.path_terms.specs.Values.{values, value}
use Rattle.path_automata.proofs.derive.+derivative.Given as goal

abbrev pub decreases-derivative : goal.decreases-derivative
decreases-derivative l = 4 * l.e + 3

abbrev pub decreases-made : goal.decreases-made
decreases-made l = 4 * l.e + 2

abbrev pub decreases-derivatives : goal.decreases-derivatives
decreases-derivatives l = 4 * l.bound + 1

abbrev pub invariant-derivatives-loop-i : goal.invariant-derivatives-loop-i
invariant-derivatives-loop-i l = record {
  derived : AreDerivatives l.classes (values l.terms) l.derived;
  extends : Extends (values l.initial.terms) (values l.terms);
  made : map (value l.terms) l.all.items ≡ map (derivative l.at) (map (value l.initial.terms) (take l.i l.numbers));
  known : are_known (length (values l.terms)) l.all.items ≡ true;
  len : vec_len l.all ≡ l.i;
}
