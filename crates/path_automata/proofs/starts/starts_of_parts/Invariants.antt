use Rattle.std.proofs.Common.{◌≡◌, length, map, take, true}
use Rattle.path_exprs.specs.Parts.{are_known, expressions_of_parts}
use Rattle.path_exprs.specs.Runs.{start_of}
use Rattle.path_terms.specs.Values.{values, value}
use Rattle.path_automata.proofs.starts.starts_of_parts.Given as goal

abbrev pub invariant-loop-i : goal.invariant-loop-i
invariant-loop-i l = record {
  made : map (value l.terms) l.all.items ≡ start_of l.full (expressions_of_parts (take l.i l.parts));
  known : are_known (length (values l.terms)) l.all.items ≡ true;
  len : length l.all.items ≡ l.i;
}
