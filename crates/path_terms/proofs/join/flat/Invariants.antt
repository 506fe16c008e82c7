use Rattle.std.proofs.Common.{◌≡◌, ◌++◌, true, drop, map, length}
use Rattle.std.specs.List.{flat_map}
use Rattle.path_exprs.specs.Normal.{sorted}
use Rattle.path_terms.specs.Joined.{parts}
use Rattle.path_terms.specs.Terms.{are_known}
use Rattle.path_terms.specs.Values.{values, value}
use Rattle.path_terms.proofs.join.flat.Given as goal

abbrev pub invariant-loop-i : goal.invariant-loop-i
invariant-loop-i l = record {
  same : sorted (flat_map (parts l.join) (map (value l.terms) l.members)) ≡ sorted (map (value l.terms) l.all.items ++ flat_map (parts l.join) (map (value l.terms) (drop l.i l.members)));
  known : are_known (length (values l.terms)) l.all.items ≡ true;
}
