use Rattle.std.proofs.Common.{◌≡◌, map, take, length, true, vec_len}
use Rattle.path_exprs.specs.Runs.{start_of}
use Rattle.path_exprs.specs.View.{views}
use Rattle.path_terms.specs.Terms.{are_known, Extends}
use Rattle.path_terms.specs.Values.{values, value}
use Rattle.path_automata.proofs.reversal.+reversal.Given as goal

abbrev pub invariant-reversals-loop-i : goal.invariant-reversals-loop-i
invariant-reversals-loop-i l = record {
  made : map (value l.terms) l.all.items ≡ start_of l.full (views (take l.i l.es));
  known : are_known (length (values l.terms)) l.all.items ≡ true;
  len : vec_len l.all ≡ l.i;
  extends : Extends (values l.fn.terms) (values l.terms);
}
