use Rattle.std.proofs.Common.{◌≡◌, drop, map}
use Rattle.std.specs.List.{list_any}
use Rattle.path_terms.specs.Joined.{is_whole}
use Rattle.path_terms.specs.Values.{value}
use Rattle.path_terms.proofs.join.is_whole_among.Given as goal

abbrev pub invariant-loop-number : goal.invariant-loop-number
invariant-loop-number l = list_any (is_whole l.join) (map (value l.terms) l.numbers) ≡ list_any (is_whole l.join) (map (value l.terms) (drop l.number-index l.numbers))
