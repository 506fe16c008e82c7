use Rattle.std.proofs.Common.{◌≡◌, ◌+◌, [], drop, map}
use Rattle.policy_base.specs.Meaning.{place_of}
use Rattle.path_exprs.specs.Membership.{member}
use Rattle.path_exprs.specs.Runs.{first_with}
use Rattle.path_terms.specs.Values.{value}
use Rattle.path_automata.proofs.facts.first_with_empty.Given as goal

abbrev pub invariant-loop-i : goal.invariant-loop-i
invariant-loop-i l = first_with [] (map (value l.terms) l.numbers) ≡ place_of (map member (map (value l.terms) (drop l.i l.numbers))) [] (l.i + 1)
