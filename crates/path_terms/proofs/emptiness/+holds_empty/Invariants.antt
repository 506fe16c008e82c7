use Rattle.std.proofs.Common.{◌≡◌, ◌+◌, ◌*◌, [], drop, map}
use Rattle.std.specs.List.{list_all, list_any}
use Rattle.path_exprs.specs.Membership.{member}
use Rattle.path_terms.specs.Values.{value}
use Rattle.path_terms.proofs.emptiness.+holds_empty.Given as goal

abbrev pub decreases-holds_empty : goal.decreases-holds_empty
decreases-holds_empty l = 2 * l.number + 1

abbrev pub decreases-some_holds_empty : goal.decreases-some_holds_empty
decreases-some_holds_empty l = 2 * l.bound

abbrev pub decreases-each_holds_empty : goal.decreases-each_holds_empty
decreases-each_holds_empty l = 2 * l.bound

abbrev pub invariant-some_holds_empty-loop-i : goal.invariant-some_holds_empty-loop-i
invariant-some_holds_empty-loop-i l =
    list_any (λ e. member e []) (map (value l.terms) l.numbers) ≡ list_any (λ e. member e []) (map (value l.terms) (drop l.i l.numbers))

abbrev pub invariant-each_holds_empty-loop-i : goal.invariant-each_holds_empty-loop-i
invariant-each_holds_empty-loop-i l =
    list_all (λ e. member e []) (map (value l.terms) l.numbers) ≡ list_all (λ e. member e []) (map (value l.terms) (drop l.i l.numbers))
