use Rattle.std.proofs.Common.{◌++◌, ℕ, List, ap, length, map, sym, ◌∙◌}
use Rattle.std.specs.List.{flat_map}
use Rattle.std.proofs.lemmas.List.{append-nil, at_drop_all}
use Rattle.path_terms.specs.Joined.{parts}
use Rattle.path_terms.specs.Terms.{are_known, at}
use Rattle.path_terms.specs.Values.{values}
use Rattle.path_exprs.specs.Normal.{sorted}
use Rattle.path_terms.proofs.Joins.{flat-turn}
use Rattle.path_terms.proofs.join.flat.Goals as goal

pub loop-i-preserved : goal.loop-i-preserved
loop-i-preserved c =
    record {
      same =
          flat-turn (parts c.args.join) (values c.args.terms.now) c.loop-i.all.items c.args.members.now c.add_parts.new.all.items c.loop-i.i 0 _
          c.loop-i-test.true c.loop-i.invariant.same c.in_ok-add_parts.ensures.added;
      known = c.in_ok-add_parts.ensures.known;
    }

pub loop-i-init : goal.loop-i-init
loop-i-init c =
    let vs = values c.args.terms.now in
    record {
      same = ap (λ (l : List ℕ). sorted (map (at vs) l ++ flat_map (parts c.args.join) (map (at vs) c.args.members.now))) (sym c.new-all.ensures.items);
      known = ap (are_known (length vs)) c.new-all.ensures.items;
    }

pub returns-clause-same : goal.returns-clause-same
returns-clause-same c =
    let vs = values c.args.terms.now in
    let all = map (at vs) c.loop-i.all.items in
    let left = λ (l : List ℕ). sorted (all ++ flat_map (parts c.args.join) (map (at vs) l)) in
    sym (c.loop-i.invariant.same ∙ at_drop_all left c.args.members.now c.loop-i.i c.loop-i-test.false ∙ ap sorted (append-nil all))
