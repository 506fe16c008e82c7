use Rattle.std.proofs.Common.{ap, sym, ◌∙◌, ◌≡◌, true, ◌++◌, map, subst, length}
use Rattle.path_exprs.specs.Normal.{sorted}
use Rattle.path_terms.specs.Terms.{at, node, is_sound}
use Rattle.path_terms.specs.Values.{values}
use Rattle.path_terms.specs.declared.join.Join.TheVariants.{AllOf}
use Rattle.path_terms.proofs.Intersections.{add-nothing, add-one}
use Rattle.path_terms.proofs.Joins.{add-members, member-known, members-known}
use Rattle.path_terms.proofs.intersection.add_parts.Goals as goal

pub returns-in_ok-extend_from_slice-in-Both : goal.returns-in_ok-extend_from_slice-in-Both
returns-in_ok-extend_from_slice-in-Both c =
    let vs = values c.args.terms.now in
    let all = c.args.all.now.items in
    let ms = c.in-Both.members.items in
    let number = c.args.number in
    let items = c.in_ok-extend_from_slice-in-Both.ensures.items ∙ ap (λ l. all ++ l) c.deref.ensures.value in
    record {
      added = add-members AllOf vs all _ ms (at vs number) items (c.term.ensures.node ∙ ap (node vs) c.in-Both.is);
      known = members-known (length vs) number all _ ms items c.requires.known c.requires.all_known (subst (λ t. is_sound number t ≡ true) c.in-Both.is c.term.ensures.sound);
    }

pub returns-then-is_all-clause-added : goal.returns-then-is_all-clause-added
returns-then-is_all-clause-added c =
    let vs = values c.args.terms.now in
    add-nothing (map (at vs) c.args.all.now.items) (at vs c.args.number) (sym c.is_all.ensures ∙ c.if-is_all.true)

pub returns-in_ok-push-in_default : goal.returns-in_ok-push-in_default
returns-in_ok-push-in_default c =
    let vs = values c.args.terms.now in
    let all = c.args.all.now.items in
    let number = c.args.number in
    let items = c.in_ok-push-in_default.ensures.items in
    record {
      added = ap (λ l. sorted (map (at vs) l)) items ∙ add-one vs all number c.term.result.now c.term.ensures.node (sym c.is_all.ensures ∙ c.if-is_all.false) c.in_default.not-Both;
      known = member-known (length vs) number all _ items c.requires.known c.requires.all_known;
    }
