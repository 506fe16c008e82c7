use Rattle.std.proofs.Common.{◌++◌, ◌∷◌, [], List, ap, flat_map, sym, take, ◌∙◌}
use Rattle.std.proofs.lemmas.List.{flat_map_more, take_more}
use Rattle.policy_base.specs.declared.policy.Origin.{Origin}
use Rattle.own_space.specs.declared.open_part.OpenPart.{OpenPart}
use Rattle.own_space.specs.Open.{origin_part}
use Rattle.own_space.proofs.parts.push_parts.Goals as goal

pub loop-origin-preserved : goal.loop-origin-preserved
loop-origin-preserved c = λ qs held.
    let part = origin_part qs c.args.number c.args.pattern in
    let first = c.args.parts.now.items in
    let os = c.args.outer.now in
    let i = c.loop-origin.origin-index in
    let item = c.origin-item.result in
    c.in_ok-push_part.ensures qs held
    ∙ ap (λ (t : List OpenPart). t ++ part item) (c.loop-origin.invariant qs held)
    ∙ flat_map_more part first (take i os) item
    ∙ ap (λ (o : Origin). first ++ flat_map part (take i os ++ o ∷ [])) c.origin-item.is
    ∙ ap (λ xs. first ++ flat_map part xs) (sym (take_more os i item c.loop-origin-test.true))
