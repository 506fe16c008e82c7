use Rattle.std.proofs.Common.{◌≡◌, ◌+◌, [], ◌∷◌, ◌++◌, map, take, sym, ap, subst, ◌∙◌}
use Rattle.std.proofs.lemmas.List.{map-append, take_more}
use Rattle.net_base.specs.Prefixes.{only}
use Rattle.policy_base.specs.declared.policy.Origin.{Origin}
use Rattle.lint_cover.specs.Tables.{Holds}
use Rattle.own_space.proofs.covers.table_of.Goals as goal

pub loop-origin-preserved : goal.loop-origin-preserved
loop-origin-preserved c =
    let os = c.args.origins.now in
    let i = c.loop-origin.origin-index in
    let item = c.origin-item.result in
    let alone = λ (o : Origin). only o.prefix in
    let more : take (i + 1) os ≡ take i os ++ item ∷ [] = take_more os i item c.loop-origin-test.true ∙ ap (λ x. take i os ++ x ∷ []) (sym c.origin-item.is) in
    let all : map alone (take (i + 1) os) ≡ map alone (take i os) ++ c.only.result ∷ [] =
    ap (map alone) more ∙ map-append alone (take i os) (item ∷ []) ∙ ap (λ t. map alone (take i os) ++ t ∷ []) (sym c.only.ensures) in
    subst (Holds c.note.new.self) (sym all) (c.in_ok-note.ensures (map alone (take i os)) c.loop-origin.invariant)
