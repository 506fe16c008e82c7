use Rattle.std.proofs.Common.{◌≡◌, ◌+◌, ◌++◌, ◌≤◌, [], map, Some, refl, sym, ap, subst, ◌∙◌}
use Rattle.std.specs.Prelude.{slice_get, if◌then◌else◌}
use Rattle.std.specs.Option.{option_map}
use Rattle.std.proofs.lemmas.Option.{slice_get-get_or, slice_get-map}
use Rattle.policy_base.specs.declared.limits.TheConstants.{ALTERNATIVES}
use Rattle.policy_base.specs.declared.policy.Statement.{Statement}
use Rattle.policy_base.specs.Meaning.{alternative_count}
use Rattle.policy_base.specs.Policies.{plain_statement, ranking_of}
use Rattle.policy_lint.specs.Told.{marked, told_from, told_unreached}
use Rattle.policy_lint.proofs.Telling.{told_step}
use Rattle.policy_lint.proofs.statements.push_unreached.Goals as goal

pub push_unreached_if-requires-clause-few : goal.push_unreached_if-requires-clause-few
push_unreached_if-requires-clause-few c = λ has.
    let statements = c.args.statements.now in
    let place = c.loop-place.place in
    let item = c.index-statements-place.result in
    let at : slice_get (map plain_statement statements) place ≡ Some (plain_statement item) =
    slice_get-map plain_statement statements place ∙ ap (option_map plain_statement) (slice_get-get_or statements place item c.loop-place-test.true ∙ ap Some (sym c.index-statements-place.is)) in
    subst (λ (s : Statement). alternative_count (ranking_of s.ranked) ≤ ALTERNATIVES) c.index-statements-place.is (c.requires.few place (plain_statement item) at has)

pub loop-place-preserved : goal.loop-place-preserved
loop-place-preserved c =
    let statements = c.args.statements.now in
    let ranks = c.args.ranks.now in
    let have = c.args.have.now in
    let place = c.loop-place.place in
    let item = c.index-statements-place.result in
    let at : slice_get (map plain_statement statements) place ≡ Some (plain_statement item) =
    slice_get-map plain_statement statements place ∙ ap (option_map plain_statement) (slice_get-get_or statements place item c.loop-place-test.true ∙ ap Some (sym c.index-statements-place.is)) in
    told_step ranks have place (map plain_statement statements) (plain_statement item) c.loop-place.findings.items c.push_unreached_if.new.findings.items
    (c.args.findings.now.items ++ told_from ranks have 1 (map plain_statement statements))
    (if marked have (place + 1) then told_unreached ranks (place + 1) (alternative_count (ranking_of item.ranked)) else []) at refl
    (c.in_ok-push_unreached_if.ensures
    ∙ ap (λ (s : Statement). c.loop-place.findings.items ++ (if marked have (place + 1) then told_unreached ranks (place + 1) (alternative_count (ranking_of s.ranked)) else []))
    (sym c.index-statements-place.is))
    c.loop-place.invariant
