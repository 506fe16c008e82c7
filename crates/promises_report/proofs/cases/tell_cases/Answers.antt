use Rattle.std.proofs.Common.{rules, ◌≡◌, ◌+◌, ◌++◌, ◌∷◌, [], List, take, sym, ap, ◌∙◌, subst, arith}
use Rattle.std.proofs.lemmas.List.{length-take, take_more}
use Rattle.own_space.specs.declared.open_case.OpenCase.{OpenCase}
use Rattle.policy_base.specs.declared.case.Case.{Case}
use Rattle.policy_base.specs.Policies.{policy_of}
use Rattle.evidence_base.specs.Made.{PlainCaseEvidence}
use Rattle.promises_report.specs.declared.counts.Counts.{Counts}
use Rattle.promises_report.specs.declared.group.Group.{Group}
use Rattle.promises_report.specs.Groups.{joined}
use Rattle.promises_report.specs.Counting.{no_counts, sum_of}
use Rattle.promises_report.specs.Cases.{TellsCases}
use Rattle.promises_report.proofs.Casing.{noted, tells_more, tells_none}
use Rattle.promises_report.proofs.cases.tell_cases.Goals as goal

pub and-sum-requires : goal.and-sum-requires
and-sum-requires c =
    omega (arith, c.loop-place.invariant.room, c.in_ok-group.ensures.room, length-take c.loop-place.place c.args.cases.now, c.requires.few, c.loop-place-test.true)

pub loop-place-preserved : goal.loop-place-preserved
loop-place-preserved c =
    let net = c.args.net.now in
    let policy = policy_of c.args.policy.now in
    let cases = c.args.cases.now in
    let k = c.loop-place.place in
    let d = c.index-cases-place.result in
    let low = c.loop-place-test.true in
    let group = c.in_ok-group.group in
    let added = c.in_ok-group.added in
    let taking = c.loop-place.taking.items in
    let groups = c.loop-place.groups.items in
    let more : take (k + 1) cases ≡ take k cases ++ d ∷ [] = take_more cases k d low ∙ ap (λ e. take k cases ++ e ∷ []) (sym c.index-cases-place.is) in
    let counted : c.and-sum.result ≡ sum_of c.loop-place.counts added.counts = c.and-sum.ensures in
    let noting : c.note_taking.new.taking.items ≡ taking ++ noted net policy added.takes (k + 1) d =
    c.in_ok-note_taking.ensures ∙ ap (λ (e : Case). taking ++ noted net policy added.takes (k + 1) (record d { case = e })) c.case.ensures.case in
    let joining : c.join.new.groups.items ≡ joined group groups = c.in_ok-join.ensures in
    let all = tells_more net policy (take k cases) d groups group c.loop-place.counts added.counts taking added.takes (k + 1)
    (omega (arith, length-take k cases)) c.loop-place.invariant c.in_ok-group.ensures in
    subst (λ (ds : List PlainCaseEvidence). TellsCases net policy ds c.join.new.groups.items c.and-sum.result c.note_taking.new.taking.items) (sym more)
    (subst (λ (gs : List Group). TellsCases net policy (take k cases ++ d ∷ []) gs c.and-sum.result c.note_taking.new.taking.items) (sym joining)
    (subst (λ (n : Counts). TellsCases net policy (take k cases ++ d ∷ []) (joined group groups) n c.note_taking.new.taking.items) (sym counted)
    (subst (λ (ts : List OpenCase). TellsCases net policy (take k cases ++ d ∷ []) (joined group groups) (sum_of c.loop-place.counts added.counts) ts) (sym noting) all)))

pub loop-place-init : goal.loop-place-init
loop-place-init c =
    let net = c.args.net.now in
    let policy = policy_of c.args.policy.now in
    let none : c.new-taking.result.items ≡ [] = search rules in
    let alone : c.new-groups.result.items ≡ [] = search rules in
    subst (λ (n : Counts). TellsCases net policy [] c.new-groups.result.items n c.new-taking.result.items) (sym c.none-counts.ensures)
    (subst (λ (gs : List Group). TellsCases net policy [] gs no_counts c.new-taking.result.items) (sym alone)
    (subst (λ (ts : List OpenCase). TellsCases net policy [] [] no_counts ts) (sym none) (tells_none net policy)))
