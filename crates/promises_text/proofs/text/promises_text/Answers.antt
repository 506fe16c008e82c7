use Rattle.std.proofs.Common.{rules, ◌≡◌, List, [], ◌++◌, length, refl, ap, ap₂, ◌∙◌}
use Rattle.own_space.specs.declared.open_case.OpenCase.{OpenCase}
use Rattle.own_space.specs.declared.open_part.OpenPart.{OpenPart}
use Rattle.own_space.specs.Open.{open_parts}
use Rattle.policy_base.specs.Policies.{policy_of}
use Rattle.promises_report.specs.declared.apart.ApartRanks.{ApartRanks}
use Rattle.promises_report.specs.declared.group.Group.{Group}
use Rattle.promises_text.specs.Texts.{last_lines, statements_text}
use Rattle.promises_text.proofs.Whole.{whole_text}
use Rattle.promises_text.proofs.text.promises_text.Goals as goal

pub returns : goal.returns
returns c =
    let net = c.args.net.now in
    let policy = policy_of c.args.policy.now in
    let told = c.in_ok-told.told in
    let old = c.new-text.result.items in
    let mid = c.push_statements.new.text.items in
    let none : old ≡ [] = search rules in
    let parts = c.in_ok-parts.ensures ∙ ap (open_parts policy) c.deref-2.ensures.value in
    let first = c.in_ok-push_statements.ensures ∙ ap (λ (gs : List Group). old ++ statements_text net policy gs 1 policy.statements) c.deref-4.ensures.value in
    let step = c.in_ok-push_last.ensures
    ∙ ap₂ (λ (ts : List OpenCase) (xs : List OpenPart). mid ++ last_lines policy (length c.args.cases.now) told.counts ts xs c.deref-7.result.now) c.deref-5.ensures.value c.deref-6.ensures.value
    ∙ ap (λ (ps : List ApartRanks). mid ++ last_lines policy (length c.args.cases.now) told.counts told.taking.items c.in_ok-parts.parts.items ps) c.deref-7.ensures.value in
    whole_text net policy c.args.cases.now old mid c.push_last.new.text.items told.groups.items told.counts told.taking.items c.in_ok-parts.parts.items
    c.in_ok-pairs.pairs.items (length c.args.cases.now) none c.in_ok-told.ensures refl parts c.in_ok-pairs.ensures first step
