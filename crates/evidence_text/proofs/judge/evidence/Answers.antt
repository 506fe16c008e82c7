use Rattle.std.proofs.Common.{◌≡◌, ◌++◌, ◌∷◌, ◌∙◌, [], ap, length, map, refl, rules, sym, true, map-id}
use Rattle.std.proofs.lemmas.Iterator.Adapters.{YieldsList-from_vec}
use Rattle.std.proofs.lemmas.Iterator.Consumers.{YieldsList-turn, YieldsList-end}
use Rattle.std.proofs.lemmas.List.{map-append}
use Rattle.std.proofs.lemmas.Option.{slice_get_read}
use Rattle.list_law.proofs.Each.{AllByRecursion_at, AllByRecursion-from_list_all}
use Rattle.evidence_text.specs.Ranges.{IsReadCase}
use Rattle.evidence_text.specs.Spelled.{evidence_of, is_placed}
use Rattle.evidence_text.proofs.judge.evidence.Goals as goal

pub case_evidence-requires-clause-ranges : goal.case_evidence-requires-clause-ranges
case_evidence-requires-clause-ranges c =
    let cases = c.args.cases in
    let at = length c.loop-case.yielded in
    let here = YieldsList-turn (YieldsList-from_vec {s = c.into_iter-case-iterator.result} cases (search rules) (search rules))
    c.loop-case.yielded c.loop-case.case-iterator c.loop-case.yielded_by c.next.result c.next.new.self c.in-Some.case c.in-Some.is c.next.ensures.steps in
    AllByRecursion_at IsReadCase cases at c.in-Some.case c.requires.ranges (slice_get_read cases (length cases) at c.in-Some.case refl here.0 here.1)

pub case_evidence-requires-clause-placed : goal.case_evidence-requires-clause-placed
case_evidence-requires-clause-placed c =
    let cases = c.args.cases in
    let at = length c.loop-case.yielded in
    let here = YieldsList-turn (YieldsList-from_vec {s = c.into_iter-case-iterator.result} cases (search rules) (search rules))
    c.loop-case.yielded c.loop-case.case-iterator c.loop-case.yielded_by c.next.result c.next.new.self c.in-Some.case c.in-Some.is c.next.ensures.steps in
    AllByRecursion_at (λ k. is_placed k ≡ true) cases at c.in-Some.case
    (AllByRecursion-from_list_all (λ k. is_placed k ≡ true) is_placed (λ _ placed. placed) cases c.requires.placed)
    (slice_get_read cases (length cases) at c.in-Some.case refl here.0 here.1)

pub loop-case-preserved : goal.loop-case-preserved
loop-case-preserved c =
    let case = c.in-Some.case in
    c.in_ok-push.ensures.ok
    ∙ ap (λ e. c.loop-case.all ++ e ∷ []) c.in_ok-read.ensures.evidence
    ∙ ap (λ all. all ++ evidence_of case ∷ []) c.loop-case.invariant
    ∙ sym (map-append evidence_of c.loop-case.yielded (case ∷ []))

pub returns-clause-evidence : goal.returns-clause-evidence
returns-clause-evidence c =
    let end = YieldsList-end (YieldsList-from_vec {s = c.into_iter-case-iterator.result} c.args.cases (search rules) (search rules))
    c.loop-case.yielded c.loop-case.case-iterator c.loop-case.yielded_by c.next.result c.next.new.self c.in-None.is c.next.ensures.steps in
    c.loop-case.invariant ∙ ap (map evidence_of) (sym (map-id c.loop-case.yielded) ∙ end.0)
