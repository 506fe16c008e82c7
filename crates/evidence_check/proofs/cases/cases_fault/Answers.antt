use Rattle.std.proofs.Common.{rules, ◌≡◌, ◌∙◌, ◌+◌, ℕ, List, Some, length, sym, ap, subst, arith, refl}
use Rattle.std.specs.Prelude.{slice_get}
use Rattle.list_law.proofs.Items.{slice_get_inside}
use Rattle.policy_base.specs.declared.case.Case.{Case}
use Rattle.policy_base.specs.Cases.{case_list}
use Rattle.policy_base.specs.CaseNumbers.{OfCase}
use Rattle.policy_base.specs.Policies.{policy_of}
use Rattle.evidence_verdicts.specs.declared.rule.CheckRule.TheVariants.{Cases}
use Rattle.case_core.specs.Refusals.{IsGraphOf}
use Rattle.evidence_check.specs.CaseFaults.{IsLeastFault}
use Rattle.evidence_check.specs.Listed.{IsWithin}
use Rattle.evidence_check.proofs.SeenTags.{case_of_place}
use Rattle.evidence_check.proofs.Fold.{least_of_all, listed_next, next_least, other_case, past_limits, too_many}
use Rattle.evidence_check.proofs.Live.{given_is_live, given_within, none_within, statement_there}
use Rattle.evidence_check.proofs.cases.cases_fault.Goals as goal

pub loop-place-init : goal.loop-place-init
loop-place-init c = record {
  listed = search rules;
  least = search rules;
  kept = c.in_ok-kept.ensures c.args.net.now;
}

pub returns-in_default : goal.returns-in_default
returns-in_default c =
    let net = c.args.net.now in
    let policy = policy_of c.args.policy.now in
    let cs = c.args.evidence.now in
    let j = c.loop-place.place in
    let list = c.as_slice-list.ensures ∙ c.requires.cases in
    let here = slice_get_inside (case_list net policy) j (omega (arith, c.loop-place-test.true, ap length list)) in
    let in_cases = ap (λ (xs : List Case). slice_get xs j) list ∙ here.1 in
    let fault = other_case net policy cs j c.loop-place.room c.loop-place.invariant.listed here.0 here.1 (λ e at same. c.in_default.ensures.differs here.0 e in_cases at same) in
    let number = subst (λ n. IsLeastFault net policy cs (record { case = n; fault = record { rule = Cases; first = 0; second = 0 } })) (sym c.in_ok-number.ensures) fault in
    subst (IsLeastFault net policy cs) (sym c.unlisted.ensures) number

pub within_limits-requires-clause-kept : goal.within_limits-requires-clause-kept
within_limits-requires-clause-kept c = c.loop-place.invariant.kept

pub returns-in_default-2 : goal.returns-in_default-2
returns-in_default-2 c =
    let net = c.args.net.now in
    let policy = policy_of c.args.policy.now in
    let cs = c.args.evidence.now in
    let j = c.loop-place.place in
    let list = c.as_slice-list.ensures ∙ c.requires.cases in
    let d = c.in-Some.found.now in
    let in_list : slice_get (case_list net policy) j ≡ Some d.case = ap (λ (xs : List Case). slice_get xs j) (sym list) ∙ c.in-Some.ensures.same in
    let past = rw c.in_default-2.is at c.in_ok-given.ensures.past in
    let none = none_within net policy j d.case in_list c.loop-place.room (subst (λ n. OfCase net policy n (λ s c'. (steps : ℕ) → IsWithin net s c' c.loop-place.room steps → ⊥)) c.in_ok-number.ensures past) in
    let fault = past_limits net policy cs j c.loop-place.room c.loop-place.invariant.listed d.case in_list none in
    let number = subst (λ n. IsLeastFault net policy cs (record { case = n; fault = record { rule = Cases; first = 0; second = 0 } })) (sym c.in_ok-number.ensures) fault in
    subst (IsLeastFault net policy cs) (sym c.unlisted-in_default-2.ensures) number

pub overflow_sub-room : goal.overflow_sub-room
overflow_sub-room c =
    let net = c.args.net.now in
    let policy = policy_of c.args.policy.now in
    let j = c.loop-place.place in
    let list = c.as_slice-list.ensures ∙ c.requires.cases in
    let d = c.in-Some.found.now in
    let in_list : slice_get (case_list net policy) j ≡ Some d.case = ap (λ (xs : List Case). slice_get xs j) (sym list) ∙ c.in-Some.ensures.same in
    let graph = rw c.in-Some-2.is at c.in_ok-given.ensures.graph in
    let of = subst (λ n. OfCase net policy n (λ s c'. IsGraphOf net c.loop-place.room s c' c.in-Some-2.given)) c.in_ok-number.ensures graph in
    let within = given_within net policy j d.case in_list c.loop-place.room c.in-Some-2.given of in
    omega (arith, within.2.fits)

pub case_fault-requires : goal.case_fault-requires
case_fault-requires c =
    let net = c.args.net.now in
    let policy = policy_of c.args.policy.now in
    let j = c.loop-place.place in
    let list = c.as_slice-list.ensures ∙ c.requires.cases in
    let d = c.in-Some.found.now in
    let in_list : slice_get (case_list net policy) j ≡ Some d.case = ap (λ (xs : List Case). slice_get xs j) (sym list) ∙ c.in-Some.ensures.same in
    let graph = rw c.in-Some-2.is at c.in_ok-given.ensures.graph in
    let of = subst (λ n. OfCase net policy n (λ s c'. IsGraphOf net c.loop-place.room s c' c.in-Some-2.given)) c.in_ok-number.ensures graph in (
      (statement_there net policy j d.case in_list).0,
      given_is_live net policy j d.case in_list c.loop-place.room c.in-Some-2.given of c.known_net.ensures c.requires.routers,
    )

pub loop-place-preserved : goal.loop-place-preserved
loop-place-preserved c =
    let net = c.args.net.now in
    let policy = policy_of c.args.policy.now in
    let cs = c.args.evidence.now in
    let j = c.loop-place.place in
    let room = c.loop-place.room in
    let list = c.as_slice-list.ensures ∙ c.requires.cases in
    let d = c.in-Some.found.now in
    let given = c.in-Some-2.given in
    let in_list : slice_get (case_list net policy) j ≡ Some d.case = ap (λ (xs : List Case). slice_get xs j) (sym list) ∙ c.in-Some.ensures.same in
    let in_cs = c.in-Some.ensures.here in
    let graph = rw c.in-Some-2.is at c.in_ok-given.ensures.graph in
    let of = subst (λ n. OfCase net policy n (λ s c'. IsGraphOf net room s c' given)) c.in_ok-number.ensures graph in
    let within = given_within net policy j d.case in_list room given of in
    let live = given_is_live net policy j d.case in_list room given of c.known_net.ensures c.requires.routers in
    let there = statement_there net policy j d.case in_list in
    let listed = listed_next net policy cs j room c.loop-place.invariant.listed d.case in_list d given.used in_cs refl within in
    let fault = c.in_ok-case_fault.ensures policy cs (j + 1) there.0 (record { at = case_of_place cs j d in_cs; statement = there.1.statement }) live in
    let least = next_least net policy cs j (j + 1) refl (listed.each (j + 1) (omega arith)) c.loop-place.least c.in_ok-case_fault.field-0 c.loop-place.invariant.least fault in
    record {
      listed = listed;
      least = rw (c.least_of-least.ensures, c.in_ok-number.ensures) least;
      kept = c.in_ok-given.ensures.kept;
    }

pub returns-then-evidence-list : goal.returns-then-evidence-list
returns-then-evidence-list c =
    let net = c.args.net.now in
    let policy = policy_of c.args.policy.now in
    let cs = c.args.evidence.now in
    let j = c.loop-place.place in
    let count = ap length (c.as_slice-list.ensures ∙ c.requires.cases) in
    let all : j ≡ length c.as_slice-list.result.now = omega (arith, c.loop-place-test.false, c.loop-place.auto.place-end) in
    let more = slice_get_inside cs j (omega (arith, all, c.if-evidence-list.true)) in
    let fault = too_many net policy cs j c.loop-place.room c.loop-place.invariant.listed more.0 more.1 (omega (arith, all, count)) in
    let number : j + 1 ≡ c.in_ok-case_number.field-0 = omega (arith, all, c.in_ok-case_number.ensures) in
    let at = subst (λ n. IsLeastFault net policy cs (record { case = n; fault = record { rule = Cases; first = 0; second = 0 } })) number fault in
    subst (IsLeastFault net policy cs) (sym c.unlisted-then-evidence-list.ensures) at

pub returns : goal.returns
returns c =
    let net = c.args.net.now in
    let policy = policy_of c.args.policy.now in
    let cs = c.args.evidence.now in
    let j = c.loop-place.place in
    let count = ap length (c.as_slice-list.ensures ∙ c.requires.cases) in
    least_of_all net policy cs j c.loop-place.room c.loop-place.invariant.listed (omega (arith, c.loop-place-test.false, count))
    (omega (arith, c.loop-place-test.false, c.if-evidence-list.false)) c.loop-place.least c.loop-place.invariant.least
