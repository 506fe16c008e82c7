-- The whole text.
use Rattle.std.proofs.Common.{◌≡◌, ℕ, List, [], ◌++◌, length, sym, ap, ap₂, ◌∙◌}
use Rattle.std.proofs.lemmas.List.{length-map}
use Rattle.net_base.specs.Network.{PlainNet}
use Rattle.policy_base.specs.Policies.{PlainPolicy}
use Rattle.evidence_base.specs.Made.{PlainCaseEvidence}
use Rattle.own_space.specs.declared.open_case.OpenCase.{OpenCase}
use Rattle.own_space.specs.declared.open_part.OpenPart.{OpenPart}
use Rattle.own_space.specs.Open.{open_parts}
use Rattle.promises_report.specs.declared.counts.Counts.{Counts}
use Rattle.promises_report.specs.declared.group.Group.{Group}
use Rattle.promises_report.specs.declared.apart.ApartRanks.{ApartRanks}
use Rattle.promises_report.specs.Apart.{apart_ranks}
use Rattle.promises_report.specs.Cases.{AreTold, TellsCases, cases_of}
use Rattle.promises_report.specs.Counting.{counts_in}
use Rattle.promises_report.specs.Groups.{groups_of, rows_of}
use Rattle.promises_report.specs.Promises.{Promises}
use Rattle.promises_report.specs.Taking.{taking_cases}
use Rattle.promises_report.proofs.Casing.{case_of}
use Rattle.promises_text.specs.Texts.{last_lines, statements_text}
use Rattle.promises_text.specs.Written.{IsTextOf}

pub whole_text : (net : PlainNet) (policy : PlainPolicy) (ds : List PlainCaseEvidence) (old mid new : List ℕ) (groups : List Group) (counts : Counts) (taking : List OpenCase) (parts : List OpenPart) (pairs : List ApartRanks) (n : ℕ)
    → old ≡ [] → TellsCases net policy ds groups counts taking → n ≡ length ds → parts ≡ open_parts policy taking
    → ((xs : List Promises) → AreTold net ds xs → pairs ≡ apart_ranks net policy (cases_of ds) xs)
    → mid ≡ old ++ statements_text net policy groups 1 policy.statements → new ≡ mid ++ last_lines policy n counts taking parts pairs → IsTextOf net policy ds new
whole_text net policy ds old mid new groups counts taking parts pairs n none all size are apart first step =
    let cs = cases_of ds in
    let number : n ≡ length cs = size ∙ sym (length-map ds case_of) in
    let told : mid ≡ statements_text net policy (groups_of net policy 1 cs (rows_of net cs all.promises) []) 1 policy.statements =
    first ∙ ap₂ (λ (t : List ℕ) (gs : List Group). t ++ statements_text net policy gs 1 policy.statements) none all.groups_are in
    let open_ones : parts ≡ open_parts policy (taking_cases net 1 cs all.promises) = are ∙ ap (open_parts policy) all.taking_are in
    let took = taking_cases net 1 cs all.promises in
    let last : last_lines policy n counts taking parts pairs
    ≡ last_lines policy (length cs) (counts_in net policy cs (rows_of net cs all.promises)) took (open_parts policy took) (apart_ranks net policy cs all.promises) =
    ap₂ (λ (m : ℕ) (c : Counts). last_lines policy m c taking parts pairs) number all.counts_are
    ∙ ap₂ (λ (ts : List OpenCase) (xs : List OpenPart). last_lines policy (length cs) (counts_in net policy cs (rows_of net cs all.promises)) ts xs pairs) all.taking_are open_ones
    ∙ ap (last_lines policy (length cs) (counts_in net policy cs (rows_of net cs all.promises)) took (open_parts policy took)) (apart all.promises all.told) in
    record { promises = all.promises; told = all.told; spelled = step ∙ ap₂ (λ (x y : List ℕ). x ++ y) told last }
