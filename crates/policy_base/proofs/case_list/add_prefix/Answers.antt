use Rattle.std.proofs.Common.{sym, ap, ◌∙◌, ◌++◌, ◌∷◌, [], arith, map}
use Rattle.std.specs.Prelude.{if◌then◌else◌}
use Rattle.std.specs.List.{list_any, position_or_len}
use Rattle.policy_base.specs.CaseIndex.{kind_of}
use Rattle.policy_base.proofs.CaseLemmas.{joined, with_prefix_new}
use Rattle.policy_base.proofs.KindLemmas.{is_kind, kinds_joined, place_by_kind}
use Rattle.policy_base.proofs.case_list.add_prefix.Goals as goal

pub returns-in_ok-push-clause-joined : goal.returns-in_ok-push-clause-joined
returns-in_ok-push-clause-joined c =
    joined c.args.statement c.args.origin c.args.cases.now.items c.in_ok-place.place c.index_mut.result.now c.push.new.self
    (c.in_ok-place.ensures.index ∙ ap (λ ks. position_or_len (is_kind c.args.statement c.args.origin.at) ks) c.requires ∙ place_by_kind c.args.statement c.args.origin.at c.args.cases.now.items)
    (omega arith) c.index_mut.ensures.value c.in_ok-push.ensures.ok

pub returns-in_ok-push-clause-kinds : goal.returns-in_ok-push-clause-kinds
returns-in_ok-push-clause-kinds c =
    c.in_ok-place.ensures.keys
    ∙ ap (λ ks. if list_any (is_kind c.args.statement c.args.origin.at) ks then ks else ks ++ (c.args.statement, c.args.origin.at) ∷ []) c.requires
    ∙ kinds_joined c.args.statement c.args.origin c.args.cases.now.items ∙ ap (λ ds. map kind_of ds) (sym (returns-in_ok-push-clause-joined c))

pub returns-in_ok-push-2-clause-joined : goal.returns-in_ok-push-2-clause-joined
returns-in_ok-push-2-clause-joined c =
    c.in_ok-push-2.ensures.items ∙ ap (λ d. c.args.cases.now.items ++ d ∷ []) c.in_ok-case_of.ensures
    ∙ sym (with_prefix_new c.args.statement c.args.origin c.args.cases.now.items c.in_ok-place.place
    (c.in_ok-place.ensures.index ∙ ap (λ ks. position_or_len (is_kind c.args.statement c.args.origin.at) ks) c.requires ∙ place_by_kind c.args.statement c.args.origin.at c.args.cases.now.items)
    (omega arith))
