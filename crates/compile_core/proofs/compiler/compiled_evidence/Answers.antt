use Rattle.std.proofs.Common.{ap, refl, subst, sym, ◌∙◌}
use Rattle.policy_base.specs.Policies.{policy_of}
use Rattle.tag_assign.specs.Tagging.{tags_of}
use Rattle.compile_core.specs.Compiling.{IsEvidenceOfMade}
use Rattle.compile_core.proofs.Whole.{each_kept, few_cases, few_tags, is_evidence, tags_each}
use Rattle.compile_core.proofs.compiler.compiled_evidence.Goals as goal

pub accepted_cases-requires-clause-few : goal.accepted_cases-requires-clause-few
accepted_cases-requires-clause-few c = few_cases c.args.net.now (policy_of c.args.policy.now) c.in_ok-list.list.cases c.known_policy.ensures c.in_ok-list.ensures

pub tags-requires : goal.tags-requires
tags-requires c =
    few_tags c.args.net.now (policy_of c.args.policy.now) c.deref.result.now c.in_ok-all.all.graphs.items c.in_ok-all.all.prefs.items
    c.known_policy.ensures c.deref.ensures.value c.in_ok-all.ensures.given

pub evidence_of-requires-clause-tags : goal.evidence_of-requires-clause-tags
evidence_of-requires-clause-tags c =
    tags_each c.args.net.now c.known_net.ensures (policy_of c.args.policy.now) c.known_policy.ensures c.requires c.as_slice.result.now
    c.in_ok-all.all.graphs.items c.in_ok-all.all.graphs.items c.in_ok-all.all.prefs.items c.in_ok-all.all.prefs.items c.as_slice-2.result.now
    (c.as_slice.ensures ∙ c.in_ok-list.ensures) refl refl (c.as_slice-2.ensures ∙ c.in_ok-tags.ensures ∙ ap (tags_of c.args.net.now) c.deref.ensures.value) c.in_ok-all.ensures.given

pub evidence_of-requires-clause-kept : goal.evidence_of-requires-clause-kept
evidence_of-requires-clause-kept c =
    each_kept c.args.net.now c.known_net.ensures (policy_of c.args.policy.now) c.known_policy.ensures c.requires c.as_slice.result.now
    c.in_ok-all.all.graphs.items c.in_ok-all.all.graphs.items c.in_ok-all.all.prefs.items c.in_ok-all.all.prefs.items c.as_slice-2.result.now
    (c.as_slice.ensures ∙ c.in_ok-list.ensures) refl refl (c.as_slice-2.ensures ∙ c.in_ok-tags.ensures ∙ ap (tags_of c.args.net.now) c.deref.ensures.value) c.in_ok-all.ensures.given

pub returns-clause-made : goal.returns-clause-made
returns-clause-made c =
    subst (IsEvidenceOfMade c.args.net.now (policy_of c.args.policy.now)) (sym c.in_ok-evidence_of.ensures)
    (is_evidence c.args.net.now c.known_net.ensures (policy_of c.args.policy.now) c.known_policy.ensures c.requires c.as_slice.result.now
    c.in_ok-all.all.graphs.items c.in_ok-all.all.graphs.items c.in_ok-all.all.prefs.items c.in_ok-all.all.prefs.items c.as_slice-2.result.now
    (c.as_slice.ensures ∙ c.in_ok-list.ensures) refl refl (c.as_slice-2.ensures ∙ c.in_ok-tags.ensures ∙ ap (tags_of c.args.net.now) c.deref.ensures.value) c.in_ok-all.ensures.given)
