use Rattle.std.proofs.Common.{◌≡◌, ◌↔◌, ◌<◌, [], ◌∷◌, IsTrue, eqb, ap, sym, subst, ◌∙◌, inl, inr, refl, arith, length, get_or}
use Rattle.std.proofs.lemmas.Bool.{both_ways, cases_lt, eq-eqb}
use Rattle.std.proofs.lemmas.List.{get_or_read}
use Rattle.std.proofs.lemmas.List.Folds.{list_any_at}
use Rattle.graph_base.specs.Rules.{KeepsLoop}
use Rattle.reach_prune.specs.Searches.{is_among, is_marked}
use Rattle.reach_prune.specs.Ways.{LeadsFrom}
use Rattle.reach_prune.specs.declared.steps.Way.TheVariants.{Backward}
use Rattle.graph_base.specs.Preferences.{number_in}
use Rattle.preference_check.proofs.Looping.{keeps_loop, no_greater_from}
use Rattle.preference_check.proofs.loops.first_looped.Goals as goal
use Rattle.preference_check.proofs.loops.first_looped.Goals.{else-is_over-via-then-is_over+else-not-are_no_greater, else-is_over-via-else-is_over}

pub are_no_greater-requires-clause-nodes : goal.are_no_greater-requires-clause-nodes
are_no_greater-requires-clause-nodes c = λ k d lt.
    let lists = c.args.lists.now in
    let nodes = c.as_slice.result.now in
    let other = c.loop-other.other in
    let within : other < length lists = omega (arith, c.loop-other-test.true, c.loop-other.auto.other-end, ap length c.nodes.ensures.nodes, c.requires.lists.size) in
    let read = c.as_slice.ensures ∙ get_or_read lists _ _ within c.index-lists-other.is [] in
    let next = get_or nodes k d in
    let below = c.requires.lists.are other next (ap (λ x. is_among x next) (sym read) ∙ list_any_at (λ x. eqb x next) nodes k d lt (eq-eqb next next refl)) in
    omega (arith, below, c.requires.lists.size)

pub returns-then-not-are_no_greater : goal.returns-then-not-are_no_greater
returns-then-not-are_no_greater c =
    let g = c.args.graph.now in
    let lists = c.args.lists.now in
    let other = c.loop-other.other in
    let within : other < length lists = omega (arith, c.loop-other-test.true, c.loop-other.auto.other-end, ap length c.nodes.ensures.nodes, c.requires.lists.size) in
    let read = c.as_slice.ensures ∙ get_or_read lists _ _ within c.index-lists-other.is [] in
    record {
      fails = λ keeps. both_ways _ c.if-not-are_no_greater.true (c.are_no_greater.ensures.1
          (no_greater_from c.args.net.now g c.args.numbers.now lists c.deref.result.now c.in_ok-least.least.least.items c.args.node other c.as_slice.result.now c.requires.lists
          (λ k lt. subst (λ b. IsTrue (is_marked b k) ↔ LeadsFrom Backward g (c.args.node ∷ []) k) (sym c.deref.ensures.value) (c.in_ok-before.ensures.marks k lt)) c.in_ok-least.ensures
          (λ t. ap (λ x. is_among x t) read ∙ c.requires.lists.steps other t) (c.is_over.ensures.0 c.if-is_over.true) keeps));
      before = c.loop-other.invariant;
    }

pub loop-other-preserved : goal.loop-other-preserved
loop-other-preserved c = λ q lt.
    let g = c.args.graph.now in
    let number = number_in c.args.numbers.now in
    let lists = c.args.lists.now in
    let other = c.loop-other.other in
    elim (cases_lt q other) [
      | inl less ↦ c.loop-other.invariant q less
      | inr past ↦ (
          let same : other ≡ q = omega arith in
          subst (KeepsLoop c.args.net.now g number c.args.node) same (elim c.else-is_over.branch [
            | else-is_over-via-then-is_over+else-not-are_no_greater w ↦ (
                let within : other < length lists = omega (arith, c.loop-other-test.true, c.loop-other.auto.other-end, ap length c.nodes.ensures.nodes, c.requires.lists.size) in
                let read = w.as_slice.ensures ∙ get_or_read lists _ _ within w.index-lists-other.is [] in
                keeps_loop c.args.net.now g c.args.numbers.now lists c.deref.result.now c.in_ok-least.least.least.items c.args.node other w.as_slice.result.now c.requires.lists
                (λ k lt. subst (λ b. IsTrue (is_marked b k) ↔ LeadsFrom Backward g (c.args.node ∷ []) k) (sym c.deref.ensures.value) (c.in_ok-before.ensures.marks k lt)) c.in_ok-least.ensures
                (λ t. ap (λ x. is_among x t) read ∙ c.requires.lists.steps other t) (w.are_no_greater.ensures.0 w.if-not-are_no_greater.false))
            | else-is_over-via-else-is_over w ↦ λ t k over on node at_k reach. absurd (both_ways _ w.if-is_over.false (c.is_over.ensures.1 over))
          ]))
    ]
