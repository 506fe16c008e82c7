use Rattle.std.proofs.Common.{◌<◌, [], IsTrue, ◌∙◌, ap, sym, subst, inl, inr, length, get_or, length-set}
use Rattle.std.proofs.lemmas.List.{get_or_read}
use Rattle.reach_prune.specs.Searches.{is_marked}
use Rattle.preference_check.specs.Offers.{is_offered}
use Rattle.preference_check.specs.Runs.{IsMatching}
use Rattle.preference_check.specs.declared.runs.Numbered.{Numbered}
use Rattle.preference_check.proofs.Matching.{marked_cases, matching_entry}
use Rattle.preference_check.proofs.passing.mark_matching.Goals as goal
use Rattle.preference_check.proofs.passing.mark_matching.Goals.{then-branch, else-branch}

pub loop-entry-preserved : goal.loop-entry-preserved
loop-entry-preserved c =
    let none : Numbered = record { number = 0; node = 0 } in
    let i = c.loop-entry.entry-index in
    let node = (get_or c.args.run.now i none).node in
    let within : i < length c.args.run.now = c.loop-entry-test.true in
    let offers = c.as_slice.ensures ∙ get_or_read c.args.offers.now node _ (c.requires.nodes i none within) c.index-offers-entry.is [] in
    elim c.if-branch.branch [
      | then-branch w ↦
          record {
            bound = c.in_ok-count.ensures.count;
            taken = c.in_ok-count.ensures.taken;
            size = ap (λ v. length v.items) w.marks-is ∙ length-set _ _ _ ∙ c.loop-entry.invariant.size;
            marks = λ m h. elim (marked_cases c.loop-entry.marks.items node m (subst (λ v. IsTrue (is_marked v.items m)) w.marks-is h)) [
              | inl e ↦ inr (subst (IsMatching c.args.offers.now c.args.run.now) e
                  (matching_entry c.args.offers.now c.args.run.now i c.in_ok-count.count none c.take_in_upto.new.owed.least.items within c.in_ok-count.ensures.taken c.in_ok-count.ensures.all
                  (λ at cost low. ap (λ l. is_offered l at cost) (sym offers) ∙ c.in_ok-are_enough.ensures w.if-branch.true at cost low)))
              | inr before ↦ c.loop-entry.invariant.marks m before
            ];
          }
      | else-branch w ↦
          record {
            bound = c.in_ok-count.ensures.count;
            taken = c.in_ok-count.ensures.taken;
            size = ap (λ v. length v.items) w.marks-is ∙ c.loop-entry.invariant.size;
            marks = λ m h. c.loop-entry.invariant.marks m (subst (λ v. IsTrue (is_marked v.items m)) w.marks-is h);
          }
    ]
