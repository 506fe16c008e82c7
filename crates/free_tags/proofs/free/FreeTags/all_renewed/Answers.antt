use Rattle.std.proofs.Common.{◌+◌, List, take, sym, ap, subst, ◌∙◌}
use Rattle.std.proofs.lemmas.List.{take_all, take_more}
use Rattle.net_base.specs.declared.numbers.Tag.{Tag}
use Rattle.free_tags.specs.Free.{AreNewTags}
use Rattle.free_tags.proofs.free.FreeTags.all_renewed.Goals as goal

pub loop-place-preserved : goal.loop-place-preserved
loop-place-preserved c =
    let ts = c.args.tags.now in
    let i = c.loop-place.place in
    record {
      new = λ taken leaves.
          let P : List Tag → Type 0 = λ xs. AreNewTags taken xs c.push_renewed.new.all in
          subst P (sym (take_more ts i _ c.loop-place-test.true))
          (c.in_ok-push_renewed.ensures.new taken (take i ts) (c.loop-place.invariant.kept taken leaves) (c.loop-place.invariant.new taken leaves));
      long = c.in_ok-push_renewed.ensures.long ∙ ap (λ n. n + 1) c.loop-place.invariant.long;
      kept = λ taken leaves. c.in_ok-push_renewed.ensures.kept taken (c.loop-place.invariant.kept taken leaves);
    }

pub returns-clause-new : goal.returns-clause-new
returns-clause-new c = λ taken leaves.
    let P : List Tag → Type 0 = λ ts. AreNewTags taken ts c.loop-place.all in
    subst P (take_all c.loop-place.place c.args.tags.now c.loop-place-test.false) (c.loop-place.invariant.new taken leaves)
