use Rattle.std.proofs.Common.{◌++◌, ◌∷◌, [], List, sym, subst}
use Rattle.net_base.specs.declared.numbers.Tag.{Tag}
use Rattle.free_tags.specs.Free.{AreNewTags}
use Rattle.free_tags.proofs.Counting.{new-push}
use Rattle.free_tags.proofs.free.FreeTags.push_renewed.Goals as goal

pub returns-clause-new : goal.returns-clause-new
returns-clause-new c = λ taken done leaves are.
    let t = c.args.tag.now in
    let P : List Tag → Type 0 = λ us. AreNewTags taken (done ++ t ∷ []) us in
    subst P (sym c.in_ok-push.ensures.ok) (new-push taken done c.args.all.now t c.in_ok-renewed.field-0 are (c.in_ok-renewed.ensures.new taken leaves))
