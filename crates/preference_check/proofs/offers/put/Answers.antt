use Rattle.std.proofs.Common.{◌++◌, ◌∷◌, [], ap, ◌∙◌}
use Rattle.std.proofs.lemmas.List.{get_or_read}
use Rattle.std.proofs.lemmas.Result.{on_ok_weaker}
use Rattle.preference_check.proofs.Put.{put_none, put_some}
use Rattle.preference_check.proofs.offers.put.Goals as goal

pub returns-in-None-clause-offers : goal.returns-in-None-clause-offers
returns-in-None-clause-offers c = put_none c.args.offers.now.items c.args.node c.args.offer c.in-None.is

pub returns-in-Some-clause-offers : goal.returns-in-Some-clause-offers
returns-in-Some-clause-offers c =
    let offers = c.args.offers.now.items in
    let read = get_or_read offers c.args.node _ c.requires c.index_mut.ensures.value [] in
    on_ok_weaker c.push.result (λ pushed. put_some offers c.args.node c.args.offer c.in-Some.offer c.push.new.self c.requires c.in-Some.is
    (pushed ∙ ap (λ l. l ++ c.in-Some.offer ∷ []) read)) c.push.ensures.ok
