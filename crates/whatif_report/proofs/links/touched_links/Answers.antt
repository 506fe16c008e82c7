use Rattle.std.proofs.lemmas.Result.{IfOk-weaker}
use Rattle.whatif_report.proofs.Touching.{touched_cover}
use Rattle.whatif_report.proofs.links.touched_links.Goals as goal

pub returns : goal.returns
returns c = IfOk-weaker c.touched_among.result _ _ (λ links are. touched_cover c.args.net.now c.args.cut.now c.args.moved.now links are) c.touched_among.ensures
