use Rattle.std.proofs.lemmas.Result.{IfOk-weaker}
use Rattle.whatif_report.proofs.Touching.{alone_covers, touched_cover}
use Rattle.whatif_report.proofs.links.cut_links.Goals as goal

pub returns-in-Link : goal.returns-in-Link
returns-in-Link c = rw c.in-Link.is (IfOk-weaker c.alone.result _ _ (λ links are. alone_covers c.args.net.now _ _ c.args.moved.now c.requires links are) c.alone.ensures)

pub returns-in-Router : goal.returns-in-Router
returns-in-Router c = IfOk-weaker c.touched_among.result _ _ (λ links are. touched_cover c.args.net.now c.args.cut.now c.args.moved.now links are) c.touched_among.ensures
