use Rattle.std.proofs.lemmas.Result.{on_ok_weaker}
use Rattle.route_map_text.proofs.PrintLaws.{router_made}
use Rattle.route_map_text.proofs.blocks.push_router.Goals as goal

pub returns-clause-text : goal.returns-clause-text
returns-clause-text c =
    let r = c.args.router.now in
    let old = c.args.text.now.items in
    let head = c.push_router_line.new.text.items in
    let owns = c.push_networks.new.text.items in
    let sessions = c.push_sessions.new.text.items in
    let end = c.push_bytes.new.text.items in
    on_ok_weaker c.push_bytes.result
    (router_made r old head owns sessions end c.in_ok-push_router_line.ensures.text (rw c.as_slice.ensures at c.in_ok-push_networks.ensures.text)
    (rw c.as_slice-2.ensures at c.in_ok-push_sessions.ensures.text))
    c.push_bytes.ensures
