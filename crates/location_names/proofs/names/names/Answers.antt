use Rattle.std.proofs.Common.{◌≡◌, ◌∙◌, sym, Some}
use Rattle.std.specs.Prelude.{slice_get}
use Rattle.net_base.specs.Network.{sites}
use Rattle.location_names.proofs.SiteNames.{next_name}
use Rattle.location_names.proofs.names.names.Goals as goal

pub loop-place-preserved : goal.loop-place-preserved
loop-place-preserved c =
    let at : slice_get (sites c.args.net.now) c.loop-place.place ≡ Some c.site.result.now = rw c.new.ensures at c.site.ensures in
    let next = next_name c.args.net.now c.loop-place.place c.site.result.now c.routers.ensures.rules at in
    let fresh = rw (c.as_bytes.ensures.bytes, c.loop-place.invariant, next.0) at c.in_ok-note.ensures.fresh in
    (rw (c.as_bytes.ensures.bytes, c.loop-place.invariant) at c.in_ok-note.ensures.added fresh) ∙ sym next.1
