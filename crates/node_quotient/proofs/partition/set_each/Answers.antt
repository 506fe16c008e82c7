use Rattle.std.proofs.Common.{◌<◌, get_or, if◌then◌else◌, length, refl, ap, ◌∙◌, arith}
use Rattle.std.proofs.lemmas.List.{length-set, take_all}
use Rattle.reach_prune.specs.Searches.{is_among}
use Rattle.node_quotient.proofs.Hits.{set_more}
use Rattle.node_quotient.proofs.partition.set_each.Goals as goal

pub loop-place-preserved : goal.loop-place-preserved
loop-place-preserved g c =
    let places = c.args.places.now in
    let i = c.loop-place.place-index in
    let place = get_or places i 0 in
    let now = c.loop-place.items.items in
    let inv = c.loop-place.invariant in
    let inside : place < length now = omega (arith, c.requires i 0 c.loop-place-test.true, inv.size) in
    record {
      size = length-set now place c.args.item ∙ inv.size;
      items = λ d. set_more d c.args.items.now.items now places i c.args.item c.loop-place-test.true inside (inv.items d);
    }

pub loop-place-init : goal.loop-place-init
loop-place-init g c = record { size = refl; items = λ d n. refl }

pub returns : goal.returns
returns g c =
    let inv = c.loop-place.invariant in
    let places = c.args.places.now in
    record {
      size = inv.size;
      items = λ d n. inv.items d n
          ∙ ap (λ l. if is_among l n then c.args.item else get_or c.args.items.now.items n d) (take_all c.loop-place.place-index places c.loop-place-test.false);
    }
