use Rattle.std.proofs.Common.{◌<◌, ◌∙◌, sym, ap, get_or, take, length}
use Rattle.std.specs.Prelude.{nat_eq, ◌||◌, ◌==◌}
use Rattle.std.specs.List.{list_any}
use Rattle.std.proofs.lemmas.List.{take_all}
use Rattle.net_base.proofs.SetLaws.{same_sets, IsWords-none, IsWords-with, IsWords-set_of}
use Rattle.net_base.proofs.SetOf.{holds-set_of}
use Rattle.net_base.specs.Sets.{set_of}
use Rattle.evidence_text.proofs.PlaceSets.{all_at, list_any-take_more}
use Rattle.evidence_text.proofs.judge.set_of_places.Goals as goal

pub loop-place-init : goal.loop-place-init
loop-place-init c = record { words = rw c.new-set.ensures.set IsWords-none; taken = λ m small. c.new-set.ensures.holds m }

pub location-requires : goal.location-requires
location-requires c = all_at (λ l. l < 768) c.args.places.now c.loop-place.place-index 0 c.requires c.loop-place-test.true

pub with-set-requires : goal.with-set-requires
with-set-requires c = rw c.location.ensures (all_at (λ l. l < 768) c.args.places.now c.loop-place.place-index 0 c.requires c.loop-place-test.true)

pub loop-place-preserved : goal.loop-place-preserved
loop-place-preserved c =
    let place = get_or c.args.places.now c.loop-place.place-index 0 in
    let within : c.loop-place.place-index < length c.args.places.now = c.loop-place-test.true in
    let low : place < 768 = all_at (λ l. l < 768) c.args.places.now c.loop-place.place-index 0 c.requires within in
    record {
      words = rw (c.with-set.ensures.set, c.location.ensures) (IsWords-with c.loop-place.set place low c.loop-place.invariant.words);
      taken =
          λ m small. c.with-set.ensures.holds m ∙ ap (λ b. b || m == c.location.result) (c.loop-place.invariant.taken m small)
          ∙ ap (λ n. list_any (nat_eq m) (take c.loop-place.place-index c.args.places.now) || m == n) c.location.ensures
          ∙ sym (list_any-take_more m c.args.places.now c.loop-place.place-index within);
    }

pub returns : goal.returns
returns c =
    let places = c.args.places.now in
    same_sets c.loop-place.set (set_of (λ l. list_any (nat_eq l) places)) c.loop-place.invariant.words (IsWords-set_of (λ l. list_any (nat_eq l) places))
    (λ l low. c.loop-place.invariant.taken l low ∙ ap (list_any (nat_eq l)) (take_all c.loop-place.place-index places c.loop-place-test.false)
    ∙ sym (holds-set_of (λ l. list_any (nat_eq l) places) l low))
