use Rattle.std.proofs.Common.{◌≡◌, ℕ, ◌<◌, take}
use Rattle.std.specs.Prelude.{nat_eq}
use Rattle.std.specs.List.{list_any}
use Rattle.net_base.specs.Sets.{IsWords, holds}
use Rattle.evidence_text.proofs.judge.set_of_places.Given as goal

abbrev pub invariant-loop-place : goal.invariant-loop-place
invariant-loop-place l = record {
  words : IsWords l.set;
  taken : (m : ℕ) → m < 768 → holds l.set m ≡ list_any (nat_eq m) (take l.place-index l.places);
}
