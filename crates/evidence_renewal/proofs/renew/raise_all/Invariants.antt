use Rattle.std.proofs.Common.{◌≡◌, ◌<◌, ◌^◌, map, take}
use Rattle.std.specs.List.{AllByRecursion}
use Rattle.evidence_renewal.specs.Renewed.{raised}
use Rattle.evidence_renewal.proofs.renew.raise_all.Given as goal

abbrev pub invariant-loop-place : goal.invariant-loop-place
invariant-loop-place l = record {
  so_far : l.all ≡ map (raised l.by) (take l.place l.numbers);
  fits : AllByRecursion (λ n. raised l.by n < 2 ^ 32) (take l.place l.numbers);
}
