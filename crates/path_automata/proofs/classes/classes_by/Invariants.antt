use Rattle.std.proofs.Common.{◌≡◌, ℕ, Some, length, map}
use Rattle.std.specs.Prelude.{slice_get}
use Rattle.net_base.specs.Sets.{holds}
use Rattle.path_automata.proofs.classes.classes_by.Given as goal

abbrev pub invariant-loop-at : goal.invariant-loop-at
invariant-loop-at l = record {
  len : length l.classes.items ≡ l.at;
  signed : (x c : ℕ) → slice_get l.classes.items x ≡ Some c → slice_get (map (λ v. v.items) l.signatures.keys) c ≡ Some (map (λ s. holds s x) l.sets);
}
