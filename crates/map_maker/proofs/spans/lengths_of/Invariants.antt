use Rattle.std.proofs.Common.{◌≡◌, ℕ, ◌≤◌, List}
use Rattle.std.specs.Prelude.{◌&&◌, ◌==◌, nat_lt}
use Rattle.std.specs.List.{list_any, AllByRecursion}
use Rattle.net_base.specs.Prefixes.{PlainPattern}
use Rattle.map_maker.specs.Keys.{has}
use Rattle.map_maker.proofs.spans.lengths_of.Given as goal

abbrev pub invariant-loop-len : goal.invariant-loop-len
invariant-loop-len l = record {
  within : AllByRecursion (λ n. n ≤ 32) l.lengths.items;
  all : (n : ℕ) → has l.lengths.items n ≡ (nat_lt n l.len && list_any (λ (c : List PlainPattern). list_any (λ (p : PlainPattern). p.base.len == n) c) l.classes);
}
