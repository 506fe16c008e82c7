-- What is found are the least prefixes of all classes.
use Rattle.std.proofs.Common.{◌≡◌, ℕ, ◌≤◌, List, [], ◌∙◌, arith}
use Rattle.std.specs.Prelude.{◌||◌, ◌==◌}
use Rattle.std.specs.List.Sorted.{IsStrictlySortedBy}
use Rattle.std.specs.Ordering.{nat_cmp}
use Rattle.net_base.specs.Network.{PlainNet}
use Rattle.net_base.specs.Prefixes.{PlainPrefix}
use Rattle.policy_base.specs.Policies.{PlainPolicy, IsPolicyOf}
use Rattle.least_prefixes.specs.Bounds.{has, is_bound}
use Rattle.least_prefixes.specs.Classes.{AreLeast, IsNoLater}
use Rattle.least_prefixes.specs.Least.{joined_over}
use Rattle.least_prefixes.proofs.Descents.{at_bound}
use Rattle.least_prefixes.proofs.Joined.{found}

no_later : (p b q : PlainPrefix) → IsNoLater p b → b.bits ≤ q.bits → b.len ≡ q.len → IsNoLater p q
no_later p b q first before long =
    (let one = first.0 in omega (arith, one, before), λ same. (let one = first.0 in let two = first.1 (omega (arith, one, before, same)) in omega (arith, two, long)))

pub found_least : (net : PlainNet) (old new : PlainPolicy) → IsPolicyOf net old → IsPolicyOf net new → (xs : List ℕ) → IsStrictlySortedBy nat_cmp xs
    → ((x : ℕ) → has xs x ≡ ((0 == x || is_bound old x) || is_bound new x)) → AreLeast old new (joined_over old new [] xs)
found_least net old new kept kept_too xs order bounds =
    let all = found old new xs order in
    record {
      each = all.sound.each;
      covered = λ q c rules is. (
          let b = at_bound net old new kept kept_too c q rules is in
          let cover = all.covered b.0 c (bounds b.0.bits ∙ b.1.bound) b.1.rules b.1.class in
          (cover.0, cover.1, cover.2, no_later cover.0 b.0 q cover.3 b.1.before b.1.long));
      classed = all.sound.classed;
      apart = all.sound.apart;
      order = all.sound.order;
    }
