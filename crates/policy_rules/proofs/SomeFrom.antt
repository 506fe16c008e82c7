-- A search for a location of a set.
use Rattle.std.proofs.Common.{◌≡◌, ℕ, suc, ◌+◌, false, refl}
use Rattle.net_base.specs.declared.loc.LocSet.{LocSet}
use Rattle.net_base.specs.Sets.{holds}
use Rattle.policy_rules.specs.Origins.{has_some}

-- what isn't there is passed over
pub has_some_past : (s : LocSet) (l n m : ℕ) → n ≡ suc m → holds s l ≡ false → has_some s l n ≡ has_some s (l + 1) m
has_some_past s l n m more absent = rw (more, absent) refl
