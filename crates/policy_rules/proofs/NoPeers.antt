-- A set that shares no location with the peers has none of them.
use Rattle.std.proofs.Common.{◌≡◌, ℕ, zero, suc, ◌+◌, ◌<◌, ◌≤◌, ◌&&◌, Bool, true, false, length, refl, sym, ◌∙◌, arith}
use Rattle.std.proofs.lemmas.Bool.{le-leb, lt-ltb}
use Rattle.net_base.specs.declared.loc.LocSet.{LocSet}
use Rattle.net_base.specs.Network.{PlainNet, is_peer}
use Rattle.net_base.specs.NetSets.{peers}
use Rattle.net_base.specs.Sets.{holds}
use Rattle.net_base.proofs.SetOf.{holds-set_of}
use Rattle.policy_rules.specs.Origins.{has_some, has_peer}

one_absent : (a b : Bool) → (a && b) ≡ false → b ≡ true → a ≡ false
one_absent true b none is = sym is ∙ none
one_absent false b none is = refl

none_of : (s : LocSet) (l n : ℕ) → ((k : ℕ) → l ≤ k → k < l + n → holds s k ≡ false) → has_some s l n ≡ false
none_of s l zero absent = refl
none_of s l (suc n) absent = rw (absent l (omega arith) (omega arith)) (none_of s (l + 1) n (λ k from to. absent k (omega (arith, from)) (omega (arith, to))))

pub no_peer : (net : PlainNet) (s : LocSet) → length net.routers + length net.peers ≤ 768 → ((l : ℕ) → (holds s l && holds (peers net) l) ≡ false) → has_peer net s ≡ false
no_peer net s few none =
    none_of s (length net.routers) (length net.peers)
    (λ k from to. one_absent (holds s k) (holds (peers net) k) (none k)
    (holds-set_of (is_peer net) k (omega (arith, few, to)) ∙ rw (le-leb (length net.routers) k from, lt-ltb k (length net.routers + length net.peers) to) refl))
