-- A location is a router or a peer, and not both.
use Rattle.std.proofs.Common.{◌≡◌, ℕ, true, false, ◌&&◌, sym, ap, ◌∙◌, arith, inl, inr, ltb-true, ltb-false, lt-ltb, le-ltb, le-leb, leb-true}
use Rattle.std.proofs.lemmas.Bool.{and_parts, and_from, cases_Bool, lt-leb, true≢false}
use Rattle.net_base.specs.Network.{PlainNet, is_location, is_peer, is_router}

pub router_known : (net : PlainNet) (l : ℕ) → is_router net l ≡ true → is_location net l ≡ true
router_known net l h = lt-ltb _ _ (omega (arith, ltb-true _ _ h))

pub router_no_peer : (net : PlainNet) (l : ℕ) → is_router net l ≡ true → is_peer net l ≡ false
router_no_peer net l h = ap (λ b. b && is_location net l) (lt-leb _ _ (ltb-true _ _ h))

pub peer_no_router : (net : PlainNet) (l : ℕ) → is_peer net l ≡ true → is_router net l ≡ false
peer_no_router net l h = le-ltb _ _ (leb-true _ _ (and_parts _ _ h).0)

pub router_or_peer : (net : PlainNet) (l : ℕ) → is_location net l ≡ true → is_peer net l ≡ false → is_router net l ≡ true
router_or_peer net l known off = elim (cases_Bool (is_router net l)) [
  | inl t ↦ t
  | inr t ↦ absurd (true≢false (sym (and_from _ _ (le-leb _ _ (ltb-false _ _ t)) known) ∙ off))
]
