-- Which paths survive.
use Rattle.std.proofs.Common.{◌≡◌, ℕ, zero, suc, ◌+◌, Bool, true, false, List, [], ◌∷◌, length, get_or, ◌<◌, not, refl, sym, ap, ◌∙◌, arith}
use Rattle.std.specs.Prelude.{◌&&◌, ◌||◌}
use Rattle.std.specs.List.{list_any}
use Rattle.net_base.specs.Network.{PlainNet, is_peer}
use Rattle.policy_base.specs.Meaning.{some_step}
use Rattle.outcome_base.specs.Outcomes.{Failures, is_dead, is_dead_link, is_silent, passes_live, ends_heard}

split : (a b c d : Bool) → (not a && not b && (not c && not d)) ≡ (not (a || c) && not (b || d))
split true b c d = refl
split false true true d = refl
split false true false d = refl
split false false c d = refl

one : (a : Bool) → not a ≡ (not (a || false) && true)
one true = refl
one false = refl

-- what two tests say of a path
pub passes_live_is : (f : Failures) (path : List ℕ) → passes_live f path ≡ (not (list_any (is_dead f) path) && not (some_step (is_dead_link f) path))
passes_live_is f [] = refl
passes_live_is f (l ∷ []) = one (is_dead f l)
passes_live_is f (l ∷ k ∷ ls) =
    ap (λ b. not (is_dead f l) && not (is_dead_link f l k) && b) (passes_live_is f (k ∷ ls))
    ∙ split (is_dead f l) (is_dead_link f l k) (list_any (is_dead f) (k ∷ ls)) (some_step (is_dead_link f) (k ∷ ls))

-- the last two places decide
pub ends_heard_last : (net : PlainNet) (f : Failures) (path : List ℕ) (i j r p : ℕ) → i + 2 ≡ length path → j + 1 ≡ length path → r ≡ get_or path i r → p ≡ get_or path j p
    → ends_heard net f path ≡ not (is_peer net p && is_silent f r p)
ends_heard_last net f [] i j r p first second router last = absurd (omega arith)
ends_heard_last net f (x ∷ []) i j r p first second router last = absurd (omega arith)
ends_heard_last net f (x ∷ y ∷ []) zero zero r p first second router last = absurd (omega arith)
ends_heard_last net f (x ∷ y ∷ []) zero (suc zero) r p first second router last =
    ap (λ q. not (is_peer net y && is_silent f q y)) (sym router) ∙ ap (λ q. not (is_peer net q && is_silent f r q)) (sym last)
ends_heard_last net f (x ∷ y ∷ []) zero (suc (suc j)) r p first second router last = absurd (omega arith)
ends_heard_last net f (x ∷ y ∷ []) (suc i) j r p first second router last = absurd (omega arith)
ends_heard_last net f (x ∷ y ∷ z ∷ zs) zero j r p first second router last = absurd (omega arith)
ends_heard_last net f (x ∷ y ∷ z ∷ zs) (suc i) zero r p first second router last = absurd (omega arith)
ends_heard_last net f (x ∷ y ∷ z ∷ zs) (suc i) (suc j) r p first second router last =
    ends_heard_last net f (y ∷ z ∷ zs) i j r p (omega arith) (omega arith) router last

pub ends_heard_short : (net : PlainNet) (f : Failures) (path : List ℕ) → length path < 2 → ends_heard net f path ≡ true
ends_heard_short net f [] short = refl
ends_heard_short net f (x ∷ []) short = refl
ends_heard_short net f (x ∷ y ∷ zs) short = absurd (omega arith)
