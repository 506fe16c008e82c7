-- What is left of expressions, and when nothing of them can be met any more.
use Rattle.std.proofs.Common.{◌≡◌, ℕ, ◌+◌, true, false, List, [], ◌∷◌, ◌++◌, map, reverse, Some, None, refl, sym, ap, ◌∙◌}
use Rattle.std.specs.Prelude.{if◌then◌else◌}
use Rattle.std.proofs.lemmas.Bool.{and_parts, and_from, false_from_ne_true}
use Rattle.std.proofs.lemmas.List.{reverse-append}
use Rattle.std.proofs.lemmas.Option.{none-some}
use Rattle.net_base.specs.Network.{PlainNet}
use Rattle.policy_base.specs.Meaning.{place_of}
use Rattle.path_exprs.specs.Expression.{Expression, never}
use Rattle.path_exprs.specs.Membership.{member}
use Rattle.path_exprs.specs.Derivative.{derivative}
use Rattle.net_base.specs.NetSets.{locations}
use Rattle.path_exprs.specs.Normal.{is_never}
use Rattle.path_exprs.specs.Runs.{along, start_of, first_with}
use Rattle.path_exprs.specs.Standings.{Plan, is_dead}
use Rattle.graph_law.specs.Ways.{left_after}
use Rattle.path_exprs.proofs.NeverMembers.{member-is_never}

along-push : (xs : List ℕ) (x : ℕ) (es : List Expression) → along (xs ++ x ∷ []) es ≡ map (derivative x) (along xs es)
along-push [] x es = refl
along-push (y ∷ ys) x es = along-push ys x (map (derivative y) es)

pub left_after-more : (net : PlainNet) (plan : Plan) (l : ℕ) (ls : List ℕ) → left_after net plan (l ∷ ls) ≡ map (derivative l) (left_after net plan ls)
left_after-more net plan l ls =
    ap (λ path. along path (start_of (locations net) plan.expressions)) (reverse-append (l ∷ []) ls)
    ∙ along-push (reverse ls) l (start_of (locations net) plan.expressions)

never-derivative : (x : ℕ) (e : Expression) → is_never e ≡ true → is_never (derivative x e) ≡ true
never-derivative x never h = refl
never-derivative x e h = cc

pub dead-derivative : (x : ℕ) (es : List Expression) → is_dead es ≡ true → is_dead (map (derivative x) es) ≡ true
dead-derivative x [] h = refl
dead-derivative x (e ∷ es) h =
    let parts = and_parts (is_never e) (is_dead es) h in
    and_from (is_never (derivative x e)) (is_dead (map (derivative x) es)) (never-derivative x e parts.0) (dead-derivative x es parts.1)

dead-unranked : (es : List Expression) (xs : List ℕ) (k : ℕ) → is_dead es ≡ true → place_of (map member es) xs k ≡ None
dead-unranked [] xs k h = refl
dead-unranked (e ∷ es) xs k h =
    let parts = and_parts (is_never e) (is_dead es) h in
    ap (λ b. if b then Some k else place_of (map member es) xs (k + 1)) (member-is_never e xs parts.0) ∙ dead-unranked es xs (k + 1) parts.1

-- a state that holds a list isn't dead
pub ranked-alive : (es : List Expression) (xs : List ℕ) (i : ℕ) → first_with xs es ≡ Some i → is_dead es ≡ false
ranked-alive es xs i h = false_from_ne_true (is_dead es) (λ d. none-some i (sym (dead-unranked es xs 1 d) ∙ h))
