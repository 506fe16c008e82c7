-- Derivatives one after another decide membership.
use Rattle.std.proofs.Common.{◌≡◌, ℕ, ◌+◌, List, [], ◌∷◌, true, map, reverse, Some, refl, ap, ◌∙◌}
use Rattle.std.specs.Prelude.{if◌then◌else◌}
use Rattle.std.specs.List.{list_all}
use Rattle.std.proofs.lemmas.Simd.{map-map}
use Rattle.net_base.specs.declared.loc.LocSet.{LocSet}
use Rattle.net_base.specs.Sets.{holds}
use Rattle.policy_base.specs.Meaning.{place_of}
use Rattle.path_exprs.specs.Expression.{Expression}
use Rattle.path_exprs.specs.Membership.{member}
use Rattle.path_exprs.specs.Normal.{normal, reversed}
use Rattle.path_exprs.specs.Derivative.{derivative}
use Rattle.path_exprs.specs.Runs.{along, start_of, first_with}
use Rattle.path_law.proofs.Derivatives.{member-derivative}
use Rattle.path_law.proofs.Normals.{member-normal}
use Rattle.path_law.proofs.Reversal.{member-reversed}

place-map : (f : Expression → Expression) (xs ys : List ℕ) → ((e : Expression) → member (f e) xs ≡ member e ys) → (es : List Expression) (k : ℕ) →
    place_of (map member (map f es)) xs k ≡ place_of (map member es) ys k
place-map f xs ys h [] k = refl
place-map f xs ys h (e ∷ es) k =
    ap (λ b. if b then Some k else place_of (map member (map f es)) xs (k + 1)) (h e)
    ∙ ap (λ o. if member e ys then Some k else o) (place-map f xs ys h es (k + 1))

first_with-along : (xs : List ℕ) (f : Expression → Expression) (ys : List ℕ) → ((e : Expression) → member (f e) xs ≡ member e ys) → (es : List Expression) →
    first_with [] (along xs (map f es)) ≡ first_with ys es
first_with-along [] f ys h es = place-map f [] ys h es 1
first_with-along (x ∷ xs) f ys h es =
    ap (λ l. first_with [] (along xs l)) (map-map (derivative x) f es)
    ∙ first_with-along xs (λ e. derivative x (f e)) ys (λ e. member-derivative (f e) x xs ∙ h e) es

pub first_with-reverse : (full : LocSet) (es : List Expression) (xs : List ℕ) → list_all (holds full) xs ≡ true →
    first_with [] (along xs (start_of full es)) ≡ first_with (reverse xs) es
first_with-reverse full es xs h =
    first_with-along xs (λ e. normal full (reversed e)) (reverse xs) (λ e. member-normal (reversed e) full xs h ∙ member-reversed e xs) es
