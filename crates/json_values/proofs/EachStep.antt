-- Each of some items took a step that went well.
use Rattle.std.proofs.Common.{◌≡◌, ℕ, ◌+◌, suc, List, [], ◌∷◌, length, Result, Ok, sym, ap, ◌∙◌}
use Rattle.std.specs.List.{AllByRecursion}
use Rattle.net_base.specs.Steps.{◌>>=◌, each_from}
use Rattle.net_base.proofs.StepLemmas.{bind_ok, ok_same}

-- what went well at each item holds of each
pub each_from-keeps : {A B F : Type 0} (P : A → Type 0) (f : ℕ → A → Result B F) → ((k : ℕ) (x : A) (y : B) → f k x ≡ Ok y → P x)
    → (k : ℕ) (xs : List A) (ys : List B) → each_from f k xs ≡ Ok ys → AllByRecursion P xs
each_from-keeps P f each k [] ys h = tt
each_from-keeps P f each k (x ∷ xs) ys h =
    let p = bind_ok (f k x) (λ y. each_from f (k + 1) xs >>= (λ ys. Ok (y ∷ ys))) ys h in
    let q = bind_ok (each_from f (k + 1) xs) (λ ys. Ok (p.0 ∷ ys)) ys p.2 in
    (each k x p.0 p.1, each_from-keeps P f each (k + 1) xs q.0 q.1)

pub each_from-length : {A B F : Type 0} (f : ℕ → A → Result B F) (k : ℕ) (xs : List A) (ys : List B) → each_from f k xs ≡ Ok ys → length ys ≡ length xs
each_from-length f k [] ys h = ap length (sym (ok_same [] ys h))
each_from-length f k (x ∷ xs) ys h =
    let first = bind_ok (f k x) _ ys h in
    let more = bind_ok (each_from f (k + 1) xs) _ ys first.2 in
    ap length (sym (ok_same (first.0 ∷ more.0) ys more.2)) ∙ ap suc (each_from-length f (k + 1) xs more.0 more.1)
