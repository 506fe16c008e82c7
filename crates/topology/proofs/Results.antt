-- What steps that went well gave.
use Rattle.std.proofs.Common.{◌≡◌, ℕ, ◌+◌, List, [], ◌∷◌, Option, Some, None, Result, Ok, refl, map}
use Rattle.std.specs.Prelude.{⊤, option_map}
use Rattle.std.specs.List.{AllByRecursion}
use Rattle.net_base.proofs.StepLemmas.{bind_ok, ok_same}
use Rattle.net_base.specs.Steps.{◌>>=◌, each_from}
use Rattle.topology.specs.declared.fault.TopoFault.{TopoFault}
use Rattle.topology.specs.Rules.{no_fault}

pub no_fault-ok : {A : Type 0} (f : A → TopoFault) (o : Option A) (x : ⊤) → no_fault (option_map f o) ≡ Ok x → o ≡ None
no_fault-ok f None x h = refl
no_fault-ok f (Some y) x h = absurd cc

-- what each step gives has the property
pub each_from-all : {A B : Type 0} (Q : B → Type 0) (f : ℕ → A → Result B TopoFault) → ((k : ℕ) (x : A) (y : B) → f k x ≡ Ok y → Q y)
    → (k : ℕ) (xs : List A) (ys : List B) → each_from f k xs ≡ Ok ys → AllByRecursion Q ys
each_from-all Q f each k [] ys h = rw (← ok_same [] ys h) tt
each_from-all Q f each k (x ∷ xs) ys h =
    let p = bind_ok (f k x) (λ y. each_from f (k + 1) xs >>= (λ ys. Ok (y ∷ ys))) ys h in
    let q = bind_ok (each_from f (k + 1) xs) (λ ys. Ok (p.0 ∷ ys)) ys p.2 in
    rw (← ok_same (p.0 ∷ q.0) ys q.2) (each k x p.0 p.1, each_from-all Q f each (k + 1) xs q.0 q.1)

-- what the steps give looks as what they were given
pub each_from-view : {A B C : Type 0} (v : A → C) (w : B → C) (f : ℕ → A → Result B TopoFault) → ((k : ℕ) (x : A) (y : B) → f k x ≡ Ok y → w y ≡ v x)
    → (k : ℕ) (xs : List A) (ys : List B) → each_from f k xs ≡ Ok ys → map w ys ≡ map v xs
each_from-view v w f same k [] ys h = rw (← ok_same [] ys h) refl
each_from-view v w f same k (x ∷ xs) ys h =
    let p = bind_ok (f k x) (λ y. each_from f (k + 1) xs >>= (λ ys. Ok (y ∷ ys))) ys h in
    let q = bind_ok (each_from f (k + 1) xs) (λ ys. Ok (p.0 ∷ ys)) ys p.2 in
    rw (← ok_same (p.0 ∷ q.0) ys q.2) (λ i. same k x p.0 p.1 i ∷ each_from-view v w f same (k + 1) xs q.0 q.1 i)
