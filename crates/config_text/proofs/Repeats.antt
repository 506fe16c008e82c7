-- A list of lines at the front of a text is read in one way only: what the next line begins with tells whether the list goes on.
use Rattle.std.proofs.Common.{◌≡◌, ℕ, List, [], ◌∷◌, ◌++◌, Bool, true, false, refl, sym, ap, ◌∙◌, append_assoc}
use Rattle.std.specs.Prelude.{◌==◌}
use Rattle.std.specs.List.{flat_map, AllByRecursion}

-- Each line makes the test `starts` true, and what comes after the list makes it false. A line is read in one way
-- only where what follows it makes the test `follows` true.
module _ (A : Type 0) (f : A → List ℕ) (P : A → Type 0) (starts follows : List ℕ → Bool)
    (first : (x : A) (rest : List ℕ) → starts (f x ++ rest) ≡ true)
    (next : (x : A) (rest : List ℕ) → follows (f x ++ rest) ≡ true)
    (one : (x y : A) (rest more : List ℕ) → P x → P y → follows rest ≡ true → follows more ≡ true → f x ++ rest ≡ f y ++ more → (x ≡ y) × (rest ≡ more)) where
  goes_on : (x : A) (xs : List A) (rest : List ℕ) → starts (flat_map f (x ∷ xs) ++ rest) ≡ true
  goes_on x xs rest = ap starts (append_assoc (f x) (flat_map f xs) rest) ∙ first x (flat_map f xs ++ rest)

  followed : (xs : List A) (rest : List ℕ) → follows rest ≡ true → follows (flat_map f xs ++ rest) ≡ true
  followed [] rest h = h
  followed (x ∷ xs) rest h = ap follows (append_assoc (f x) (flat_map f xs) rest) ∙ next x (flat_map f xs ++ rest)

  pub list_cut : (xs ys : List A) (rest more : List ℕ) → AllByRecursion P xs → AllByRecursion P ys
      → starts rest ≡ false → starts more ≡ false → follows rest ≡ true → follows more ≡ true
      → flat_map f xs ++ rest ≡ flat_map f ys ++ more → (xs ≡ ys) × (rest ≡ more)
  list_cut [] [] rest more hx hy sr sm fr fm e = (refl, e)
  list_cut [] (y ∷ ys) rest more hx hy sr sm fr fm e =
      let clash : false ≡ true = sym sr ∙ ap starts e ∙ goes_on y ys more in absurd (cc)
  list_cut (x ∷ xs) [] rest more hx hy sr sm fr fm e =
      let clash : false ≡ true = sym sm ∙ ap starts (sym e) ∙ goes_on x xs rest in absurd (cc)
  list_cut (x ∷ xs) (y ∷ ys) rest more hx hy sr sm fr fm e =
      let whole : f x ++ (flat_map f xs ++ rest) ≡ f y ++ (flat_map f ys ++ more) = sym (append_assoc (f x) (flat_map f xs) rest) ∙ e ∙ append_assoc (f y) (flat_map f ys) more in
      let head = one x y (flat_map f xs ++ rest) (flat_map f ys ++ more) hx.0 hy.0 (followed xs rest fr) (followed ys more fm) whole in
      let tail = list_cut xs ys rest more hx.1 hy.1 sr sm fr fm head.1 in
      (cc (head.0, tail.0), tail.1)

-- a text that begins with this byte
abbrev pub begins : ℕ → List ℕ → Bool
begins sign [] = false
begins sign (b ∷ bs) = b == sign

-- any text
abbrev pub any_text : List ℕ → Bool
any_text bs = true
