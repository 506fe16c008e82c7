-- Where one list of blocks ends, so does what is made of both.
use Rattle.std.proofs.Common.{◌≡◌, ℕ, zero, suc, ◌≤◌, List, [], ◌∷◌, ◌++◌, length, drop, min, append-nil, refl, sym, ap, ◌∙◌, arith}
use Rattle.config_base.specs.declared.config.RouterConfig.{RouterConfig}
use Rattle.config_base.specs.declared.config.Session.{Session}
use Rattle.stage_classes.specs.declared.cell.Cell.{Cell}
use Rattle.stage_maker.specs.Joined.{routers_of, sessions_of}

module _ (cells : List Cell) where
  no_sessions : (xs : List Session) → sessions_of cells xs [] ≡ []
  no_sessions [] = refl
  no_sessions (x ∷ xs) = refl

  sessions_end : (xs ys : List Session) (i : ℕ) → min (length xs) (length ys) ≤ i → sessions_of cells (drop i xs) (drop i ys) ≡ []
  sessions_end [] ys zero h = refl
  sessions_end [] ys (suc i) h = refl
  sessions_end (x ∷ xs) [] zero h = refl
  sessions_end (x ∷ xs) [] (suc i) h = no_sessions (drop i xs)
  sessions_end (x ∷ xs) (y ∷ ys) zero h = absurd (omega (arith, h))
  sessions_end (x ∷ xs) (y ∷ ys) (suc i) h = sessions_end xs ys i (omega (arith, h))

  pub all_sessions : (xs ys made : List Session) (i : ℕ) → min (length xs) (length ys) ≤ i → sessions_of cells xs ys ≡ made ++ sessions_of cells (drop i xs) (drop i ys) → made ≡ sessions_of cells xs ys
  all_sessions xs ys made i h e = sym (e ∙ ap (λ zs. made ++ zs) (sessions_end xs ys i h) ∙ append-nil made)

  no_routers : (xs : List RouterConfig) → routers_of cells xs [] ≡ []
  no_routers [] = refl
  no_routers (x ∷ xs) = refl

  routers_end : (xs ys : List RouterConfig) (i : ℕ) → min (length xs) (length ys) ≤ i → routers_of cells (drop i xs) (drop i ys) ≡ []
  routers_end [] ys zero h = refl
  routers_end [] ys (suc i) h = refl
  routers_end (x ∷ xs) [] zero h = refl
  routers_end (x ∷ xs) [] (suc i) h = no_routers (drop i xs)
  routers_end (x ∷ xs) (y ∷ ys) zero h = absurd (omega (arith, h))
  routers_end (x ∷ xs) (y ∷ ys) (suc i) h = routers_end xs ys i (omega (arith, h))

  pub all_routers : (xs ys made : List RouterConfig) (i : ℕ) → min (length xs) (length ys) ≤ i → routers_of cells xs ys ≡ made ++ routers_of cells (drop i xs) (drop i ys) → made ≡ routers_of cells xs ys
  all_routers xs ys made i h e = sym (e ∙ ap (λ zs. made ++ zs) (routers_end xs ys i h) ∙ append-nil made)
