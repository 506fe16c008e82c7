-- Names that are read, where all is told.
use Rattle.std.proofs.Common.{◌≡◌, ◌⊎◌, inl, inr, ℕ, ◌<◌, List, [], ◌∷◌, length, Option, Some, None, refl, sym, ap, ◌∙◌, subst, arith}
use Rattle.std.specs.Prelude.{IsSome}
use Rattle.run_base.specs.Reading.{Holds, IsAmong, IsStop, ReadsAll, AllHeld, most, AreTold, SaidOfTold}
use Rattle.run_base.specs.Said.{Said, IsGiven, no_memory}

module _ (holds : Holds) (rose : List ℕ → Type 0) (what : Said) where
  -- what holds where a read stopped, and where all bytes are there, holds
  pub reads_all : (P : Type 0) (names : List (List ℕ)) (next : List (List ℕ) → Said → Type 0)
      → ((name : List ℕ) → IsAmong names name → IsStop holds rose name what → P)
      → ((bs : List (List ℕ)) → AllHeld holds names bs → next bs what → P)
      → ReadsAll holds rose names next what → P
  reads_all P [] next stop all h = all [] tt h
  reads_all P (n ∷ ns) next stop all (inl h) = stop n (inl refl) h
  reads_all P (n ∷ ns) next stop all (inr h) =
      reads_all P ns (λ bs. next (h.0 ∷ bs)) (λ name among. stop name (inr among)) (λ bs held. all (h.0 ∷ bs) (h.1, held)) h.2

  -- ---- where nothing rose

  told_first : (n : List ℕ) (ns : List (List ℕ)) (next : List (List ℕ) → Said → Type 0) (o : Option (List ℕ)) → holds n ≡ o → IsSome o
      → (rose n → ⊥)
      → ((b : List ℕ) → ReadsAll holds rose ns (λ bs. IsGiven (next (b ∷ bs))) what → (what ≡ no_memory) ⊎ SaidOfTold holds ns (λ bs. next (b ∷ bs)) what)
      → ReadsAll holds rose (n ∷ ns) (λ bs. IsGiven (next bs)) what → (what ≡ no_memory) ⊎ SaidOfTold holds (n ∷ ns) next what
  told_first n ns next None is told none rest h = absurd (cc)
  told_first n ns next (Some b) is told none rest (inl (inl m)) = inl m
  told_first n ns next (Some b) is told none rest (inl (inr (inl u))) = absurd (none u.1)
  told_first n ns next (Some b) is told none rest (inl (inr (inr l))) =
      let over : most < length b = rw is at l.1 in
      inr (b, is, inl (over, l.0))
  told_first n ns next (Some b) is told none rest (inr h) =
      let same : h.0 ≡ b = rw is at h.1.told in
      elim (rest h.0 h.2) as (λ _. (what ≡ no_memory) ⊎ SaidOfTold holds (n ∷ ns) next what) [
        | inl m ↦ inl m
        | inr s ↦ inr (h.0, is ∙ ap Some (sym same), inr (h.1.within, s))
      ]

  pub reads_told : (names : List (List ℕ)) (next : List (List ℕ) → Said → Type 0) → AreTold holds names
      → ((name : List ℕ) → IsAmong names name → rose name → ⊥)
      → ReadsAll holds rose names (λ bs. IsGiven (next bs)) what → (what ≡ no_memory) ⊎ SaidOfTold holds names next what
  reads_told [] next told none h = h
  reads_told (n ∷ ns) next told none h =
      told_first n ns next (holds n) refl told.0 (none n (inl refl)) (λ b. reads_told ns (λ bs. next (b ∷ bs)) told.1 (λ name among. none name (inr among))) h

module _ (holds : Holds) where
  -- what is said where all is told comes of these bytes, if they are held
  pub told_is : (names : List (List ℕ)) (next : List (List ℕ) → Said → Type 0) (bs : List (List ℕ)) (what : Said) → AllHeld holds names bs → SaidOfTold holds names next what → next bs what
  told_is [] next [] what held said = said
  told_is [] next (b ∷ bs) what held said = absurd held
  told_is (n ∷ ns) next [] what held said = absurd held
  told_is (n ∷ ns) next (b ∷ bs) what held said =
      let e = said.1 in
      let same : b ≡ said.0 = rw e at held.0.told in
      let P : List ℕ → Type 0 = λ x. SaidOfTold holds ns (λ more. next (x ∷ more)) what in
      elim said.2 [
        | inl long ↦ absurd (omega (arith, ap length same, held.0.within, long.0))
        | inr short ↦ told_is ns (λ more. next (b ∷ more)) bs what held.1 (subst P (sym same) short.1)
      ]

  -- and it is one thing, if one thing comes of the bytes
  pub told_one : (names : List (List ℕ)) (next : List (List ℕ) → Said → Type 0) → ((bs : List (List ℕ)) (one other : Said) → next bs one → next bs other → one ≡ other)
      → (one other : Said) → SaidOfTold holds names next one → SaidOfTold holds names next other → one ≡ other
  told_one [] next each one other a b = each [] one other a b
  told_one (n ∷ ns) next each one other a b =
      let e = a.1 in
      let f = b.1 in
      let same : b.0 ≡ a.0 = cc in
      let P : List ℕ → Type 0 = λ x. SaidOfTold holds ns (λ more. next (x ∷ more)) other in
      elim a.2 [
        | inl long ↦ elim b.2 [
          | inl too ↦ long.1 ∙ sym too.1
          | inr short ↦ absurd (omega (arith, ap length same, long.0, short.0))
        ]
        | inr short ↦ elim b.2 [
          | inl long ↦ absurd (omega (arith, ap length same, long.0, short.0))
          | inr too ↦ told_one ns (λ more. next (a.0 ∷ more)) (λ more. each (a.0 ∷ more)) one other short.1 (subst P same too.1)
        ]
      ]
