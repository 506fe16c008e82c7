-- Names that are read one after another, up to one that isn't.
use Rattle.std.proofs.Common.{◌≡◌, ◌<◌, ◌≤◌, ◌+◌, refl, ap, suc, zero, inl, inr, ℕ, List, [], ◌∷◌, ◌++◌, length, take, get_or, subst, arith}
use Rattle.std.specs.List.{AllByRecursion}
use Rattle.run_base.specs.Reading.{Holds, most, IsHeld, IsStop, IsStopAmong, ReadsAll, AllHeld, names_at, word_at}
use Rattle.run_base.specs.Said.{Said, IsGiven, no_memory}

module _ (holds : Holds) (words : List (List ℕ)) where
  held_next : (places : List ℕ) (i : ℕ) (bs : List (List ℕ)) (b : List ℕ) → i < length places → AllHeld holds (names_at words (take i places)) bs
      → IsHeld holds (word_at words (get_or places i 0)) b → AllHeld holds (names_at words (take (suc i) places)) (bs ++ b ∷ [])
  held_next [] i bs b low all held = absurd (omega (arith, low))
  held_next (p ∷ places) zero [] b low all held = (held, tt)
  held_next (p ∷ places) zero (c ∷ bs) b low all held = absurd all
  held_next (p ∷ places) (suc i) [] b low all held = absurd all
  held_next (p ∷ places) (suc i) (c ∷ bs) b low all held = (all.0, held_next places i bs b (omega (arith, low)) all.1 held)

  -- where the names of the places before one are held, and its own, one more is held
  pub held_more : (places : List ℕ) (i : ℕ) (bs : List (List ℕ)) (b : List ℕ) → i < length places → AllHeld holds (names_at words (take i places)) bs
      → IsHeld holds (word_at words (get_or places i 0)) b → AllHeld holds (names_at words (take (i + 1) places)) (bs ++ b ∷ [])
  held_more places i bs b low all held =
      let P : ℕ → Type 0 = λ k. AllHeld holds (names_at words (take k places)) (bs ++ b ∷ []) in
      let next : suc i ≡ i + 1 = omega arith in
      subst P next (held_next places i bs b low all held)

  -- and the first that isn't read stops
  pub stopped_at : (rose : List ℕ → Type 0) (what : Said) (places : List ℕ) (i : ℕ) (bs : List (List ℕ)) → i < length places → AllHeld holds (names_at words (take i places)) bs
      → IsStop holds rose (word_at words (get_or places i 0)) what → IsStopAmong holds rose (names_at words places) what
  stopped_at rose what [] i bs low all stop = absurd (omega (arith, low))
  stopped_at rose what (p ∷ places) zero bs low all stop = inl stop
  stopped_at rose what (p ∷ places) (suc i) [] low all stop = absurd all
  stopped_at rose what (p ∷ places) (suc i) (c ∷ bs) low all stop = inr (c, all.0, stopped_at rose what places i bs (omega (arith, low)) all.1 stop)

module _ (holds : Holds) where
  -- what is held is as much as was asked for, and none of it is too long
  pub held_count : (names bs : List (List ℕ)) → AllHeld holds names bs → length bs ≡ length names
  held_count [] [] all = refl
  held_count [] (c ∷ bs) all = absurd all
  held_count (n ∷ names) [] all = absurd all
  held_count (n ∷ names) (c ∷ bs) all = ap suc (held_count names bs all.1)

  pub held_short : (names bs : List (List ℕ)) → AllHeld holds names bs → AllByRecursion (λ b. length b ≤ most) bs
  held_short [] [] all = tt
  held_short [] (c ∷ bs) all = absurd all
  held_short (n ∷ names) [] all = absurd all
  held_short (n ∷ names) (c ∷ bs) all = (all.0.within, held_short names bs all.1)

  module _ (rose : List ℕ → Type 0) (what : Said) where
    -- then nothing follows
    pub nothing_follows : (names : List (List ℕ)) (next : List (List ℕ) → Said → Type 0) → IsStopAmong holds rose names what → ReadsAll holds rose names next what
    nothing_follows [] next stop = absurd stop
    nothing_follows (n ∷ names) next (inl stop) = inl stop
    nothing_follows (n ∷ names) next (inr read) = inr (read.0, read.1, nothing_follows names (λ bs. next (read.0 ∷ bs)) read.2)

    -- where all are held, what is said of their bytes follows
    pub all_read : (names bs : List (List ℕ)) (next : List (List ℕ) → Said → Type 0) → AllHeld holds names bs → next bs what → ReadsAll holds rose names next what
    all_read [] [] next all says = says
    all_read [] (c ∷ bs) next all says = absurd all
    all_read (n ∷ names) [] next all says = absurd all
    all_read (n ∷ names) (c ∷ bs) next all says = inr (c, all.0, all_read names bs (λ more. next (c ∷ more)) all.1 says)

    -- want of memory may be said before the first is read
    pub without_memory : (names : List (List ℕ)) (next : List (List ℕ) → Said → Type 0) → what ≡ no_memory → ReadsAll holds rose names (λ bs. IsGiven (next bs)) what
    without_memory [] next is = inl is
    without_memory (n ∷ names) next is = inl (inl is)
