-- Inputs that are read one after another.
use Rattle.std.proofs.Common.{◌≡◌, ℕ, ◌<◌, List, Option, IfSome, length, inl, inr, subst, ◌∙◌, arith}
use Rattle.input_output.specs.Outside.{Rose}
use Rattle.run_base.specs.Reading.{Holds, RoseOf, AreOnlyRead, IsHeld, IsStop, most}
use Rattle.run_base.specs.Said.{Said}

pub read_twice : (h i k : Holds) (f g l : List ℕ → ℕ) (s t u : List ℕ → Type 0) → AreOnlyRead h i f g s t → AreOnlyRead i k g l t u → AreOnlyRead h k f l s u
read_twice h i k f g l s t u first second = record {
  holds = λ n. second.holds n ∙ first.holds n;
  counts = λ n. omega (arith, first.counts n, second.counts n);
  sure = λ n is. let a = first.sure n is in let b = second.sure n a.1 in (b.0 ∙ a.0, b.1);
}

-- ---- what is said of inputs that were only read since, and no reading failed, is said of what they were

module _ (h i : Holds) (f g : List ℕ → ℕ) (s t : List ℕ → Type 0) (only : AreOnlyRead h i f g s t) (calm : (n : List ℕ) → g n ≡ f n) where
  pub held_before : (name bytes : List ℕ) → IsHeld i name bytes → IsHeld h name bytes
  held_before name bytes held =
      let P : Option (List ℕ) → Type 0 = λ o. IfSome o (λ told. bytes ≡ told) in
      record { told = subst P (only.holds name) held.told; within = held.within }

  pub stop_before : (l : List ℕ → ℕ) (name : List ℕ) (what : Said) → IsStop i (RoseOf g l) name what → IsStop h (RoseOf f l) name what
  stop_before l name what (inl memory) = inl memory
  stop_before l name what (inr (inl unread)) = inr (inl (unread.0, subst (λ (n : ℕ). Rose n (l name)) (calm name) unread.1))
  stop_before l name what (inr (inr long)) =
      let P : Option (List ℕ) → Type 0 = λ o. IfSome o (λ told. most < length told) in
      inr (inr (long.0, subst P (only.holds name) long.1))
