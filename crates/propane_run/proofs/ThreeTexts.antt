-- What is said of three texts, each taken from a list of them.
use Rattle.std.proofs.Common.{◌≡◌, ℕ, List, [], ◌∷◌, Result, length, subst, arith}
use Rattle.net_base.specs.Network.{PlainNet}
use Rattle.policy_base.specs.Policies.{PlainPolicy}
use Rattle.config_base.specs.Configs.{PlainConfig}
use Rattle.evidence_base.specs.Made.{PlainCaseEvidence}
use Rattle.run_base.specs.Reading.{word_at}
use Rattle.run_base.specs.Said.{IsGiven, Said}
use Rattle.input_texts.specs.Texts.{OfTexts}
use Rattle.compile_jobs.specs.Compiling.{SaysOfThird, SaysOfThree}
use Rattle.compare_jobs.specs.Compared as compared

module _ {V F : Type 0} (told : F → List ℕ) (spelled_by : PlainNet → List ℕ → Result V F) (Writes : PlainNet → PlainPolicy → V → PlainConfig → List PlainCaseEvidence → List ℕ → Type 0) where
  pub of_three : (bs : List (List ℕ)) (x y z : List ℕ) (what : Said) → length bs ≡ 3 → x ≡ word_at bs 0 → y ≡ word_at bs 1 → z ≡ word_at bs 2
      → IsGiven (OfTexts (SaysOfThird told spelled_by Writes z) x y) what → IsGiven (SaysOfThree told spelled_by Writes bs) what
  of_three [] x y z what size first second third says = absurd (omega (arith, size))
  of_three (a ∷ []) x y z what size first second third says = absurd (omega (arith, size))
  of_three (a ∷ b ∷ []) x y z what size first second third says = absurd (omega (arith, size))
  of_three (a ∷ b ∷ c ∷ []) x y z what size first second third says =
      let one = subst (λ (t : List ℕ). IsGiven (OfTexts (SaysOfThird told spelled_by Writes z) t y) what) first says in
      let two = subst (λ (t : List ℕ). IsGiven (OfTexts (SaysOfThird told spelled_by Writes z) a t) what) second one in
      subst (λ (t : List ℕ). IsGiven (OfTexts (SaysOfThird told spelled_by Writes t) a b) what) third two
  of_three (a ∷ b ∷ c ∷ d ∷ more) x y z what size first second third says = absurd (omega (arith, size))

-- and of a topology and two policies
pub of_two_policies : (bs : List (List ℕ)) (x y z : List ℕ) (what : Said) → length bs ≡ 3 → x ≡ word_at bs 0 → y ≡ word_at bs 1 → z ≡ word_at bs 2
    → IsGiven (compared.SaysOfThree x y z) what → IsGiven (compared.SaysOfTexts bs) what
of_two_policies [] x y z what size first second third says = absurd (omega (arith, size))
of_two_policies (a ∷ []) x y z what size first second third says = absurd (omega (arith, size))
of_two_policies (a ∷ b ∷ []) x y z what size first second third says = absurd (omega (arith, size))
of_two_policies (a ∷ b ∷ c ∷ []) x y z what size first second third says =
    let one = subst (λ (t : List ℕ). IsGiven (compared.SaysOfThree t y z) what) first says in
    let two = subst (λ (t : List ℕ). IsGiven (compared.SaysOfThree a t z) what) second one in
    subst (λ (t : List ℕ). IsGiven (compared.SaysOfThree a b t) what) third two
of_two_policies (a ∷ b ∷ c ∷ d ∷ more) x y z what size first second third says = absurd (omega (arith, size))
