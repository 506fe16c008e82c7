-- Inputs that hold the same, name by name.
use Rattle.std.proofs.Common.{◌≡◌, ℕ, List, [], ◌∷◌, inl, inr, sym, subst, ◌∙◌}
use Rattle.std.specs.Prelude.{Option, IfSome}
use Rattle.propane_run.specs.declared.command.Command.{Command}
use Rattle.run_base.specs.Reading.{Holds, IsHeld, AllHeld, SaidOfTold}
use Rattle.propane_run.specs.Run.{Comes}
use Rattle.run_base.specs.Said.{Said}
use Rattle.propane_run.specs.Words.{names_read}

module _ (before now : Holds) (same : (name : List ℕ) → now name ≡ before name) where
  held_before : (name bytes : List ℕ) → IsHeld now name bytes → IsHeld before name bytes
  held_before name bytes held =
      let P : Option (List ℕ) → Type 0 = λ o. IfSome o (λ told. bytes ≡ told) in
      record { told = subst P (same name) held.told; within = held.within }

  all_before : (names bs : List (List ℕ)) → AllHeld now names bs → AllHeld before names bs
  all_before [] [] held = tt
  all_before [] (b ∷ bs) held = absurd held
  all_before (n ∷ ns) [] held = absurd held
  all_before (n ∷ ns) (b ∷ bs) held = (held_before n b held.0, all_before ns bs held.1)

  -- what comes of their bytes came of them before
  pub comes_before : (words : List (List ℕ)) (c : Command) (what : Said) → Comes now words c what → Comes before words c what
  comes_before words c what comes =
      record { is = comes.is; bytes = comes.bytes; held = all_before (names_read words c) comes.bytes comes.held; says = comes.says }

  -- and what is to be said of them was to be said before
  pub said_before : (names : List (List ℕ)) (next : List (List ℕ) → Said → Type 0) (what : Said) → SaidOfTold now names next what → SaidOfTold before names next what
  said_before [] next what says = says
  said_before (n ∷ ns) next what says = elim says.2 [
    | inl long ↦ (says.0, sym (same n) ∙ says.1, inl long)
    | inr short ↦ (says.0, sym (same n) ∙ says.1, inr (short.0, said_before ns (λ bs. next (says.0 ∷ bs)) what short.1))
  ]
