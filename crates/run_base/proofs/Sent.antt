-- What a run ends with, where what is to be said is known.
use Rattle.std.proofs.Common.{◌≡◌, ◌⊎◌, ℕ, List, Option, inl, inr, refl}
use Rattle.input_output.specs.Outside.{Rose}
use Rattle.run_base.specs.declared.outcome.Status.{Status}
use Rattle.run_base.specs.declared.outcome.Status.TheVariants.{Done, NoMemory, CheckFails}
use Rattle.run_base.specs.Said.{Said, text, line, failing, Whole, Delivered}

module _ {O E : Type 0} (ot : O → Option (List ℕ)) (of : O → ℕ) (et : E → Option (List ℕ)) (ef : E → ℕ) (out out' : O) (err err' : E) (ended : Status) where
  -- such a thing is delivered, or memory ran out
  abbrev pub Gives : (Said → Type 0) → Type 0
  Gives Wanted = (ended ≡ NoMemory) ⊎ (wanted : Said) × Wanted wanted × Delivered ot of et ef wanted out out' err err' ended

  pub along : (Wanted Next : Said → Type 0) → ((what : Said) → Wanted what → Next what) → Gives Wanted → Gives Next
  along Wanted Next next (inl m) = inl m
  along Wanted Next next (inr w) = inr (w.0, next w.0 w.1, w.2)

  -- a line is written whole, if no count of `err` rises
  pub line_sent : (status : Status) (l : List ℕ) → (Rose (ef err) (ef err') → ⊥) → Delivered ot of et ef (line status l) out out' err err' ended
      → (ended ≡ status) × Whole et l err err' × (out' ≡ out)
  line_sent status l calm (inl h) = (h.0, h.2, h.1.idle refl)
  line_sent status l calm (inr h) = absurd (elim h.1 [ inl q ↦ q.0.asked refl | inr q ↦ calm q.1.rose ])

  -- and a text, if no count of `out` does
  pub text_sent : (bytes : List ℕ) → (Rose (of out) (of out') → ⊥) → Delivered ot of et ef (text bytes) out out' err err' ended → ended ≡ Done
  text_sent bytes calm (inl h) = h.0
  text_sent bytes calm (inr h) = absurd (elim h.1 [ inl q ↦ calm q.0.rose | inr q ↦ q.1.asked refl ])

  pub failing_sent : (bytes : List ℕ) → (Rose (of out) (of out') → ⊥) → Delivered ot of et ef (failing bytes) out out' err err' ended → ended ≡ CheckFails
  failing_sent bytes calm (inl h) = h.0
  failing_sent bytes calm (inr h) = absurd (elim h.1 [ inl q ↦ calm q.0.rose | inr q ↦ q.1.asked refl ])
