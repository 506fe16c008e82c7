-- What was sent to one sink, where nothing was to go to the other.
use Rattle.std.proofs.Common.{◌≡◌, ℕ, List, [], Option, Some, None, inl, inr, refl, sym, ap, append-nil}
use Rattle.input_output.specs.Outside.{Grew}
use Rattle.run_base.specs.Said.{Whole, Sent, Delivered, text, line}
use Rattle.run_base.specs.declared.outcome.Status.{Status}

Grew-nothing : (t : Option (List ℕ)) → Grew t t []
Grew-nothing None = refl
Grew-nothing (Some bytes) = ap Some (sym (append-nil bytes))

pub untouched : {S : Type 0} (taken : S → Option (List ℕ)) (s : S) → Whole taken [] s s
untouched taken s = record { grew = Grew-nothing (taken s); idle = λ _. refl }

module _ {O E : Type 0} (ot : O → Option (List ℕ)) (of : O → ℕ) (et : E → Option (List ℕ)) (ef : E → ℕ) (bytes : List ℕ) (out out' : O) (err err' : E) (ended : Status) where
  pub to_out : Sent ot of bytes (text bytes).status out out' ended → Delivered ot of et ef (text bytes) out out' err err ended
  to_out (inl h) = inl (h.0, h.1, untouched et err, h.2, refl)
  to_out (inr h) = inr (h.0, inl (h.1, untouched et err, refl))

  pub to_err : (status : Status) → Sent et ef bytes status err err' ended → Delivered ot of et ef (line status bytes) out out err err' ended
  to_err status (inl h) = inl (h.0, untouched ot out, h.1, refl, h.2)
  to_err status (inr h) = inr (h.0, inr (untouched ot out, h.1, refl))
