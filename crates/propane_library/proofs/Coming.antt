-- What a run comes to where the reading of both texts can't fail.
use Rattle.std.proofs.Common.{◌≡◌, ◌≢◌, ◌⊎◌, ℕ, List, Option, inl, inr, sym, ap, subst, ◌∙◌}
use Rattle.input_output.specs.declared.mem_inputs.MemInputs.{MemInputs}
use Rattle.input_output.specs.MemInputs.{told, count, IsSure}
use Rattle.propane_run.specs.declared.command.Command.{Command}
use Rattle.propane_run.specs.declared.command.Command.TheVariants.{Compile}
use Rattle.run_base.specs.declared.outcome.Status.{Status}
use Rattle.run_base.specs.declared.outcome.Status.TheVariants.{WriteFault, NoMemory}
use Rattle.propane_run.specs.Clauses.{ReadsSmoothly}
use Rattle.run_base.specs.Reading.{Holds, RoseOf, SaidOfTold}
use Rattle.propane_run.specs.Run.{Job}
use Rattle.run_base.specs.Said.{Said, Whole, Delivered}
use Rattle.propane_run.specs.Words.{names_read}
use Rattle.propane_library.specs.declared.came.Came.{Came}
use Rattle.propane_library.specs.declared.came.Came.TheVariants.{Compiled, Refused, Faulty, NoRoom}
use Rattle.propane_library.specs.Coming.{AreAlike}
use Rattle.propane_library.specs.Holding.{CameOf, IsReady}
use Rattle.propane_library.specs.Texts.{compile_words, topology_name, policy_name}
use Rattle.propane_library.proofs.Asking.{told_smoothly}
use Rattle.propane_library.proofs.Telling.{still}

-- the reading of both texts is smooth
pub ready_smoothly : (words : List (List ℕ)) → words ≡ compile_words → (before now : MemInputs) → IsReady before topology_name → IsReady before policy_name
    → ((name : List ℕ) → IsSure before name → (count now name ≡ count before name) × IsSure now name)
    → ReadsSmoothly (told before) (RoseOf (count before) (count now)) words Compile
ready_smoothly words is before now topology policy sure =
    told_smoothly words is (told before) topology.0.held policy.0.held (RoseOf (count before) (count now))
    (still _ _ topology.1 (sure topology_name topology.0).0) (still _ _ policy.1 (sure policy_name policy.0).0)

module _ (words : List (List ℕ)) (is : words ≡ compile_words) (holds : Holds) (rose : List ℕ → Type 0) (Sent : Said → Type 0) (ended : Status)
    (complete : (c : Command) → ReadsSmoothly holds rose words c → (ended ≡ NoMemory) ⊎ (wanted : Said) × SaidOfTold holds (names_read words c) (Job c) wanted × Sent wanted) where
  -- what is to be said is sent, unless memory runs out
  pub to_say : ReadsSmoothly holds rose words Compile → ended ≢ NoMemory
      → (wanted : Said) × SaidOfTold holds (names_read compile_words Compile) (Job Compile) wanted × Sent wanted
  to_say smooth other = elim (complete Compile smooth) [
    | inl m ↦ absurd (other m)
    | inr w ↦
        let P : List (List ℕ) → Type 0 = λ ws. SaidOfTold holds (names_read ws Compile) (Job Compile) w.0 in
        (w.0, subst P is w.1, w.2)
  ]

-- and it is written whole, unless a write fails
pub written : {O E : Type 0} (ot : O → Option (List ℕ)) (of : O → ℕ) (et : E → Option (List ℕ)) (ef : E → ℕ)
    (what : Said) (out out' : O) (err err' : E) (ended status : Status)
    → Delivered ot of et ef what out out' err err' ended → ended ≡ status → status ≢ WriteFault
    → (what.status ≡ status) × Whole ot what.to_out out out' × Whole et what.to_err err err'
written ot of et ef what out out' err err' ended status (inl h) is other = (sym h.0 ∙ is, h.1, h.2)
written ot of et ef what out out' err err' ended status (inr h) is other = absurd (other (sym is ∙ h.0))

-- where two runs have one thing to say, they come to the same
pub alike : (first again : Came) (one other : Said) → one ≡ other → CameOf one first → CameOf other again → AreAlike first again
alike NoRoom again one other same a b = tt
alike (Compiled x) NoRoom one other same a b = tt
alike (Compiled x) (Compiled y) one other same a b = a.1 ∙ ap (λ (w : Said). w.to_out) same ∙ sym b.1
alike (Compiled x) (Refused y) one other same a b = let s = ap (λ (w : Said). w.status) same in let p = a.0 in let q = b.0 in cc
alike (Compiled x) (Faulty y) one other same a b = let s = ap (λ (w : Said). w.status) same in let p = a.0 in let q = b.0 in cc
alike (Refused x) NoRoom one other same a b = tt
alike (Refused x) (Compiled y) one other same a b = let s = ap (λ (w : Said). w.status) same in let p = a.0 in let q = b.0 in cc
alike (Refused x) (Refused y) one other same a b = a.1 ∙ ap (λ (w : Said). w.to_err) same ∙ sym b.1
alike (Refused x) (Faulty y) one other same a b = let s = ap (λ (w : Said). w.status) same in let p = a.0 in let q = b.0 in cc
alike (Faulty x) NoRoom one other same a b = tt
alike (Faulty x) (Compiled y) one other same a b = let s = ap (λ (w : Said). w.status) same in let p = a.0 in let q = b.0 in cc
alike (Faulty x) (Refused y) one other same a b = let s = ap (λ (w : Said). w.status) same in let p = a.0 in let q = b.0 in cc
alike (Faulty x) (Faulty y) one other same a b = a.1 ∙ ap (λ (w : Said). w.to_err) same ∙ sym b.1
