-- What a job may say.
use Rattle.std.proofs.Common.{◌≡◌, ℕ, List, ap}
use Rattle.run_base.specs.declared.outcome.Status.TheVariants.{BadInput, Refused}
use Rattle.run_base.specs.Said.{Said, text, line, failing}

-- a text; a line about a text that isn't lawful; of a job that may refuse the line of a refusal; and of one that checks that of
-- what fails
pub data IsJobSaid (Refuses Checks : Type 0) (what : Said) : Type 0 where
  in_text : (b : List ℕ) → what ≡ text b → IsJobSaid Refuses Checks what
  in_line : (l : List ℕ) → what ≡ line BadInput l → IsJobSaid Refuses Checks what
  in_refusal : Refuses → (l : List ℕ) → what ≡ line Refused l → IsJobSaid Refuses Checks what
  in_failing : Checks → (l : List ℕ) → what ≡ failing l → IsJobSaid Refuses Checks what

-- What is said of the bytes of names has such a form, and is one thing.
pub record IsJob (Refuses Checks : Type 0) (Says : List (List ℕ) → Said → Type 0) : Type 0 where
  pub form : (bs : List (List ℕ)) (what : Said) → Says bs what → IsJobSaid Refuses Checks what
  pub one : (bs : List (List ℕ)) (one other : Said) → Says bs one → Says bs other → one ≡ other

-- ---- what is said alike has these parts alike

pub status_is : (a b : Said) → a ≡ b → a.status ≡ b.status
status_is a b e = ap (λ (w : Said). w.status) e

pub out_is : (a b : Said) → a ≡ b → a.to_out ≡ b.to_out
out_is a b e = ap (λ (w : Said). w.to_out) e

pub err_is : (a b : Said) → a ≡ b → a.to_err ≡ b.to_err
err_is a b e = ap (λ (w : Said). w.to_err) e
