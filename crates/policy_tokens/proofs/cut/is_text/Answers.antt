use Rattle.std.proofs.Common.{◌≡◌, sym, Bool, true, false, List, ℕ, IsUtf8, refl}
use Rattle.std.specs.Str.{is_utf8}
use Rattle.std.proofs.lemmas.Str.{is_utf8-from_IsUtf8, IsUtf8-from_is_utf8}
use Rattle.policy_tokens.proofs.cut.is_text.Goals as goal

no_text : (bytes : List ℕ) (b : Bool) → is_utf8 bytes ≡ b → (IsUtf8 bytes → ⊥) → (b ≡ false)
no_text bytes true is never = absurd (never (IsUtf8-from_is_utf8 bytes is))
no_text bytes false is never = refl

pub returns-in-Ok : goal.returns-in-Ok
returns-in-Ok c = sym (is_utf8-from_IsUtf8 c.args.bytes.now c.in-Ok.ensures.cases.1)

pub returns-in-Err : goal.returns-in-Err
returns-in-Err c = sym (no_text c.args.bytes.now _ refl c.in-Err.ensures.cases.0)
