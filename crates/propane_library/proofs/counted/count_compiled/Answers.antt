use Rattle.std.proofs.Common.{◌≡◌, Some, map, string_bytes, ap, refl, ◌∙◌, inl, inr}
use Rattle.input_output.specs.Outside.{Rose}
use Rattle.input_output.specs.SureInputs.{bytes_of}
use Rattle.propane_run.specs.declared.command.Command.TheVariants.{Compile}
use Rattle.propane_library.specs.Texts.{compile_words}
use Rattle.propane_library.proofs.Asking.{asked, asks_for, reads_smoothly}
use Rattle.propane_library.proofs.Telling.{right_text, still}
use Rattle.propane_library.proofs.counted.count_compiled.Goals as goal

pub returns-in-Done-clause-right : goal.returns-in-Done-clause-right
returns-in-Done-clause-right c =
    let is : map string_bytes c.deref.result.now ≡ compile_words = ap (map string_bytes) c.deref.ensures.value ∙ c.in_ok-words.ensures in
    let t = ap Some c.in_ok-inputs.ensures.topology in
    let p = ap Some c.in_ok-inputs.ensures.policy in
    let claim = c.run.ensures.promised Compile (asked _ is) c.in-Done.is in
    (claim.0.bytes, right_text _ is (λ name. Some (bytes_of c.in_ok-inputs.inputs name)) _ _ t p _ _ _ claim.0 claim.1 claim.2 claim.3 claim.4 claim.5 _ refl)

pub returns-in-Done-clause-refused_where : goal.returns-in-Done-clause-refused_where
returns-in-Done-clause-refused_where c = λ net asked e spell applies.
    let is : map string_bytes c.deref.result.now ≡ compile_words = ap (map string_bytes) c.deref.ensures.value ∙ c.in_ok-words.ensures in
    let t = ap Some c.in_ok-inputs.ensures.topology in
    let p = ap Some c.in_ok-inputs.ensures.policy in
    let calm = still 0 0 refl refl in
    let smooth = reads_smoothly _ is (λ name. Some (bytes_of c.in_ok-inputs.inputs name)) _ _ t p (λ name. Rose 0 0) calm calm in
    let asks = asks_for _ is (λ name. Some (bytes_of c.in_ok-inputs.inputs name)) _ _ t p net asked spell in
    let done = c.in-Done.is in
    elim ((c.run.ensures.ends Compile smooth net asked asks).1 e applies calm) [ inl m ↦ cc | inr h ↦ let r = h.0 in cc ]

pub returns-in-Refused-clause-compiled_where : goal.returns-in-Refused-clause-compiled_where
returns-in-Refused-clause-compiled_where c = λ net asked spell none.
    let is : map string_bytes c.deref.result.now ≡ compile_words = ap (map string_bytes) c.deref.ensures.value ∙ c.in_ok-words.ensures in
    let t = ap Some c.in_ok-inputs.ensures.topology in
    let p = ap Some c.in_ok-inputs.ensures.policy in
    let calm = still 0 0 refl refl in
    let smooth = reads_smoothly _ is (λ name. Some (bytes_of c.in_ok-inputs.inputs name)) _ _ t p (λ name. Rose 0 0) calm calm in
    let asks = asks_for _ is (λ name. Some (bytes_of c.in_ok-inputs.inputs name)) _ _ t p net asked spell in
    let ends = (c.run.ensures.ends Compile smooth net asked asks).0 none calm in
    let other = c.in-Refused.is in
    elim ends [
      | inl m ↦ elim other [ inl r ↦ cc | inr b ↦ cc ]
      | inr d ↦ elim other [ inl r ↦ cc | inr b ↦ cc ]
    ]
