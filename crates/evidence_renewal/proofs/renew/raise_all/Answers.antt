use Rattle.std.proofs.Common.{◌+◌, ◌<◌, ◌^◌, ◌++◌, ◌∷◌, [], ◌∙◌, ℕ, take, refl, sym, ap, subst}
use Rattle.std.specs.List.{AllByRecursion}
use Rattle.std.proofs.lemmas.List.{take_more}
use Rattle.std.proofs.lemmas.Option.{slice_get-get_or}
use Rattle.list_law.proofs.Each.{AllByRecursion-push}
use Rattle.list_law.proofs.Exits.{passed_on}
use Rattle.config_maker.proofs.Gathering.{one_more}
use Rattle.evidence_renewal.specs.Renewed.{raised}
use Rattle.evidence_renewal.proofs.Cases.{number_fault}
use Rattle.evidence_renewal.proofs.renew.raise_all.Goals as goal

pub loop-place-preserved : goal.loop-place-preserved
loop-place-preserved c =
    let by = c.args.by in
    let ns = c.args.numbers.now in
    let i = c.loop-place.place in
    let P : ℕ → Type 0 = λ m. raised by m < 2 ^ 32 in
    record {
      so_far = one_more (raised by) [] ns i _ _ c.loop-place-test.true refl (c.in_ok-push.ensures.ok ∙ ap (λ (m : ℕ). c.loop-place.all ++ m ∷ []) c.in_ok-raised.ensures.raised)
          c.loop-place.invariant.so_far;
      fits = subst (AllByRecursion P) (sym (take_more ns i _ c.loop-place-test.true)) (AllByRecursion-push P (take i ns) _ c.loop-place.invariant.fits c.in_ok-raised.ensures.fits);
    }

pub returns-in_err-raised-clause-past : goal.returns-in_err-raised-clause-past
returns-in_err-raised-clause-past c =
    let ns = c.args.numbers.now in
    let told = c.in_err-raised.ensures.past in
    let why = number_fault c.args.by ns c.loop-place.place _ (slice_get-get_or ns c.loop-place.place _ c.loop-place-test.true) c.in_err-raised.field-0.0 told.0 told.1 in
    rw (passed_on c.from_residual.result c.from_residual.ensures.1) why
