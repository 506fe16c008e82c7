use Rattle.std.proofs.Common.{◌≡◌, ◌+◌, ℕ, Some, length, List, ap, ◌∙◌, refl, rules, subst, sym}
use Rattle.std.specs.Prelude.{slice_get, ◌<◌}
use Rattle.std.proofs.lemmas.Option.{slice_get_read}
use Rattle.scenarios.specs.Situations.{given_in}
use Rattle.table_audit.specs.Tops.{IsTopUntil, Top}
use Rattle.table_audit.proofs.TopSteps.{none_gives, one_more, top_gives_if}
use Rattle.table_audit.proofs.top.top_giver.Goals as goal

pub loop-i-preserved : goal.loop-i-preserved
loop-i-preserved c =
    let s = c.args.situation.now in
    let gives = λ (z : ℕ). given_in s z c.args.at in
    let within : c.loop-i.i < length c.links-links.result.now = search rules in
    let here : slice_get s.net.now.links c.loop-i.i ≡ Some c.index-links-i.result =
    ap (λ (xs : List (ℕ × ℕ)). slice_get xs c.loop-i.i) (sym c.links-links.ensures.links)
    ∙ slice_get_read c.links-links.result.now (length c.links-links.result.now) c.loop-i.i c.index-links-i.result refl within c.index-links-i.is in
    let step = one_more gives c.args.at s.net.now.links c.loop-i.i c.loop-i.top c.index-links-i.result here c.loop-i.invariant.top in
    record { top = subst (λ (t : Top). IsTopUntil gives c.args.at s.net.now.links (c.loop-i.i + 1) t) (sym c.with_link-top.ensures) step }

pub returns-clause-none : goal.returns-clause-none
returns-clause-none c =
    let s = c.args.situation.now in
    let end : c.loop-i.i ≡ length s.net.now.links = search rules in
    none_gives s c.args.at c.loop-i.top (subst (λ (i : ℕ). IsTopUntil (λ z. given_in s z c.args.at) c.args.at s.net.now.links i c.loop-i.top) end c.loop-i.invariant.top)

pub returns-clause-some : goal.returns-clause-some
returns-clause-some c =
    let s = c.args.situation.now in
    let end : c.loop-i.i ≡ length s.net.now.links = search rules in
    top_gives_if s c.args.at c.loop-i.top (subst (λ (i : ℕ). IsTopUntil (λ z. given_in s z c.args.at) c.args.at s.net.now.links i c.loop-i.top) end c.loop-i.invariant.top)
