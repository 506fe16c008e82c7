-- There is one configuration with what stays, and each case that stays is kept.
use Rattle.std.proofs.Common.{◌≡◌, ℕ, ◌-◌, List, Some, sym, ap, ◌∙◌, subst, arith, inl, inr}
use Rattle.std.specs.Prelude.{slice_get}
use Rattle.std.proofs.lemmas.Option.{slice_get_within}
use Rattle.list_law.proofs.Items.{same_by_places, same_item, slice_get_inside}
use Rattle.net_base.specs.Network.{PlainNet}
use Rattle.policy_base.specs.Policies.{PlainPolicy}
use Rattle.config_base.specs.Configs.{PlainConfig}
use Rattle.config_maker.proofs.OneConfiguration.{one_configuration}
use Rattle.evidence_base.specs.Made.{PlainCaseEvidence, IsConfigOf}
use Rattle.stage_classes.specs.declared.cell.Cell.{Cell}
use Rattle.compile_core.proofs.OneRefusal.{one_pair}
use Rattle.evidence_renewal.proofs.Cases.{renewed_forth}
use Rattle.evidence_renewal.proofs.One.{one_evidence}
use Rattle.evidence_reuse.specs.Laws.{ReusesAreOne, WhatStaysIsKept}
use Rattle.evidence_reuse.specs.Reused.{AreReused, IsOther, IsReuse, IsReusedCase, IsReusedEvidence, IsSource, MayTakeOver, pairs_with, with_marks}
use Rattle.evidence_reuse.specs.Staying.{Stays}
use Rattle.evidence_reuse.proofs.Numbers.{one_class}

module _ (between : List Cell) (olds cs : List PlainCaseEvidence) where
  one_stays : (place : ℕ) (c e f : PlainCaseEvidence) → Stays between olds cs place c e → Stays between olds cs place c f → e ≡ f
  one_stays place c e f a b = same_item olds (a.was - 1) (b.was - 1) e f a.may.at b.may.at (ap (λ n. n - 1) (one_class between olds place a.was b.was a.may.class b.may.class))

  one_source : (place : ℕ) (c f x y : PlainCaseEvidence) → IsSource between olds cs place c f x → IsSource between olds cs place c f y → x ≡ y
  one_source place c f x y (inl a) (inl b) = one_stays place c x y a b
  one_source place c f x y (inl a) (inr b) = absurd (b.1 x a)
  one_source place c f x y (inr a) (inl b) = absurd (a.1 y b)
  one_source place c f x y (inr a) (inr b) = a.0 ∙ sym b.0

  one_case : (place : ℕ) (c f d e : PlainCaseEvidence) → IsReusedCase between olds cs place c f d → IsReusedCase between olds cs place c f e → d ≡ e
  one_case place c f d e a b = a.made ∙ ap (with_marks c) (one_source place c f a.source b.source a.is b.is) ∙ sym b.made

  one_list : (fs ds es : List PlainCaseEvidence) → ((k : ℕ) (c : PlainCaseEvidence) → slice_get cs k ≡ Some c → (f : PlainCaseEvidence) × (slice_get fs k ≡ Some f))
      → AreReused between olds cs fs ds → AreReused between olds cs fs es → ds ≡ es
  one_list fs ds es each a b = same_by_places ds es (a.count ∙ sym b.count) at_place
    where
      at_place : (i : ℕ) (d e : PlainCaseEvidence) → slice_get ds i ≡ Some d → slice_get es i ≡ Some e → d ≡ e
      at_place i d e at there =
          let c = slice_get_inside cs i (omega (arith, slice_get_within ds i d at, a.count)) in
          let f = each i c.0 c.1 in
          one_case i c.0 f.0 d e (a.each i c.0 f.0 d c.1 f.1 at) (b.each i c.0 f.0 e c.1 f.1 there)

pub one_reused : (net : PlainNet) (policy : PlainPolicy) (old : PlainConfig) (olds ds es : List PlainCaseEvidence) → IsReusedEvidence net policy old olds ds
    → IsReusedEvidence net policy old olds es → ds ≡ es
one_reused net policy old olds ds es a b =
    let compiled = (one_pair net policy a.made.0 b.made.0 a.compiled b.compiled a.made.1 b.made.1).0 in
    let renewed = one_evidence net policy old a.renewed b.renewed (record { compiled = a.compiled; made = a.made; renewed = a.are_renewed })
    (record { compiled = b.compiled; made = b.made; renewed = b.are_renewed }) in
    let P : List PlainCaseEvidence → Type 0 = λ cs. AreReused (pairs_with old policy a.renewed) olds cs a.renewed ds in
    let Q : List PlainCaseEvidence → Type 0 = λ fs. AreReused (pairs_with old policy fs) olds b.compiled fs ds in
    one_list (pairs_with old policy b.renewed) olds b.compiled b.renewed ds es
    (λ k c at. let f = renewed_forth _ _ b.compiled b.renewed b.are_renewed k c at in (f.0, f.1))
    (subst Q renewed (subst P compiled a.reused)) b.reused

pub one_reuse : ReusesAreOne
one_reuse net policy old config other olds ds es a b =
    let same = one_reused net policy old olds ds es a.evidence b.evidence in
    (same, one_configuration net policy es config other (subst (λ (xs : List PlainCaseEvidence). IsConfigOf net policy xs config) same a.takes_over.lines) b.takes_over.lines)

-- where one may take over, none of another evidence is told
pub never_other : (net : PlainNet) (policy : PlainPolicy) (old config : PlainConfig) (olds ds : List PlainCaseEvidence) → IsReuse net policy old olds config ds → IsOther net policy old olds → ⊥
never_other net policy old config olds ds is other =
    other.never config (subst (λ (xs : List PlainCaseEvidence). MayTakeOver net policy old config xs) (one_reused net policy old olds ds other.cases is.evidence other.evidence) is.takes_over)

pub kept : WhatStaysIsKept
kept net policy old olds ds is k c d e at there stays =
    let f = renewed_forth _ _ is.compiled is.renewed is.are_renewed k c at in
    let made = is.reused.each k c f.0 d at f.1 there in
    let source : made.source ≡ e = one_source (pairs_with old policy is.renewed) olds is.compiled k c f.0 made.source e made.is (inl stays) in
    let all : d ≡ with_marks c e = made.made ∙ ap (with_marks c) source in (
      ap (λ (x : PlainCaseEvidence). x.graph) all ∙ sym stays.may.same.graph,
      ap (λ (x : PlainCaseEvidence). x.numbers) all,
      ap (λ (x : PlainCaseEvidence). x.tags) all,
    )
