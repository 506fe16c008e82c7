-- There is one verdict.
use Rattle.std.proofs.Common.{◌≡◌, cond, ◌⊎◌, ℕ, ◌<◌, List, refl, sym, ap, ap₂, ◌∙◌, subst, arith, inl, inr}
use Rattle.std.specs.Prelude.{◌==◌}
use Rattle.std.proofs.lemmas.Bool.{cases_lt}
use Rattle.net_base.specs.Network.{PlainNet}
use Rattle.policy_base.specs.Policies.{PlainPolicy}
use Rattle.config_maker.proofs.OneConfiguration.{one_configuration}
use Rattle.config_text.specs.ConfigText.{config_text}
use Rattle.evidence_verdicts.specs.Laws.{VerdictsAreOne}
use Rattle.config_base.specs.Configs.{PlainConfig, Key, IsBelow}
use Rattle.evidence_base.specs.Made.{PlainCaseEvidence}
use Rattle.evidence_law.specs.Passes.{Passes}
use Rattle.evidence_verdicts.specs.declared.rule.CheckRule.{CheckRule}
use Rattle.evidence_verdicts.specs.declared.rule.CheckRule.TheVariants.{Cases, Walks, Ranks, Mixed, PrefRank, PrefStep, PrefLoop, PrefListener, Tags, ConfigDiffers}
use Rattle.evidence_verdicts.specs.Rules.{rule_number, KeepsAt}
use Rattle.evidence_verdicts.specs.declared.verdict.Shown.{Shown}
use Rattle.evidence_verdicts.specs.declared.verdict.Verdict.{Verdict}
use Rattle.evidence_verdicts.specs.declared.verdict.Verdict.TheVariants.{Holds, Fails}
use Rattle.text_parts.specs.Difference.{first_difference}
use Rattle.evidence_verdicts.specs.Verdicts.{at_place, IsFault, block_of, IsConfigFault, IsVerdict}
use Rattle.evidence_verdicts.proofs.TenRules.{passing}

abbrev pub rule_of : ℕ → CheckRule
rule_of n =
    cond (n == 1) Cases (cond (n == 2) Walks (cond (n == 3) Ranks (cond (n == 4) Mixed (cond (n == 5) PrefRank
    (cond (n == 6) PrefStep (cond (n == 7) PrefLoop (cond (n == 8) PrefListener (cond (n == 9) Tags (ConfigDiffers)))))))))

pub rule_of-number : (r : CheckRule) → rule_of (rule_number r) ≡ r
rule_of-number Cases = refl
rule_of-number Walks = refl
rule_of-number Ranks = refl
rule_of-number Mixed = refl
rule_of-number PrefRank = refl
rule_of-number PrefStep = refl
rule_of-number PrefLoop = refl
rule_of-number PrefListener = refl
rule_of-number Tags = refl
rule_of-number ConfigDiffers = refl

last_or_before : (r : CheckRule) → (rule_number r < 10) ⊎ (r ≡ ConfigDiffers)
last_or_before Cases = inl (omega arith)
last_or_before Walks = inl (omega arith)
last_or_before Ranks = inl (omega arith)
last_or_before Mixed = inl (omega arith)
last_or_before PrefRank = inl (omega arith)
last_or_before PrefStep = inl (omega arith)
last_or_before PrefLoop = inl (omega arith)
last_or_before PrefListener = inl (omega arith)
last_or_before Tags = inl (omega arith)
last_or_before ConfigDiffers = inr refl

-- ---- places are in order

compared : (a b : Key) → IsBelow a b ⊎ (IsBelow b a ⊎ ((a.first ≡ b.first) × (a.second ≡ b.second) × (a.third ≡ b.third)))
compared a b = elim (cases_lt a.first b.first) [
  | inl lt ↦ inl (omega (arith, lt), λ e. absurd (omega (arith, e, lt)))
  | inr le ↦ elim (cases_lt b.first a.first) [
    | inl lt ↦ inr (inl (omega (arith, lt), λ e. absurd (omega (arith, e, lt))))
    | inr ge ↦
        let first : a.first ≡ b.first = omega (arith, le, ge) in
        elim (cases_lt a.second b.second) [
          | inl lt ↦ inl (omega (arith, first), λ _. (omega (arith, lt), λ e. absurd (omega (arith, e, lt))))
          | inr le2 ↦ elim (cases_lt b.second a.second) [
            | inl lt ↦ inr (inl (omega (arith, first), λ _. (omega (arith, lt), λ e. absurd (omega (arith, e, lt)))))
            | inr ge2 ↦
                let second : a.second ≡ b.second = omega (arith, le2, ge2) in
                elim (cases_lt a.third b.third) [
                  | inl lt ↦ inl (omega (arith, first), λ _. (omega (arith, second), λ _. lt))
                  | inr le3 ↦ elim (cases_lt b.third a.third) [
                    | inl lt ↦ inr (inl (omega (arith, first), λ _. (omega (arith, second), λ _. lt)))
                    | inr ge3 ↦ inr (inr (first, second, omega (arith, le3, ge3)))
                  ]
                ]
          ]
        ]
  ]
]

shown_from : (x y : Shown) → x.case ≡ y.case → x.first ≡ y.first → x.second ≡ y.second → x.line ≡ y.line → x ≡ y
shown_from x y a b c d =
    ap (λ n. record { case = n; first = x.first; second = x.second; line = x.line }) a
    ∙ ap (λ n. record { case = y.case; first = n; second = x.second; line = x.line }) b
    ∙ ap (λ n. record { case = y.case; first = y.first; second = n; line = x.line }) c
    ∙ ap (λ n. record { case = y.case; first = y.first; second = y.second; line = n }) d

module _ (net : PlainNet) (policy : PlainPolicy) (config : PlainConfig) (cs : List PlainCaseEvidence) where
  abbrev Known : CheckRule → Shown → Type 0
  Known r x = IsFault net policy cs r x ⊎ ((r ≡ ConfigDiffers) × IsConfigFault net policy config cs x)

  known : (r : CheckRule) (x : Shown) → IsVerdict net policy config cs (Fails r x) → Known r x
  known Cases x h = inl h
  known Walks x h = inl h
  known Ranks x h = inl h
  known Mixed x h = inl h
  known PrefRank x h = inl h
  known PrefStep x h = inl h
  known PrefLoop x h = inl h
  known PrefListener x h = inl h
  known Tags x h = inl h
  known ConfigDiffers x h = inr (refl, h)

  -- no rule fails where the evidence passes
  none_fails : (r : CheckRule) (x : Shown) → Passes net policy config cs → Known r x → ⊥
  none_fails r x passes (inl f) = f.first.fails (((passing net policy config cs).0 passes).0 r x.case x.first x.second)
  none_fails r x passes (inr f) = f.1.differs (one_configuration net policy cs f.1.made config f.1.lines passes.made.lines)

  -- a rule that fails isn't earlier than the first one
  not_earlier : (r q : CheckRule) (x y : Shown) → IsFault net policy cs r x → IsFault net policy cs q y → rule_number r < rule_number q → ⊥
  not_earlier r q x y f g lt = f.first.fails (g.earlier r lt x.case x.first x.second)

  before_config : (r : CheckRule) (x y : Shown) → IsFault net policy cs r x → IsConfigFault net policy config cs y → ⊥
  before_config r x y f g = elim (last_or_before r) [
    | inl lt ↦ f.first.fails (g.earlier r lt x.case x.first x.second)
    | inr e ↦ f.first.fails (subst (λ q. KeepsAt q net policy cs x.case x.first x.second) (sym e) tt)
  ]

  same_place : (r : CheckRule) (x y : Shown) → IsFault net policy cs r x → IsFault net policy cs r y → x ≡ y
  same_place r x y f g = elim (compared (at_place x.case x.first x.second) (at_place y.case y.first y.second)) [
    | inl below ↦ absurd (f.first.fails (g.first.before x.case x.first x.second below))
    | inr (inl below) ↦ absurd (g.first.fails (f.first.before y.case y.first y.second below))
    | inr (inr e) ↦ shown_from x y e.0 e.1 e.2 (f.no_line ∙ sym g.no_line)
  ]

  same_fault : (r q : CheckRule) (x y : Shown) → IsFault net policy cs r x → IsFault net policy cs q y → Fails r x ≡ Fails q y
  same_fault r q x y f g = elim (cases_lt (rule_number r) (rule_number q)) [
    | inl lt ↦ absurd (not_earlier r q x y f g lt)
    | inr le ↦ elim (cases_lt (rule_number q) (rule_number r)) [
      | inl lt ↦ absurd (not_earlier q r y x g f lt)
      | inr ge ↦
          let number : rule_number q ≡ rule_number r = omega (arith, le, ge) in
          let rule : q ≡ r = sym (rule_of-number q) ∙ ap rule_of number ∙ rule_of-number r in
          ap₂ Fails (sym rule) (same_place r x y f (subst (λ p. IsFault net policy cs p y) rule g))
    ]
  ]

  same_config_fault : (x y : Shown) → IsConfigFault net policy config cs x → IsConfigFault net policy config cs y → x ≡ y
  same_config_fault x y f g =
      let made : f.made ≡ g.made = one_configuration net policy cs f.made g.made f.lines g.lines in
      let line : x.line ≡ y.line = f.line ∙ ap (λ c. first_difference (config_text c) (config_text config)) made ∙ sym g.line in
      shown_from x y (f.no_case ∙ sym g.no_case) (f.router ∙ ap₂ block_of made line ∙ sym g.router) (f.no_second ∙ sym g.no_second) line

  same_known : (r q : CheckRule) (x y : Shown) → Known r x → Known q y → Fails r x ≡ Fails q y
  same_known r q x y (inl f) (inl g) = same_fault r q x y f g
  same_known r q x y (inl f) (inr g) = absurd (before_config r x y f g.1)
  same_known r q x y (inr f) (inl g) = absurd (before_config q y x g f.1)
  same_known r q x y (inr f) (inr g) = ap₂ Fails (f.0 ∙ sym g.0) (same_config_fault x y f.1 g.1)

  same_verdict : (v w : Verdict) → IsVerdict net policy config cs v → IsVerdict net policy config cs w → v ≡ w
  same_verdict Holds Holds hv hw = refl
  same_verdict Holds (Fails q y) hv hw = absurd (none_fails q y hv (known q y hw))
  same_verdict (Fails r x) Holds hv hw = absurd (none_fails r x hw (known r x hv))
  same_verdict (Fails r x) (Fails q y) hv hw = same_known r q x y (known r x hv) (known q y hw)

pub one_verdict : VerdictsAreOne
one_verdict net policy config cs v w hv hw = same_verdict net policy config cs v w hv hw
