-- The class of a prefix among items that have patterns.
use Rattle.std.proofs.Common.{◌≡◌, ℕ, suc, ◌+◌, ◌<◌, arith, true, false, List, ◌∷◌, drop, length, get_or, map, Some, sym, ap, ◌∙◌}
use Rattle.std.specs.Prelude.{if◌then◌else◌}
use Rattle.std.specs.List.{list_any}
use Rattle.std.proofs.Math.Seq.{drop-cons}
use Rattle.net_base.specs.Network.{PlainNet}
use Rattle.net_base.specs.Prefixes.{PlainPattern, PlainPrefix, contains}
use Rattle.policy_base.specs.Policies.{PlainPolicy}
use Rattle.config_base.specs.Configs.{PlainConfig}
use Rattle.config_base.specs.Lines.{class_from, class_of}
use Rattle.evidence_base.specs.Made.{IsConfigOf, PlainCaseEvidence, patterns_of}

module _ {A : Type 0} (patterns : A → List PlainPattern) (p : PlainPrefix) (items : List A) (i : ℕ) (item : A) (within : i < length items) (is : item ≡ get_or items i item) where
  -- the items from this one on
  from_here : map patterns (drop i items) ≡ patterns item ∷ map patterns (drop (i + 1) items)
  from_here =
      let next : suc i ≡ i + 1 = omega arith in
      ap (map patterns) (drop-cons items i item within) ∙ ap (λ (x : A). patterns x ∷ map patterns (drop (suc i) items)) (sym is)
      ∙ ap (λ (k : ℕ). patterns item ∷ map patterns (drop k items)) next

  pub class_here : list_any (λ pattern. contains pattern p) (patterns item) ≡ true → class_from (map patterns (drop i items)) p (i + 1) ≡ Some (i + 1)
  class_here passes = ap (λ cs. class_from cs p (i + 1)) from_here ∙ ap (λ b. if b then Some (i + 1) else class_from (map patterns (drop (i + 1) items)) p (i + 1 + 1)) passes

  pub class_later : list_any (λ pattern. contains pattern p) (patterns item) ≡ false
      → class_from (map patterns (drop i items)) p (i + 1) ≡ class_from (map patterns (drop (i + 1) items)) p (i + 1 + 1)
  class_later fails = ap (λ cs. class_from cs p (i + 1)) from_here ∙ ap (λ b. if b then Some (i + 1) else class_from (map patterns (drop (i + 1) items)) p (i + 1 + 1)) fails

-- ---- in the configuration that is made of evidence

module _ (policy : PlainPolicy) (p : PlainPrefix) (cs : List PlainCaseEvidence) where
  abbrev pub patterns_at : PlainCaseEvidence → List PlainPattern
  patterns_at c = patterns_of policy c.case

  -- no case up to the one at place i has the prefix
  abbrev pub IsPast : ℕ → Type 0
  IsPast i = class_from (map patterns_at cs) p 1 ≡ class_from (map patterns_at (drop i cs)) p (i + 1)

  module _ (net : PlainNet) (config : PlainConfig) (lines : IsConfigOf net policy cs config) where
    class_is : class_of config p ≡ class_from (map patterns_at cs) p 1
    class_is = ap (λ classes. class_from classes p 1) lines.classes

    -- the class is the number of the first case that has the prefix
    pub class_found : (i : ℕ) (c : PlainCaseEvidence) → i < length cs → c ≡ get_or cs i c → IsPast i
        → list_any (λ pattern. contains pattern p) (patterns_at c) ≡ true → Some (i + 1) ≡ class_of config p
    class_found i c within is past has = sym (class_is ∙ past ∙ class_here patterns_at p cs i c within is has)
