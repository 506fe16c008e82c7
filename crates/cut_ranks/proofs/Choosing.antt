-- The best nodes as far as a loop has come.
use Rattle.std.proofs.Common.{◌≡◌, ◌≢◌, ℕ, ◌+◌, ◌<◌, ◌≤◌, Bool, true, false, List, length, set, replicate, get_or-set_same, get_or-set_other, length-set, Option, Some}
use Rattle.std.proofs.Common.{None, sym, ap, ◌∙◌, subst, inl, inr, refl, arith, ltb-true, ltb-false}
use Rattle.std.proofs.lemmas.Bool.{both_ways, cases_eq, cases_lt}
use Rattle.std.proofs.lemmas.List.{get_or-replicate, get_or_past, length-replicate}
use Rattle.graph_base.specs.Runs.{place_of}
use Rattle.evidence_base.specs.Made.{PlainCaseEvidence, number_at}
use Rattle.reach_prune.specs.Searches.{is_marked}
use Rattle.cut_ranks.specs.Tops.{AreBest, entry_at, is_better}

-- a table without entries
no_entry : (table : List (Option ℕ)) (count : ℕ) → table ≡ replicate count None → (r : ℕ) → entry_at table r ≡ None
no_entry table count empty r = ap (λ xs. entry_at xs r) empty ∙ elim (cases_lt r count) [
  | inl low ↦ get_or-replicate {A = Option ℕ} count r None None low
  | inr high ↦ get_or_past (replicate count None) r None (omega (arith, high, length-replicate {A = Option ℕ} count None))
]

module _ (c : PlainCaseEvidence) (marked : ℕ → Bool) (routers : ℕ) where
  -- no node is below 0
  pub best_first : (best : List (Option ℕ)) → best ≡ replicate routers None → AreBest c marked routers 0 best
  best_first best empty = record {
    size = ap length empty ∙ length-replicate {A = Option ℕ} routers None;
    here = λ l n e. let clash : None ≡ Some n = sym (no_entry best routers empty l) ∙ e in absurd (cc);
    over = λ m less mark low. absurd (omega (arith, less));
  }

  module _ (n : ℕ) (best : List (Option ℕ)) where
    -- a node that isn't marked, stands at no router, or isn't better than the best so far
    pub best_kept : (marked n ≡ true → place_of c.graph n < routers → is_better c n (entry_at best (place_of c.graph n)) ≡ false)
        → AreBest c marked routers n best → AreBest c marked routers (n + 1) best
    best_kept off are = record {
      size = are.size;
      here = λ l m e. let old = are.here l m e in (omega (arith, old.0), old.1, old.2);
      over = λ m less mark low. elim (cases_lt m n) [
        | inl before ↦ are.over m before mark low
        | inr last ↦ (
            let same : m ≡ n = omega (arith, less, last) in
            subst (λ k. (b : ℕ) × (entry_at best (place_of c.graph k) ≡ Some b) × (number_at c k ≤ number_at c b)) (sym same)
            (here (off (subst (λ k. marked k ≡ true) same mark) (subst (λ k. place_of c.graph k < routers) same low)) (entry_at best (place_of c.graph n)) refl))
      ];
    }
      where
        here : is_better c n (entry_at best (place_of c.graph n)) ≡ false → (o : Option ℕ) → entry_at best (place_of c.graph n) ≡ o
            → (b : ℕ) × (entry_at best (place_of c.graph n) ≡ Some b) × (number_at c n ≤ number_at c b)
        here worse None e = absurd (both_ways _ worse (ap (is_better c n) e))
        here worse (Some b) e = let no_less = ltb-false _ _ (sym (ap (is_better c n) e) ∙ worse) in (b, e, omega (arith, no_less))

    -- a node that is better
    pub best_taken : (at : ℕ) (next : List (Option ℕ)) → at ≡ place_of c.graph n → at < routers → next ≡ set best at (Some n) → marked n ≡ true
        → is_better c n (entry_at best at) ≡ true → AreBest c marked routers n best
        → AreBest c marked routers (n + 1) next
    best_taken at next is low taken on better are = record {
      size = ap length taken ∙ length-set _ _ _ ∙ are.size;
      here = λ l m e. elim (cases_eq l at) [
        | inl here ↦ (
            let both : Some n ≡ Some m = sym (here_is l here) ∙ e in
            let same : n ≡ m = cc in
            (omega (arith, same), subst (λ k. marked k ≡ true) same on, ap (place_of c.graph) (sym same) ∙ sym is ∙ sym here))
        | inr there ↦ (let old = are.here l m (sym (there_is l there) ∙ e) in (omega (arith, old.0), old.1, old.2))
      ];
      over = λ m less mark within. elim (cases_eq (place_of c.graph m) at) [
        | inl here ↦ elim (cases_lt m n) [
          | inl before ↦ (
              let old = are.over m before mark within in
              let there : entry_at best at ≡ Some old.0 = ap (entry_at best) (sym here) ∙ old.1 in
              let above = ltb-true _ _ (ap (is_better c n) (sym there) ∙ better) in
              (n, here_is (place_of c.graph m) here, omega (arith, old.2, above)))
          | inr last ↦ (let same : m ≡ n = omega (arith, less, last) in (n, here_is (place_of c.graph m) here, omega (arith, ap (number_at c) same)))
        ]
        | inr there ↦ elim (cases_lt m n) [
          | inl before ↦ (let old = are.over m before mark within in (old.0, there_is (place_of c.graph m) there ∙ old.1, old.2))
          | inr last ↦ (let same : m ≡ n = omega (arith, less, last) in absurd (there (ap (place_of c.graph) same ∙ sym is)))
        ]
      ];
    }
      where
        here_is : (l : ℕ) → l ≡ at → entry_at next l ≡ Some n
        here_is l here = ap (entry_at next) here ∙ ap (λ xs. entry_at xs at) taken ∙ get_or-set_same best at (Some n) None (omega (arith, low, are.size))

        there_is : (l : ℕ) → l ≢ at → entry_at next l ≡ entry_at best l
        there_is l there = ap (λ xs. entry_at xs l) taken ∙ get_or-set_other best at l (Some n) None there

-- where all nodes are marked
pub all_marked : (c : PlainCaseEvidence) (marks : List Bool) (routers bound : ℕ) (best : List (Option ℕ)) → marks ≡ replicate bound true
    → AreBest c (is_marked marks) routers bound best → AreBest c (λ n. true) routers bound best
all_marked c marks routers bound best all are = record {
  size = are.size;
  here = λ r n e. let old = are.here r n e in (old.0, refl, old.2);
  over = λ m less mark low. are.over m less (ap (λ xs. is_marked xs m) all ∙ get_or-replicate {A = Bool} bound m true false less) low;
}
