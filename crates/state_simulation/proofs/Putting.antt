-- Rows that become those of the next round, one after another.
use Rattle.std.proofs.Common.{◌≡◌, ℕ, ◌+◌, ◌<◌, ◌≤◌, Bool, true, false, cond, not, ◌&&◌, ◌||◌, eqb, List, length, get_or, set, arith, refl, sym, ap, ◌∙◌, inl, inr, ◌⊎◌}
use Rattle.std.proofs.lemmas.Bool.{cases_Bool, cases_order, or_parts, cond-true, cond-false, eq-eqb, ne_eqb}
use Rattle.std.proofs.lemmas.List.{get_or-set_same, get_or-set_other}
use Rattle.bit_rows.specs.Tables.{PlainRows, has_at}
use Rattle.relation_law.specs.Numbers.{any_below}
use Rattle.relation_law.proofs.Tests.{any_found, none_at}
use Rattle.state_simulation.specs.Targets.{Put, differs}

-- where not all of the bits pass, one of the first ones doesn't
pub some_bit : (bits : ℕ) (p : ℕ → Bool) → ((k : ℕ) → bits ≤ k → p k ≡ false) → (((k : ℕ) → p k ≡ false) → ⊥) → (b : ℕ) × (b < bits) × (p b ≡ true)
some_bit bits p clear some = elim (cases_Bool (any_below bits p)) [
  | inl e ↦ any_found bits p e
  | inr e ↦ absurd (some (λ k. elim (cases_order k bits) [
    | inl same ↦ clear k (omega (arith, same))
    | inr other ↦ elim other [
      | inl below ↦ none_at bits p k e below
      | inr above ↦ clear k (omega arith)
    ]
  ]))
]

-- a bit that isn't lost, and isn't new
pub same_bit : (was is : Bool) → (is ≡ true → was ≡ true) → (was && (was && not is)) ≡ false → was ≡ is
same_bit true true old h = refl
same_bit true false old h = absurd (cc)
same_bit false true old h = old refl
same_bit false false old h = refl

module _ (next init left new : PlainRows) (touched : List Bool) (changed lost : Bool) (size n : ℕ) (lt : n < size) (len : length touched ≡ size) (put : Put n next init left touched changed)
    (rest : (r b : ℕ) → n ≤ r → r < size → has_at left r b ≡ has_at init r b) (bits : (r b : ℕ) → r < size → has_at new r b ≡ cond (eqb r n) (has_at next n b) (has_at left r b))
    (none : lost ≡ false → (b : ℕ) → differs left next n b ≡ false) (some : lost ≡ true → (b : ℕ) × (b < init.bits) × (differs left next n b ≡ true)) where
  here_or_before : (m : ℕ) → m < n + 1 → (m ≡ n) ⊎ (m < n)
  here_or_before m lm = elim (cases_order m n) [
    | inl e ↦ inl e
    | inr o ↦ elim o [ inl less ↦ inr less | inr more ↦ absurd (omega arith) ]
  ]

  as_first : (b : ℕ) → differs left next n b ≡ differs init next n b
  as_first b = ap (λ z. z && (z && not (has_at next n b))) (rest n b (omega arith) lt)

  quiet_here : lost ≡ false → (b : ℕ) → differs init next n b ≡ false
  quiet_here e b = sym (as_first b) ∙ none e b

  pub put_more : Put (n + 1) next init new (set touched n lost) (lost || changed)
  put_more = record {
    rows = λ m b lm. elim (here_or_before m lm) [
      | inl e ↦ bits m b (omega (arith, e, lt)) ∙ cond-true (eqb m n) _ _ (eq-eqb _ _ e) ∙ ap (λ k. has_at next k b) (sym e)
      | inr less ↦ bits m b (omega (arith, less, lt)) ∙ cond-false (eqb m n) _ _ (ne_eqb _ _ (λ e. omega (arith, less, e))) ∙ put.rows m b less
    ];
    quiet = λ t b lm still. elim (here_or_before t lm) [
      | inl e ↦ ap (λ k. differs init next k b) e ∙ quiet_here (sym (get_or-set_same touched n lost false (omega (arith, lt, len))) ∙ ap (λ k. get_or (set touched n lost) k false) (sym e) ∙ still) b
      | inr less ↦ put.quiet t b less (sym (get_or-set_other touched n t lost false (λ e. omega (arith, less, e))) ∙ still)
    ];
    same = λ none_lost m b lm. elim (here_or_before m lm) [
      | inl e ↦ ap (λ k. differs init next k b) e ∙ quiet_here (or_parts lost changed none_lost).0 b
      | inr less ↦ put.same (or_parts lost changed none_lost).1 m b less
    ];
    lost = λ any. elim (cases_Bool lost) [
      | inl e ↦ (let x : (b : ℕ) × (b < init.bits) × (differs left next n b ≡ true) = some e in (n, x.0, omega arith, x.1, sym (as_first x.0) ∙ x.2))
      | inr e ↦ (let x = put.lost (sym (ap (λ z. z || changed) e) ∙ any) in (x.0, x.1, omega (arith, x.2), x.3, x.4))
    ];
  }
