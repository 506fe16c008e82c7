-- A table with one pattern more.
use Rattle.std.proofs.Common.{◌≡◌, ℕ, suc, Bool, true, false, cond, List, [], ◌∷◌, ◌++◌, Option, Some, refl, ap, sym, ◌∙◌, arith}
use Rattle.std.specs.Prelude.{◌==◌, max, unwrap_or, if◌then◌else◌}
use Rattle.std.proofs.lemmas.Bool.{eqb-true, and_parts}
use Rattle.net_base.specs.Prefixes.{PlainPrefix, PlainPattern, same_prefix}
use Rattle.lint_cover.specs.Covered.{exact_at}
use Rattle.lint_cover.specs.Tables.{AreEnds}

max_assoc : (a b c : ℕ) → max a (max b c) ≡ max (max a b) c
max_assoc a b c = omega arith

max_swap : (a b : ℕ) → max a b ≡ max b a
max_swap a b = omega arith

pub exact_at-push : (qs : List PlainPattern) (q : PlainPattern) (p : PlainPrefix) → exact_at (qs ++ q ∷ []) p ≡ max (exact_at qs p) (if same_prefix q.base p then suc q.upto else 0)
exact_at-push [] q p = max_swap (if same_prefix q.base p then suc q.upto else 0) 0
exact_at-push (x ∷ qs) q p =
    ap (λ n. max (if same_prefix x.base p then suc x.upto else 0) n) (exact_at-push qs q p)
    ∙ max_assoc (if same_prefix x.base p then suc x.upto else 0) (exact_at qs p) (if same_prefix q.base p then suc q.upto else 0)

pub noted : (old new : PlainPrefix → Option ℕ) (qs : List PlainPattern) (q : PlainPattern) (v : ℕ) → ((p : PlainPrefix) → new p ≡ cond (same_prefix q.base p) (Some v) (old p))
    → v ≡ max (unwrap_or (old q.base) 0) (suc q.upto) → AreEnds old qs → AreEnds new (qs ++ q ∷ [])
noted old new qs q v says is ends p = by_base (same_prefix q.base p) refl
  where
    here : same_prefix q.base p ≡ true → unwrap_or (old q.base) 0 ≡ exact_at qs p
    here it =
        let parts = and_parts (q.base.bits == p.bits) (q.base.len == p.len) it in
        let bits : q.base.bits ≡ p.bits = eqb-true _ _ parts.0 in
        let len : q.base.len ≡ p.len = eqb-true _ _ parts.1 in
        ap (λ b. unwrap_or (old (record { bits = b; len = q.base.len })) 0) bits ∙ ap (λ l. unwrap_or (old (record { bits = p.bits; len = l })) 0) len ∙ ends p

    by_base : (b : Bool) → same_prefix q.base p ≡ b → unwrap_or (new p) 0 ≡ exact_at (qs ++ q ∷ []) p
    by_base true it =
        ap (λ o. unwrap_or o 0) (says p) ∙ ap (λ b. unwrap_or (cond b (Some v) (old p)) 0) it
        ∙ is ∙ ap (λ n. max n (suc q.upto)) (here it) ∙ sym (exact_at-push qs q p ∙ ap (λ b. max (exact_at qs p) (if b then suc q.upto else 0)) it)
    by_base false it =
        ap (λ o. unwrap_or o 0) (says p) ∙ ap (λ b. unwrap_or (cond b (Some v) (old p)) 0) it
        ∙ ends p ∙ keep ∙ sym (exact_at-push qs q p ∙ ap (λ b. max (exact_at qs p) (if b then suc q.upto else 0)) it)
      where
        keep : exact_at qs p ≡ max (exact_at qs p) 0
        keep = omega arith
