use Rattle.std.proofs.Common.{◌≡◌, ℕ, ◌≤◌, ◌+◌, List, [], ◌∷◌, true, arith, rules, tests, drop, add-one, drop-cons, sym, ◌∙◌, ap, get_or, refl, min, inl, inr}
use Rattle.std.specs.Prelude.{◌&&◌, fold}
use Rattle.std.specs.List.{list_all}
use Rattle.std.proofs.lemmas.Bool.{cases_lt}
use Rattle.net_base.specs.Addresses.{is_figure}
use Rattle.config_lines.specs.Numbers.{with_digit}
use Rattle.config_lines.proofs.number.value.Goals as goal

-- a number doesn't grow less by more digits
grows : (n : ℕ) (ds : List ℕ) → n ≤ fold with_digit n ds
grows n [] = omega arith
grows n (d ∷ ds) = omega (arith, grows (with_digit n d) ds)

-- one that is too large stays so
capped : (n : ℕ) (ds : List ℕ) → min (fold with_digit (min n 4294967296) ds) 4294967296 ≡ min (fold with_digit n ds) 4294967296
capped n ds = elim (cases_lt n 4294967296) [
  | inl low ↦ let e : min n 4294967296 ≡ n = omega arith in ap (λ (k : ℕ). min (fold with_digit k ds) 4294967296) e
  | inr high ↦
      let e : min n 4294967296 ≡ 4294967296 = omega arith in
      ap (λ (k : ℕ). min (fold with_digit k ds) 4294967296) e ∙ omega (arith, grows n ds, grows 4294967296 ds)
]

pub loop-byte-preserved : goal.loop-byte-preserved
loop-byte-preserved c =
    let bytes = c.args.bytes.now in
    let i = c.loop-byte.byte-index in
    let d = get_or bytes i 0 in
    let before = c.loop-byte.invariant in
    let at : drop i bytes ≡ d ∷ drop (i + 1) bytes = drop-cons bytes i 0 c.loop-byte-test.true ∙ rw add-one refl in
    let is : is_figure d ≡ true = search (rules, tests) in
    let next : c.min-value.result ≡ min (with_digit c.loop-byte.value d) 4294967296 = omega (arith, c.min-value.ensures, c.from.ensures, c.saturating_sub.ensures) in
    record {
      digits = ap (λ b. b && list_all is_figure (drop (i + 1) bytes)) (sym is) ∙ ap (list_all is_figure) (sym at) ∙ before.digits;
      number =
          ap (λ (k : ℕ). min (fold with_digit k (drop (i + 1) bytes)) 4294967296) next
          ∙ capped (with_digit c.loop-byte.value d) (drop (i + 1) bytes)
          ∙ ap (λ (ds : List ℕ). min (fold with_digit c.loop-byte.value ds) 4294967296) (sym at)
          ∙ before.number;
      low = omega (arith, next);
    }
