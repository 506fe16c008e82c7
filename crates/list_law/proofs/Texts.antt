-- Tests of texts, as lists of bytes.
use Rattle.std.proofs.Common.{◌++◌, ◌∙◌, ◌∷◌, ◌≡◌, List, [], arith, false, length, refl, sym, true, true≢false, ℕ, Bool}
use Rattle.std.specs.List.{list_all, prefix_len}
use Rattle.std.specs.Str.{bytes_eq}
use Rattle.std.proofs.lemmas.Bool.{and_parts, false_from_ne_true}
use Rattle.std.proofs.lemmas.Slice.Eq.{bytes_eq-Decides}

pub bytes_eq_self : (a : List ℕ) → bytes_eq a a ≡ true
bytes_eq_self a = (bytes_eq-Decides a a).1 refl

pub bytes_eq_apart : (x y : List ℕ) → bytes_eq x y ≡ false → bytes_eq y x ≡ false
bytes_eq_apart x y apart =
    false_from_ne_true (bytes_eq y x) (λ same. true≢false (sym ((bytes_eq-Decides x y).1 (sym ((bytes_eq-Decides y x).0 same))) ∙ apart))

-- all of these bytes pass, and then none
pub all_pass : (p : ℕ → Bool) (bs t : List ℕ) → list_all p bs ≡ true → prefix_len p t ≡ 0 → prefix_len p (bs ++ t) ≡ length bs
all_pass p [] t all stop = stop
all_pass p (b ∷ bs) t all stop =
    let h = and_parts (p b) (list_all p bs) all in
    rw (h.0, all_pass p bs t h.1 stop) (omega arith)
