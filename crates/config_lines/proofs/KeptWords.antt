-- Words are kept in places, one after another.
use Rattle.std.proofs.Common.{Bor, ◌≡◌, ℕ, ◌+◌, ◌<◌, List, [], ◌∷◌, ◌++◌, length, map, take, Option, Some, None, sym, ◌∙◌, ap, append_assoc, append-nil}
use Rattle.std.specs.Prelude.{◌==◌, slice_set, option_map}
use Rattle.std.specs.List.{slice_split}
use Rattle.std.proofs.lemmas.List.{take_more_set, map-append}
use Rattle.config_lines.specs.Parts.{parts_left}

-- what references point to
abbrev pub texts : List (Bor (List ℕ)) → List (List ℕ)
texts places = map (λ p. p.now) places

-- the parts that are still to be cut
abbrev pub left_over : ℕ → Option (Bor (List ℕ)) → List (List ℕ)
left_over sign left = parts_left sign (option_map (λ p. p.now) left)

-- what is left is cut once more
pub cut_once : (sign : ℕ) (left : Option (Bor (List ℕ))) (bytes part : Bor (List ℕ)) (more : Option (Bor (List ℕ))) → left ≡ Some bytes
    → slice_split (λ b. b == sign) bytes.now ≡ part.now ∷ left_over sign more
    → left_over sign left ≡ part.now ∷ left_over sign more
cut_once sign left bytes part more is cut = ap (left_over sign) is ∙ cut

-- and the part is kept behind the others
pub kept : (places : List (Bor (List ℕ))) (n : ℕ) (part : Bor (List ℕ)) (before more all : List (List ℕ)) → n < length places → before ≡ part.now ∷ more → texts (take n places) ++ before ≡ all
    → texts (take (n + 1) (slice_set places n part)) ++ more ≡ all
kept places n part before more all within cut whole =
    let parts : texts (take (n + 1) (slice_set places n part)) ≡ texts (take n places) ++ part.now ∷ [] =
    ap texts (take_more_set places n part within) ∙ map-append (λ (p : Bor (List ℕ)). p.now) (take n places) (part ∷ []) in
    ap (λ (x : List (List ℕ)). x ++ more) parts ∙ append_assoc (texts (take n places)) (part.now ∷ []) more ∙ ap (λ (x : List (List ℕ)). texts (take n places) ++ x) (sym cut) ∙ whole

-- all parts are kept
pub all_kept : (sign : ℕ) (places : List (Bor (List ℕ))) (n : ℕ) (left : Option (Bor (List ℕ))) (all : List (List ℕ)) → left ≡ None
    → texts (take n places) ++ left_over sign left ≡ all → texts (take n places) ≡ all
all_kept sign places n left all is whole = sym (append-nil (texts (take n places))) ∙ ap (λ (o : Option (Bor (List ℕ))). texts (take n places) ++ left_over sign o) (sym is) ∙ whole
