-- What stands between tokens.
use Rattle.std.proofs.Common.{◌≡◌, ℕ, zero, suc, ◌+◌, ◌-◌, ◌≤◌, ◌<◌, true, inl, inr, List, [], ◌∷◌, ◌++◌, length, take, drop, refl, sym, ap, ◌∙◌, subst, append_assoc}
use Rattle.std.proofs.Common.{append-nil, length-drop, take-add, drop-drop, arith}
use Rattle.std.proofs.Math.Seq.{drop-append_seam, take-append_seam}
use Rattle.std.specs.List.{AllByRecursion}
use Rattle.policy_tokens.specs.declared.token.Token.{Token}
use Rattle.policy_tokens.specs.Places.{place_of}
use Rattle.policy_tokens.specs.Tokens.{in_line, piece_at, token_in}
use Rattle.grammar_law.specs.Spans.{StandsIn, IsGap, IsLastGap}
use Rattle.policy_tokens.proofs.Pieces.{LineEnds, FrontIsGap}

abbrev AllInLine : List ℕ → Type 0
AllInLine line = AllByRecursion (λ b. in_line b ≡ true) line

-- ---- at the end of the text

comment_before : (line bs : List ℕ) → AllInLine line → IsLastGap (10 ∷ bs) → IsLastGap (35 ∷ line ++ 10 ∷ bs)
comment_before line bs all (inl g) = inl (IsGap.comment line all g)
comment_before line bs all (inr ([], last, e, g, others)) = absurd cc
comment_before line bs all (inr (c ∷ gap, last, e, g, others)) =
    let first : c ≡ 10 = cc in
    let whole : 35 ∷ line ++ 10 ∷ bs ≡ (35 ∷ line ++ 10 ∷ gap) ++ 35 ∷ last =
    ap (λ z. 35 ∷ line ++ z) (e ∙ ap (λ z. z ∷ gap ++ 35 ∷ last) first) ∙ sym (append_assoc (35 ∷ line) (10 ∷ gap) (35 ∷ last)) in
    inr (35 ∷ line ++ 10 ∷ gap, last, whole, IsGap.comment line all (subst (λ z. IsGap (z ∷ gap)) first g), others)

blank_before : (b : ℕ) (bs : List ℕ) → IsGap (b ∷ []) → ((gap : List ℕ) → IsGap gap → IsGap (b ∷ gap)) → IsLastGap bs → IsLastGap (b ∷ bs)
blank_before b bs one on (inl g) = inl (on bs g)
blank_before b bs one on (inr (gap, last, e, g, others)) = inr (b ∷ gap, last, ap (λ z. b ∷ z) e, on gap g, others)

behind_line : (line rest : List ℕ) → drop (suc (length line)) (35 ∷ line ++ rest) ≡ rest
behind_line line rest = drop-append_seam (35 ∷ line) rest

pub last_more : (bytes : List ℕ) (k : ℕ) → FrontIsGap bytes k → IsLastGap (drop k bytes) → IsLastGap bytes
last_more bytes k (inl (b, bs, e, blank, one)) last =
    let rest : IsLastGap bs = subst IsLastGap (ap (drop k) e ∙ ap (λ z. drop z (b ∷ bs)) one) last in
    subst IsLastGap (sym e) (blank_before b bs (IsGap.blank blank IsGap.none) (λ gap g. IsGap.blank blank g) rest)
last_more bytes k (inr (line, rest, e, len, all, inl none)) last =
    inr ([], line, e ∙ ap (λ z. 35 ∷ line ++ z) none ∙ append-nil (35 ∷ line), IsGap.none, all)
last_more bytes k (inr (line, rest, e, len, all, inr (bs, next))) last =
    let behind : IsLastGap (10 ∷ bs) = subst IsLastGap (ap (drop k) e ∙ ap (λ z. drop z (35 ∷ line ++ rest)) len ∙ behind_line line rest ∙ next) last in
    subst IsLastGap (sym (e ∙ ap (λ z. 35 ∷ line ++ z) next)) (comment_before line bs all behind)

-- ---- before a token

no_token_there : (text bs : List ℕ) (t : Token) → StandsIn text t → drop t.from text ≡ 10 ∷ bs → ⊥
unfolding piece_at
no_token_there text bs t stands e =
    let never : token_in t.from (place_of text t.from) (piece_at (10 ∷ bs)) ≡ t ∷ [] = sym (ap (λ z. token_in t.from (place_of text t.from) (piece_at z)) e) ∙ stands in
    absurd cc

gap_joined : (bytes : List ℕ) (k m : ℕ) → FrontIsGap bytes k → 0 < length (drop k bytes) → ((bs : List ℕ) → drop k bytes ≡ 10 ∷ bs → 0 < m) → IsGap (take m (drop k bytes)) → IsGap (take (k + m) bytes)
gap_joined bytes k m (inl (b, bs, e, blank, one)) some line_end gap =
    let front : take k bytes ≡ b ∷ [] = ap (take k) e ∙ ap (λ z. take z (b ∷ bs)) one in
    subst IsGap (sym (take-add k m bytes ∙ ap (λ z. z ++ take m (drop k bytes)) front)) (IsGap.blank blank gap)
gap_joined bytes k m (inr (line, rest, e, len, all, ends)) some line_end gap = by ends m line_end gap
  where
    left : drop k bytes ≡ rest
    left = ap (drop k) e ∙ ap (λ z. drop z (35 ∷ line ++ rest)) len ∙ behind_line line rest

    front : take k bytes ≡ 35 ∷ line
    front = ap (take k) e ∙ ap (λ z. take z (35 ∷ line ++ rest)) len ∙ take-append_seam (35 ∷ line) rest

    by : LineEnds rest → (m : ℕ) → ((bs : List ℕ) → drop k bytes ≡ 10 ∷ bs → 0 < m) → IsGap (take m (drop k bytes)) → IsGap (take (k + m) bytes)
    by (inl none) m line_end gap = absurd (omega (arith, some, ap length (left ∙ none)))
    by (inr (bs, next)) zero line_end gap = let never = line_end bs (left ∙ next) in absurd (omega arith)
    by (inr (bs, next)) (suc m) line_end gap =
        let behind : take (suc m) (drop k bytes) ≡ 10 ∷ take m bs = ap (take (suc m)) (left ∙ next) in
        let whole : take (k + suc m) bytes ≡ 35 ∷ line ++ 10 ∷ take m bs = take-add k (suc m) bytes ∙ ap (λ z. z ++ take (suc m) (drop k bytes)) front ∙ ap (λ z. 35 ∷ line ++ z) behind in
        subst IsGap (sym whole) (IsGap.comment line all (subst IsGap behind gap))

-- a gap that was passed over stands before the next token
pub gap_before : (text : List ℕ) (i k : ℕ) (t : Token) → FrontIsGap (drop i text) k → StandsIn text t → i + k ≤ t.from → t.from < length text
    → IsGap (take (t.from - (i + k)) (drop (i + k) text)) → IsGap (take (t.from - i) (drop i text))
gap_before text i k t front stands le lt gap =
    let m = t.from - (i + k) in
    let left : drop k (drop i text) ≡ drop (i + k) text = drop-drop k i text in
    let some : 0 < length (drop k (drop i text)) = omega (arith, ap length left, length-drop (i + k) text) in
    let far : k + m ≡ t.from - i = omega arith in
    subst (λ z. IsGap (take z (drop i text))) far
    (gap_joined (drop i text) k m front some (λ bs e. by m refl bs (sym left ∙ e)) (subst (λ z. IsGap (take m z)) (sym left) gap))
  where
    by : (m : ℕ) → m ≡ t.from - (i + k) → (bs : List ℕ) → drop (i + k) text ≡ 10 ∷ bs → 0 < m
    by (suc m) e bs line_end = omega arith
    by zero e bs line_end =
        let here : t.from ≡ i + k = omega (arith, e) in
        absurd (no_token_there text bs t stands (ap (λ z. drop z text) here ∙ line_end))
