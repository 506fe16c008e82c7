-- Tokens that fit a text are those that it is cut into.
use Rattle.std.proofs.Common.{◌≡◌, ℕ, zero, suc, ◌+◌, ◌-◌, ◌≤◌, ◌<◌, true, ◌⊎◌, inl, inr, List, [], ◌∷◌, ◌++◌, length, take, drop, Result, Ok, Err, IsUtf8, refl, sym, ap}
use Rattle.std.proofs.Common.{◌∙◌, append_assoc, append-nil, length-append, length-drop, take-append-drop, drop-drop, length-take-le, arith}
use Rattle.std.proofs.Math.Seq.{drop-append_seam, take-append_seam}
use Rattle.std.proofs.lemmas.Str.{is_utf8-from_IsUtf8}
use Rattle.std.specs.List.{AllByRecursion, prefix_len}
use Rattle.net_base.specs.declared.place.Place.{Place}
use Rattle.net_base.specs.Steps.{◌>>=◌}
use Rattle.policy_tokens.specs.declared.fault.PolicyFault.{PolicyFault}
use Rattle.policy_tokens.specs.declared.token.Token.{Token}
use Rattle.policy_tokens.specs.Places.{place_after, place_of}
use Rattle.policy_tokens.specs.Tokens.{is_blank, in_line, piece_at, piece_taken, token_in, tokens_from, tokens_of}
use Rattle.grammar_law.specs.Spans.{SpansAscend, StandsIn, IsGap, IsLastGap, GapsBetween, IsCut}
use Rattle.policy_tokens.proofs.Places.{place_after-append}
use Rattle.policy_tokens.proofs.Pieces.{FrontIsGap, piece_parts}
use Rattle.grammar_law.proofs.SpanLaws.{place_of-add, spans_within}
use Rattle.policy_tokens.proofs.Cutting.{tokens_from-nil}

-- ---- gaps are passed over

put_nothing : (r : Result (List Token) PolicyFault) → (r >>= λ ts. Ok ([] ++ ts)) ≡ r
put_nothing (Ok ts) = refl
put_nothing (Err e) = refl

-- the tokens behind the first piece
pub piece_step : (n from k : ℕ) (place : Place) (b : ℕ) (bs : List ℕ) (tokens : List Token) → piece_taken place (piece_at (b ∷ bs)) ≡ Ok k → token_in from place (piece_at (b ∷ bs)) ≡ tokens
    → tokens_from (suc n) from place (b ∷ bs) ≡ (tokens_from n (from + k) (place_after place (take k (b ∷ bs))) (drop k (b ∷ bs)) >>= λ ts. Ok (tokens ++ ts))
unfolding tokens_from
piece_step n from k place b bs tokens taken is =
    ap (λ r. r >>= λ k. tokens_from n (from + k) (place_after place (take k (b ∷ bs))) (drop k (b ∷ bs)) >>= λ ts. Ok (token_in from place (piece_at (b ∷ bs)) ++ ts)) taken
    ∙ ap (λ z. tokens_from n (from + k) (place_after place (take k (b ∷ bs))) (drop k (b ∷ bs)) >>= λ ts. Ok (z ++ ts)) is

blank_piece : (from : ℕ) (place : Place) (b : ℕ) (bs : List ℕ) → is_blank b ≡ true → (piece_taken place (piece_at (b ∷ bs)) ≡ Ok 1) × (token_in from place (piece_at (b ∷ bs)) ≡ [])
unfolding piece_at
blank_piece from place b bs is = (rw is refl, rw is refl)

comment_piece : (from : ℕ) (place : Place) (bs : List ℕ) → (piece_taken place (piece_at (35 ∷ bs)) ≡ Ok (1 + prefix_len in_line bs)) × (token_in from place (piece_at (35 ∷ bs)) ≡ [])
unfolding piece_at
comment_piece from place bs = (refl, refl)

prefix_len-line : (line rest : List ℕ) → AllByRecursion (λ b. in_line b ≡ true) line → prefix_len in_line (line ++ 10 ∷ rest) ≡ length line
prefix_len-line [] rest all = refl
prefix_len-line (b ∷ line) rest all = rw all.0 (omega (arith, prefix_len-line line rest all.1))

prefix_len-last : (line : List ℕ) → AllByRecursion (λ b. in_line b ≡ true) line → prefix_len in_line line ≡ length line
prefix_len-last [] all = refl
prefix_len-last (b ∷ line) all = rw all.0 (omega (arith, prefix_len-last line all.1))

-- so far it has gone on
abbrev Passed : ℕ → ℕ → Place → List ℕ → List ℕ → Type 0
Passed n from place gap rest = (m : ℕ) × (length rest ≤ m) × (tokens_from n from place (gap ++ rest) ≡ tokens_from m (from + length gap) (place_after place gap) rest)

comment_step : (n from : ℕ) (place : Place) (line bs : List ℕ) → prefix_len in_line (line ++ bs) ≡ length line
    → tokens_from (suc n) from place (35 ∷ line ++ bs) ≡ tokens_from n (from + length (35 ∷ line)) (place_after place (35 ∷ line)) bs
comment_step n from place line bs len =
    let piece = comment_piece from place (line ++ bs) in
    let k : 1 + prefix_len in_line (line ++ bs) ≡ length (35 ∷ line) = omega (arith, len) in
    piece_step n from (length (35 ∷ line)) place 35 (line ++ bs) [] (piece.0 ∙ ap Ok k) piece.1
    ∙ put_nothing (tokens_from n (from + length (35 ∷ line)) (place_after place (take (length (35 ∷ line)) (35 ∷ line ++ bs))) (drop (length (35 ∷ line)) (35 ∷ line ++ bs)))
    ∙ ap (λ z. tokens_from n (from + length (35 ∷ line)) (place_after place z) (drop (length (35 ∷ line)) (35 ∷ line ++ bs))) (take-append_seam (35 ∷ line) bs)
    ∙ ap (tokens_from n (from + length (35 ∷ line)) (place_after place (35 ∷ line))) (drop-append_seam (35 ∷ line) bs)

pass_gap : {gap : List ℕ} → IsGap gap → (n from : ℕ) (place : Place) (rest : List ℕ) → length (gap ++ rest) ≤ n → Passed n from place gap rest
pass_gap IsGap.none n from place rest le = (n, le, let same : from ≡ from + 0 = omega arith in ap (λ z. tokens_from n z place rest) same)
pass_gap (IsGap.blank {b = b} {bs = bs} is g) zero from place rest le = absurd (omega arith)
pass_gap (IsGap.blank {b = b} {bs = bs} is g) (suc n) from place rest le =
    let piece = blank_piece from place b (bs ++ rest) is in
    let p = pass_gap g n (from + 1) (place_after place (b ∷ [])) rest (omega arith) in
    let far : from + 1 + length bs ≡ from + length (b ∷ bs) = omega arith in (
      p.0,
      p.1,
      piece_step n from 1 place b (bs ++ rest) [] piece.0 piece.1
          ∙ put_nothing (tokens_from n (from + 1) (place_after place (b ∷ [])) (bs ++ rest)) ∙ p.2
          ∙ ap (λ z. tokens_from p.0 z (place_after place (b ∷ bs)) rest) far,
    )
pass_gap (IsGap.comment {bs = bs} line all g) zero from place rest le = absurd (omega arith)
pass_gap (IsGap.comment {bs = bs} line all g) (suc n) from place rest le =
    let joined : (35 ∷ line ++ 10 ∷ bs) ++ rest ≡ 35 ∷ line ++ (10 ∷ bs ++ rest) = append_assoc (35 ∷ line) (10 ∷ bs) rest in
    let short : length (10 ∷ bs ++ rest) ≤ n = omega (arith, le, ap length joined, length-append (35 ∷ line) (10 ∷ bs ++ rest)) in
    let p = pass_gap g n (from + length (35 ∷ line)) (place_after place (35 ∷ line)) rest short in
    let far : from + length (35 ∷ line) + length (10 ∷ bs) ≡ from + length (35 ∷ line ++ 10 ∷ bs) = omega (arith, length-append (35 ∷ line) (10 ∷ bs)) in
    let there : place_after (place_after place (35 ∷ line)) (10 ∷ bs) ≡ place_after place (35 ∷ line ++ 10 ∷ bs) = sym (place_after-append place (35 ∷ line) (10 ∷ bs)) in (
      p.0,
      p.1,
      ap (tokens_from (suc n) from place) joined ∙ comment_step n from place line (10 ∷ bs ++ rest) (prefix_len-line line (bs ++ rest) all) ∙ p.2
          ∙ ap (λ z. tokens_from p.0 z (place_after (place_after place (35 ∷ line)) (10 ∷ bs)) rest) far ∙ ap (λ z. tokens_from p.0 (from + length (35 ∷ line ++ 10 ∷ bs)) z rest) there,
    )

-- ---- the next token

-- what stands there is this token, and takes its bytes
token_taken : (text : List ℕ) (t : Token) (b : ℕ) (bs : List ℕ) → drop t.from text ≡ b ∷ bs → StandsIn text t
    → (k : ℕ) × (t.to ≡ t.from + k) × (piece_taken (place_of text t.from) (piece_at (b ∷ bs)) ≡ Ok k) × (token_in t.from (place_of text t.from) (piece_at (b ∷ bs)) ≡ t ∷ [])
token_taken text t b bs e stands = by (piece_taken place (piece_at (b ∷ bs))) refl
  where
    place : Place
    place = place_of text t.from

    here : token_in t.from place (piece_at (b ∷ bs)) ≡ t ∷ []
    here = sym (ap (λ z. token_in t.from place (piece_at z)) e) ∙ stands

    to : (k : ℕ) → (token_in t.from place (piece_at (b ∷ bs)) ≡ []) × FrontIsGap (b ∷ bs) k
        ⊎ ((u : Token) × (token_in t.from place (piece_at (b ∷ bs)) ≡ u ∷ []) × (u.from ≡ t.from) × (u.to ≡ t.from + k) × (u.place ≡ place)) → t.to ≡ t.from + k
    to k (inl none) = let never = sym none.0 ∙ here in absurd cc
    to k (inr u) =
        let one : u.0 ∷ [] ≡ t ∷ [] = sym u.1 ∙ here in
        let same : t ≡ u.0 = cc in
        ap (λ (v : Token). v.to) same ∙ u.3

    by : (r : Result ℕ PolicyFault) → piece_taken place (piece_at (b ∷ bs)) ≡ r
        → (k : ℕ) × (t.to ≡ t.from + k) × (piece_taken place (piece_at (b ∷ bs)) ≡ Ok k) × (token_in t.from place (piece_at (b ∷ bs)) ≡ t ∷ [])
    by (Err f) is = let never = sym ((piece_parts t.from place b bs).1 f is) ∙ here in absurd cc
    by (Ok k) is = (k, to k ((piece_parts t.from place b bs).0 k is).2, is, here)

put_token : (t : Token) (r : Result (List Token) PolicyFault) (ts : List Token) → r ≡ Ok ts → (r >>= λ more. Ok (t ∷ [] ++ more)) ≡ Ok (t ∷ ts)
put_token t r ts e = ap (λ r. r >>= λ more. Ok (t ∷ [] ++ more)) e

-- the token is cut, and what is behind it
token_step : (text : List ℕ) (t : Token) (ts : List Token) (n : ℕ) → StandsIn text t → t.from < length text → length (drop t.from text) ≤ suc n
    → tokens_from n t.to (place_of text t.to) (drop t.to text) ≡ Ok ts
    → tokens_from (suc n) t.from (place_of text t.from) (drop t.from text) ≡ Ok (t ∷ ts)
token_step text t ts n stands some le rest = by (drop t.from text) refl
  where
    by : (bytes : List ℕ) → drop t.from text ≡ bytes → tokens_from (suc n) t.from (place_of text t.from) (drop t.from text) ≡ Ok (t ∷ ts)
    by [] e = absurd (omega (arith, some, ap length e, length-drop t.from text))
    by (b ∷ bs) e =
        let p = token_taken text t b bs e stands in
        let k = p.0 in
        let there : place_after (place_of text t.from) (take k (b ∷ bs)) ≡ place_of text t.to =
        ap (λ z. place_after (place_of text t.from) (take k z)) (sym e) ∙ sym (place_of-add text t.from k) ∙ ap (place_of text) (sym p.1) in
        let left : drop k (b ∷ bs) ≡ drop t.to text = ap (drop k) (sym e) ∙ drop-drop k t.from text ∙ ap (λ z. drop z text) (sym p.1) in
        let behind : tokens_from n (t.from + k) (place_after (place_of text t.from) (take k (b ∷ bs))) (drop k (b ∷ bs)) ≡ Ok ts =
        ap (λ z. tokens_from n z (place_after (place_of text t.from) (take k (b ∷ bs))) (drop k (b ∷ bs))) (sym p.1)
        ∙ ap (λ z. tokens_from n t.to z (drop k (b ∷ bs))) there ∙ ap (tokens_from n t.to (place_of text t.to)) left ∙ rest in
        ap (tokens_from (suc n) t.from (place_of text t.from)) e ∙ piece_step n t.from k (place_of text t.from) b bs (t ∷ []) p.2 p.3
        ∙ put_token t (tokens_from n (t.from + k) (place_after (place_of text t.from) (take k (b ∷ bs))) (drop k (b ∷ bs))) ts behind

-- ---- all tokens

last_line : (n from : ℕ) (place : Place) (line : List ℕ) → AllByRecursion (λ b. in_line b ≡ true) line → length (35 ∷ line) ≤ n → tokens_from n from place (35 ∷ line) ≡ Ok []
last_line zero from place line all le = absurd (omega arith)
last_line (suc n) from place line all le =
    ap (λ z. tokens_from (suc n) from place (35 ∷ z)) (sym (append-nil line))
    ∙ comment_step n from place line [] (ap (prefix_len in_line) (append-nil line) ∙ prefix_len-last line all)
    ∙ tokens_from-nil n (from + length (35 ∷ line)) (place_after place (35 ∷ line))

last_gap : (bytes : List ℕ) → IsLastGap bytes → (n from : ℕ) (place : Place) → length bytes ≤ n → tokens_from n from place bytes ≡ Ok []
last_gap bytes (inl g) n from place le =
    let p = pass_gap g n from place [] (omega (arith, le, ap length (append-nil bytes))) in
    ap (tokens_from n from place) (sym (append-nil bytes)) ∙ p.2 ∙ tokens_from-nil p.0 (from + length bytes) (place_after place bytes)
last_gap bytes (inr (gap, line, e, g, all)) n from place le =
    let p = pass_gap g n from place (35 ∷ line) (omega (arith, le, ap length e)) in
    ap (tokens_from n from place) e ∙ p.2 ∙ last_line p.0 (from + length gap) (place_after place gap) line all p.1

cut_all : (text : List ℕ) (ts : List Token) (i n : ℕ) → SpansAscend i ts (length text) → AllByRecursion (StandsIn text) ts → GapsBetween text i ts → length (drop i text) ≤ n
    → tokens_from n i (place_of text i) (drop i text) ≡ Ok ts
cut_all text [] i n spans stand gaps le = last_gap (drop i text) gaps n i (place_of text i) le
cut_all text (t ∷ ts) i n spans stand gaps le =
    let within = spans_within t.to ts (length text) spans.2 in
    let j = t.from - i in
    let gap = take j (drop i text) in
    let left : drop j (drop i text) ≡ drop t.from text = drop-drop j i text ∙ (let far : i + j ≡ t.from = omega (arith, spans.0) in ap (λ z. drop z text) far) in
    let whole : drop i text ≡ gap ++ drop t.from text = sym (take-append-drop j (drop i text)) ∙ ap (λ z. gap ++ z) left in
    let p = pass_gap gaps.0 n i (place_of text i) (drop t.from text) (omega (arith, le, ap length whole)) in
    let len : length gap ≡ j = length-take-le j (drop i text) (omega (arith, length-drop i text, spans.0, spans.1, within)) in
    let far : i + length gap ≡ t.from = omega (arith, len, spans.0) in
    let there : place_after (place_of text i) gap ≡ place_of text t.from = sym (place_of-add text i j) ∙ (let to : i + j ≡ t.from = omega (arith, spans.0) in ap (place_of text) to) in
    ap (tokens_from n i (place_of text i)) whole ∙ p.2 ∙ ap (λ z. tokens_from p.0 z (place_after (place_of text i) gap) (drop t.from text)) far
    ∙ ap (λ z. tokens_from p.0 t.from z (drop t.from text)) there
    ∙ next p.0 within p.1 (λ m short. cut_all text ts t.to m spans.2 stand.1 gaps.1 short)
  where
    next : (m : ℕ) → t.to ≤ length text → length (drop t.from text) ≤ m → ((k : ℕ) → length (drop t.to text) ≤ k → tokens_from k t.to (place_of text t.to) (drop t.to text) ≡ Ok ts)
        → tokens_from m t.from (place_of text t.from) (drop t.from text) ≡ Ok (t ∷ ts)
    next zero within short on = absurd (omega (arith, short, length-drop t.from text, spans.1, within))
    next (suc m) within short on =
        token_step text t ts m stand.0 (omega (arith, spans.1, within)) short (on m (omega (arith, short, length-drop t.from text, length-drop t.to text, spans.1, within)))

pub cut-tokens : (text : List ℕ) (ts : List Token) → IsUtf8 text → IsCut text ts → tokens_of text ≡ Ok ts
unfolding tokens_of
cut-tokens text ts utf8 cut = rw (is_utf8-from_IsUtf8 text utf8) (cut_all text ts 0 (length text) cut.0 cut.1 cut.2 (omega arith))
