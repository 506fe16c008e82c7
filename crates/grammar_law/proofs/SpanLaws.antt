-- Where the tokens of a text stand.
use Rattle.std.proofs.Common.{◌≡◌, ℕ, zero, suc, ◌+◌, ◌-◌, ◌≤◌, ◌<◌, Bool, true, false, ◌⊎◌, inl, inr, List, [], ◌∷◌, ◌++◌, length, take, drop, Ok, refl, sym, ap, ◌∙◌}
use Rattle.std.proofs.Common.{subst, length-drop, length-take-le, take-add, drop-drop, arith, le-leb}
use Rattle.std.proofs.lemmas.List.{nil_from_length}
use Rattle.std.specs.Prelude.{◌==◌}
use Rattle.std.specs.List.{AllByRecursion}
use Rattle.std.specs.Str.{is_utf8, IsUtf8}
use Rattle.std.proofs.lemmas.Str.{IsUtf8-from_is_utf8}
use Rattle.net_base.specs.declared.place.Place.{Place}
use Rattle.net_base.specs.Steps.{◌>>=◌, unless}
use Rattle.net_base.proofs.StepLemmas.{bind_ok, ok_same, unless_ok}
use Rattle.policy_tokens.specs.declared.fault.PolicyFault.{PolicyFault}
use Rattle.policy_tokens.specs.declared.fault.PolicyFault.TheVariants.{NotText}
use Rattle.policy_tokens.specs.declared.token.Token.{Token}
use Rattle.policy_tokens.specs.Places.{place_after, first_place, place_of, next_place}
use Rattle.policy_tokens.specs.Tokens.{piece_at, piece_taken, token_in, tokens_from, tokens_of}
use Rattle.policy_grammar.specs.Lexemes.{slice_of}
use Rattle.grammar_law.specs.Spans.{SpansAscend, StandsIn, IsGap, IsLastGap, GapsBetween, IsCut, HasItsBytes, ComesBefore, PlacesAscend}
use Rattle.policy_tokens.proofs.Places.{place_after-append}
use Rattle.policy_tokens.proofs.Pieces.{piece_parts, FrontIsGap}
use Rattle.grammar_law.proofs.Gaps.{last_more, gap_before}

pub place_of-add : (text : List ℕ) (i k : ℕ) → place_of text (i + k) ≡ place_after (place_of text i) (take k (drop i text))
place_of-add text i k = ap (place_after first_place) (take-add i k text) ∙ place_after-append first_place (take i text) (take k (drop i text))

spans_from : (i j : ℕ) (ts : List Token) (to : ℕ) → i ≤ j → SpansAscend j ts to → SpansAscend i ts to
spans_from i j [] to le s = omega arith
spans_from i j (t ∷ ts) to le s = (omega (arith, s.0), s.1, s.2)

-- it is a piece of the text, at that piece's place
abbrev Stands : List ℕ → Token → Type 0
Stands text t = StandsIn text t × (t.place ≡ place_of text t.from)

-- what is known of the tokens from one byte on
abbrev Known : List ℕ → ℕ → List Token → Type 0
Known text i ts = SpansAscend i ts (length text) × AllByRecursion (Stands text) ts × GapsBetween text i ts

-- what stands there is a gap of so many bytes, or a token
abbrev Found : List ℕ → ℕ → ℕ → List Token → List ℕ → Type 0
Found text i k tokens bytes = (tokens ≡ []) × FrontIsGap bytes k ⊎ ((t : Token) × (tokens ≡ t ∷ []) × (t.from ≡ i) × (t.to ≡ i + k) × (t.place ≡ place_of text i))

pub spans_within : (i : ℕ) (ts : List Token) (to : ℕ) → SpansAscend i ts to → i ≤ to
spans_within i [] to s = s
spans_within i (t ∷ ts) to s = omega (arith, s.0, s.1, spans_within t.to ts to s.2)

more_gap : (text : List ℕ) (i k : ℕ) (ts : List Token) → FrontIsGap (drop i text) k → Known text (i + k) ts → GapsBetween text i ts
more_gap text i k [] front known = last_more (drop i text) k front (subst IsLastGap (sym (drop-drop k i text)) known.2)
more_gap text i k (t ∷ ts) front known =
    let within = spans_within t.to ts (length text) known.0.2 in
    (gap_before text i k t front known.1.0.0 known.0.0 (omega (arith, known.0.1, within)) known.2.0, known.2.1)

known_here : (text : List ℕ) (i k : ℕ) (tokens ts : List Token) → 0 < k → Found text i k tokens (drop i text) → token_in i (place_of text i) (piece_at (drop i text)) ≡ tokens
    → Known text (i + k) ts → Known text i (tokens ++ ts)
known_here text i k tokens ts some (inl (none, gap)) is known =
    subst (λ z. Known text i (z ++ ts)) (sym none) (spans_from i (i + k) ts (length text) (omega arith) known.0, known.1, more_gap text i k ts gap known)
known_here text i k tokens ts some (inr (t, one, from, to, place)) is known =
    let stands : StandsIn text t = subst (λ j. token_in j (place_of text j) (piece_at (drop j text)) ≡ t ∷ []) (sym from) (is ∙ one) in
    let spans : SpansAscend i (t ∷ ts) (length text) = (omega (arith, from), omega (arith, from, to), subst (λ z. SpansAscend z ts (length text)) (sym to) known.0) in
    let none : t.from - i ≡ 0 = omega (arith, from) in
    let gaps : GapsBetween text i (t ∷ ts) = (subst (λ z. IsGap (take z (drop i text))) (sym none) IsGap.none, subst (λ z. GapsBetween text z ts) (sym to) known.2) in
    subst (λ z. Known text i (z ++ ts)) (sym one) (spans, ((stands, place ∙ ap (place_of text) (sym from)), known.1), gaps)

known_from : (text : List ℕ) (n i : ℕ) (ts : List Token) → i ≤ length text → length text ≤ i + n → tokens_from n i (place_of text i) (drop i text) ≡ Ok ts → Known text i ts
unfolding tokens_from
known_from text zero i ts le all h =
    let none : drop i text ≡ [] = nil_from_length (drop i text) (omega (arith, length-drop i text)) in
    subst (Known text i) (ok_same {F = PolicyFault} [] ts h) (le, tt, inl (subst IsGap (sym none) IsGap.none))
known_from text (suc n) i ts le all h = by (drop i text) refl (λ k ts some le h. known_from text n (i + k) ts le (omega (arith, all)) h)
  where
    place : Place
    place = place_of text i

    by : (bytes : List ℕ) → drop i text ≡ bytes
        → ((k : ℕ) (ts : List Token) → 0 < k → i + k ≤ length text → tokens_from n (i + k) (place_of text (i + k)) (drop (i + k) text) ≡ Ok ts → Known text (i + k) ts)
        → Known text i ts
    by [] e on =
        let stops : tokens_from (suc n) i place (drop i text) ≡ Ok [] = ap (tokens_from (suc n) i place) e in
        subst (Known text i) (ok_same {F = PolicyFault} [] ts (sym stops ∙ h)) (le, tt, inl (subst IsGap (sym e) IsGap.none))
    by (b ∷ bs) e on =
        let tokens = token_in i place (piece_at (b ∷ bs)) in
        let p = bind_ok (piece_taken place (piece_at (b ∷ bs))) (λ k. tokens_from n (i + k) (place_after place (take k (b ∷ bs))) (drop k (b ∷ bs)) >>= λ more. Ok (tokens ++ more)) ts
        (sym (ap (tokens_from (suc n) i place) e) ∙ h) in
        let k = p.0 in
        let q = bind_ok (tokens_from n (i + k) (place_after place (take k (b ∷ bs))) (drop k (b ∷ bs))) (λ more. Ok (tokens ++ more)) ts p.2 in
        let parts = (piece_parts i place b bs).0 k p.1 in
        let there : place_of text (i + k) ≡ place_after place (take k (b ∷ bs)) = place_of-add text i k ∙ ap (λ z. place_after place (take k z)) e in
        let left : drop (i + k) text ≡ drop k (b ∷ bs) = sym (drop-drop k i text) ∙ ap (drop k) e in
        let read : tokens_from n (i + k) (place_of text (i + k)) (drop (i + k) text) ≡ Ok q.0 =
        ap (λ z. tokens_from n (i + k) z (drop (i + k) text)) there ∙ ap (tokens_from n (i + k) (place_after place (take k (b ∷ bs)))) left ∙ q.1 in
        let room : i + k ≤ length text = omega (arith, le, parts.1, ap length e, length-drop i text) in
        subst (Known text i) (ok_same {F = PolicyFault} (tokens ++ q.0) ts q.2)
        (known_here text i k tokens q.0 parts.0 (subst (Found text i k tokens) (sym e) parts.2) (ap (λ z. token_in i place (piece_at z)) e) (on k q.0 parts.0 room read))

known_of : (text : List ℕ) (ts : List Token) → tokens_of text ≡ Ok ts → Known text 0 ts
unfolding tokens_of
known_of text ts h =
    let p = bind_ok (unless NotText (is_utf8 text)) (λ u. tokens_from (length text) 0 first_place text) ts h in
    known_from text (length text) 0 ts (omega arith) (omega arith) p.2

pub tokens-spans : (text : List ℕ) (ts : List Token) → tokens_of text ≡ Ok ts → SpansAscend 0 ts (length text)
tokens-spans text ts h = (known_of text ts h).0

all_stand : (text : List ℕ) (ts : List Token) → AllByRecursion (Stands text) ts → AllByRecursion (StandsIn text) ts
all_stand text [] all = tt
all_stand text (t ∷ ts) all = (all.0.0, all_stand text ts all.1)

pub tokens-cut : (text : List ℕ) (ts : List Token) → tokens_of text ≡ Ok ts → IsUtf8 text × IsCut text ts
unfolding tokens_of
tokens-cut text ts h =
    let p = bind_ok (unless NotText (is_utf8 text)) (λ u. tokens_from (length text) 0 first_place text) ts h in
    let k = known_of text ts h in
    (IsUtf8-from_is_utf8 text (unless_ok NotText (is_utf8 text) p.0 p.1), (k.0, all_stand text ts k.1, k.2))

-- ---- bytes

slice_is : (text : List ℕ) (from to : ℕ) → from < to → to ≤ length text → slice_of text from to ≡ take (to - from) (drop from text)
slice_is text from to lt le = rw (le-leb from to (omega arith), le-leb to (length text) le) refl

all_bytes : (text : List ℕ) (i : ℕ) (ts : List Token) → SpansAscend i ts (length text) → AllByRecursion (HasItsBytes text) ts
all_bytes text i [] s = tt
all_bytes text i (t ∷ ts) s = (slice_is text t.from t.to s.1 (spans_within t.to ts (length text) s.2), all_bytes text t.to ts s.2)

pub tokens-bytes : (text : List ℕ) (ts : List Token) → tokens_of text ≡ Ok ts → AllByRecursion (HasItsBytes text) ts
tokens-bytes text ts h = all_bytes text 0 ts (tokens-spans text ts h)

-- ---- places

before_trans : (p q r : Place) → ComesBefore p q → ComesBefore q r → ComesBefore p r
before_trans p q r (inl a) (inl b) = inl (omega arith)
before_trans p q r (inl a) (inr b) = inl (omega (arith, b.0))
before_trans p q r (inr a) (inl b) = inl (omega (arith, a.0))
before_trans p q r (inr a) (inr b) = inr (omega (arith, a.0, b.0), omega (arith, a.1, b.1))

before_next : (p : Place) (b : ℕ) → ComesBefore p (next_place p b)
before_next p b = by (b == 10) refl
  where
    by : (x : Bool) → (b == 10) ≡ x → ComesBefore p (next_place p b)
    by true e = rw e (inl (omega arith))
    by false e = rw e (inr (refl, omega arith))

before_after : (p : Place) (bs : List ℕ) → 0 < length bs → ComesBefore p (place_after p bs)
before_after p [] some = absurd (omega arith)
before_after p (b ∷ []) some = before_next p b
before_after p (b ∷ c ∷ bs) some = before_trans p (next_place p b) (place_after p (b ∷ c ∷ bs)) (before_next p b) (before_after (next_place p b) (c ∷ bs) (omega arith))

before_later : (text : List ℕ) (i j : ℕ) → i < j → j ≤ length text → ComesBefore (place_of text i) (place_of text j)
before_later text i j lt le =
    let far : i + (j - i) ≡ j = omega arith in
    let long : length (take (j - i) (drop i text)) ≡ j - i = length-take-le (j - i) (drop i text) (omega (arith, length-drop i text)) in
    subst (λ z. ComesBefore (place_of text i) (place_of text z)) far
    (subst (ComesBefore (place_of text i)) (sym (place_of-add text i (j - i))) (before_after (place_of text i) (take (j - i) (drop i text)) (omega (arith, long))))

all_ascend : (text : List ℕ) (i : ℕ) (ts : List Token) → SpansAscend i ts (length text) → AllByRecursion (Stands text) ts → PlacesAscend ts (place_of text (length text))
all_ascend text i [] s all = tt
all_ascend text i (t ∷ []) s all =
    (subst (λ z. ComesBefore z (place_of text (length text))) (sym all.0.1) (before_later text t.from (length text) (omega (arith, s.1, s.2)) (omega arith)), tt)
all_ascend text i (t ∷ u ∷ ts) s all =
    let within = spans_within u.to ts (length text) s.2.2 in
    let one = before_later text t.from u.from (omega (arith, s.1, s.2.0)) (omega (arith, s.2.1, within)) in
    (subst (λ z. ComesBefore z u.place) (sym all.0.1) (subst (ComesBefore (place_of text t.from)) (sym all.1.0.1) one), all_ascend text t.to (u ∷ ts) s.2 all.1)

pub tokens-places : (text : List ℕ) (ts : List Token) → tokens_of text ≡ Ok ts → PlacesAscend ts (place_of text (length text))
tokens-places text ts h = let k = known_of text ts h in all_ascend text 0 ts k.0 k.1
