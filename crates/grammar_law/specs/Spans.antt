-- Where the tokens of a text stand.
use Rattle.std.specs.Prelude.{◌≡◌, ℕ, ◌-◌, ◌<◌, ◌≤◌, ◌⊎◌, true, List, [], ◌∷◌, ◌++◌, take, drop, length}
use Rattle.std.specs.List.{AllByRecursion}
use Rattle.net_base.specs.declared.place.Place.{Place}
use Rattle.policy_tokens.specs.declared.token.Token.{Token}
use Rattle.policy_tokens.specs.Places.{place_of}
use Rattle.policy_tokens.specs.Tokens.{is_blank, in_line, piece_at, token_in}
use Rattle.policy_grammar.specs.Lexemes.{slice_of}

-- the spans stand in order between these two places, none is empty, and none overlaps another
abbrev pub SpansAscend : ℕ → List Token → ℕ → Type 0
SpansAscend from [] to = from ≤ to
SpansAscend from (t ∷ ts) to = (from ≤ t.from) × (t.from < t.to) × SpansAscend t.to ts to

-- the token is the piece that begins in the text where its span begins: that piece's kind, end and place are its own
abbrev pub StandsIn : List ℕ → Token → Type 0
StandsIn text t = token_in t.from (place_of text t.from) (piece_at (drop t.from text)) ≡ t ∷ []

-- its bytes are those of its span
abbrev pub HasItsBytes : List ℕ → Token → Type 0
HasItsBytes text t = slice_of text t.from t.to ≡ take (t.to - t.from) (drop t.from text)

-- Blanks and comments. A comment goes on to the end of its line.
pub data IsGap : List ℕ → Type 0 where
  none : IsGap []
  blank : {b : ℕ} {bs : List ℕ} → is_blank b ≡ true → IsGap bs → IsGap (b ∷ bs)
  comment : {bs : List ℕ} (line : List ℕ) → AllByRecursion (λ b. in_line b ≡ true) line → IsGap (10 ∷ bs) → IsGap (35 ∷ line ++ 10 ∷ bs)

-- the same at the end of the text, where the last line may have no end
abbrev pub IsLastGap : List ℕ → Type 0
IsLastGap bytes = IsGap bytes ⊎ ((gap line : List ℕ) × (bytes ≡ gap ++ 35 ∷ line) × IsGap gap × AllByRecursion (λ b. in_line b ≡ true) line)

-- from this byte on, nothing but blanks and comments stands before, between and behind the spans
abbrev pub GapsBetween : List ℕ → ℕ → List Token → Type 0
GapsBetween text i [] = IsLastGap (drop i text)
GapsBetween text i (t ∷ ts) = IsGap (take (t.from - i) (drop i text)) × GapsBetween text t.to ts

-- the text is cut into these tokens: each stands in it in order, and between them is nothing else
abbrev pub IsCut : List ℕ → List Token → Type 0
IsCut text tokens = SpansAscend 0 tokens (length text) × AllByRecursion (StandsIn text) tokens × GapsBetween text 0 tokens

-- a reader of the text comes to the one place before the other
abbrev pub ComesBefore : Place → Place → Type 0
ComesBefore p q = (p.line < q.line) ⊎ ((p.line ≡ q.line) × (p.column < q.column))

abbrev pub first_place_of : List Token → Place → Place
first_place_of [] end = end
first_place_of (t ∷ ts) end = t.place

-- each token comes before the next one, and the last one before the end
abbrev pub PlacesAscend : List Token → Place → Type 0
PlacesAscend [] end = Unit {0}
PlacesAscend (t ∷ ts) end = ComesBefore t.place (first_place_of ts end) × PlacesAscend ts end
