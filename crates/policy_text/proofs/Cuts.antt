-- Texts that are cut into given words.
use Rattle.std.proofs.Common.{◌≡◌, ℕ, zero, suc, ◌+◌, ◌-◌, ◌<◌, ◌≤◌, List, [], ◌∷◌, ◌++◌, length, map, take, drop, Ok, refl, sym, ap, ◌∙◌, arith, length-append, append_assoc, ap₂}
use Rattle.std.proofs.lemmas.Bool.{le-leb}
use Rattle.std.proofs.Math.Seq.{drop-append_seam, take-append_seam}
use Rattle.std.specs.List.{AllByRecursion}
use Rattle.net_base.specs.declared.place.Place.{Place}
use Rattle.policy_tokens.specs.declared.token.Token.{Token}
use Rattle.policy_tokens.specs.declared.token.TokenKind.{TokenKind}
use Rattle.policy_tokens.specs.Places.{place_after}
use Rattle.policy_tokens.specs.Tokens.{piece_at, piece_taken, token_in, tokens_from}
use Rattle.policy_grammar.specs.declared.symbol.Symbol.TheVariants as symbol
use Rattle.policy_grammar.specs.Symbols.{symbol_of}
use Rattle.policy_grammar.specs.Lexemes.{lexeme_of, slice_of}
use Rattle.policy_text.proofs.Words.{Word, sign, name, figure, IsWord, AreWords}
use Rattle.policy_tokens.proofs.Cutting.{tokens_from-nil}

-- bytes of ASCII
abbrev pub AreAscii : List ℕ → Type 0
AreAscii bs = AllByRecursion (λ b. b < 128) bs

-- a token of this kind and these bytes is a word
abbrev pub Stands : TokenKind → List ℕ → Word → Type 0
Stands kind w (sign s) = symbol_of kind w ≡ s
Stands kind w (name n) = (symbol_of kind w ≡ symbol.Name) × (w ≡ n)
Stands kind w (figure n) = (symbol_of kind w ≡ symbol.Figure) × (w ≡ n)

-- A text whose bytes are ASCII, and which is cut into these words wherever it stands at the end of another.
pub record IsCut (t : List ℕ) (ws : List Word) : Type 0 where
  pub ascii : AreAscii t
  pub cut : (bytes before : List ℕ) (from n : ℕ) (place : Place) → bytes ≡ before ++ t → from ≡ length before → length t ≤ n
      → (ts : List Token) × (tokens_from n from place t ≡ Ok ts) × AreWords bytes (map (lexeme_of bytes) ts) ws

-- a text begins with a token of this kind and these bytes
abbrev pub BeginsWith : TokenKind → List ℕ → List ℕ → Type 0
BeginsWith kind w t =
    ((place : Place) → piece_taken place (piece_at t) ≡ Ok (length w))
    × ((from : ℕ) (place : Place) → token_in from place (piece_at t) ≡ record { kind = kind; from = from; to = from + length w; place = place } ∷ [])

-- or with one blank
abbrev pub BeginsBlank : List ℕ → Type 0
BeginsBlank t = ((place : Place) → piece_taken place (piece_at t) ≡ Ok 1) × ((from : ℕ) (place : Place) → token_in from place (piece_at t) ≡ [])

tokens_step : (n from : ℕ) (place : Place) (b : ℕ) (bs : List ℕ) (k : ℕ) (here ts : List Token) → piece_taken place (piece_at (b ∷ bs)) ≡ Ok k → token_in from place (piece_at (b ∷ bs)) ≡ here
    → tokens_from n (from + k) (place_after place (take k (b ∷ bs))) (drop k (b ∷ bs)) ≡ Ok ts
    → tokens_from (suc n) from place (b ∷ bs) ≡ Ok (here ++ ts)
unfolding tokens_from
tokens_step n from place b bs k here ts taken token rest = rw (taken, rest, token) refl

-- the end of a text
pub IsCut-nil : IsCut [] []
IsCut-nil = record { ascii = tt; cut = λ bytes before from n place is at room. ([], tokens_from-nil n from place, tt) }

slice_there : (bytes before w t : List ℕ) (from : ℕ) → bytes ≡ before ++ (w ++ t) → from ≡ length before → slice_of bytes from (from + length w) ≡ w
slice_there bytes before w t from is at =
    let inside : from + length w ≤ length bytes = omega (arith, ap (λ (bs : List ℕ). length bs) is, length-append before (w ++ t), length-append w t) in
    let size : from + length w - from ≡ length w = omega arith in
    let rest : drop from bytes ≡ w ++ t = ap₂ (λ (i : ℕ) (bs : List ℕ). drop i bs) at is ∙ drop-append_seam before (w ++ t) in
    rw (le-leb from (from + length w) (omega arith), le-leb (from + length w) (length bytes) inside, size, rest) (take-append_seam w t)

AreAscii-append : (v t : List ℕ) → AreAscii v → AreAscii t → AreAscii (v ++ t)
AreAscii-append [] t a c = c
AreAscii-append (b ∷ v) t a c = (a.0, AreAscii-append v t a.1 c)

stands : (bytes : List ℕ) (kind : TokenKind) (w : List ℕ) (v : Word) (from to : ℕ) (place : Place) → slice_of bytes from to ≡ w → Stands kind w v
    → IsWord bytes (lexeme_of bytes (record { kind = kind; from = from; to = to; place = place })) v
stands bytes kind w (sign s) from to place is h = rw is h
stands bytes kind w (name n) from to place is h = (rw is h.0, is ∙ h.1)
stands bytes kind w (figure n) from to place is h = (rw is h.0, is ∙ h.1)

-- one token more
pub IsCut-token : (kind : TokenKind) (b : ℕ) (bs t : List ℕ) (v : Word) (ws : List Word) → BeginsWith kind (b ∷ bs) (b ∷ (bs ++ t)) → AreAscii (b ∷ bs)
    → Stands kind (b ∷ bs) v → IsCut t ws → IsCut (b ∷ (bs ++ t)) (v ∷ ws)
IsCut-token kind b bs t v ws front ascii means behind = record { ascii = AreAscii-append (b ∷ bs) t ascii behind.ascii; cut = cut_here } where
  w : List ℕ
  w = b ∷ bs

  cut_at : (bytes before : List ℕ) (from n : ℕ) (place : Place) → bytes ≡ before ++ (w ++ t) → from ≡ length before → length (w ++ t) ≤ suc n
      → (ts : List Token) × (tokens_from (suc n) from place (w ++ t) ≡ Ok ts) × AreWords bytes (map (lexeme_of bytes) ts) (v ∷ ws)
  cut_at bytes before from n place is at room =
      let rest =
      behind.cut bytes (before ++ w) (from + length w) n (place_after place w) (is ∙ sym (append_assoc before w t))
      (omega (arith, length-append before w)) (omega (arith, length-append w t)) in (
        record { kind = kind; from = from; to = from + length w; place = place } ∷ rest.0,
        tokens_step n from place b (bs ++ t) (length w) _ rest.0 (front.0 place) (front.1 from place) (rw (take-append_seam w t, drop-append_seam w t) rest.1),
        (stands bytes kind w v from (from + length w) place (slice_there bytes before w t from is at) means, rest.2),
      )

  cut_here : (bytes before : List ℕ) (from n : ℕ) (place : Place) → bytes ≡ before ++ (w ++ t) → from ≡ length before → length (w ++ t) ≤ n
      → (ts : List Token) × (tokens_from n from place (w ++ t) ≡ Ok ts) × AreWords bytes (map (lexeme_of bytes) ts) (v ∷ ws)
  cut_here bytes before from zero place is at room = absurd (omega (arith, room))
  cut_here bytes before from (suc n) place is at room = cut_at bytes before from n place is at room

-- one blank more
pub IsCut-blank : (b : ℕ) (t : List ℕ) (ws : List Word) → BeginsBlank (b ∷ t) → b < 128 → IsCut t ws → IsCut (b ∷ t) ws
IsCut-blank b t ws front ascii behind = record { ascii = (ascii, behind.ascii); cut = cut_here } where
  cut_here : (bytes before : List ℕ) (from n : ℕ) (place : Place) → bytes ≡ before ++ (b ∷ t) → from ≡ length before → length (b ∷ t) ≤ n
      → (ts : List Token) × (tokens_from n from place (b ∷ t) ≡ Ok ts) × AreWords bytes (map (lexeme_of bytes) ts) ws
  cut_here bytes before from zero place is at room = absurd (omega (arith, room))
  cut_here bytes before from (suc n) place is at room =
      let one : List ℕ = b ∷ [] in
      let rest = behind.cut bytes (before ++ one) (from + 1) n (place_after place one) (is ∙ sym (append_assoc before one t)) (omega (arith, length-append before one)) (omega (arith, room)) in
      (rest.0, tokens_step n from place b t 1 [] rest.0 (front.0 place) (front.1 from place) rest.1, rest.2)
