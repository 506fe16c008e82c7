-- Parts of a text, and the words that they are cut into.
use Rattle.std.proofs.Common.{◌≡◌, ℕ, List, [], ◌∷◌, ◌++◌, length, Bool, true, false, Some, None, refl, arith, append_assoc}
use Rattle.std.specs.Prelude.{◌&&◌, ◌||◌, ◌==◌, not, codes, nat_le, slice_index, Option, option_map, is_none, if◌then◌else◌}
use Rattle.std.specs.Option.{unwrap_or}
use Rattle.std.specs.List.{list_all, flat_map, AllByRecursion}
use Rattle.std.proofs.lemmas.Bool.{and_parts}
use Rattle.net_base.specs.NameRule.{is_letter, is_name_byte, is_name}
use Rattle.net_base.specs.Addresses.{is_figure}
use Rattle.policy_tokens.specs.declared.token.TokenKind.TheVariants as kind
use Rattle.policy_tokens.specs.Tokens.{is_figure_byte}
use Rattle.policy_grammar.specs.declared.symbol.Symbol.{Symbol}
use Rattle.policy_grammar.specs.declared.symbol.Symbol.TheVariants as symbol
use Rattle.policy_words.specs.declared.word.Word.{Word as Spelled}
use Rattle.policy_words.specs.declared.word.CallWord.TheVariants as word
use Rattle.policy_words.specs.declared.word.SetCall.TheVariants as set_call
use Rattle.policy_grammar.specs.Symbols.{symbol_of, symbol_of_word, word_symbol}
use Rattle.policy_base.specs.declared.call.Call.{Call}
use Rattle.policy_words.specs.declared.word.CallWord.{CallWord}
use Rattle.policy_words.specs.Words.{word_named, word_text}
use Rattle.policy_base.specs.CallWords.{word_of}
use Rattle.policy_text.proofs.Words.{Word, sign, name, figure, call_symbol}
use Rattle.policy_text.proofs.Cuts.{IsCut, IsCut-token, IsCut-blank, AreAscii, Stands}
use Rattle.policy_text.proofs.Pieces.{is_free, is_word, BeginsWith-word, BeginsWith-figure, BeginsWith-sign, BeginsWith-arrow, BeginsWith-above, BeginsBlank-space, BeginsBlank-line, name_byte_ascii}

-- A part that is cut into these words whatever follows, and one that is so where no word and no figure goes on.
pub record Cuts (a : List ℕ) (v : List Word) : Type 0 where
  pub cut : (t : List ℕ) (ws : List Word) → IsCut t ws → IsCut (a ++ t) (v ++ ws)

pub record CutsBefore (a : List ℕ) (v : List Word) : Type 0 where
  pub cut : (t : List ℕ) (ws : List Word) → is_free t ≡ true → IsCut t ws → IsCut (a ++ t) (v ++ ws)

-- words and figures end where the part begins
pub record Ends (a : List ℕ) : Type 0 where
  pub ends : (t : List ℕ) → is_free t ≡ true → is_free (a ++ t) ≡ true

module _ {a b : List ℕ} {v w : List Word} where
  pub in_turn : Cuts a v → Cuts b w → Cuts (a ++ b) (v ++ w)
  in_turn f g = record { cut = λ t ws rest. rw (append_assoc a b t, append_assoc v w ws) (f.cut (b ++ t) (w ++ ws) (g.cut t ws rest)) }

  pub before : Cuts a v → CutsBefore b w → CutsBefore (a ++ b) (v ++ w)
  before f g = record { cut = λ t ws free rest. rw (append_assoc a b t, append_assoc v w ws) (f.cut (b ++ t) (w ++ ws) (g.cut t ws free rest)) }

  pub ended : CutsBefore a v → Cuts b w → ((t : List ℕ) → is_free (b ++ t) ≡ true) → Cuts (a ++ b) (v ++ w)
  ended f g stop = record { cut = λ t ws rest. rw (append_assoc a b t, append_assoc v w ws) (f.cut (b ++ t) (w ++ ws) (stop t) (g.cut t ws rest)) }

  pub both_before : CutsBefore a v → CutsBefore b w → Ends b → CutsBefore (a ++ b) (v ++ w)
  both_before f g stop = record { cut = λ t ws free rest. rw (append_assoc a b t, append_assoc v w ws) (f.cut (b ++ t) (w ++ ws) (stop.ends t free) (g.cut t ws free rest)) }

pub weaker : {a : List ℕ} {v : List Word} → Cuts a v → CutsBefore a v
weaker f = record { cut = λ t ws free rest. f.cut t ws rest }

pub nothing : CutsBefore [] []
nothing = record { cut = λ t ws free rest. rest }

pub chosen : (b : Bool) {a c : List ℕ} {v w : List Word} → CutsBefore a v → CutsBefore c w → CutsBefore (if b then a else c) (if b then v else w)
chosen true f g = f
chosen false f g = g

-- parts in a row
pub each_before : {A : Type 0} (P : A → Type 0) (f : A → List ℕ) (g : A → List Word) → ((x : A) → P x → CutsBefore (f x) (g x)) → ((x : A) (t : List ℕ) → is_free (f x ++ t) ≡ true)
    → (xs : List A) → AllByRecursion P xs → CutsBefore (flat_map f xs) (flat_map g xs) × Ends (flat_map f xs)
each_before P f g part stop [] all = (nothing, record { ends = λ t free. free })
each_before P f g part stop (x ∷ xs) all =
    let rest = each_before P f g part stop xs all.1 in
    (both_before (part x all.0) rest.0 rest.1, record { ends = λ t free. rw (append_assoc (f x) (flat_map f xs) t) (stop x (flat_map f xs ++ t)) })

pub each_in_turn : {A : Type 0} (P : A → Type 0) (f : A → List ℕ) (g : A → List Word) → ((x : A) → P x → Cuts (f x) (g x))
    → (xs : List A) → AllByRecursion P xs → Cuts (flat_map f xs) (flat_map g xs)
each_in_turn P f g part [] all = record { cut = λ t ws rest. rest }
each_in_turn P f g part (x ∷ xs) all = in_turn (part x all.0) (each_in_turn P f g part xs all.1)

all_ascii : (bs : List ℕ) → list_all is_name_byte bs ≡ true → AreAscii bs
all_ascii [] all = tt
all_ascii (b ∷ bs) all = let h = and_parts (is_name_byte b) (list_all is_name_byte bs) all in (name_byte_ascii b h.0, all_ascii bs h.1)

word_bytes : (bs : List ℕ) → is_word bs ≡ true → list_all is_name_byte bs ≡ true
word_bytes bs h =
    let h1 = and_parts (not (length bs == 0)) _ h in
    let h2 = and_parts (nat_le (length bs) 32) _ h1.1 in
    (and_parts (is_letter (slice_index bs 0)) (list_all is_name_byte bs) h2.1).1

-- a word of the text
pub CutsBefore-word : (bs : List ℕ) (v : Word) → is_word bs ≡ true → Stands kind.Word bs v → CutsBefore bs (v ∷ [])
CutsBefore-word [] v h means = absurd (cc)
CutsBefore-word (b ∷ bs) v h means =
    record { cut = λ t ws free rest. IsCut-token kind.Word b bs t v ws (BeginsWith-word b bs t free h) (all_ascii (b ∷ bs) (word_bytes (b ∷ bs) h)) means rest }

-- a figure: a digit, then figures
pub CutsBefore-figure : (b : ℕ) (bs : List ℕ) → is_figure b ≡ true → list_all is_figure_byte bs ≡ true → AreAscii (b ∷ bs) → CutsBefore (b ∷ bs) (figure (b ∷ bs) ∷ [])
CutsBefore-figure b bs digit all ascii =
    record { cut = λ t ws free rest. IsCut-token kind.Figure b bs t (figure (b ∷ bs)) ws (BeginsWith-figure b bs t free digit all) ascii (refl, refl) rest }

-- what is no word of the language stands for a name
unreserved : (bs : List ℕ) → is_none (word_named bs) ≡ true → word_symbol bs ≡ symbol.Name
unfolding word_symbol
unreserved bs = by (word_named bs)
  where
    by : (o : Option Spelled) → is_none o ≡ true → unwrap_or (option_map symbol_of_word o) symbol.Name ≡ symbol.Name
    by (Some w) h = absurd cc
    by None h = refl

-- a name
pub CutsBefore-name : (n : List ℕ) → is_name n ≡ true → CutsBefore n (name n ∷ [])
unfolding is_name
CutsBefore-name n h =
    let e = and_parts (not (length n == 0) && nat_le (length n) 32 && is_letter (slice_index n 0) && list_all is_name_byte n) (is_none (word_named n)) h in
    let d = and_parts (not (length n == 0) && nat_le (length n) 32 && is_letter (slice_index n 0)) (list_all is_name_byte n) e.0 in
    let c = and_parts (not (length n == 0) && nat_le (length n) 32) (is_letter (slice_index n 0)) d.0 in
    let b = and_parts (not (length n == 0)) (nat_le (length n) 32) c.0 in
    CutsBefore-word n (name n) (rw (b.0, b.1, c.1, d.1) refl) (unreserved n e.1, refl)

-- a word of the language
keyword : (w : List ℕ) (s : Symbol) → is_word w ≡ true → symbol_of kind.Word w ≡ s → CutsBefore w (sign s ∷ [])
keyword w s h means = CutsBefore-word w (sign s) h means

blank : {a : List ℕ} {v : List Word} → Cuts a v → Cuts (32 ∷ a) v
blank {a} {v} f = record { cut = λ t ws rest. IsCut-blank 32 (a ++ t) (v ++ ws) (BeginsBlank-space (a ++ t)) (omega arith) (f.cut t ws rest) }

then_blank : {a : List ℕ} {v : List Word} → CutsBefore a v → Cuts (a ++ 32 ∷ []) v
then_blank {a} {v} f = record { cut = λ t ws rest. rw (append_assoc a (32 ∷ []) t) (f.cut (32 ∷ t) ws refl (IsCut-blank 32 t ws (BeginsBlank-space t) (omega arith) rest)) }

space : Cuts (32 ∷ []) []
space = record { cut = λ t ws rest. IsCut-blank 32 t ws (BeginsBlank-space t) (omega arith) rest }

line : Cuts (10 ∷ []) []
line = record { cut = λ t ws rest. IsCut-blank 10 t ws (BeginsBlank-line t) (omega arith) rest }

comma : Cuts (44 ∷ []) (sign symbol.Comma ∷ [])
comma = record { cut = λ t ws rest. IsCut-token kind.Comma 44 [] t (sign symbol.Comma) ws (BeginsWith-sign 44 kind.Comma refl refl refl refl refl refl refl t) (omega arith, tt) refl rest }

semicolon : Cuts (59 ∷ []) (sign symbol.Semicolon ∷ [])
semicolon =
    record {
      cut = λ t ws rest. IsCut-token kind.Semicolon 59 [] t (sign symbol.Semicolon) ws
          (BeginsWith-sign 59 kind.Semicolon refl refl refl refl refl refl refl t) (omega arith, tt) refl rest;
    }

pub Cuts-open : Cuts (40 ∷ []) (sign symbol.RoundOpen ∷ [])
Cuts-open =
    record {
      cut = λ t ws rest. IsCut-token kind.RoundOpen 40 [] t (sign symbol.RoundOpen) ws
          (BeginsWith-sign 40 kind.RoundOpen refl refl refl refl refl refl refl t) (omega arith, tt) refl rest;
    }

pub Cuts-close : Cuts (41 ∷ []) (sign symbol.RoundClose ∷ [])
Cuts-close =
    record {
      cut = λ t ws rest. IsCut-token kind.RoundClose 41 [] t (sign symbol.RoundClose) ws
          (BeginsWith-sign 41 kind.RoundClose refl refl refl refl refl refl refl t) (omega arith, tt) refl rest;
    }

brace_open : Cuts (123 ∷ []) (sign symbol.BraceOpen ∷ [])
brace_open =
    record {
      cut = λ t ws rest. IsCut-token kind.BraceOpen 123 [] t (sign symbol.BraceOpen) ws
          (BeginsWith-sign 123 kind.BraceOpen refl refl refl refl refl refl refl t) (omega arith, tt) refl rest;
    }

brace_close : Cuts (125 ∷ []) (sign symbol.BraceClose ∷ [])
brace_close =
    record {
      cut = λ t ws rest. IsCut-token kind.BraceClose 125 [] t (sign symbol.BraceClose) ws
          (BeginsWith-sign 125 kind.BraceClose refl refl refl refl refl refl refl t) (omega arith, tt) refl rest;
    }

arrow : Cuts (61 ∷ 62 ∷ []) (sign symbol.Arrow ∷ [])
arrow = record { cut = λ t ws rest. IsCut-token kind.Arrow 61 (62 ∷ []) t (sign symbol.Arrow) ws (BeginsWith-arrow t) (omega arith, (omega arith, tt)) refl rest }

above : Cuts (62 ∷ 62 ∷ []) (sign symbol.Above ∷ [])
above = record { cut = λ t ws rest. IsCut-token kind.Above 62 (62 ∷ []) t (sign symbol.Above) ws (BeginsWith-above t) (omega arith, (omega arith, tt)) refl rest }

pub Cuts-comma : Cuts (codes ", ") (sign symbol.Comma ∷ [])
Cuts-comma = in_turn comma space

pub Cuts-end : Cuts (codes ";\n") (sign symbol.Semicolon ∷ [])
Cuts-end = in_turn semicolon line

pub Cuts-brace_open : Cuts (codes "{ ") (sign symbol.BraceOpen ∷ [])
Cuts-brace_open = in_turn brace_open space

pub Cuts-brace_close : Cuts (codes " }") (sign symbol.BraceClose ∷ [])
Cuts-brace_close = blank brace_close

pub Cuts-arrow : Cuts (codes " => ") (sign symbol.Arrow ∷ [])
Cuts-arrow = blank (in_turn arrow space)

pub Cuts-above : Cuts (codes " >> ") (sign symbol.Above ∷ [])
Cuts-above = blank (in_turn above space)

pub Cuts-or : Cuts (codes " or ") (sign symbol.Or ∷ [])
unfolding word_symbol word_named
Cuts-or = blank (then_blank (keyword (codes "or") symbol.Or refl refl))

pub Cuts-and : Cuts (codes " and ") (sign symbol.And ∷ [])
unfolding word_symbol word_named
Cuts-and = blank (then_blank (keyword (codes "and") symbol.And refl refl))

pub Cuts-not : Cuts (codes "not ") (sign symbol.Not ∷ [])
unfolding word_symbol word_named
Cuts-not = then_blank (keyword (codes "not") symbol.Not refl refl)

pub Cuts-le : Cuts (codes " le ") (sign symbol.Le ∷ [])
unfolding word_symbol word_named
Cuts-le = blank (then_blank (keyword (codes "le") symbol.Le refl refl))

pub Cuts-at : Cuts (codes " at ") (sign symbol.At ∷ [])
unfolding word_symbol word_named
Cuts-at = blank (then_blank (keyword (codes "at") symbol.At refl refl))

pub Cuts-from : Cuts (codes " from ") (sign symbol.From ∷ [])
unfolding word_symbol word_named
Cuts-from = blank (then_blank (keyword (codes "from") symbol.From refl refl))

pub Cuts-originate : Cuts (codes "originate ") (sign symbol.Originate ∷ [])
unfolding word_symbol word_named
Cuts-originate = then_blank (keyword (codes "originate") symbol.Originate refl refl)

pub CutsBefore-true : CutsBefore (codes "true") (sign symbol.True ∷ [])
unfolding word_symbol word_named
CutsBefore-true = keyword (codes "true") symbol.True refl refl

-- the word of a call
word-cut : (w : CallWord) → CutsBefore (word_text w) (sign (symbol.Call w) ∷ [])
unfolding word_symbol word_named
word-cut word.Any = keyword (codes "any") (symbol.Call word.Any) refl refl
word-cut word.Drop = keyword (codes "drop") (symbol.Call word.Drop) refl refl
word-cut word.Internal = keyword (codes "internal") (symbol.Call word.Internal) refl refl
word-cut word.Link = keyword (codes "link") (symbol.Call word.Link) refl refl
word-cut word.Path = keyword (codes "path") (symbol.Call word.Path) refl refl
word-cut (word.Of set_call.Avoid) = keyword (codes "avoid") (symbol.Call (word.Of set_call.Avoid)) refl refl
word-cut (word.Of set_call.Through) = keyword (codes "through") (symbol.Call (word.Of set_call.Through)) refl refl
word-cut (word.Of set_call.NoTransit) = keyword (codes "notransit") (symbol.Call (word.Of set_call.NoTransit)) refl refl
word-cut (word.Of set_call.Start) = keyword (codes "start") (symbol.Call (word.Of set_call.Start)) refl refl
word-cut (word.Of set_call.End) = keyword (codes "end") (symbol.Call (word.Of set_call.End)) refl refl
word-cut (word.Of set_call.Exit) = keyword (codes "exit") (symbol.Call (word.Of set_call.Exit)) refl refl
word-cut (word.Of set_call.Enter) = keyword (codes "enter") (symbol.Call (word.Of set_call.Enter)) refl refl

pub CutsBefore-any : CutsBefore (codes "any") (sign (symbol.Call word.Any) ∷ [])
CutsBefore-any = word-cut word.Any

pub CutsBefore-call : (c : Call) → CutsBefore (word_text (word_of c)) (sign (call_symbol c) ∷ [])
CutsBefore-call c = word-cut (word_of c)
