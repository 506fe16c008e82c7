-- The words of the policy language, and how they are spelled.
use Rattle.std.specs.Prelude.{ℕ, List, Option, codes}
use Rattle.std.specs.List.{find}
use Rattle.std.specs.Str.{bytes_eq}
use Rattle.policy_words.specs.declared.word.TheConstants.{WORDS}
use Rattle.policy_words.specs.declared.word.SetCall.{SetCall}
use Rattle.policy_words.specs.declared.word.SetCall.TheVariants.{Avoid, Through, NoTransit, Start, End, Exit, Enter}
use Rattle.policy_words.specs.declared.word.CallWord.{CallWord}
use Rattle.policy_words.specs.declared.word.CallWord.TheVariants.{Any, Drop, Internal, Link, Path, Of}
use Rattle.policy_words.specs.declared.word.Word.{Word}
use Rattle.policy_words.specs.declared.word.Word.TheVariants.{Define, Originate, At, From, True, Le, Or, And, Not, Call}

-- the word of a call of one set
abbrev pub set_word : SetCall → List ℕ
set_word Avoid = codes "avoid"
set_word Through = codes "through"
set_word NoTransit = codes "notransit"
set_word Start = codes "start"
set_word End = codes "end"
set_word Exit = codes "exit"
set_word Enter = codes "enter"

-- the word of a call
abbrev pub word_text : CallWord → List ℕ
word_text Any = codes "any"
word_text Drop = codes "drop"
word_text Internal = codes "internal"
word_text Link = codes "link"
word_text Path = codes "path"
word_text (Of c) = set_word c

-- how a word is spelled
abbrev pub text_of : Word → List ℕ
text_of Define = codes "define"
text_of Originate = codes "originate"
text_of At = codes "at"
text_of From = codes "from"
text_of True = codes "true"
text_of Le = codes "le"
text_of Or = codes "or"
text_of And = codes "and"
text_of Not = codes "not"
text_of (Call c) = word_text c

-- the word that bytes spell
unfoldable pub word_named : List ℕ → Option Word
word_named bytes = find (λ word. bytes_eq bytes (text_of word)) WORDS
