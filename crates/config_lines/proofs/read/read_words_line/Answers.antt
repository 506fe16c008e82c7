use Rattle.std.proofs.Common.{◌≡◌, false, length, ap, sym, ◌∙◌, Bor, List, ℕ, Option, rules}
use Rattle.std.specs.Prelude.{◌==◌}
use Rattle.config_lines.specs.Lines.{words_line}
use Rattle.config_lines.proofs.CutParts.{parts_left-some}
use Rattle.config_lines.proofs.FormWords.{given_by_first_words}
use Rattle.config_lines.proofs.KeptWords.{left_over}
use Rattle.config_lines.proofs.LongLines.{comma_misplaced}
use Rattle.config_lines.proofs.read.read_words_line.Goals as goal

pub returns-in-Some : goal.returns-in-Some
returns-in-Some c = λ _.
    let some : (length (left_over 44 c.args.pieces) == 0) ≡ false = ap (λ (o : Option (Bor (List ℕ))). length (left_over 44 o) == 0) c.in-Some.is ∙ parts_left-some 44 c.in-Some.field-0.now in
    comma_misplaced c.args.edition c.args.classes c.args.words.now _ (left_over 44 c.args.pieces) (sym c.is_word.ensures ∙ c.if-is_word.false) some

pub returns-then-is_word : goal.returns-then-is_word
unfolding words_line
returns-then-is_word c =
    given_by_first_words (λ (ws : List (List ℕ)). words_line c.args.edition c.args.classes ws (left_over 44 c.args.pieces)) 1 c.args.words.now _ c.in-len1-up.len_at_least (search rules)

pub returns-in-None : goal.returns-in-None
unfolding words_line
returns-in-None c =
    given_by_first_words (λ (ws : List (List ℕ)). words_line c.args.edition c.args.classes ws (left_over 44 c.args.pieces)) 1 c.args.words.now _ c.in-len1-up.len_at_least (search rules)
