use Rattle.std.proofs.Common.{ℕ, List, Ok, rules}
use Rattle.config_lines.specs.declared.line.Line.TheVariants.{Class}
use Rattle.config_lines.specs.Lines.{class_line}
use Rattle.config_lines.proofs.FormWords.{given_by_first_words}
use Rattle.config_lines.proofs.KeptWords.{left_over}
use Rattle.config_lines.proofs.read.read_class_line.Goals as goal

pub returns-in_err-number : goal.returns-in_err-number
unfolding class_line
returns-in_err-number c = given_by_first_words (λ (ws : List (List ℕ)). class_line ws (left_over 44 c.args.pieces)) 1 c.args.words.now _ c.in-len1-up.len_at_least (search rules)

pub returns-in_err-first : goal.returns-in_err-first
unfolding class_line
returns-in_err-first c = given_by_first_words (λ (ws : List (List ℕ)). class_line ws (left_over 44 c.args.pieces)) 1 c.args.words.now _ c.in-len1-up.len_at_least (search rules)

pub returns-in_err-patterns : goal.returns-in_err-patterns
unfolding class_line
returns-in_err-patterns c = given_by_first_words (λ (ws : List (List ℕ)). class_line ws (left_over 44 c.args.pieces)) 1 c.args.words.now _ c.in-len1-up.len_at_least (search rules)

pub returns-in_err-class_number : goal.returns-in_err-class_number
unfolding class_line
returns-in_err-class_number c = given_by_first_words (λ (ws : List (List ℕ)). class_line ws (left_over 44 c.args.pieces)) 1 c.args.words.now _ c.in-len1-up.len_at_least (search rules)

pub returns : goal.returns
unfolding class_line
returns c =
    given_by_first_words (λ (ws : List (List ℕ)). class_line ws (left_over 44 c.args.pieces)) 1 c.args.words.now (Ok (Class c.in_ok-class_number.field-0 c.in_ok-patterns.patterns))
    c.in-len1-up.len_at_least (search rules)
