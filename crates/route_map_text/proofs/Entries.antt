-- What an `in` and an `out` line share: a number and a list, and what stands behind them.
use Rattle.std.proofs.Common.{◌≡◌, ℕ, List, Result, Ok, Err, refl}
use Rattle.std.specs.Prelude.{codes}
use Rattle.net_base.specs.Steps.{◌>>=◌}
use Rattle.config_lines.specs.declared.line.Line.{Line}
use Rattle.config_lines.specs.declared.line.LineFault.{LineFault}
use Rattle.config_lines.specs.declared.line.LineFault.TheVariants.{Form}
use Rattle.config_lines.specs.declared.number.Figure.{Figure}
use Rattle.config_lines.specs.Numbers.{number_of, class_number}
use Rattle.config_lines.specs.Words.{is_word}
use Rattle.config_lines.proofs.LongLines.{no_form_behind, number_of-formal, is_word-formal}
use Rattle.route_map_text.specs.declared.line.MapLine.{MapLine}
use Rattle.route_map_text.specs.declared.line.MapLine.TheVariants.{Entry}

-- where what is behind the list is so read
abbrev pub entry : List ℕ → List ℕ → List ℕ → (Figure → Result Line LineFault) → Result MapLine LineFault
entry k list n behind = do
  f ← number_of k
  _ ← is_word (codes "list") list
  m ← number_of n
  l ← behind m
  number ← class_number f
  Ok (Entry number l)

-- where that has no form, the entry has none
pub no_entry : (k list n : List ℕ) (behind : Figure → Result Line LineFault) → ((m : Figure) → behind m ≡ Err Form) → entry k list n behind ≡ Err Form
no_entry k list n behind none =
    no_form_behind (number_of k) _ (number_of-formal k)
    (λ _. no_form_behind (is_word (codes "list") list) _ (is_word-formal (codes "list") list)
    (λ _. no_form_behind (number_of n) _ (number_of-formal n) (λ m. rw (none m) refl)))
