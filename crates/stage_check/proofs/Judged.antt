-- What the verdict comes to.
use Rattle.std.proofs.Common.{◌≡◌, ℕ, List, Option, Some, None, Result, Ok, Err, sym, ap, ◌∙◌}
use Rattle.std.specs.Prelude.{IfOk}
use Rattle.config_base.specs.Configs.{PlainConfig}
use Rattle.class_lines.specs.declared.class_line.ClassLine.{ClassLine}
use Rattle.class_lines.specs.Tables.{by_class}
use Rattle.stage_classes.specs.declared.cell.Cell.{Cell}
use Rattle.stage_classes.specs.Cells.{cells}
use Rattle.stage_check.specs.declared.judging.Verdict.{Verdict}
use Rattle.stage_check.specs.declared.judging.Verdict.TheVariants.{Unlike}
use Rattle.stage_check.specs.Unlike.{first_unlike}
use Rattle.stage_check.specs.Verdicts.{of_cells, of_unlike, verdict}

-- by the lines of classes, wherever they are kept
pub alike_tables : (f g h k : ℕ → List ClassLine) (cs : List Cell) → ((n : ℕ) → f n ≡ h n) → ((n : ℕ) → g n ≡ k n) → of_cells f g cs ≡ of_cells h k cs
alike_tables f g h k cs one two =
    let first : f ≡ h = λ i n. one n i in
    let second : g ≡ k = λ i n. two n i in
    ap (λ x. of_cells x g cs) first ∙ ap (λ x. of_cells h x cs) second

pub weaker : {A E : Type 0} (P Q : A → Type 0) (r : Result A E) → ((v : A) → P v → Q v) → IfOk r P → IfOk r Q
weaker P Q (Ok v) each h = each v h
weaker P Q (Err e) each h = h

module _ (old new : PlainConfig) where
  pub unlike_is : (o : Option ℕ) (n : ℕ) → o ≡ first_unlike old.routers new.routers → o ≡ Some n → Unlike n ≡ verdict old new
  unfolding verdict
  unlike_is o n is some = ap (of_unlike old new) (sym some ∙ is)

  pub cells_are : (o : Option ℕ) (cs : List Cell) (v : Verdict) → o ≡ first_unlike old.routers new.routers → o ≡ None → cs ≡ cells old.classes new.classes
      → v ≡ of_cells (by_class old) (by_class new) cs → v ≡ verdict old new
  unfolding verdict
  cells_are o cs v is none same told = told ∙ ap (of_cells (by_class old) (by_class new)) same ∙ ap (of_unlike old new) (sym none ∙ is)
