-- What a text's answer says of it.
use Rattle.json_values.proofs.TextLaws as texts
use Rattle.net_base.specs.Network.{PlainNet}
use Rattle.table_reader.specs.declared.fault.TablesFault.TheVariants.{NotJson, Shape}
use Rattle.table_reader.specs.Faults.{number_of}
use Rattle.table_reader.specs.Laws.{rules}
use Rattle.table_reader.specs.Rules.{judged}
use Rattle.table_reader.specs.Shape.{shape_of}
use Rattle.table_reader.specs.Spelled.{spelled}
use Rattle.table_reader.proofs.RulesKept.{judged_outcome}
use Rattle.table_reader.proofs.ShapeFaults.{shape_only}

pub answers : (net : PlainNet) → texts.Answers NotJson Shape number_of shape_of (rules net) (spelled net)
unfolding spelled
answers net = texts.answers NotJson Shape number_of shape_of (rules net) (judged net) (judged_outcome net) shape_only (λ _ same. cc) (λ _. tt) (λ _ _. tt)
