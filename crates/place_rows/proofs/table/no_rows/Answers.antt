use Rattle.std.proofs.Common.{◌∙◌, ◌+◌, ◌∷◌, [], ℕ, List, Vec, ap, length, length-append, subst, sym}
use Rattle.std.specs.Global.{Global}
use Rattle.pair_rows.specs.declared.values.FirstRow.{FirstRow}
use Rattle.pair_rows.specs.Meetings.{AreFirst}
use Rattle.pair_rows.proofs.NotedRows.{first_none}
use Rattle.place_rows.specs.Noted.{rows_at}
use Rattle.place_rows.proofs.Tables.{at_pushed}
use Rattle.place_rows.proofs.table.no_rows.Goals as goal

pub returns-clause-none : goal.returns-clause-none
returns-clause-none c = λ r less. subst (λ (xs : List FirstRow). AreFirst [] xs) (sym (c.loop.invariant.none r)) first_none

pub loop-preserved : goal.loop-preserved
loop-preserved c =
    let rows = c.loop.rows.items in
    record {
      size = ap length c.in_ok-push.ensures.items ∙ length-append rows (c.new.result ∷ []) ∙ ap (λ (n : ℕ). n + 1) c.loop.invariant.size;
      none = λ r. ap (λ (rs : List (Vec FirstRow Global)). rows_at rs r) c.in_ok-push.ensures.items ∙ at_pushed rows c.new.result r c.new.ensures.items (c.loop.invariant.none r);
    }
