use Rattle.std.proofs.Common.{◌≡◌, sym, ◌∙◌}
use Rattle.std.proofs.lemmas.Bool.{eqb-true, not-false}
use Rattle.std.proofs.lemmas.Bool.Decides.{Decides-eqb}
use Rattle.std.proofs.lemmas.Slice.Eq.{slice_eq-Decides}
use Rattle.std.specs.Cmp.{booleans_Decides}
use Rattle.list_law.proofs.Options.{option_eq-is}
use Rattle.bit_rows.specs.Tables.{row_of}
use Rattle.state_simulation.proofs.Targeting.{one_where_heard, one_where_stepped}
use Rattle.state_simulation.proofs.masks.have_one_mask.Goals as goal

pub returns-then-hears-2 : goal.returns-then-hears-2
returns-then-hears-2 c = λ same reach m.
    let place = sym c.location.ensures ∙ eqb-true _ _ (not-false _ (sym c.if-ne.ensures)) ∙ c.location-2.ensures in
    let alike = (booleans_Decides c.hears.result c.hears-else-ne.result).0 (not-false _ c.if-hears.false) in
    let ht = sym c.if-hears-2.ensures in
    let hs = sym c.hears.ensures ∙ alike ∙ c.hears-else-ne.ensures ∙ ht in
    let rank = sym c.rank.ensures ∙ option_eq-is c.rank.result c.rank-then-hears-2.result (sym c.eq.ensures ∙ same) ∙ c.rank-then-hears-2.ensures in
    rw c.graph-graph.ensures at (one_where_heard c.graph-graph.result.now c.args.left.now c.args.s c.args.t place reach m hs ht rank)

pub returns-else-hears-2 : goal.returns-else-hears-2
returns-else-hears-2 c = λ same reach m.
    let place = sym c.location.ensures ∙ eqb-true _ _ (not-false _ (sym c.if-ne.ensures)) ∙ c.location-2.ensures in
    let alike = (booleans_Decides c.hears.result c.hears-else-ne.result).0 (not-false _ c.if-hears.false) in
    let ht = sym c.if-hears-2.ensures in
    let hs = sym c.hears.ensures ∙ alike ∙ c.hears-else-ne.ensures ∙ ht in
    let rows : row_of c.args.left.now c.args.s ≡ row_of c.args.left.now c.args.t =
    sym c.row.ensures.words
    ∙ (slice_eq-Decides Decides-eqb c.row.result.now c.row-else-hears-2.result.now c.eq-else-hears-2.result c.eq-else-hears-2.ensures).0 same
    ∙ c.row-else-hears-2.ensures.words in
    rw c.graph-graph.ensures at (one_where_stepped c.graph-graph.result.now c.args.left.now c.args.s c.args.t place reach m hs ht rows)
