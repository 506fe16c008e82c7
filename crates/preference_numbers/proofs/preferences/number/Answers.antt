use Rattle.std.proofs.Common.{◌≡◌, ℕ, ◌+◌, ◌*◌, ◌≤◌, true, not, ◌&&◌, List, arith, length, ap, sym, ◌∙◌}
use Rattle.std.specs.List.{count_by, range_with_len}
use Rattle.std.proofs.lemmas.Bool.{cond-true}
use Rattle.std.proofs.lemmas.List.{length-map}
use Rattle.graph_base.specs.declared.graph.Node.{Node}
use Rattle.bit_rows.specs.Bits.{has as has_bit}
use Rattle.bit_rows.specs.Tables.{PlainRows, has_at, row_of}
use Rattle.list_law.proofs.Counts.{count_within}
use Rattle.graph_base.specs.Runs.{place_of}
use Rattle.net_base.specs.Network.{is_router}
use Rattle.relation_law.specs.Numbers.{number_of}
use Rattle.state_simulation.specs.Held.{has}
use Rattle.preference_numbers.proofs.ByRows.{number_in_rows, number_in_words}
use Rattle.preference_numbers.proofs.preferences.number.Goals as goal

-- as many words in each row
pub count_outside-requires-clause-b : goal.count_outside-requires-clause-b
count_outside-requires-clause-b c =
    let one = c.row-first.ensures in
    let here = c.row-here.ensures in
    omega (arith, one.width, one.table.room, one.table.tight, here.width, here.table.room, here.table.tight, c.requires.firsts.bits, c.requires.located.bits)

pub count_outside-requires-clause-c : goal.count_outside-requires-clause-c
count_outside-requires-clause-c c =
    let one = c.row-first.ensures in
    let above = c.row-above.ensures in
    let bits = c.rows.ensures.square.bits in
    let same : c.rows.result.now.bits ≡ c.args.relation.now.rows.bits = ap (λ (z : PlainRows). z.bits) c.rows.ensures.rows in
    let places : length c.args.relation.now.places ≡ length c.args.graph.now.nodes = ap length c.requires.relation.places ∙ length-map c.args.graph.now.nodes (λ (node : Node). node.loc) in
    omega (arith, one.width, one.table.room, one.table.tight, above.width, above.table.room, above.table.tight, c.requires.firsts.bits, bits, same, places)

pub count_outside-requires-clause-few : goal.count_outside-requires-clause-few
count_outside-requires-clause-few c = let one = c.row-first.ensures in omega (arith, one.width, one.table.tight, one.table.few)

-- what is counted, as the rows of the tables say it
counted : (firsts located left : PlainRows) (place m size : ℕ) (first here above : List ℕ) → first ≡ row_of firsts 0 → here ≡ row_of located place → above ≡ row_of left m →
    count_by (λ k. has_bit first k && (has_bit here k && not (has_bit above k))) (range_with_len 0 size)
    ≡ count_by (λ k. has_at firsts 0 k && (has_at located place k && not (has_at left m k))) (range_with_len 0 size)
counted firsts located left place m size first here above e f g =
    ap (λ (l : List ℕ). count_by (λ k. has_bit l k && (has_bit here k && not (has_bit above k))) (range_with_len 0 size)) e
    ∙ ap (λ (l : List ℕ). count_by (λ k. has_at firsts 0 k && (has_bit l k && not (has_bit above k))) (range_with_len 0 size)) f
    ∙ ap (λ (l : List ℕ). count_by (λ k. has_at firsts 0 k && (has_at located place k && not (has_bit l k))) (range_with_len 0 size)) g

pub overflow_add-result : goal.overflow_add-result
overflow_add-result c =
    let g = c.args.graph.now in
    let r = c.args.relation.now in
    let node = c.args.node in
    let firsts : PlainRows = c.args.firsts.now in
    let located : PlainRows = c.args.located.now in
    let one = c.row-first.ensures in
    let here : c.row-here.result.now ≡ row_of located (place_of g node) = c.row-here.ensures.words ∙ ap (row_of located) (c.number.ensures ∙ c.location-2.ensures) in
    let above : c.row-above.result.now ≡ row_of r.rows node = c.row-above.ensures.words ∙ ap (λ (z : PlainRows). row_of z node) c.rows.ensures.rows in
    let words : ℕ = length c.row-first.result.now in
    let total = counted firsts located r.rows (place_of g node) node (64 * words) c.row-first.result.now c.row-here.result.now c.row-above.result.now one.words here above in
    let nodes = number_in_words g r firsts located c.requires.relation c.requires.total c.requires.firsts c.requires.located node c.requires.node
    words (omega (arith, one.width, one.table.room, c.requires.firsts.bits)) in
    let most = count_within (λ k. has_at firsts 0 k && (has_at located (place_of g node) k && not (has_at r.rows node k))) 0 (length g.nodes) in
    let few : length g.nodes ≤ 4294967000 = omega (arith, one.table.few, c.requires.firsts.bits) in
    record { fits = omega (arith, c.count_outside.ensures, total, nodes, most, few) }

pub returns : goal.returns
returns c =
    let net = c.args.net.now in
    let g = c.args.graph.now in
    let r = c.args.relation.now in
    let node = c.args.node in
    let firsts : PlainRows = c.args.firsts.now in
    let located : PlainRows = c.args.located.now in
    let one = c.row-first.ensures in
    let router : is_router net (place_of g node) ≡ true = ap (is_router net) (sym c.location.ensures) ∙ sym c.is_router.ensures ∙ c.if-not-is_router.false in
    let here : c.row-here.result.now ≡ row_of located (place_of g node) = c.row-here.ensures.words ∙ ap (row_of located) (c.number.ensures ∙ c.location-2.ensures) in
    let above : c.row-above.result.now ≡ row_of r.rows node = c.row-above.ensures.words ∙ ap (λ (z : PlainRows). row_of z node) c.rows.ensures.rows in
    let words : ℕ = length c.row-first.result.now in
    ap (λ (z : ℕ). 100 + z)
    (c.count_outside.ensures ∙ counted firsts located r.rows (place_of g node) node (64 * words) c.row-first.result.now c.row-here.result.now c.row-above.result.now one.words here above
    ∙ number_in_words g r firsts located c.requires.relation c.requires.total c.requires.firsts c.requires.located node c.requires.node words
    (omega (arith, one.width, one.table.room, c.requires.firsts.bits)))
    ∙ number_in_rows g r firsts located c.requires.relation c.requires.total c.requires.firsts c.requires.located node c.requires.node
    ∙ sym (cond-true (is_router net (place_of g node)) (number_of (length g.nodes) (has r) node) 0 router)
