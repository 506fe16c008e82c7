use Rattle.std.proofs.Common.{rules, ◌≡◌, ◌<◌, ℕ, true, false, not, ◌&&◌, length, get_or, replicate, arith, sym, ap, ◌∙◌}
use Rattle.std.proofs.Math.Bool.{and-true}
use Rattle.std.proofs.lemmas.Bool.{and_parts}
use Rattle.std.proofs.lemmas.List.{get_or-replicate}
use Rattle.bit_rows.specs.Tables.{has_at}
use Rattle.graph_base.specs.Runs.{place_of, rank_at}
use Rattle.relation_law.specs.Relations.{no_worse}
use Rattle.relation_law.specs.Rounds.{same_place}
use Rattle.relation_law.specs.Views.{view_of}
use Rattle.state_simulation.specs.Targets.{is_outranked, is_touched}
use Rattle.state_simulation.proofs.Rounding.{at_first}
use Rattle.state_simulation.proofs.rounds.Rounds.new.Goals as goal

pub returns-clause-sized : goal.returns-clause-sized
returns-clause-sized c =
    let g = c.args.maps.now.graph.now in
    let v = view_of g c.args.claimed.now in
    let left = c.in_ok-left.ensures in
    let next = c.in_ok-next.ensures in
    let all : (m n : ℕ) → m < length g.nodes → n < length g.nodes → has_at c.in_ok-left.left n m ≡ same_place v m n = λ m n lm ln.
    left.bits m n lm ln ∙ ap (λ z. same_place v m n && not (z && not (no_worse (rank_at g m) (rank_at g n)))) (c.new.ensures.holds (place_of g n)) ∙ and-true (same_place v m n) in
    record {
      left = left.rows;
      wide = left.wide;
      next =
          record {
            count = next.rows.count ∙ sym left.rows.count;
            bits = next.rows.bits ∙ sym left.rows.bits;
            width = omega (arith, next.wide.room, next.wide.tight, left.wide.room, left.wide.tight);
          };
      within = λ n b ln lb h. all b n lb ln ∙ (and_parts (same_place v b n) (not (is_outranked v b n)) (sym (next.bits b n lb ln) ∙ h)).0;
      touched = search rules;
      onwards = tt;
      mask = search rules;
      looped = search rules;
    }

pub returns-clause-first : goal.returns-clause-first
returns-clause-first c = λ reach.
    let g = c.args.maps.now.graph.now in
    let v = view_of g c.args.claimed.now in
    let left = c.in_ok-left.ensures in
    let all : (m n : ℕ) → m < length g.nodes → n < length g.nodes → has_at c.in_ok-left.left n m ≡ same_place v m n = λ m n lm ln.
    left.bits m n lm ln ∙ ap (λ z. same_place v m n && not (z && not (no_worse (rank_at g m) (rank_at g n)))) (c.new.ensures.holds (place_of g n)) ∙ and-true (same_place v m n) in
    let size : length c.nodes.result.now ≡ length g.nodes = ap length (c.nodes.ensures.nodes ∙ ap (λ g. g.nodes) c.graph.ensures) in
    let items : c.in_ok-touched.touched.items ≡ replicate (length c.nodes.result.now) true = c.in_ok-touched.ensures.items_if_clones_equal (λ y clone. clone) in
    let each : (t : ℕ) → t < length g.nodes → is_touched c.in_ok-touched.touched.items t ≡ true = λ t lt. ap (λ l. get_or l t false) items
    ∙ get_or-replicate (length c.nodes.result.now) t true false (omega (arith, lt, size)) in
    at_first v reach c.in_ok-left.left c.in_ok-next.next (is_touched c.in_ok-touched.touched.items) each all c.in_ok-next.ensures.bits
