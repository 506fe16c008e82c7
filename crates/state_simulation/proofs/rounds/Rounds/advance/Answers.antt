use Rattle.std.proofs.Common.{◌≡◌, suc, Bool, List, length, arith, sym, ap, subst, ◌∙◌}
use Rattle.relation_law.specs.Rounds.{goes_by}
use Rattle.relation_law.specs.Views.{view_of}
use Rattle.state_simulation.specs.Looked.{shown}
use Rattle.state_simulation.specs.Targets.{AtRound, gone_in, is_touched, tells}
use Rattle.state_simulation.proofs.Rounding.{advanced, advanced_fewer, advanced_quiet, advanced_settled, advances, lent_back, taken_within}
use Rattle.state_simulation.proofs.rounds.Rounds.advance.Goals as goal

pub put_each-requires-clause-within : goal.put_each-requires-clause-within
put_each-requires-clause-within c = λ n b ln lb.
    let g = c.args.maps.now.graph.now in
    let old = c.args.self.now in
    let count : length c.deref_mut-3.result.now ≡ length g.nodes = ap length c.deref_mut-3.ensures.value ∙ c.requires.touched in
    taken_within (length g.nodes) old.left old.next c.take_each.new.next
    (λ n m. goes_by (shown g) (tells old.onwards) (gone_in old.left) (is_touched c.deref.result.now) m n) c.requires.within c.take_each.ensures.bits n b
    (omega (arith, ln, count)) (omega (arith, lb, count))

pub returns-clause-sized : goal.returns-clause-sized
returns-clause-sized c =
    let g = c.args.maps.now.graph.now in
    let old = c.args.self.now in
    let was = c.requires in
    let left = c.put_each.ensures.size in
    let next = c.take_each.ensures.size in
    let count : length c.deref_mut-3.result.now ≡ length g.nodes = ap length c.deref_mut-3.ensures.value ∙ was.touched in
    let len_touched : length c.put_each.new.touched ≡ length g.nodes = c.put_each.ensures.len ∙ count in
    let len_mask : length c.take_each.new.mask ≡ old.left.width = c.take_each.ensures.mask ∙ ap length c.deref_mut.ensures.value ∙ was.mask in
    let len_looped : length c.take_each.new.looped ≡ old.left.width = c.take_each.ensures.looped ∙ ap length c.deref_mut-2.ensures.value ∙ was.looped in
    record {
      left = record { count = left.count ∙ was.left.count; bits = left.bits ∙ was.left.bits; few = was.left.few };
      wide = record { room = omega (arith, left.width, was.wide.room); tight = omega (arith, left.width, was.wide.tight) };
      next = record { count = next.count ∙ was.next.count ∙ sym left.count; bits = next.bits ∙ was.next.bits ∙ sym left.bits; width = next.width ∙ was.next.width ∙ sym left.width };
      within = λ n b ln lb h. c.put_each.ensures.put.rows n b (omega (arith, ln, count)) ∙ h;
      touched = ap length (lent_back old.touched c.deref_mut-3.ensures.value c.put_each.ensures.len) ∙ len_touched;
      onwards = was.onwards;
      mask = ap length (lent_back old.mask c.deref_mut.ensures.value c.take_each.ensures.mask) ∙ len_mask ∙ sym left.width;
      looped = ap length (lent_back old.looped c.deref_mut-2.ensures.value c.take_each.ensures.looped) ∙ len_looped ∙ sym left.width;
    }

pub returns-clause-next : goal.returns-clause-next
returns-clause-next c = λ claimed reach k knows at.
    let g = c.args.maps.now.graph.now in
    let old = c.args.self.now in
    let by = advances g old c.deref.ensures.value c.deref_mut-3.ensures.value c.requires.touched c.take_each.ensures.bits c.put_each.ensures.put in
    let back = lent_back old.touched c.deref_mut-3.ensures.value c.put_each.ensures.len in
    subst (λ (l : List Bool). AtRound (view_of g claimed) reach (suc k) c.put_each.new.left c.take_each.new.next (is_touched l)) (sym back) (advanced by claimed reach k knows at)

pub returns-clause-settled : goal.returns-clause-settled
returns-clause-settled c = λ e claimed reach k knows at.
    let g = c.args.maps.now.graph.now in
    advanced_settled (advances g c.args.self.now c.deref.ensures.value c.deref_mut-3.ensures.value c.requires.touched c.take_each.ensures.bits c.put_each.ensures.put) claimed reach k knows at e

pub returns-clause-quiet : goal.returns-clause-quiet
returns-clause-quiet c = λ n b ln lb none.
    let g = c.args.maps.now.graph.now in
    let old = c.args.self.now in
    let by = advances g old c.deref.ensures.value c.deref_mut-3.ensures.value c.requires.touched c.take_each.ensures.bits c.put_each.ensures.put in
    let back = lent_back old.touched c.deref_mut-3.ensures.value c.put_each.ensures.len in
    advanced_quiet by c.requires n b ln lb (ap (λ (l : List Bool). is_touched l n) (sym back) ∙ none)

pub returns-clause-even : goal.returns-clause-even
returns-clause-even c = λ n b ln lb.
    let count : length c.deref_mut-3.result.now ≡ length c.args.maps.now.graph.now.nodes = ap length c.deref_mut-3.ensures.value ∙ c.requires.touched in
    sym (c.put_each.ensures.put.rows n b (omega (arith, ln, count)))

pub returns-clause-fewer : goal.returns-clause-fewer
returns-clause-fewer c =
    let g = c.args.maps.now.graph.now in
    advanced_fewer (advances g c.args.self.now c.deref.ensures.value c.deref_mut-3.ensures.value c.requires.touched c.take_each.ensures.bits c.put_each.ensures.put) c.requires
