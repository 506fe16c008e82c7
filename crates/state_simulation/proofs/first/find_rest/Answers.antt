use Rattle.std.proofs.Common.{◌≡◌, ◌<◌, ℕ, Bool, List, length, arith, sym, ap, subst, ◌∙◌}
use Rattle.bit_rows.specs.Tables.{has_at}
use Rattle.relation_law.specs.Views.{view_of}
use Rattle.state_simulation.specs.declared.rounds.Rounds.{Rounds}
use Rattle.state_simulation.specs.Stages.{AreBound, AreFirst}
use Rattle.state_simulation.specs.Targets.{AtRound, is_touched}
use Rattle.state_simulation.proofs.Staging.{same_at}
use Rattle.state_simulation.proofs.first.find_rest.Goals as goal

pub look_onwards-requires : goal.look_onwards-requires
look_onwards-requires c = c.requires.first.sized

pub copied-requires-clause-square : goal.copied-requires-clause-square
copied-requires-clause-square c =
    let was : AreFirst c.args.maps.now.graph.now c.args.claimed.now c.look_onwards.new.self = c.in_ok-look_onwards.ensures.first c.args.claimed.now c.requires.first in
    record {
      count = omega (arith, was.sized.left.count, was.sized.touched);
      bits = omega (arith, was.sized.left.bits, was.sized.touched);
      few = omega (arith, was.sized.left.few, was.sized.touched);
    }

pub copied-requires-clause-wide : goal.copied-requires-clause-wide
copied-requires-clause-wide c =
    let was : AreFirst c.args.maps.now.graph.now c.args.claimed.now c.look_onwards.new.self = c.in_ok-look_onwards.ensures.first c.args.claimed.now c.requires.first in
    record { room = omega (arith, was.sized.wide.room, was.sized.touched); tight = omega (arith, was.sized.wide.tight, was.sized.touched) }

pub stay_total-requires-clause-bound : goal.stay_total-requires-clause-bound
stay_total-requires-clause-bound c = subst (AreBound c.args.maps.now.graph.now) (sym c.in_ok-look_onwards.ensures.left) c.requires.bound

pub stay_total-requires-clause-first : goal.stay_total-requires-clause-first
stay_total-requires-clause-first c = (c.in_ok-look_onwards.ensures.first c.args.claimed.now c.requires.first).at

pub go_back-requires-clause-square : goal.go_back-requires-clause-square
go_back-requires-clause-square c =
    let was = c.in_ok-look_onwards.ensures.sized in
    let now = c.stay_total.ensures.sized in
    let len = ap length (c.in_ok-touched.ensures.items_if_clones_equal (λ x y same. same) ∙ c.deref.ensures.value) ∙ was.touched in
    record { count = now.next.count ∙ now.left.count ∙ sym len; bits = now.next.bits ∙ now.left.bits ∙ sym len; few = omega (arith, now.left.few, len) }

pub go_back-requires-clause-left : goal.go_back-requires-clause-left
go_back-requires-clause-left c =
    let was = c.in_ok-look_onwards.ensures.sized in
    let now = c.stay_total.ensures.sized in
    let copy = c.in_ok-left.ensures.size in
    record {
      count = copy.count ∙ was.left.count ∙ sym (now.next.count ∙ now.left.count);
      bits = copy.bits ∙ was.left.bits ∙ sym (now.next.bits ∙ now.left.bits);
      width = omega (arith, copy.width, now.next.width, was.wide.room, was.wide.tight, now.wide.room, now.wide.tight);
    }

pub returns-clause-sized : goal.returns-clause-sized
returns-clause-sized c =
    let len = ap length (c.in_ok-touched.ensures.items_if_clones_equal (λ x y same. same) ∙ c.deref.ensures.value) ∙ c.in_ok-look_onwards.ensures.sized.touched in
    c.go_back.ensures.sized c.args.maps.now.graph.now c.stay_total.ensures.sized len

pub returns-clause-first : goal.returns-clause-first
returns-clause-first c = λ none.
    let g = c.args.maps.now.graph.now in
    let claimed = c.args.claimed.now in
    let looked : Rounds = c.look_onwards.new.self in
    let now : Rounds = c.go_back.new.self in
    let was : AreFirst g claimed looked = c.in_ok-look_onwards.ensures.first claimed c.requires.first in
    let back = c.go_back.ensures in
    let items : now.touched.items ≡ looked.touched.items = ap (λ z. z.items) back.touched ∙ c.in_ok-touched.ensures.items_if_clones_equal (λ x y same. same) ∙ c.deref.ensures.value in
    let len : length c.in_ok-touched.touched.items ≡ length g.nodes = ap length (c.in_ok-touched.ensures.items_if_clones_equal (λ x y same. same) ∙ c.deref.ensures.value) ∙ was.sized.touched in
    let left : (n b : ℕ) → n < length g.nodes → b < length g.nodes → has_at now.left n b ≡ has_at looked.left n b = λ n b ln lb.
    ap (λ z. has_at z n b) back.left ∙ c.in_ok-left.ensures.bits n b (omega (arith, ln, was.sized.touched)) in
    let even : (n b : ℕ) → n < length g.nodes → b < length g.nodes → has_at now.next n b ≡ has_at now.left n b = λ n b ln lb.
    back.even n b (omega (arith, ln, len)) ∙ ap (λ z. has_at z n b) (sym back.left) in
    record {
      sized = returns-clause-sized c;
      at = λ reach. subst (λ (l : List Bool). AtRound (view_of g claimed) reach 1 now.left now.next (is_touched l)) (sym items)
          (same_at (view_of g claimed) reach 1 looked.left looked.next now.left now.next (is_touched looked.touched.items) (was.at reach) left
          (λ n b ln lb. even n b ln lb ∙ left n b ln lb ∙ sym (was.even n b ln lb)));
      quiet = λ m n pair none. left n m pair.right pair.left ∙ was.quiet m n pair (ap (λ (l : List Bool). is_touched l n) (sym items) ∙ none);
      even = even;
    }
