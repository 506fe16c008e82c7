use Rattle.std.proofs.Common.{◌≡◌, ◌<◌, ◌∙◌, ◌++◌, [], ◌∷◌, ℕ, List, length, refl, sym, ap, subst, arith, Bool}
use Rattle.node_classes.specs.Stages.{AreWithin, Stage}
use Rattle.std.specs.Prelude.{MatchBool}
use Rattle.node_classes.specs.Classes.{AreApart}
use Rattle.node_classes.proofs.Forests.{leader-le}
use Rattle.node_classes.proofs.Stages.{begun, ended}
use Rattle.node_classes.proofs.Meeting.{within_front}
use Rattle.node_classes.proofs.joining.classes.Goals as goal

pub search-init : goal.search-init
search-init c =
    let todo : c.push.new.self.items ≡ (c.args.a, c.args.b) ∷ [] = c.in_ok-push.ensures.items ∙ ap (λ ps. ps ++ (c.args.a, c.args.b) ∷ []) c.new-todo.ensures.items in
    let len : length c.in_ok-up.up.items ≡ c.args.count = c.in_ok-up.ensures.len in
    let start : AreWithin (length c.in_ok-up.up.items) ((c.args.a, c.args.b) ∷ []) = ((omega (arith, len, c.requires.a), omega (arith, len, c.requires.b)), tt) in
    record {
      len = len;
      within = subst (AreWithin (length c.in_ok-up.up.items)) (sym todo) start;
      stage = subst (Stage c.args.ways.now c.args.a c.args.b c.in_ok-up.up.items) (sym todo) (begun c.args.ways.now c.args.a c.args.b c.in_ok-up.up.items c.in_ok-up.ensures.roots);
    }

-- the pair that is taken
taken : (c : goal.After-deref) → AreWithin (length c.search.up.items) c.pop.new.self.items × ((c.in-Some.x < length c.search.up.items) × (c.in-Some.y < length c.search.up.items))
taken c = within_front (length c.search.up.items) c.pop.new.self.items (c.in-Some.x, c.in-Some.y) (subst (AreWithin (length c.search.up.items)) c.in-Some.ensures.items c.search.invariant.within)

pub meet-requires-clause-x : goal.meet-requires-clause-x
meet-requires-clause-x c = (taken c).1.0

pub meet-requires-clause-y : goal.meet-requires-clause-y
meet-requires-clause-y c = (taken c).1.1

pub returns-then-not-branch-clause-apart : goal.returns-then-not-branch-clause-apart
returns-then-not-branch-clause-apart c =
    let ways = c.args.ways.now in
    let stage : Stage ways c.args.a c.args.b c.search.up.items (c.pop.new.self.items ++ (c.in-Some.x, c.in-Some.y) ∷ [])
    = subst (Stage ways c.args.a c.args.b c.search.up.items) c.in-Some.ensures.items c.search.invariant.stage in
    subst (λ (b : Bool). MatchBool b (Stage ways c.args.a c.args.b c.meet.new.up.items c.meet.new.todo.items) (AreApart ways c.args.a c.args.b)) c.if-not-branch.true
    (c.in_ok-meet.ensures.stage c.args.a c.args.b stage)

empty : (xs : List (ℕ × ℕ)) → length xs ≡ 0 → xs ≡ []
empty [] h = refl
empty (x ∷ xs) h = absurd (omega (arith, h))

pub returns-clause-alike : goal.returns-clause-alike
returns-clause-alike c =
    let none : c.search.todo.items ≡ [] = empty c.search.todo.items (omega (arith, c.in_default.ensures.cases.0, c.search.todo.ok.0)) in
    ended c.args.ways.now c.args.a c.args.b c.search.up.items
    (subst (Stage c.args.ways.now c.args.a c.args.b c.search.up.items) none c.search.invariant.stage) c.in_ok-found.found.items
    c.in_ok-found.ensures.each

pub returns-clause-least : goal.returns-clause-least
returns-clause-least c = λ x.
    let root = c.in_ok-found.ensures.each x in
    let le = leader-le c.search.up.items c.search.invariant.stage.forest x in
    omega (arith, root, le)
