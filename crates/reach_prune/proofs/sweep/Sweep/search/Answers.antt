use Rattle.std.proofs.Common.{◌≡◌, ◌<◌, ◌+◌, ℕ, Bool, List, [], ◌∷◌, ◌++◌, length, get_or, take, true, false, ◌&&◌, ◌||◌, ltb, eqb, arith, refl, sym, subst, ap, ◌∙◌, inl, inr}
use Rattle.std.proofs.lemmas.Bool.{le-ltb, or_cases, eqb-true, eq-eqb}
use Rattle.std.proofs.lemmas.List.{get_or_read, nil_from_length, take_all, take_more}
use Rattle.std.proofs.lemmas.List.Folds.{list_any_at}
use Rattle.bit_rows.specs.Tables.{has_at}
use Rattle.reach_prune.specs.declared.sweep.Sweep.{Sweep}
use Rattle.reach_prune.specs.Searches.{is_among, is_listed}
use Rattle.reach_prune.specs.Sweeps.{Comes}
use Rattle.reach_prune.specs.Ways.{nth}
use Rattle.reach_prune.proofs.Sweeping.{Stage, close, come, next_found, nth_below, nth_twice, open_below, popped, popped_found, still_found, swept_begins, swept_more}
use Rattle.reach_prune.proofs.Trails.{waited}
use Rattle.reach_prune.proofs.Visiting.{listed_below}
use Rattle.reach_prune.proofs.sweep.Sweep.search.Goals as goal

pub search-init : goal.search-init
search-init c =
    let way = c.args.way in
    let lists = c.args.lists.now in
    let old = c.args.self.now in
    let new : Sweep = record { rows = c.set.new.self; waiting = c.push.new.self } in
    let e : c.nth-node.result ≡ nth way (length lists) c.args.place = c.nth-node.ensures in
    subst (λ n. Stage lists (λ a. ltb (nth way (length lists) a) c.args.place) n (λ a. ⊥) new) (sym e)
    (swept_begins way lists c.args.place old new c.requires.place c.requires.swept c.set.ensures.size.count c.set.ensures.size.bits
    (λ a b la. c.set.ensures.bits a b la ∙ ap (λ n. has_at old.rows a b || (eqb a n && eqb b n)) e) (c.in_ok-push.ensures.items ∙ ap (λ n. old.waiting.items ++ n ∷ []) e))

pub bounds-lists-at : goal.bounds-lists-at
bounds-lists-at c =
    let lists = c.args.lists.now in
    let mid : Sweep = record { rows = c.search.self.rows; waiting = c.pop.new.self } in
    let node : c.nth-node.result < length lists = omega (arith, c.nth-node.ensures, nth_below c.args.way (length lists) c.args.place c.requires.place) in
    open_below lists _ c.nth-node.result c.in-Some.at c.search.self mid c.search.invariant refl c.in-Some.ensures.items c.requires.lists node

pub loop-next-init : goal.loop-next-init
loop-next-init c =
    let lists = c.args.lists.now in
    let mid : Sweep = record { rows = c.search.self.rows; waiting = c.pop.new.self } in
    record {
      stage = popped lists _ c.nth-node.result c.in-Some.at c.search.self mid c.search.invariant refl c.in-Some.ensures.items;
      found = popped_found lists _ c.nth-node.result c.in-Some.at c.search.self mid c.search.invariant refl c.in-Some.ensures.items;
      passed = λ b h. absurd (cc);
      left = omega arith;
    }

pub nth-requires : goal.nth-requires
nth-requires c =
    let lists = c.args.lists.now in
    let mid : Sweep = record { rows = c.search.self.rows; waiting = c.pop.new.self } in
    let node : c.nth-node.result < length lists = omega (arith, c.nth-node.ensures, nth_below c.args.way (length lists) c.args.place c.requires.place) in
    let at : c.in-Some.at < length lists = open_below lists _ c.nth-node.result c.in-Some.at c.search.self mid c.search.invariant refl c.in-Some.ensures.items c.requires.lists node in
    let read = get_or_read lists _ _ at c.index-lists-at.is [] in
    listed_below lists c.in-Some.at c.as_slice-next-items.result.now c.loop-next.next-index 0 c.requires.lists (c.as_slice-next-items.ensures ∙ read) c.loop-next-test.true

pub come_to-requires-clause-next : goal.come_to-requires-clause-next
come_to-requires-clause-next c =
    let lists = c.args.lists.now in
    let mid : Sweep = record { rows = c.search.self.rows; waiting = c.pop.new.self } in
    let node : c.nth-node.result < length lists = omega (arith, c.nth-node.ensures, nth_below c.args.way (length lists) c.args.place c.requires.place) in
    let at : c.in-Some.at < length lists = open_below lists _ c.nth-node.result c.in-Some.at c.search.self mid c.search.invariant refl c.in-Some.ensures.items c.requires.lists node in
    let read = get_or_read lists _ _ at c.index-lists-at.is [] in
    let below = listed_below lists c.in-Some.at c.as_slice-next-items.result.now c.loop-next.next-index 0 c.requires.lists (c.as_slice-next-items.ensures ∙ read) c.loop-next-test.true in
    omega (arith, below, c.loop-next.invariant.stage.count)

pub loop-next-preserved : goal.loop-next-preserved
loop-next-preserved c =
    let way = c.args.way in
    let lists = c.args.lists.now in
    let done : ℕ → Bool = λ a. ltb (nth way (length lists) a) c.args.place in
    let mid : Sweep = record { rows = c.search.self.rows; waiting = c.pop.new.self } in
    let n : ℕ = c.nth-node.result in
    let at : ℕ = c.in-Some.at in
    let ln : n < length lists = omega (arith, c.nth-node.ensures, nth_below way (length lists) c.args.place c.requires.place) in
    let la : at < length lists = open_below lists _ n at c.search.self mid c.search.invariant refl c.in-Some.ensures.items c.requires.lists ln in
    let items : List ℕ = c.as_slice-next-items.result.now in
    let i : ℕ = c.loop-next.next-index in
    let lt : i < length items = c.loop-next-test.true in
    let read : items ≡ get_or lists at [] = c.as_slice-next-items.ensures ∙ get_or_read lists _ _ la c.index-lists-at.is [] in
    let next : ℕ = get_or items i 0 in
    let lx : next < length lists = listed_below lists at items i 0 c.requires.lists read lt in
    let listed : is_listed lists at next ≡ true = ap (λ x. is_among x next) (sym read) ∙ list_any_at (λ x. eqb x next) items i 0 lt (eq-eqb _ _ refl) in
    let inv = c.loop-next.invariant in
    let old : Sweep = c.loop-next.self in
    let new : Sweep = c.come_to.new.self in
    let comes : Comes n next (done next) old new = subst (λ k. Comes n next (ltb k c.args.place) old new) c.nth.ensures c.in_ok-come_to.ensures in
    let back : nth way (length lists) n ≡ c.args.place = ap (nth way (length lists)) c.nth-node.ensures ∙ nth_twice way (length lists) c.args.place c.requires.place in
    let undone : done n ≡ false = le-ltb _ _ (omega (arith, back)) in
    record {
      stage = come lists done n at next old new inv.stage comes inv.found listed ln lx undone;
      found = still_found lists done n at next old new inv.stage comes inv.found listed ln lx undone at inv.found;
      passed = λ b h. elim (or_cases (is_among (take i items) b) (eqb next b) (sym (waited (take (i + 1) items) (take i items) next b (take_more items i 0 lt)) ∙ h)) [
        | inl f ↦ still_found lists done n at next old new inv.stage comes inv.found listed ln lx undone b (inv.passed b f)
        | inr e ↦ ap (λ x. has_at new.rows n x) (sym (eqb-true next b e)) ∙ next_found lists done n at next old new inv.stage comes inv.found listed ln lx undone
      ];
      left = omega (arith, inv.left, comes.left);
    }

pub search-preserved : goal.search-preserved
search-preserved c =
    let lists = c.args.lists.now in
    let mid : Sweep = record { rows = c.search.self.rows; waiting = c.pop.new.self } in
    let n : ℕ = c.nth-node.result in
    let at : ℕ = c.in-Some.at in
    let ln : n < length lists = omega (arith, c.nth-node.ensures, nth_below c.args.way (length lists) c.args.place c.requires.place) in
    let la : at < length lists = open_below lists _ n at c.search.self mid c.search.invariant refl c.in-Some.ensures.items c.requires.lists ln in
    let items : List ℕ = c.as_slice-next-items.result.now in
    let read : items ≡ get_or lists at [] = c.as_slice-next-items.ensures ∙ get_or_read lists _ _ la c.index-lists-at.is [] in
    close lists _ n at c.loop-next.self c.loop-next.invariant.stage
    (λ b h. c.loop-next.invariant.passed b (ap (λ l. is_among l b) (take_all c.loop-next.next-index items c.loop-next-test.false ∙ read) ∙ h))

pub returns : goal.returns
returns c =
    let new : Sweep = record { rows = c.search.self.rows; waiting = c.pop.new.self } in
    let idle : length c.search.self.waiting.items ≡ 0 = omega (arith, c.in_default.ensures.cases.0, c.search.self.waiting.ok.0) in
    let none : c.search.self.waiting.items ≡ [] = nil_from_length _ idle in
    let ended : length c.pop.new.self.items ≡ 0 = omega (arith, c.in_default.ensures.len, c.in_default.ensures.cases.0, c.pop.new.self.ok.0) in
    swept_more c.args.way c.args.lists.now c.args.place c.search.self new refl (nil_from_length _ ended) c.requires.place (subst
    (λ n. Stage c.args.lists.now (λ a. ltb (nth c.args.way (length c.args.lists.now) a) c.args.place) n (λ a. ⊥) c.search.self)
    c.nth-node.ensures c.search.invariant) none
