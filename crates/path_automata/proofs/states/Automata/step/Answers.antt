use Rattle.std.proofs.Common.{◌≡◌, ◌≤◌, ◌<◌, ℕ, List, length, All, Vec, Global, vec_len, arith, ap, map, refl, sym, subst, true, ◌∙◌, Some, []}
use Rattle.std.specs.Prelude.{Err, Ok, OnErr, Result, slice_get}
use Rattle.std.proofs.lemmas.List.{append-nil, length-append, length-map}
use Rattle.std.proofs.lemmas.Option.{get_or_from_slice_get, same_Some, slice_get_within}
use Rattle.policy_base.specs.declared.limits.TheConstants.{ALTERNATIVES}
use Rattle.path_exprs.specs.Derivative.{derivative}
use Rattle.path_exprs.specs.Expression.{Expression}
use Rattle.path_exprs.proofs.Numbers.{known-more}
use Rattle.path_terms.specs.Terms.{are_known, at}
use Rattle.path_terms.specs.Terms as terms
use Rattle.path_terms.specs.Values.{values}
use Rattle.path_automata.specs.Classes.{InSameSets, SameClass}
use Rattle.path_automata.specs.Derived.{AreDerivatives}
use Rattle.path_automata.specs.Found.{states_in, facts_of, AreFacts}
use Rattle.path_automata.specs.Memo.{AreAlike, IsRight, Notes, NoTwice}
use Rattle.path_automata.specs.declared.memo.Memo.{Memo}
use Rattle.path_automata.proofs.MemoLemmas.{alike-grown, alike-kept, known, right-grown, right-kept}
use Rattle.path_automata.proofs.StateLemmas.{Key, IsKnown, all-at, all-inserted, all-weaker, apart-from_distinct, extends-grown, facts-cover, facts-grown, facts-kept}
use Rattle.path_automata.proofs.StateLemmas.{grown-insert_key, state-get, state-stored, states-extend}
use Rattle.path_automata.proofs.states.Automata.step.Goals as goal

-- the keys are known still as further terms come
still-known : (old new : List Expression) (ks : List Key) → terms.Extends old new → All (IsKnown old) ks → All (IsKnown new) ks
still-known old new ks x all =
    let le : length old ≤ length new = (let l = ap length x.1 ∙ length-append old x.0 in omega (arith, l)) in
    all-weaker (IsKnown old) (IsKnown new) ks (λ v h. known-more (length old) (length new) v.items le h) all

-- the states of the same keys stay as they are, and what the memo says of them stays right
still-states : (old new : List Expression) (ks more : List Key) (memo room : Memo) → more ≡ ks → terms.Extends old new → All (IsKnown old) ks
    → room.classes ≡ memo.classes → ((s x t : ℕ) → Notes room s x t → Notes memo s x t)
    → NoTwice (states_in old ks) → AreAlike memo (states_in old ks) → IsRight memo (states_in old ks)
    → NoTwice (states_in new more) × AreAlike room (states_in new more) × IsRight room (states_in new more)
still-states old new ks more memo room is x all classes kept apart alike right =
    let same = sym (ap (states_in new) is ∙ states-extend old new ks x all) in (
      subst NoTwice same apart,
      subst (AreAlike room) same (alike-kept memo room (states_in old ks) classes alike),
      subst (IsRight room) same (right-kept memo room (states_in old ks) kept right),
    )

on_any : {T E : Type 0} (P : Type 0) (r : Result T E) → P → OnErr r P
on_any P (Ok x) p = tt
on_any P (Err e) p = p

-- the next state was known

pub returns-in-Some-clause-ok : goal.returns-in-Some-clause-ok
returns-in-Some-clause-ok c = λ s e.
    let self = c.args.self.now in
    let ss = states_in (values self.terms) self.found.keys in
    (known self.memo ss self.right c.state.inside.0 c.args.at c.in-Some.next c.in-Some.ensures).1
    ∙ ap (λ v. Some (map (derivative c.args.at) v)) (get_or_from_slice_get ss c.state.inside.0 s [] (ap (λ i. slice_get ss i) c.state.view_is ∙ e))

pub returns-in-Some-clause-known : goal.returns-in-Some-clause-known
returns-in-Some-clause-known c =
    let self = c.args.self.now in
    let ss = states_in (values self.terms) self.found.keys in
    (slice_get_within ss c.in-Some.next _ (known self.memo ss self.right c.state.inside.0 c.args.at c.in-Some.next c.in-Some.ensures).1)

-- memory was refused

pub invariant_of-self-in-Break-1 : goal.invariant_of-self-in-Break-1
invariant_of-self-in-Break-1 c =
    let self = c.args.self.now in
    let ss = states_in (values self.terms) self.found.keys in
    let room = c.make_room.new.self in
    record {
      few = self.few;
      begun = self.begun;
      known = self.known;
      kept = subst (λ (cs : Vec ℕ Global). AreDerivatives cs.items (values self.terms) self.derived) (sym c.make_room.ensures.classes) self.kept;
      told = self.told;
      apart = self.apart;
      alike = alike-kept self.memo room ss c.make_room.ensures.classes self.alike;
      right = right-kept self.memo room ss c.make_room.ensures.kept self.right;
    }

pub invariant_of-self-in-Break-branch-2 : goal.invariant_of-self-in-Break-branch-2
invariant_of-self-in-Break-branch-2 c =
    let self = c.args.self.now in
    let ks = self.found.keys in
    let old = values self.terms in
    let new = values c.derivatives.new.terms in
    let room = c.make_room.new.self in
    let same = sym (states-extend old new ks c.derivatives.ensures.extends self.known) in
    let still = still-states old new ks ks self.memo room refl c.derivatives.ensures.extends self.known c.make_room.ensures.classes c.make_room.ensures.kept self.apart self.alike self.right in
    record {
      few = self.few;
      begun = self.begun;
      known = still-known old new ks c.derivatives.ensures.extends self.known;
      kept = subst (λ (cs : List ℕ). AreDerivatives cs new c.derivatives.new.derived) c.classes.ensures c.derivatives.ensures.derived;
      told = subst (AreFacts self.facts.items) same self.told;
      apart = still.0;
      alike = still.1;
      right = still.2;
    }

pub invariant_of-self-in-Break-branch-3 : goal.invariant_of-self-in-Break-branch-3
invariant_of-self-in-Break-branch-3 c =
    let self = c.args.self.now in
    let ks = self.found.keys in
    let old = values self.terms in
    let new = values c.derivatives.new.terms in
    let room = c.make_room.new.self in
    let same = sym (states-extend old new ks c.derivatives.ensures.extends self.known) in
    let still = still-states old new ks ks self.memo room refl c.derivatives.ensures.extends self.known c.make_room.ensures.classes c.make_room.ensures.kept self.apart self.alike self.right in
    let size = length-map ks (λ v. map (at old) v.items) in
    record {
      few = self.few;
      begun = self.begun;
      known = still-known old new ks c.derivatives.ensures.extends self.known;
      kept = subst (λ (cs : List ℕ). AreDerivatives cs new c.derivatives.new.derived) c.classes.ensures c.derivatives.ensures.derived;
      told = subst (AreFacts c.put_facts.new.all.items) same
          (facts-kept self.facts.items c.put_facts.new.all.items (states_in old ks) c.len.result (omega (arith, size, c.len.ensures.len)) self.told c.put_facts.ensures.before);
      apart = still.0;
      alike = still.1;
      right = still.2;
    }

pub invariant_of-self-in-Break-branch-4 : goal.invariant_of-self-in-Break-branch-4
invariant_of-self-in-Break-branch-4 c =
    let self = c.args.self.now in
    let ks = self.found.keys in
    let old = values self.terms in
    let new = values c.derivatives.new.terms in
    let room = c.make_room.new.self in
    let same = sym (states-extend old new ks c.derivatives.ensures.extends self.known) in
    let x = c.derivatives.ensures.extends in
    let still = still-states old new ks _ self.memo room c.in_err-number.ensures.err x self.known c.make_room.ensures.classes c.make_room.ensures.kept self.apart self.alike self.right in
    let same_keys = sym c.in_err-number.ensures.err in
    let size = length-map ks (λ v. map (at old) v.items) in
    record {
      few = subst (λ (ks : List Key). All (λ v. vec_len v ≤ ALTERNATIVES) ks) same_keys self.few;
      begun = subst (λ (ks : List Key). 0 < length ks) same_keys self.begun;
      known = subst (λ (ks : List Key). All (IsKnown new) ks) same_keys (still-known old new ks c.derivatives.ensures.extends self.known);
      kept = subst (λ (cs : List ℕ). AreDerivatives cs new c.derivatives.new.derived) c.classes.ensures c.derivatives.ensures.derived;
      told = subst (λ (ks : List Key). AreFacts c.put_facts.new.all.items (states_in new ks)) same_keys (subst (AreFacts c.put_facts.new.all.items) same
          (facts-kept self.facts.items c.put_facts.new.all.items (states_in old ks) c.len.result (omega (arith, size, c.len.ensures.len)) self.told c.put_facts.ensures.before));
      apart = still.0;
      alike = still.1;
      right = still.2;
    }

pub returns-in_err-next-clause-extends : goal.returns-in_err-next-clause-extends
returns-in_err-next-clause-extends c =
    let self = c.args.self.now in
    ([], states-extend (values self.terms) (values c.derivatives.new.terms) self.found.keys c.derivatives.ensures.extends self.known ∙ sym (append-nil (states_in (values self.terms) self.found.keys)))

pub returns-in_err-put_facts-clause-extends : goal.returns-in_err-put_facts-clause-extends
returns-in_err-put_facts-clause-extends c =
    let self = c.args.self.now in
    ([], states-extend (values self.terms) (values c.derivatives.new.terms) self.found.keys c.derivatives.ensures.extends self.known ∙ sym (append-nil (states_in (values self.terms) self.found.keys)))

pub returns-in_err-number-clause-extends : goal.returns-in_err-number-clause-extends
returns-in_err-number-clause-extends c =
    let self = c.args.self.now in (
      [],
      ap (states_in (values c.derivatives.new.terms)) c.in_err-number.ensures.err
          ∙ states-extend (values self.terms) (values c.derivatives.new.terms) self.found.keys c.derivatives.ensures.extends self.known
          ∙ sym (append-nil (states_in (values self.terms) self.found.keys)),
    )

pub returns-in_err-next-clause-err : goal.returns-in_err-next-clause-err
returns-in_err-next-clause-err c =
    let self = c.args.self.now in
    on_any _ _ (states-extend (values self.terms) (values c.derivatives.new.terms) self.found.keys c.derivatives.ensures.extends self.known)

pub returns-in_err-put_facts-clause-err : goal.returns-in_err-put_facts-clause-err
returns-in_err-put_facts-clause-err c =
    let self = c.args.self.now in
    on_any _ _ (states-extend (values self.terms) (values c.derivatives.new.terms) self.found.keys c.derivatives.ensures.extends self.known)

pub returns-in_err-number-clause-err : goal.returns-in_err-number-clause-err
returns-in_err-number-clause-err c =
    let self = c.args.self.now in
    on_any _ _ (ap (states_in (values c.derivatives.new.terms)) c.in_err-number.ensures.err
    ∙ states-extend (values self.terms) (values c.derivatives.new.terms) self.found.keys c.derivatives.ensures.extends self.known)

-- the next state was derived

pub derivatives-requires-clause-bound : goal.derivatives-requires-clause-bound
derivatives-requires-clause-bound c = omega (arith, c.len-bound.ensures.len)

pub derivatives-requires-clause-below : goal.derivatives-requires-clause-below
derivatives-requires-clause-below c =
    let self = c.args.self.now in
    let old = values self.terms in
    let there = all-at (IsKnown old) self.found.keys c.state.inside.0 c.in-Some-get_index.alternatives.now self.known (sym c.in-Some-get_index.ensures.key) in
    subst (λ k. are_known k c.deref.result.now ≡ true) (sym c.len-bound.ensures.len)
    (subst (λ l. are_known (length old) l ≡ true) (sym c.deref.ensures.value) there)

pub derivatives-requires-clause-classed : goal.derivatives-requires-clause-classed
derivatives-requires-clause-classed c = λ x y sc.
    let self = c.args.self.now in
    let ks = self.found.keys in
    let old = values self.terms in
    let alternatives = c.in-Some-get_index.alternatives.now in
    subst (λ l. InSameSets x y (map (at old) l)) (sym c.deref.ensures.value)
    (alike-kept self.memo c.make_room.new.self (states_in old ks) c.make_room.ensures.classes self.alike x y c.state.inside.0 (map (at old) alternatives.items)
    (subst (λ cs. SameClass cs x y) c.classes.ensures sc) (state-get old ks c.state.inside.0 alternatives (sym c.in-Some-get_index.ensures.key)))

pub facts_of-facts-requires-clause-few : goal.facts_of-facts-requires-clause-few
facts_of-facts-requires-clause-few c =
    let self = c.args.self.now in
    let few = all-at (λ v. vec_len v ≤ ALTERNATIVES) self.found.keys c.state.inside.0 c.in-Some-get_index.alternatives.now self.few (sym c.in-Some-get_index.ensures.key) in
    omega (arith, few, c.in_ok-next.ensures.len, c.deref.ensures.len, c.deref-2.ensures.len)

pub put_facts-requires : goal.put_facts-requires
put_facts-requires c =
    let self = c.args.self.now in
    let ss = states_in (values self.terms) self.found.keys in
    let size = length-map self.found.keys (λ v. map (at (values self.terms)) v.items) in
    let cover = facts-cover self.facts.items ss self.told in
    record { within = omega (arith, size, cover, c.len.ensures.len) }

pub returns-clause-ok : goal.returns-clause-ok
returns-clause-ok c = λ s e.
    let self = c.args.self.now in
    let ks = self.found.keys in
    let old = values self.terms in
    let here = state-get old ks c.state.inside.0 c.in-Some-get_index.alternatives.now (sym c.in-Some-get_index.ensures.key) in
    let is = same_Some _ _ (sym e ∙ ap (slice_get (states_in old ks)) (sym c.state.view_is) ∙ here) in
    let stored = c.in_ok-number.ensures.stored in
    state-stored (values c.derivatives.new.terms) c.insert_full.new.self.keys c.in_ok-number.number stored.0 c.in_ok-next.next stored.1 stored.2
    ∙ ap Some (c.in_ok-next.ensures.made ∙ ap (λ l. map (derivative c.args.at) (map (at old) l)) c.deref.ensures.value ∙ ap (map (derivative c.args.at)) (sym is))

pub returns-clause-extends : goal.returns-clause-extends
returns-clause-extends c =
    let self = c.args.self.now in
    let ks = self.found.keys in
    let old = values self.terms in
    let new = values c.derivatives.new.terms in
    extends-grown (states_in old ks) (states_in new c.insert_full.new.self.keys) (map (at new) c.in_ok-next.next.items)
    (grown-insert_key old new ks c.insert_full.new.self.keys c.in_ok-next.next c.derivatives.ensures.extends self.known c.in_ok-number.ensures.keys)

pub invariant_of-self-2 : goal.invariant_of-self-2
invariant_of-self-2 c =
    let self = c.args.self.now in
    let ks = self.found.keys in
    let more = c.insert_full.new.self.keys in
    let old = values self.terms in
    let new = values c.derivatives.new.terms in
    let ss = states_in old ks in
    let room = c.make_room.new.self in
    let at_last = c.note.new.self in
    let alternatives = c.in-Some-get_index.alternatives.now in
    let next = c.in_ok-next.next in
    let keys = c.in_ok-number.ensures.keys in
    let stored = c.in_ok-number.ensures.stored in
    let key = sym c.in-Some-get_index.ensures.key in
    let grown = grown-insert_key old new ks more next c.derivatives.ensures.extends self.known keys in
    let made = c.in_ok-next.ensures.made ∙ ap (λ l. map (derivative c.args.at) (map (at old) l)) c.deref.ensures.value in
    let size = length-map ks (λ v. map (at old) v.items) in
    let few = all-at (λ v. vec_len v ≤ ALTERNATIVES) ks c.state.inside.0 alternatives self.few key in
    let all_known = all-inserted (IsKnown new) ks more next keys (still-known old new ks c.derivatives.ensures.extends self.known) c.in_ok-next.ensures.known in
    record {
      few = all-inserted (λ v. vec_len v ≤ ALTERNATIVES) ks more next keys self.few (omega (arith, few, c.in_ok-next.ensures.len, c.deref.ensures.len));
      begun = (let within = slice_get_within more c.in_ok-number.number stored.0 stored.1 in omega (arith, within));
      known = all_known;
      kept = subst (λ (cs : Vec ℕ Global). AreDerivatives cs.items new c.derivatives.new.derived) (sym c.note.ensures.classes)
          (subst (λ (cs : List ℕ). AreDerivatives cs new c.derivatives.new.derived) c.classes.ensures c.derivatives.ensures.derived);
      told =
          facts-grown self.facts.items c.put_facts.new.all.items ss (states_in new more) (map (at new) next.items) c.len.result
          (omega (arith, size, c.len.ensures.len)) self.told grown c.put_facts.ensures.before
          (c.in_ok-put_facts.ensures.here ∙ ap Some (c.facts_of-facts.ensures ∙ ap (λ l. facts_of (map (at new) l)) c.deref-2.ensures.value));
      apart = apart-from_distinct new more c.derivatives.new.terms.apart all_known c.in_ok-number.ensures.unique;
      alike = alike-grown self.memo at_last ss (states_in new more) c.state.inside.0 c.args.at (map (at old) alternatives.items) (map (at new) next.items)
          (c.note.ensures.classes ∙ c.make_room.ensures.classes) self.alike (state-get old ks c.state.inside.0 alternatives key) made grown;
      right = right-grown room at_last ss (states_in new more) c.state.inside.0 c.args.at c.in_ok-number.number (map (at old) alternatives.items) (map (at new) next.items)
          c.note.ensures.noted
          (known room ss (right-kept self.memo room ss c.make_room.ensures.kept self.right))
          (alike-kept self.memo room ss c.make_room.ensures.classes self.alike)
          (state-get old ks c.state.inside.0 alternatives key) made grown
          (state-stored new more c.in_ok-number.number stored.0 next stored.1 stored.2);
    }
