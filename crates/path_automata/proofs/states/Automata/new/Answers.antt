use Rattle.std.proofs.Common.{◌≡◌, ◌≤◌, ◌<◌, ◌∷◌, [], true, Some, vec_len, length, map, arith, ap, sym, subst, ◌∙◌}
use Rattle.std.specs.Prelude.{IfSome, slice_get}
use Rattle.std.specs.Map.{lookup}
use Rattle.indexmap.specs.IndexSet.{insert_key}
use Rattle.policy_base.specs.declared.limits.TheConstants.{ALTERNATIVES}
use Rattle.path_exprs.specs.Runs.{start_of}
use Rattle.path_terms.specs.Terms.{are_known, at}
use Rattle.path_terms.specs.Values.{values}
use Rattle.path_automata.specs.Derived.{same_key, IsDerivative}
use Rattle.path_automata.specs.Found.{states_in, facts_of}
use Rattle.path_automata.specs.Sets.{agrees}
use Rattle.path_automata.proofs.ClassLemmas.{known-pass}
use Rattle.path_automata.proofs.MemoLemmas.{alike-one, apart-one}
use Rattle.path_automata.proofs.StateLemmas.{IsKnown, all-inserted, facts-one, same}
use Rattle.path_automata.proofs.states.Automata.new.Goals as goal

pub invariant_of-result : goal.invariant_of-result
invariant_of-result c =
    let vs = values c.starts_of.new.terms in
    let ks = c.insert.new.self.keys in
    let first = c.in_ok-first.first in
    let memo = c.in_ok-memo.memo in
    let s = map (at vs) first.items in
    let is = c.in_ok-insert.ensures.keys ∙ ap (λ ks. insert_key same ks first) c.new-found.ensures.empty in
    let one = ap (states_in vs) is in
    record {
      few = all-inserted (λ v. vec_len v ≤ ALTERNATIVES) [] ks first is (λ i d h. absurd (omega (arith, h))) c.in_ok-first.ensures.few;
      begun = subst (λ ks. 0 < length ks) (sym is) (omega arith);
      known = all-inserted (IsKnown vs) [] ks first is (λ i d h. absurd (omega (arith, h))) c.in_ok-first.ensures.known;
      kept = λ key. subst (λ es. IfSome (lookup (same_key key) es) (λ d. IsDerivative memo.classes.items vs key d)) (sym c.new-2.ensures.empty) tt;
      told = facts-one c.in_ok-facts.facts.items (states_in vs ks) s one
          (ap (λ l. slice_get l 0) c.in_ok-facts.ensures.items ∙ ap Some (c.facts_of.ensures ∙ ap (λ l. facts_of (map (at vs) l)) c.deref.ensures.value));
      apart = apart-one (states_in vs ks) s one;
      alike = alike-one memo (states_in vs ks) s one (λ x y sc. known-pass (agrees x y) vs first.items c.in_ok-first.ensures.known (c.in_ok-memo.ensures.sorted x y sc));
      right = λ s x t note. absurd (c.in_ok-memo.ensures.none s x t note);
    }

pub facts_of-requires-clause-known : goal.facts_of-requires-clause-known
facts_of-requires-clause-known c = subst (λ l. are_known (length (values c.starts_of.new.terms)) l ≡ true) (sym c.deref.ensures.value) c.in_ok-first.ensures.known

pub facts_of-requires-clause-few : goal.facts_of-requires-clause-few
facts_of-requires-clause-few c = omega (arith, ap length c.deref.ensures.value, c.in_ok-first.ensures.few, c.in_ok-first.first.ok.0)

pub returns : goal.returns
returns c =
    let vs = values c.starts_of.new.terms in
    let first = c.in_ok-first.first in
    let is = c.in_ok-insert.ensures.keys ∙ ap (λ ks. insert_key same ks first) c.new-found.ensures.empty in
    ap (states_in vs) is ∙ ap (λ s. s ∷ []) (c.in_ok-first.ensures.made ∙ ap (λ full. start_of full c.args.ranked.now) c.locations-full.ensures)
