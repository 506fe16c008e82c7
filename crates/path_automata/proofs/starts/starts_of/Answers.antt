use Rattle.std.proofs.Common.{◌≡◌, ℕ, List, arith, get_or, length, map, subst, sym, true, ap, ◌∙◌}
use Rattle.std.proofs.lemmas.List.{length-map}
use Rattle.std.proofs.lemmas.Result.{IfOk-weaker}
use Rattle.path_exprs.specs.Parts.{are_known, at, expressions_of_parts}
use Rattle.path_exprs.specs.Runs.{start_of}
use Rattle.path_terms.specs.Values.{values}
use Rattle.path_automata.proofs.Reversals.{as-many, known-places, starts-at}
use Rattle.path_automata.proofs.starts.starts_of.Goals as goal

pub returns : goal.returns
returns c =
    let full = c.args.full.now in
    let vs = values c.starts_of_parts.new.terms in
    let es = expressions_of_parts c.parts.result.0.now in
    let ns = c.deref.result.now in
    let ps = c.parts.result.1.now in
    let q = ap (map (at vs)) c.deref.ensures.value ∙ c.in_ok-all.ensures.made in
    let known = subst (λ k. are_known k ps ≡ true) (sym (as-many full vs ns es q)) c.parts.ensures.known in
    let all = subst (λ l. are_known (length vs) l ≡ true) (sym c.deref.ensures.value) c.in_ok-all.ensures.known in
    let len = λ (rs : List ℕ) (is : rs ≡ map (λ n. get_or ns n 0) ps). ap length is ∙ length-map ps (λ n. get_or ns n 0) ∙ sym (length-map ps (at es)) ∙ ap length c.parts.ensures.alternatives in
    record {
      made = IfOk-weaker c.picked.result _ _ (λ r is. ap (map (at vs)) is ∙ starts-at full vs ns es ps q known ∙ ap (start_of full) c.parts.ensures.alternatives) c.picked.ensures;
      known = IfOk-weaker c.picked.result _ _ (λ r is. subst (λ l. are_known (length vs) l ≡ true) (sym is) (known-places (length vs) ns ps all known)) c.picked.ensures;
      few = IfOk-weaker c.picked.result _ _ (λ r is. let many = len r.items is in omega (arith, many, c.parts.ensures.few)) c.picked.ensures;
    }
