use Rattle.std.proofs.Common.{◌≡◌, true, sym, ap, subst, ◌∙◌}
use Rattle.path_terms.specs.declared.term.Term.TheVariants.{Set}
use Rattle.path_terms.specs.Values.{values}
use Rattle.path_automata.specs.Sets.{sets_pass}
use Rattle.path_automata.proofs.ClassLemmas.{inserted_passes, node-passes}
use Rattle.path_automata.proofs.classes.add_set.Goals as goal

pub returns-in_ok-insert : goal.returns-in_ok-insert
returns-in_ok-insert c = λ p h.
    let u = inserted_passes p c.args.sets.now.keys c.insert.new.self.keys c.in-Set.set c.in_ok-insert.ensures.keys h in (
      u.0,
      (λ e. ap (sets_pass p) c.term.ensures.node
          ∙ node-passes p (values c.args.terms.now) c.args.number c.term.result.now c.term.ensures.sound
          (λ s q. let both : Set c.in-Set.set ≡ Set s = sym c.in-Set.is ∙ q in let is : c.in-Set.set ≡ s = cc in subst (λ s. p s ≡ true) is u.1) e),
    )

pub returns-in_default : goal.returns-in_default
returns-in_default c = λ p h. (
  h,
  (λ e. ap (sets_pass p) c.term.ensures.node
      ∙ node-passes p (values c.args.terms.now) c.args.number c.term.result.now c.term.ensures.sound (λ s q. absurd (c.in_default.not-Set s q)) e),
)
