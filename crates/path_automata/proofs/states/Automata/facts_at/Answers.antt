use Rattle.std.proofs.Common.{arith, ap, ◌∙◌}
use Rattle.std.specs.Prelude.{slice_get}
use Rattle.std.proofs.lemmas.Option.{get_or_from_slice_get}
use Rattle.path_terms.specs.Values.{values}
use Rattle.path_automata.specs.Found.{facts_of, states_in}
use Rattle.path_automata.proofs.StateLemmas.{facts-cover}
use Rattle.path_automata.proofs.states.Automata.facts_at.Goals as goal

pub index-requires : goal.index-requires
index-requires c =
    let self = c.args.self.now in
    let cover = facts-cover self.facts.items (states_in (values self.terms) self.found.keys) self.told in
    omega (arith, cover, c.requires.known, c.state.view_is)

pub returns : goal.returns
returns c = λ s e.
    let self = c.args.self.now in
    c.index.ensures
    ∙ get_or_from_slice_get self.facts.items c.state.inside.0 (facts_of s) _ (ap (slice_get self.facts.items) c.state.view_is ∙ self.told c.args.state s e)
