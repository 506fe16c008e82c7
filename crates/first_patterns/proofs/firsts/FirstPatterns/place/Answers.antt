use Rattle.std.proofs.Common.{Bool, List, ap, subst, sym, ◌∙◌}
use Rattle.indexmap.specs.IndexMap.{get}
use Rattle.net_base.specs.Prefixes.{contains}
use Rattle.first_patterns.specs.Firsts.{first_place}
use Rattle.first_patterns.specs.Tables.{AreLengths, same_head}
use Rattle.first_patterns.proofs.Heads.{least_place-first, unmarked_head}
use Rattle.first_patterns.proofs.firsts.FirstPatterns.place.Goals as goal

pub returns : goal.returns
returns c = λ policy firsts.
    let self = c.args.self.now in
    let marked = subst (λ (ls : List Bool). AreLengths self.patterns.items ls) (sym c.as_slice.ensures.value) firsts.lengths in
    c.least_under.ensures (λ h off. firsts.places h ∙ unmarked_head self.patterns.items c.as_slice.result.now marked h off 1) ∙ least_place-first (get same_head c.args.self.now.places) c.args.self.now.patterns.items c.args.prefix firsts.places
    ∙ ap (λ ts. first_place (λ t. contains t c.args.prefix) ts 1) firsts.patterns
