use Rattle.std.proofs.Common.{◌≡◌, sym, rules}
use Rattle.net_base.proofs.SetLemmas.{has-set_words}
use Rattle.net_base.proofs.loc.LocSet.insert.Goals as goal

pub returns : goal.returns
returns c = λ l.
    let is : c.at.inside.0 ≡ c.args.at = c.at.view_is in
    rw (← is) (has-set_words c.args.self.now.words c.at.inside.0 l (rw (sym is) at c.requires) (search rules))
