use Rattle.std.proofs.Common.{◌≡◌, ◌++◌, ◌∷◌, ◌∙◌, [], List, ℕ, Bor, ap, false, not, sym}
use Rattle.std.specs.List.{list_any}
use Rattle.std.specs.Str.{bytes_eq}
use Rattle.std.proofs.lemmas.Bool.{cond-false, not-true}
use Rattle.std.proofs.lemmas.List.{map-append}
use Rattle.list_law.proofs.Tests.{list_any-map}
use Rattle.topology.specs.Views.{texts}
use Rattle.topology.proofs.sites.note.Goals as goal

pub returns-clause-fresh : goal.returns-clause-fresh
returns-clause-fresh c = c.in_ok-insert.ensures.added ∙ ap not (sym (list_any-map (bytes_eq c.args.name.now) (λ k. k.now) c.args.names.now.keys))

pub returns-clause-added : goal.returns-clause-added
returns-clause-added c = λ new.
    let keys = c.args.names.now.keys in
    let absent : list_any (λ (k : Bor (List ℕ)). bytes_eq c.args.name.now k.now) keys ≡ false = not-true _ (sym c.in_ok-insert.ensures.added ∙ new) in
    ap texts (c.in_ok-insert.ensures.keys ∙ cond-false _ keys (keys ++ c.args.name ∷ []) absent) ∙ map-append (λ k. k.now) keys (c.args.name ∷ [])
