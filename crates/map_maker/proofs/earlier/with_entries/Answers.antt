use Rattle.std.proofs.Common.{◌≡◌, ◌∙◌, ◌∷◌, ◌++◌, [], List, ap, rules}
use Rattle.std.specs.Prelude.{count_by}
use Rattle.map_maker.specs.Earlier.{entries_in}
use Rattle.map_maker.specs.declared.earlier.Entry.{Entry}
use Rattle.map_maker.proofs.EarlierLaws.{put_behind}
use Rattle.map_maker.proofs.earlier.with_entries.Goals as goal

pub returns-clause-entries : goal.returns-clause-entries
returns-clause-entries c = λ p.
    let items : c.from_vec.result ≡ c.take_short.new.blocks.items ++ c.block_of.result ∷ [] = search rules in
    let start : c.into_vec-all.result.items ≡ c.args.blocks = search rules in
    ap (λ (bs : List (List Entry)). count_by p (entries_in bs)) items
    ∙ put_behind c.take_short.new.blocks.items c.block_of.result c.take_short.new.entries.items
    (entries_in c.into_vec-all.result.items ++ c.args.entries.items) c.block_of.ensures.entries c.in_ok-take_short.ensures.entries p
    ∙ ap (λ (bs : List (List Entry)). count_by p (entries_in bs ++ c.args.entries.items)) start
