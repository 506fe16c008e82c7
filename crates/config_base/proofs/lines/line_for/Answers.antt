use Rattle.std.proofs.Common.{◌≡◌, ◌∙◌, IsTrue, subst}
use Rattle.std.specs.Prelude.{MatchBool}
use Rattle.std.specs.List.{AllByRecursion}
use Rattle.net_base.specs.Numbers.{no_tag, is_tag}
use Rattle.net_base.specs.Network.{is_peer}
use Rattle.config_base.specs.declared.config.Import.{Import}
use Rattle.config_base.proofs.LineLemmas.{line_wanted}
use Rattle.config_base.proofs.lines.line_for.Goals as goal

pub returns : goal.returns
returns c =
    let tags = subst (λ b. AllByRecursion (λ (r : Import). MatchBool b (r.tag ≡ no_tag) (IsTrue (is_tag r.tag))) c.args.block.now.imports) c.requires.kind c.requires.tags in
    rw c.as_slice.ensures at c.import_line.ensures
    ∙ line_wanted c.args.class c.args.tag c.session_tag.result (is_peer c.args.net.now c.args.from) c.args.block.now.imports tags c.session_tag.ensures
