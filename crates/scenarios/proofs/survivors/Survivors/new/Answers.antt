use Rattle.std.proofs.Common.{◌∙◌, ap, sym, ℕ}
use Rattle.std.specs.Prelude.{◌==◌, ◌&&◌}
use Rattle.std.specs.List.{list_any}
use Rattle.net_base.specs.Network.{joins}
use Rattle.scenarios.proofs.Members.{any-members}
use Rattle.scenarios.proofs.survivors.Survivors.new.Goals as goal

pub returns : goal.returns
returns c = record {
  dead = λ l. sym (any-members c.args.scenario.now.dead l);
  cut = λ a b on. c.of_pairs.ensures a b on ∙ ap (list_any (joins a b)) c.as_slice.ensures;
  silent = λ r p on peer. c.of_sessions.ensures r p on peer ∙ ap (list_any (λ (s : ℕ × ℕ). s.0 == r && s.1 == p)) c.as_slice-2.ensures;
}
