use Rattle.std.proofs.Common.{◌∙◌, ap, take}
use Rattle.policy_base.proofs.PlaceLemmas.{take-front}
use Rattle.policy_base.proofs.meaning.front.Goals as goal

pub returns : goal.returns
returns c = ap (λ n. take n c.args.path.now) c.saturating_sub.ensures ∙ take-front c.args.path.now
