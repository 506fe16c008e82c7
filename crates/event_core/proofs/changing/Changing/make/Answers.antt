use Rattle.std.proofs.Common.{[], ◌∷◌, ◌++◌, refl, ap, ◌∙◌}
use Rattle.event_core.proofs.Undoing.{follows_made}
use Rattle.event_core.proofs.changing.Changing.make.Goals as goal

pub returns : goal.returns
returns c = record {
  ok = c.put-back.ensures.world;
  follows =
      follows_made c.args.self.now _ c.put-back.result refl c.put-back.ensures.setting
      (c.push_reserved.ensures.items ∙ ap (λ cs. cs ++ c.put-back.result ∷ []) c.reserve.ensures.items)
      (c.put-back.ensures.place ∙ c.requires.on)
      (c.put-back.ensures.back c.requires.swap);
}
