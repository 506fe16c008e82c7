-- Changes that are noted are undone.
use Rattle.std.proofs.Common.{◌≡◌, true, List, [], ◌∷◌, ◌++◌, refl, sym, ap, ◌∙◌}
use Rattle.std.proofs.lemmas.Bool.{cond-true}
use Rattle.config_base.specs.declared.route.Route.{Route}
use Rattle.net_base.specs.Network.{PlainNet}
use Rattle.event_base.specs.World.{World}
use Rattle.event_state.specs.States.{setting, state}
use Rattle.event_core.specs.declared.change.Change.{Change}
use Rattle.event_core.specs.declared.changing.Changing.{Changing}
use Rattle.event_core.specs.Changes.{changed, is_on, undone, with_change}
use Rattle.event_core.specs.Followed.{Follows}

pub undone_last : (net : PlainNet) (cs : List Change) (c : Change) (w : World Route) → undone net (cs ++ c ∷ []) w ≡ undone net cs (changed net c w)
undone_last net [] c w = refl
undone_last net (d ∷ cs) c w = ap (changed net d) (undone_last net cs c w)

-- nothing is changed
pub follows_self : (c : Changing) → Follows c c
follows_self c = record { same = refl; setting = refl; back = refl }

-- one more change, and what undoes it
pub follows_made : (c d : Changing) (back : Change) → d.world.ghost_name ≡ c.world.ghost_name → setting d.world.now ≡ setting c.world.now
    → d.log.now.items ≡ c.log.now.items ++ back ∷ [] → is_on c.world.now.net.now back ≡ true → with_change back (state d.world.now) ≡ state c.world.now → Follows c d
follows_made c d back same stays more on e =
    let net = c.world.now.net.now in
    let log = c.log.now.items in
    let v = state d.world.now in
    record {
      same = same;
      setting = stays;
      back =
          ap (λ cs. undone net cs v) more
          ∙ undone_last net log back v
          ∙ ap (undone net log) (cond-true (is_on net back) (with_change back v) v on ∙ e);
    }

pub follows_then : {c d e : Changing} → Follows c d → Follows d e → Follows c e
follows_then {c} {d} {e} f g = record {
  same = g.same ∙ f.same;
  setting = g.setting ∙ f.setting;
  back =
      sym (ap (λ s. undone s.0 e.log.now.items (state e.world.now)) f.setting)
      ∙ g.back
      ∙ ap (λ s. undone s.0 d.log.now.items (state d.world.now)) f.setting
      ∙ f.back;
}
