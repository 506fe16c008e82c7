-- A message is the same as itself.
use Rattle.std.proofs.Common.{◌≡◌, true, Option, Some, None, refl}
use Rattle.std.specs.Str.{bytes_eq}
use Rattle.std.proofs.lemmas.Bool.{and_from, eq-eqb}
use Rattle.std.proofs.lemmas.Slice.Eq.{bytes_eq-Decides}
use Rattle.config_base.specs.declared.route.Route.{Route}
use Rattle.config_base.specs.Lines.{same_tag}
use Rattle.config_base.proofs.SameTags.{is-same_tag}
use Rattle.event_base.specs.Speaking.{same_message}

pub same_as_itself : (m : Option Route) → same_message m m ≡ true
same_as_itself None = refl
same_as_itself (Some h) = and_from (bytes_eq h.path h.path) _ ((bytes_eq-Decides h.path h.path).1 refl)
    (and_from (same_tag h.tag h.tag) _ (is-same_tag h.tag h.tag refl) (eq-eqb h.pref h.pref refl))
