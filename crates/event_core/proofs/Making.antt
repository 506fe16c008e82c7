-- What is made of a world, one thing after another.
use Rattle.std.proofs.Common.{◌≡◌, ◌∙◌}
use Rattle.std.specs.Prelude.{⊤, Result, Ok}
use Rattle.std.proofs.lemmas.Result.{on_ok_weaker}
use Rattle.config_base.specs.declared.route.Route.{Route}
use Rattle.event_base.specs.World.{Speakers, World}
use Rattle.event_state.specs.States.{speakers, state}
use Rattle.event_core.specs.declared.changing.Changing.{Changing}
use Rattle.event_core.specs.Followed.{Makes}
use Rattle.event_core.proofs.Loops.{step_on}
use Rattle.event_core.proofs.Undoing.{follows_self, follows_then}

-- it has succeeded
abbrev pub Made : (Speakers Route → World Route → World Route) → Changing → Changing → Type 0
Made f c d = Makes f c d (let done : Result ⊤ ⊤ = Ok tt in done)

module _ {f : Speakers Route → World Route → World Route} {E : Type 0} where
  pub makes_nothing : (c : Changing) {u : ⊤} → state c.world.now ≡ f (speakers c.world.now) (state c.world.now) → Makes {E = E} f c c (Ok u)
  makes_nothing c e = record { ok = e; follows = follows_self c }

  module _ {g : Speakers Route → World Route → World Route} where
    -- the same, said in another way
    pub makes_so : {c d : Changing} {r : Result ⊤ E} → Makes f c d r → f (speakers c.world.now) (state c.world.now) ≡ g (speakers c.world.now) (state c.world.now) → Makes g c d r
    makes_so {c} {d} {r} m e = record { ok = on_ok_weaker r (λ h. h ∙ e) m.ok; follows = m.follows }

    module _ {F : Type 0} where
      pub makes_then : {c d e : Changing} {u : ⊤} {r : Result ⊤ F} → Makes {E = E} f c d (Ok u) → Makes g d e r → Makes (λ S w. g S (f S w)) c e r
      makes_then {c} {d} {e} {u} {r} m n = record {
        ok = on_ok_weaker r (step_on g d.world.now c.world.now m.follows.setting m.ok) n.ok;
        follows = follows_then m.follows n.follows;
      }

      pub made_so : {c d : Changing} {u v : ⊤} → Makes {E = E} f c d (Ok u) → f (speakers c.world.now) (state c.world.now) ≡ g (speakers c.world.now) (state c.world.now)
          → Makes {E = F} g c d (Ok v)
      made_so m e = record { ok = m.ok ∙ e; follows = m.follows }
