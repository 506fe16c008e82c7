-- One side more behind an operator.
use Rattle.std.proofs.Common.{◌≡◌, ◌<◌, ℕ, List, length, Result, Ok, Some, refl, sym, ap, ◌∙◌}
use Rattle.net_base.specs.declared.place.Place.{Place}
use Rattle.net_base.specs.Network.{PlainNet}
use Rattle.net_base.specs.Steps.{◌>>=◌}
use Rattle.policy_tokens.specs.declared.fault.PolicyFault.{PolicyFault}
use Rattle.policy_grammar.specs.declared.lexeme.Lexeme.{Lexeme}
use Rattle.policy_grammar.specs.declared.symbol.Symbol.{Symbol}
use Rattle.policy_grammar.specs.Reading.{Read, past}
use Rattle.policy_grammar.specs.Ranked.{Level, Ranked, Choice, Joint, step_of}
use Rattle.policy_rules.specs.KnownNames.{Names}
use Rattle.policy_values.specs.Levels.{with_step, side_link, side_at}
use Rattle.policy_values.specs.Operators.{step_at, join_of}
use Rattle.policy_values.specs.Parts.{PartsValue, sides_onto, step_onto}
use Rattle.policy_values.proofs.Chains.{LeadsTo, goes_on}

module _ (bytes : List ℕ) (net : PlainNet) (known : Names) where
  -- an operator with its right side
  abbrev pub link_at : Level → ℕ → Lexeme → PartsValue → List Lexeme → Read PartsValue
  link_at level depth = side_link (step_onto bytes net known) level (side_at (step_onto bytes net known) level depth)

  step_done : (level : Level) (joint : Lexeme) (place : Place) (v : PartsValue) → place ≡ joint.place
      → sides_onto (step_at level place) (join_of level) v ≡ step_onto bytes net known (step_of level joint) v
  step_done Ranked joint place v is = rw is refl
  step_done Choice joint place v is = refl
  step_done Joint joint place v is = refl

  -- the side is read, and then its operator's step is done
  pub side_on : (level : Level) (depth : ℕ) (symbol : Symbol) (so_far x next : PartsValue) (joint : Lexeme) (place : Place) (ls rest after : List Lexeme) (total : Read PartsValue)
      → place ≡ joint.place → past symbol ls ≡ Some (joint, rest) → side_at (step_onto bytes net known) level depth so_far rest ≡ Ok (x, after)
      → (let done : Result PartsValue PolicyFault = Ok (sides_onto (step_at level place) (join_of level) x) in done ≡ Ok next)
      → length after < length ls → LeadsTo symbol (link_at level depth) so_far ls total → LeadsTo symbol (link_at level depth) next after total
  side_on level depth symbol so_far x next joint place ls rest after total here_is here read done fewer lead =
      let act = step_onto bytes net known in
      let linked : link_at level depth joint so_far rest ≡ Ok (next, after) =
      ap (with_step act (step_of level joint)) read
      ∙ ap (λ (v : PartsValue). let r : Read PartsValue = Ok (v, after) in r) (sym (step_done level joint place x here_is))
      ∙ ap (λ (z : Result PartsValue PolicyFault). z >>= λ y. let r : Read PartsValue = Ok (y, after) in r) done in
      goes_on _ _ _ lead here linked fewer
