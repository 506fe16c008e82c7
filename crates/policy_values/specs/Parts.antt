-- What the parts of an expression come to, one after another.
use Rattle.std.specs.Prelude.{ℕ, ◌+◌, ◌&&◌, nat_le, Bool, true, false, List, [], ◌∷◌, reverse, None, Result, Ok, Err, ⊤, if◌then◌else◌}
use Rattle.policy_tokens.specs.declared.limits.TheConstants.{CALLS}
use Rattle.net_base.specs.Network.{PlainNet}
use Rattle.net_base.specs.Steps.{◌>>=◌}
use Rattle.policy_base.specs.Policies.{Ranking, prefer, either, both, negated}
use Rattle.policy_tokens.specs.declared.fault.PolicyFault.{PolicyFault}
use Rattle.policy_grammar.specs.Raw.{Step, Step as step}
use Rattle.policy_rules.specs.declared.ranks.Mark.{Mark}
use Rattle.policy_rules.specs.KnownNames.{Names}
use Rattle.policy_rules.specs.Counts.{capped}
use Rattle.policy_rules.specs.Ranks.{marks_behind}
use Rattle.policy_values.specs.declared.parts.Parts.{Parts}
use Rattle.policy_values.specs.Built.{top, under_top}
use Rattle.policy_values.specs.Views.{rankings}
use Rattle.policy_values.specs.CallValues.{CallValue, call_value}

-- The first unknown name, how many calls there are, the first `path` with too many places, and the marks and the
-- expressions on the stack, the last one on top.
pub record PartsValue : Type 0 where
  pub names : Result ⊤ PolicyFault
  pub calls : ℕ
  pub places : Result ⊤ PolicyFault
  pub marks : List Mark
  pub stack : List Ranking

abbrev pub parts_value : Parts → PartsValue
parts_value p = record { names = p.names; calls = p.calls; places = p.places; marks = reverse p.marks.items; stack = rankings p.stack.items }

-- no part
abbrev pub no_parts : PartsValue
no_parts = record { names = Ok tt; calls = 0; places = Ok tt; marks = []; stack = [] }

-- a verdict behind another one: the first fault stays
abbrev pub first_fault : Result ⊤ PolicyFault → Result ⊤ PolicyFault → Result ⊤ PolicyFault
first_fault r s = r >>= λ _. s

-- a verdict passes
abbrev pub passes : Result ⊤ PolicyFault → Bool
passes (Ok x) = true
passes (Err e) = false

-- the names are known, no `path` has too many places, and there are no more calls than a statement may have
abbrev pub is_kept : PartsValue → Bool
is_kept v = passes v.names && passes v.places && nat_le v.calls CALLS

-- of parts that are refused no expression is kept
abbrev pub settled : PartsValue → PartsValue
settled v = record v { stack = if is_kept v then v.stack else [] }

-- a call's value on a stack; there is none if a name is unknown
abbrev pub value_onto : Result Ranking PolicyFault → List Ranking → List Ranking
value_onto (Ok r) rs = r ∷ rs
value_onto (Err e) rs = rs

-- whether the names of a value are known
abbrev pub names_of : {A : Type 0} → Result A PolicyFault → Result ⊤ PolicyFault
names_of value = value >>= λ x. Ok tt

-- one call more
abbrev pub call_onto : CallValue → PartsValue → PartsValue
call_onto c v = settled (record {
  names = first_fault v.names (names_of c.value);
  calls = capped (v.calls + 1);
  places = first_fault v.places c.places;
  marks = record { first = c.above; broken = None } ∷ v.marks;
  stack = value_onto c.value v.stack;
})

-- what is made of the two expressions on top of a stack, in their place
abbrev pub joined_on_top : (Ranking → Ranking → Ranking) → List Ranking → List Ranking
joined_on_top join rs = join (top (under_top rs)) (top rs) ∷ under_top (under_top rs)

abbrev pub negated_on_top : List Ranking → List Ranking
negated_on_top rs = negated (top rs) ∷ under_top rs

-- an operator with two sides, which takes them from the stack
abbrev pub sides_onto : Step → (Ranking → Ranking → Ranking) → PartsValue → PartsValue
sides_onto s join v = settled (record v { marks = marks_behind s v.marks; stack = joined_on_top join v.stack })

-- `not`
abbrev pub not_onto : PartsValue → PartsValue
not_onto v = settled (record v { marks = marks_behind step.Not v.marks; stack = negated_on_top v.stack })

module _ (bytes : List ℕ) (net : PlainNet) (known : Names) where
  -- one part more
  abbrev pub step_onto : Step → PartsValue → PartsValue
  step_onto (step.Call c) v = call_onto (call_value bytes net known c) v
  step_onto (step.Above p) v = sides_onto (step.Above p) prefer v
  step_onto step.Or v = sides_onto step.Or either v
  step_onto step.And v = sides_onto step.And both v
  step_onto step.Not v = not_onto v

  abbrev pub parts_from : PartsValue → List Step → PartsValue
  parts_from v [] = v
  parts_from v (s ∷ ss) = parts_from (step_onto s v) ss

  -- all parts of an expression
  abbrev pub parts_of : List Step → PartsValue
  parts_of steps = parts_from no_parts steps
