-- Where ranks may stand.
use Rattle.std.specs.Prelude.{List, [], ◌∷◌, Option, Some, None, Result, Ok, Err, ⊤}
use Rattle.net_base.specs.declared.place.Place.{Place}
use Rattle.policy_tokens.specs.declared.fault.PolicyFault.{PolicyFault}
use Rattle.policy_tokens.specs.declared.fault.PolicyFault.TheVariants.{RankUnder}
use Rattle.policy_grammar.specs.Raw.{Step, Item}
use Rattle.policy_grammar.specs.Raw.Step.{Call, Above, Or, And, Not}
use Rattle.policy_grammar.specs.Raw.Item.{Define, Originate, State}
use Rattle.policy_rules.specs.declared.ranks.Mark.{Mark}

-- the first of two places, of which the left one stands further ahead
abbrev pub earlier : Option Place → Option Place → Option Place
earlier (Some p) q = Some p
earlier None q = q

abbrev pub no_mark : Mark
no_mark = record { first = None; broken = None }

-- the top of a stack, and what lies under it
abbrev pub top : List Mark → Mark
top [] = no_mark
top (m ∷ ms) = m

abbrev pub under_top : List Mark → List Mark
under_top [] = []
under_top (m ∷ ms) = ms

-- `a >> b`
abbrev pub above_mark : Place → Mark → Mark → Mark
above_mark p a b = record { first = earlier a.first (Some p); broken = earlier a.broken b.broken }

-- `a or b`: each `>>` in it stands under this `or`
abbrev pub or_mark : Mark → Mark → Mark
or_mark a b = record { first = earlier a.first b.first; broken = earlier a.first b.first }

-- `a and b`
abbrev pub and_mark : Mark → Mark → Mark
and_mark a b = record { first = earlier a.first b.first; broken = earlier a.broken b.broken }

-- `not a`: each `>>` in it stands under this `not`
abbrev pub not_mark : Mark → Mark
not_mark a = record { first = a.first; broken = a.first }

-- the marks of the expressions that lie on the stack, the last one on top, behind a step
abbrev pub marks_behind : Step → List Mark → List Mark
marks_behind (Call c) ms = record { first = c.above; broken = None } ∷ ms
marks_behind (Above p) ms = above_mark p (top (under_top ms)) (top ms) ∷ under_top (under_top ms)
marks_behind Or ms = or_mark (top (under_top ms)) (top ms) ∷ under_top (under_top ms)
marks_behind And ms = and_mark (top (under_top ms)) (top ms) ∷ under_top (under_top ms)
marks_behind Not ms = not_mark (top ms) ∷ under_top ms

abbrev pub marks_of : List Mark → List Step → List Mark
marks_of ms [] = ms
marks_of ms (s ∷ ss) = marks_of (marks_behind s ms) ss

-- where the first `>>` of an expression stands that is under an `or` or a `not`
abbrev pub broken_rank : List Step → Option Place
broken_rank steps = (top (marks_of [] steps)).broken

-- the fault at this place, if there is one
abbrev pub or_broken : Option Place → Result ⊤ PolicyFault
or_broken (Some p) = Err (RankUnder p)
or_broken None = Ok tt

-- no `>>` of an item stands under an `or` or a `not`
abbrev pub ranks_fine : Item → Result ⊤ PolicyFault
ranks_fine (Define name members) = Ok tt
ranks_fine (Originate prefix names) = Ok tt
ranks_fine (State s) = or_broken (broken_rank s.ranked)
