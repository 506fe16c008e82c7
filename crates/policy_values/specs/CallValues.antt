-- What calls come to.
use Rattle.std.specs.Prelude.{ℕ, List, [], Option, Result, Ok, ⊤, if◌then◌else◌}
use Rattle.std.specs.Result.{is_ok}
use Rattle.net_base.specs.declared.place.Place.{Place}
use Rattle.net_base.specs.Network.{PlainNet}
use Rattle.net_base.specs.Steps.{◌>>=◌}
use Rattle.policy_base.specs.declared.call.Call.TheVariants.{Drop}
use Rattle.policy_base.specs.declared.ranked.Ranked.{Ranked}
use Rattle.policy_base.specs.Policies.{Ranking, call, ranking_of}
use Rattle.policy_tokens.specs.declared.fault.PolicyFault.{PolicyFault}
use Rattle.policy_grammar.specs.Raw.{RawCall, Step as step}
use Rattle.policy_rules.specs.KnownNames.{Names}
use Rattle.policy_rules.specs.Checks.{each, arg_known}
use Rattle.policy_rules.specs.Counts.{places_within}
use Rattle.policy_values.specs.declared.call_values.CallRead.{CallRead}
use Rattle.policy_values.specs.Built.{sets_of, call_of}

-- What a call comes to: where its first `>>` stands, whether it is a `path` with too many places, and its value, or its
-- first unknown name.
pub record CallValue : Type 0 where
  pub above : Option Place
  pub places : Result ⊤ PolicyFault
  pub value : Result Ranking PolicyFault

-- the expression for which a value of the program stands, or the fault
abbrev pub plain_value : Result Ranked PolicyFault → Result Ranking PolicyFault
plain_value value = value >>= λ ranked. Ok (ranking_of ranked)

-- what the program read, with the expression for which its value stands
abbrev pub plain_call : CallRead → CallValue
plain_call read = record { above = read.above; places = read.places; value = plain_value read.value }

module _ (bytes : List ℕ) (net : PlainNet) (known : Names) where
  -- a `path` with too many places is refused, so of its places nothing is kept but whether their names are known
  abbrev pub value_of : RawCall → Result Ranking PolicyFault
  value_of c =
      if is_ok (places_within (step.Call c)) then (sets_of bytes net known [] c.args >>= λ sets. Ok (call_of c.word sets))
      else (each (arg_known bytes known) c.args >>= λ _. Ok (call Drop))

  abbrev pub call_value : RawCall → CallValue
  call_value c = record { above = c.above; places = places_within (step.Call c); value = value_of c }
