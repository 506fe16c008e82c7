-- The values that the items of a policy stand for.
use Rattle.std.specs.Prelude.{ℕ, List, [], ◌∷◌, ◌++◌, map, Result, Ok}
use Rattle.net_base.specs.declared.loc.LocSet.{LocSet}
use Rattle.net_base.specs.Network.{PlainNet}
use Rattle.net_base.specs.Prefixes.{PlainPattern}
use Rattle.net_base.specs.Steps.{◌>>=◌}
use Rattle.policy_tokens.specs.declared.fault.PolicyFault.{PolicyFault}
use Rattle.policy_grammar.specs.declared.lexeme.Lexeme.{Lexeme}
use Rattle.policy_grammar.specs.Raw.{Arg, Arg as arg, RawPattern, RawStatement, Step, Step as step, Item}
use Rattle.policy_words.specs.declared.word.CallWord.{CallWord}
use Rattle.policy_words.specs.declared.word.CallWord.TheVariants as word
use Rattle.policy_grammar.specs.Raw.Item.{Define, Originate, State}
use Rattle.net_base.specs.NetSets.{locations}
use Rattle.policy_rules.specs.KnownNames.{Names}
use Rattle.policy_rules.specs.Checks.{set_of_names}
use Rattle.policy_rules.specs.Figures.{prefix_at, pattern_at}
use Rattle.policy_words.specs.declared.word.SetCall.{SetCall}
use Rattle.policy_base.specs.declared.call.Call.{Call}
use Rattle.policy_base.specs.declared.call.Call.TheVariants.{Any, Drop, Internal, Link, Path, Of}
use Rattle.policy_base.specs.declared.policy.FromSet.{FromSet}
use Rattle.policy_base.specs.declared.policy.FromSet.TheVariants as from_set
use Rattle.policy_base.specs.declared.policy.Origin.{Origin}
use Rattle.policy_base.specs.Policies.{Ranking, call, calls, prefer, either, both, negated, PlainStatement}

-- `any` in a set is all locations
abbrev pub set_of_arg : List ℕ → PlainNet → Names → Arg → Result LocSet PolicyFault
set_of_arg bytes net known arg.Any = Ok (locations net)
set_of_arg bytes net known (arg.Names names) = set_of_names bytes known names

-- the sets so far, and those of some arguments
abbrev pub sets_of : List ℕ → PlainNet → Names → List LocSet → List Arg → Result (List LocSet) PolicyFault
sets_of bytes net known so_far [] = Ok so_far
sets_of bytes net known so_far (a ∷ as') = do
  s ← set_of_arg bytes net known a
  sets_of bytes net known (so_far ++ s ∷ []) as'

-- a call with ranked sets: with one set it is that call
abbrev pub ranked_sets : SetCall → List LocSet → Ranking
ranked_sets c (s ∷ []) = call (Of c s)
ranked_sets c sets = calls (map (Of c) sets)

-- a `link` has two sets
abbrev pub link_of : List LocSet → Call
link_of (a ∷ b ∷ []) = Link a b
link_of _ = Drop

-- a call with these sets
abbrev pub call_of : CallWord → List LocSet → Ranking
call_of word.Any sets = call Any
call_of word.Drop sets = call Drop
call_of word.Internal sets = call Internal
call_of word.Link sets = call (link_of sets)
call_of word.Path sets = call (Path sets)
call_of (word.Of c) sets = ranked_sets c sets

-- the expression on top of a stack, and those under it
abbrev pub top : List Ranking → Ranking
top [] = call Drop
top (r ∷ rs) = r

abbrev pub under_top : List Ranking → List Ranking
under_top [] = []
under_top (r ∷ rs) = rs

-- The expressions on the stack, the last one on top, behind a step: an operator takes its sides from the stack, and
-- puts what it makes of them there.
abbrev pub behind : List ℕ → PlainNet → Names → Step → List Ranking → Result (List Ranking) PolicyFault
behind bytes net known (step.Call c) rs = do
  sets ← sets_of bytes net known [] c.args
  Ok (call_of c.word sets ∷ rs)
behind bytes net known (step.Above p) rs = Ok (prefer (top (under_top rs)) (top rs) ∷ under_top (under_top rs))
behind bytes net known step.Or rs = Ok (either (top (under_top rs)) (top rs) ∷ under_top (under_top rs))
behind bytes net known step.And rs = Ok (both (top (under_top rs)) (top rs) ∷ under_top (under_top rs))
behind bytes net known step.Not rs = Ok (negated (top rs) ∷ under_top rs)

abbrev pub all_behind : List ℕ → PlainNet → Names → List Ranking → List Step → Result (List Ranking) PolicyFault
all_behind bytes net known rs [] = Ok rs
all_behind bytes net known rs (s ∷ ss) = do
  next ← behind bytes net known s rs
  all_behind bytes net known next ss

-- the expression whose steps stand in postfix order
unfoldable pub ranking_of_steps : List ℕ → PlainNet → Names → List Step → Result Ranking PolicyFault
ranking_of_steps bytes net known steps = do
  rs ← all_behind bytes net known [] steps
  Ok (top rs)

-- the patterns so far, and those of a statement
abbrev pub patterns_of : List ℕ → List PlainPattern → List RawPattern → Result (List PlainPattern) PolicyFault
patterns_of bytes so_far [] = Ok so_far
patterns_of bytes so_far (p ∷ ps) = do
  q ← pattern_at bytes p
  patterns_of bytes (so_far ++ q ∷ []) ps

-- `from any` is no named list
abbrev pub from_of : List ℕ → Names → Arg → Result FromSet PolicyFault
from_of bytes known arg.Any = Ok from_set.Any
from_of bytes known (arg.Names names) = do
  s ← set_of_names bytes known names
  Ok (from_set.Named s)

unfoldable pub statement_of : List ℕ → PlainNet → Names → RawStatement → Result PlainStatement PolicyFault
statement_of bytes net known s = do
  patterns ← patterns_of bytes [] s.patterns
  ranked ← ranking_of_steps bytes net known s.ranked
  from ← from_of bytes known s.from
  Ok (record { patterns = patterns; ranked = ranked; from = from })

-- the statements so far, and those of some items
abbrev pub statements_of : List ℕ → PlainNet → Names → List PlainStatement → List Item → Result (List PlainStatement) PolicyFault
statements_of bytes net known so_far [] = Ok so_far
statements_of bytes net known so_far (Define name members ∷ items) = statements_of bytes net known so_far items
statements_of bytes net known so_far (Originate prefix names ∷ items) = statements_of bytes net known so_far items
statements_of bytes net known so_far (State s ∷ items) = do
  t ← statement_of bytes net known s
  statements_of bytes net known (so_far ++ t ∷ []) items

unfoldable pub origin_of : List ℕ → Names → Lexeme → List Lexeme → Result Origin PolicyFault
origin_of bytes known prefix names = do
  p ← prefix_at bytes prefix
  s ← set_of_names bytes known names
  Ok (record { prefix = p; at = s })

-- the `originate` items so far, and those of some items
abbrev pub origins_of : List ℕ → Names → List Origin → List Item → Result (List Origin) PolicyFault
origins_of bytes known so_far [] = Ok so_far
origins_of bytes known so_far (Define name members ∷ items) = origins_of bytes known so_far items
origins_of bytes known so_far (State s ∷ items) = origins_of bytes known so_far items
origins_of bytes known so_far (Originate prefix names ∷ items) = do
  o ← origin_of bytes known prefix names
  origins_of bytes known (so_far ++ o ∷ []) items
