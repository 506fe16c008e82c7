-- Reading a call straight to its value gives what the call comes to that the grammar reads.
use Rattle.std.proofs.Common.{◌≡◌, ℕ, List, [], ◌∷◌, ◌<◌, length, Some, None, Result, Ok, Err, refl, sym, ap, ◌∙◌}
use Rattle.std.specs.Prelude.{⊤}
use Rattle.net_base.specs.declared.loc.LocSet.{LocSet}
use Rattle.net_base.specs.Network.{PlainNet}
use Rattle.net_base.specs.Gives.{GivesUnless}
use Rattle.net_base.specs.Steps.{◌>>=◌}
use Rattle.net_base.proofs.StepLemmas.{ok_same, ok_not_err}
use Rattle.policy_words.specs.declared.word.SetCall.{SetCall}
use Rattle.policy_base.specs.Policies.{call}
use Rattle.policy_tokens.specs.declared.fault.PolicyFault.{PolicyFault}
use Rattle.policy_tokens.specs.declared.fault.PolicyFault.TheVariants.{NoMemory, Syntax}
use Rattle.policy_grammar.specs.declared.lexeme.Lexeme.{Lexeme}
use Rattle.policy_grammar.specs.declared.symbol.Symbol.{Symbol}
use Rattle.policy_grammar.specs.declared.symbol.Symbol.TheVariants as symbol
use Rattle.policy_grammar.specs.Symbols.{number_of}
use Rattle.policy_grammar.proofs.Symbols.{call_before_end}
use Rattle.policy_grammar.specs.Raw.{Arg, RawCall, Step as step}
use Rattle.policy_words.specs.declared.word.CallWord.{CallWord}
use Rattle.policy_words.specs.declared.word.CallWord.TheVariants as word
use Rattle.policy_grammar.specs.Reading.{Read, after, chain}
use Rattle.policy_grammar.specs.Calls.{set_at, one_at, set_link, one_link, above_at, sets_call, link_call, path_call, word_of, call_behind, call_at}
use Rattle.policy_rules.specs.KnownNames.{Names}
use Rattle.policy_values.specs.Built.{set_of_arg, sets_of, link_of}
use Rattle.policy_values.specs.Reads.{over}
use Rattle.policy_values.specs.CallValues.{CallValue, call_value}
use Rattle.policy_values.specs.CallReaders.{PlacesValue, with_set, sets_value, placeless, linked, no_places, with_place, set_link as kept_link}
use Rattle.policy_values.specs.CallReaders.{one_behind, place_link, sets_read, link_read, path_value, path_read, behind_read, taken}
use Rattle.policy_values.specs.Levels.{call_step}
use Rattle.policy_values.specs.Parts.{PartsValue, call_onto, step_onto}
use Rattle.policy_values.proofs.ReadsOver.{over_step, over_read, over_links, read_same}
use Rattle.policy_values.proofs.SetLists.{sets_pushed}
use Rattle.policy_values.proofs.PathSets.{places_of, places_pushed, two_places, path_same}

-- the word of a call isn't the end of the text
pub call_inside : (s : Symbol) (w : CallWord) → word_of s ≡ Some w → number_of s < number_of symbol.EndOfText
call_inside (symbol.Call v) w is = call_before_end v
call_inside _ w is = absurd cc

linked_value : (a b : Result LocSet PolicyFault) → linked a b ≡ ((a >>= λ x. b >>= λ y. Ok (x ∷ y ∷ [])) >>= λ sets. Ok (call (link_of sets)))
linked_value (Err e) b = refl
linked_value (Ok x) (Err e) = refl
linked_value (Ok x) (Ok y) = refl

module _ (bytes : List ℕ) (net : PlainNet) (known : Names) where
  abbrev sets_in : List Arg → Result (List LocSet) PolicyFault
  sets_in = sets_of bytes net known []

  set_linked : (l : Lexeme) (args : List Arg) (ls : List Lexeme) → kept_link bytes net known l (sets_in args) ls ≡ over sets_in (set_link l args ls)
  set_linked l args ls =
      over_read (set_of_arg bytes net known) sets_in (set_at ls) _ _
      (λ x. ap (λ (sets : Result (List LocSet) PolicyFault). let y : Read (Result (List LocSet) PolicyFault) = Ok (sets, x.1) in y) (sym (sets_pushed bytes net known [] args x.0)))

  place_linked : (l : Lexeme) (args : List Arg) (ls : List Lexeme) → place_link bytes net known l (places_of bytes net known args) ls ≡ over (places_of bytes net known) (one_link l args ls)
  place_linked l args ls =
      over_read (set_of_arg bytes net known) (places_of bytes net known) (one_at ls) _ _ (λ x. rw (places_pushed bytes net known args x.0) refl)

  sets_same : (c : SetCall) (ls : List Lexeme) → sets_read bytes net known c ls ≡ over (call_value bytes net known) (sets_call c ls)
  unfolding sets_read sets_call
  sets_same c ls =
      over_step (call_value bytes net known) (after symbol.RoundOpen ls) _ _ (λ inside.
      over_read (set_of_arg bytes net known) (call_value bytes net known) (set_at inside) _ _ (λ x.
      over_links sets_in (call_value bytes net known) symbol.Above set_link (kept_link bytes net known) set_linked (length x.1) (x.0 ∷ []) _ x.1
      (sym (sets_pushed bytes net known [] [] x.0)) _ _ (λ sets.
      over_step (call_value bytes net known) (after symbol.RoundClose sets.1) _ _ (λ rest. refl))))

  -- behind a place
  over_one : (s : Symbol) (ls : List Lexeme) (k : Result LocSet PolicyFault × List Lexeme → Read CallValue) (k' : Arg × List Lexeme → Read RawCall)
      → ((x : Arg × List Lexeme) → k (set_of_arg bytes net known x.0, x.1) ≡ over (call_value bytes net known) (k' x))
      → (one_behind bytes net known s ls >>= k) ≡ over (call_value bytes net known) (after s ls >>= λ rest. one_at rest >>= k')
  over_one s ls k k' same = by (after s ls)
    where
      by : (r : Result (List Lexeme) PolicyFault)
          → ((r >>= λ rest. over (set_of_arg bytes net known) (one_at rest)) >>= k) ≡ over (call_value bytes net known) (r >>= λ rest. one_at rest >>= k')
      by (Ok rest) = over_read (set_of_arg bytes net known) (call_value bytes net known) (one_at rest) k k' same
      by (Err e) = refl

  link_same : (ls : List Lexeme) → link_read bytes net known ls ≡ over (call_value bytes net known) (link_call ls)
  unfolding link_read link_call
  link_same ls =
      over_one symbol.RoundOpen ls _ _ (λ a.
      over_one symbol.Comma a.1 _ _ (λ b.
      over_step (call_value bytes net known) (after symbol.RoundClose b.1) _ _ (λ rest.
      rw (linked_value (set_of_arg bytes net known a.0) (set_of_arg bytes net known b.0)) refl)))

  path_read_same : (ls : List Lexeme) → path_read bytes net known ls ≡ over (call_value bytes net known) (path_call ls)
  unfolding path_read path_call
  path_read_same ls =
      over_one symbol.RoundOpen ls _ _ (λ a.
      over_one symbol.Comma a.1 _ _ (λ b.
      over_links (places_of bytes net known) (call_value bytes net known) symbol.Comma one_link (place_link bytes net known) place_linked (length b.1)
      (a.0 ∷ b.0 ∷ []) _ b.1 (two_places bytes net known a.0 b.0) _ _ (λ sets.
      over_step (call_value bytes net known) (after symbol.RoundClose sets.1) _ _ (λ rest.
      read_same _ _ rest (path_same bytes net known sets.0)))))

  -- ranked sets whose first set was read, by what stands behind it
  pub sets_begun : (c : SetCall) (ls inside rest : List Lexeme) (set : Result LocSet PolicyFault) (none first : Result (List LocSet) PolicyFault) (r : Read CallValue)
      → after symbol.RoundOpen ls ≡ Ok inside → over (set_of_arg bytes net known) (set_at inside) ≡ Ok (set, rest) → none ≡ Ok []
      → (let made : Result (Result (List LocSet) PolicyFault) PolicyFault = Ok (with_set none set) in made ≡ Ok first)
      → (chain symbol.Above (kept_link bytes net known) (length rest) first rest >>= λ all.
      after symbol.RoundClose all.1 >>= λ behind. Ok (placeless (above_at rest) (sets_value c all.0), behind)) ≡ r
      → sets_read bytes net known c ls ≡ r
  unfolding sets_read
  sets_begun c ls inside rest set none first r opens one empty made behind =
      let sets = ap (λ (z : Result (List LocSet) PolicyFault). with_set z set) (sym empty) ∙ ok_same _ _ made in
      rw (opens, one, sets) behind

  -- a `link` whose two places were read, by what stands behind them
  pub link_begun : (ls first both : List Lexeme) (a b : Result LocSet PolicyFault) (r : Read CallValue)
      → one_behind bytes net known symbol.RoundOpen ls ≡ Ok (a, first) → one_behind bytes net known symbol.Comma first ≡ Ok (b, both)
      → (after symbol.RoundClose both >>= λ rest. Ok (placeless None (linked a b), rest)) ≡ r
      → link_read bytes net known ls ≡ r
  unfolding link_read
  link_begun ls first both a b r one other behind = rw (one, other) behind

  -- a `path` whose first two places were read, by what stands behind them
  pub path_begun : (ls first both : List Lexeme) (a b : Result LocSet PolicyFault) (none one two : PlacesValue) (r : Read CallValue)
      → one_behind bytes net known symbol.RoundOpen ls ≡ Ok (a, first) → one_behind bytes net known symbol.Comma first ≡ Ok (b, both)
      → none ≡ no_places
      → (let made : Result PlacesValue PolicyFault = Ok (with_place none a) in made ≡ Ok one) → (let made : Result PlacesValue PolicyFault = Ok (with_place one b) in made ≡ Ok two)
      → (chain symbol.Comma (place_link bytes net known) (length both) two both >>= λ places. after symbol.RoundClose places.1 >>= λ rest. Ok (path_value places.0, rest)) ≡ r
      → path_read bytes net known ls ≡ r
  unfolding path_read
  path_begun ls first both a b none one two r here there empty made more behind =
      let two_made = ap (λ (p : PlacesValue). with_place p b) (ap (λ (p : PlacesValue). with_place p a) (sym empty) ∙ ok_same _ _ made) ∙ ok_same _ _ more in
      rw (here, there, two_made) behind

  behind_same : (w : CallWord) (ls : List Lexeme) → behind_read bytes net known w ls ≡ over (call_value bytes net known) (call_behind w ls)
  behind_same word.Any ls = refl
  behind_same word.Drop ls = refl
  behind_same word.Internal ls = refl
  behind_same word.Link ls = link_same ls
  behind_same word.Path ls = path_read_same ls
  behind_same (word.Of c) ls = sets_same c ls

  called : (r : Read RawCall) (v : PartsValue) → (r >>= λ x. Ok (step_onto bytes net known (step.Call x.0) v, x.1)) ≡ taken (over (call_value bytes net known) r) v
  called (Ok x) v = refl
  called (Err e) v = refl

  -- a call: its word and what stands behind it
  pub call_begun : (l : Lexeme) (ls : List Lexeme) (w : CallWord) (v : PartsValue) → word_of l.symbol ≡ Some w
      → call_step (step_onto bytes net known) v (l ∷ ls) ≡ taken (behind_read bytes net known w ls) v
  unfolding call_at
  call_begun l ls w v is = called (call_at (l ∷ ls)) v ∙ rw is (ap (λ (r : Read CallValue). taken r v) (sym (behind_same w ls)))

  -- no call begins with it
  pub no_call : (l : Lexeme) (ls : List Lexeme) (v : PartsValue) → word_of l.symbol ≡ None → call_step (step_onto bytes net known) v (l ∷ ls) ≡ Err (Syntax l.place)
  unfolding call_at
  no_call l ls v is = rw is refl

-- what a call comes to, on what was read before it
pub taken_ok : (v w : PartsValue) (r : Result ⊤ PolicyFault) (read : Read CallValue) (y : CallValue) (rest : List Lexeme)
    → read ≡ Ok (y, rest) → GivesUnless NoMemory (λ (_ : ⊤). w) r (Ok (call_onto y v)) → GivesUnless {Y = PartsValue × List Lexeme} NoMemory (λ (_ : ⊤). (w, rest)) r (taken read v)
taken_ok v w (Ok x) read y rest is done = ap (λ (z : Read CallValue). taken z v) is ∙ read_same _ _ rest (ok_same _ _ done)
taken_ok v w (Err e) read y rest is done = λ memory. absurd (ok_not_err _ e (done memory))

pub taken_err : (v : PartsValue) (read : Read CallValue) (e : PolicyFault) → read ≡ Err e → taken read v ≡ Err e
taken_err v read e is = ap (λ (z : Read CallValue). taken z v) is

-- a value of which nothing but the rest was still to be read
pub valued : {A : Type 0} (x : A) (read : Result (List Lexeme) PolicyFault) (rest : List Lexeme) (r : Result ⊤ PolicyFault)
    → GivesUnless NoMemory (λ (_ : ⊤). rest) r read → GivesUnless {Y = A × List Lexeme} NoMemory (λ (_ : ⊤). (x, rest)) r (read >>= λ q. Ok (x, q))
valued {A} x read rest (Ok t) h = ap (λ (z : Result (List Lexeme) PolicyFault). z >>= λ q. let y : Read A = Ok (x, q) in y) h
valued {A} x read rest (Err e) h = λ memory. ap (λ (z : Result (List Lexeme) PolicyFault). z >>= λ q. let y : Read A = Ok (x, q) in y) (h memory)
