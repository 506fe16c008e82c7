-- The items of a text that are read one after the other, each with the names above it, as a loop does.
use Rattle.std.proofs.Common.{◌≡◌, ℕ, ◌<◌, List, [], ◌∷◌, ◌++◌, length, true, false, Result, Ok, Err, refl, sym, subst, arith}
use Rattle.std.specs.Prelude.{◌==◌, ◌≢◌}
use Rattle.net_base.specs.Network.{PlainNet}
use Rattle.policy_tokens.specs.declared.fault.PolicyFault.{PolicyFault}
use Rattle.policy_tokens.specs.declared.fault.PolicyFault.TheVariants.{NoMemory}
use Rattle.policy_grammar.specs.declared.lexeme.Lexeme.{Lexeme}
use Rattle.policy_grammar.specs.Raw.{Item}
use Rattle.policy_grammar.specs.declared.symbol.Symbol.TheVariants.{EndOfText}
use Rattle.policy_grammar.specs.Symbols.{number_of}
use Rattle.policy_grammar.specs.Items.{item_at, items_of}
use Rattle.policy_rules.specs.KnownNames.{Names}
use Rattle.policy_rules.specs.KnownView.{plain_names}
use Rattle.policy_parser.specs.declared.values.ItemRead.{ItemRead}
use Rattle.policy_parser.specs.declared.verdicts.Verdicts.{Verdicts}
use Rattle.policy_parser.specs.ItemValues.{IsItem, ReadsItem}
use Rattle.policy_parser.specs.SoFar.{IsSoFar, ReadsItems}
use Rattle.policy_parser.specs.Spelled.{items_spelled, spelled}
use Rattle.policy_parser.proofs.ItemLoop.{LeadsTo, goes_on, stops, ends}

-- The items so far, of which this is known, lead to all items.
abbrev pub TakesTo : List ℕ → PlainNet → Verdicts → List Lexeme → Result (List Item) PolicyFault → Type 0
TakesTo bytes net v ls total = (items : List Item) × LeadsTo items ls total × IsSoFar bytes net items v

pub starts : (bytes : List ℕ) (net : PlainNet) (v : Verdicts) (ls all : List Lexeme) → ls ≡ all → IsSoFar bytes net [] v → TakesTo bytes net v ls (items_of all)
starts bytes net v ls all same none = ([], rw same (length all, omega arith, refl), none)

-- one item more
pub takes_on : (bytes : List ℕ) (net of : PlainNet) (v next : Verdicts) (known : Names) (l : Lexeme) (ls rest : List Lexeme) (i : ItemRead) (total : Result (List Item) PolicyFault)
    → of ≡ net → known ≡ plain_names v.told.known → (number_of l.symbol == number_of EndOfText) ≡ false → ReadsItem bytes of known (l ∷ ls) rest (Ok i) → length rest < length (l ∷ ls)
    → ((n : PlainNet) (items : List Item) (x : Item) → IsSoFar bytes n items v → IsItem bytes n (plain_names v.told.known) x i → IsSoFar bytes n (items ++ x ∷ []) next)
    → TakesTo bytes net v (l ∷ ls) total → TakesTo bytes net next rest total
takes_on bytes net of v next known l ls rest i total same names goes (x, read, is) fewer taken (items, lead, so_far) =
    let here : IsItem bytes net (plain_names v.told.known) x i = subst (λ (n : PlainNet). IsItem bytes n (plain_names v.told.known) x i) same (subst (λ (k : Names). IsItem bytes of k x i) names is) in
    (items ++ x ∷ [], goes_on items l ls x rest total goes read fewer lead, taken net items x so_far here)

-- no item
pub takes_no_more : (bytes : List ℕ) (net : PlainNet) (v : Verdicts) (l : Lexeme) (ls : List Lexeme) (e : PolicyFault) (total : Result (List Item) PolicyFault)
    → (number_of l.symbol == number_of EndOfText) ≡ false → (e ≢ NoMemory → item_at (l ∷ ls) ≡ Err e) → TakesTo bytes net v (l ∷ ls) total → ReadsItems bytes net total (Err e)
takes_no_more bytes net v l ls e total goes read (items, lead, so_far) = λ memory. stops items l ls e total goes (read memory) lead

-- the end of the text
pub takes_all : (bytes : List ℕ) (net : PlainNet) (v : Verdicts) (l : Lexeme) (ls : List Lexeme) (total : Result (List Item) PolicyFault)
    → (number_of l.symbol == number_of EndOfText) ≡ true → TakesTo bytes net v (l ∷ ls) total → ReadsItems bytes net total (Ok v)
takes_all bytes net v l ls total here (items, lead, so_far) = (items, ends items l ls total here lead, so_far)

-- what is read of one text is so of the whole
pub reads_same : (bytes : List ℕ) (net : PlainNet) (read whole : Result (List Item) PolicyFault) (r : Result Verdicts PolicyFault) → whole ≡ read
    → ReadsItems bytes net read r → ReadsItems bytes net whole r
reads_same bytes net read whole r same is = subst (λ (z : Result (List Item) PolicyFault). ReadsItems bytes net z r) (sym same) is

-- a text with no items spells no policy
pub unread : (bytes : List ℕ) (net : PlainNet) (e : PolicyFault) → items_spelled bytes ≡ Err e → spelled net bytes ≡ Err e
unfolding spelled
unread bytes net e h = rw h refl
