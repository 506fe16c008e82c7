-- The names that are known stand for locations of the network.
use Rattle.std.proofs.Common.{◌≡◌, ℕ, ◌+◌, ◌<◌, ◌≤◌, List, [], ◌∷◌, length, Bool, true, false, Option, Some, None, Ok, subst, arith}
use Rattle.std.specs.Prelude.{slice_get, if◌then◌else◌}
use Rattle.std.specs.List.{AllByRecursion, position}
use Rattle.std.specs.Str.{bytes_eq}
use Rattle.std.proofs.lemmas.Option.{option_and_then_some}
use Rattle.list_law.proofs.Each.{AllByRecursion-push, AllByRecursion_at}
use Rattle.net_base.specs.declared.loc.LocSet.{LocSet}
use Rattle.net_base.specs.declared.net.Site.{Site}
use Rattle.net_base.specs.declared.place.Place.{Place}
use Rattle.net_base.specs.Network.{PlainNet}
use Rattle.net_base.specs.Steps.{◌>>=◌}
use Rattle.net_base.proofs.StepLemmas.{bind_ok, or_fault_ok}
use Rattle.policy_tokens.specs.declared.fault.PolicyFault.TheVariants.{Unknown, Twice}
use Rattle.policy_grammar.specs.declared.lexeme.Lexeme.{Lexeme}
use Rattle.policy_grammar.specs.Raw.{Item}
use Rattle.policy_grammar.specs.Raw.Item.{Define, Originate, State}
use Rattle.net_base.specs.SetOperations.{no_location, with_location, union_of}
use Rattle.policy_rules.specs.KnownNames.{Names, set_named, is_known, with_name, with_new_name, with_sites, net_names, with_group, first_place}
use Rattle.policy_rules.specs.Checks.{text, set_at, joined, set_of_names, each, name_known, arg_known, step_known, learnt, all_learnt}
use Rattle.policy_parser.specs.Spelled.{names_spelled, none_at}
use Rattle.net_base.proofs.HeldSets.{AreBelow, none_held, one_held, union_below}

-- each name stands for locations below a number
abbrev pub NamesBelow : ℕ → Names → Type 0
NamesBelow n known = AllByRecursion (AreBelow n) known.sets

-- ---- lists of names

named_below : (n : ℕ) (known : Names) (name : List ℕ) (s : LocSet) → NamesBelow n known → set_named known name ≡ Some s → AreBelow n s
named_below n known name s below found =
    option_and_then_some (slice_get known.sets) (position (bytes_eq name) known.names) s found (λ i at here. AllByRecursion_at (AreBelow n) known.sets i s below here)

pub set_at_below : (bytes : List ℕ) (n : ℕ) (known : Names) (l : Lexeme) (s : LocSet) → NamesBelow n known → set_at bytes known l ≡ Ok s → AreBelow n s
unfolding set_at
set_at_below bytes n known l s below found = named_below n known (text bytes l) s below (or_fault_ok (Unknown l.place) (set_named known (text bytes l)) s found)

-- the set that a name stands for has locations below a number alone
abbrev pub StandsBelow : List ℕ → Names → ℕ → Lexeme → Type 0
StandsBelow bytes known n l = (s : LocSet) → set_at bytes known l ≡ Ok s → AreBelow n s

joined_below : (bytes : List ℕ) (n : ℕ) (known : Names) (so_far s : LocSet) (ls : List Lexeme) → AreBelow n so_far
    → AllByRecursion (StandsBelow bytes known n) ls → joined bytes known so_far ls ≡ Ok s → AreBelow n s
joined_below bytes n known so_far s [] before all e = let same : so_far ≡ s = cc in subst (AreBelow n) same before
joined_below bytes n known so_far s (l ∷ ls) before all e =
    let b = bind_ok (set_at bytes known l) (λ t. joined bytes known (union_of so_far t) ls) s e in
    joined_below bytes n known (union_of so_far b.0) s ls (union_below n so_far b.0 before (all.0 b.0 b.1)) all.1 b.2

-- a list of such names stands for such locations
pub set_below : (bytes : List ℕ) (n : ℕ) (known : Names) (s : LocSet) (ls : List Lexeme) → AllByRecursion (StandsBelow bytes known n) ls → set_of_names bytes known ls ≡ Ok s → AreBelow n s
set_below bytes n known s ls all e = joined_below bytes n known no_location s ls (λ l h. absurd (none_held l h)) all e

all_stand : (bytes : List ℕ) (n : ℕ) (known : Names) (ls : List Lexeme) → NamesBelow n known → AllByRecursion (StandsBelow bytes known n) ls
all_stand bytes n known [] below = tt
all_stand bytes n known (l ∷ ls) below = (λ s e. set_at_below bytes n known l s below e, all_stand bytes n known ls below)

-- ---- one name more

name_more : (n : ℕ) (known : Names) (name : List ℕ) (s : LocSet) (b : Bool) → NamesBelow n known → AreBelow n s → NamesBelow n (if b then known else with_name known name s)
name_more n known name s true below here = below
name_more n known name s false below here = AllByRecursion-push (AreBelow n) known.sets s below here

group_more : (n : ℕ) (known : Names) (place : Option Place) (name : List ℕ) (s : LocSet) (b : Bool) → NamesBelow n known → AreBelow n s
    → NamesBelow n (if b then record { names = known.names; sets = known.sets; twice = place } else with_name known name s)
group_more n known place name s true below here = below
group_more n known place name s false below here = AllByRecursion-push (AreBelow n) known.sets s below here

-- ---- the names of the network

one_below : (l n : ℕ) → l < n → AreBelow n (with_location no_location l)
one_below l n low m h = omega (arith, low, one_held l m h)

sites_below : (n l : ℕ) (xs : List Site) (known : Names) → l + length xs ≤ n → NamesBelow n known → NamesBelow n (with_sites l xs known)
sites_below n l [] known room below = below
sites_below n l (x ∷ xs) known room below =
    let s : LocSet = with_location no_location l in
    sites_below n (l + 1) xs (with_new_name known x.name s) (omega (arith, room)) (name_more n known x.name s (is_known known x.name) below (one_below l n (omega (arith, room))))

net_below : (net : PlainNet) → NamesBelow (length net.routers + length net.peers) (net_names net)
net_below net =
    let n : ℕ = length net.routers + length net.peers in
    let empty : Names = record { names = []; sets = []; twice = None } in
    sites_below n (length net.routers) net.peers (with_sites 0 net.routers empty) (omega arith) (sites_below n 0 net.routers empty (omega arith) tt)

-- ---- the names of the groups

learnt_below : (bytes : List ℕ) (n : ℕ) (known next : Names) (item : Item) → NamesBelow n known → learnt bytes known item ≡ Ok next → NamesBelow n next
learnt_below bytes n known next (Define name members) below e =
    let b = bind_ok (set_of_names bytes known members) (λ s. Ok (with_group known name.place (text bytes name) s)) next e in
    let same : with_group known name.place (text bytes name) b.0 ≡ next = cc in
    subst (NamesBelow n) same
    (group_more n known (first_place known.twice name.place) (text bytes name) b.0 (is_known known (text bytes name)) below
    (set_below bytes n known b.0 members (all_stand bytes n known members below) b.1))
learnt_below bytes n known next (Originate prefix names) below e =
    let b = bind_ok (each (name_known bytes known) names) (λ _. Ok known) next e in
    let same : known ≡ next = cc in
    subst (NamesBelow n) same below
learnt_below bytes n known next (State s) below e =
    let a = bind_ok (each (step_known bytes known) s.ranked) (λ _. arg_known bytes known s.from >>= λ _. Ok known) next e in
    let b = bind_ok (arg_known bytes known s.from) (λ _. Ok known) next a.2 in
    let same : known ≡ next = cc in
    subst (NamesBelow n) same below

all_below : (bytes : List ℕ) (n : ℕ) (known last : Names) (items : List Item) → NamesBelow n known → all_learnt bytes known items ≡ Ok last → NamesBelow n last
all_below bytes n known last [] below e = let same : known ≡ last = cc in subst (NamesBelow n) same below
all_below bytes n known last (item ∷ items) below e =
    let b = bind_ok (learnt bytes known item) (λ next. all_learnt bytes next items) last e in
    all_below bytes n b.0 last items (learnt_below bytes n known b.0 item below b.1) b.2

-- each name that a text may use stands for locations of the network
pub names_below : (bytes : List ℕ) (net : PlainNet) (known : Names) (items : List Item) → names_spelled bytes net items ≡ Ok known → NamesBelow (length net.routers + length net.peers) known
unfolding names_spelled
names_below bytes net known items e =
    let a = bind_ok (all_learnt bytes (net_names net) items) (λ k. none_at Twice k.twice >>= λ _. Ok k) known e in
    let b = bind_ok (none_at Twice a.0.twice) (λ _. Ok a.0) known a.2 in
    let same : a.0 ≡ known = cc in
    subst (NamesBelow (length net.routers + length net.peers)) same (all_below bytes (length net.routers + length net.peers) (net_names net) a.0 items (net_below net) a.1)
