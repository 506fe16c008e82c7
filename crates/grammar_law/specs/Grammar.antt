-- The grammar of policies, apart from what reads it: a type for each rule, a case for each alternative, and in each
-- case what is demanded in the order of the text. A rule holds between what is written and the tokens that it is
-- written as. The names and figures of what is written are tokens themselves, with their places. There is no limit on
-- brackets.
use Rattle.std.specs.Prelude.{◌≡◌, List, [], ◌∷◌, ◌++◌, Option, Some, None}
use Rattle.net_base.specs.declared.place.Place.{Place}
use Rattle.policy_grammar.specs.declared.lexeme.Lexeme.{Lexeme}
use Rattle.policy_grammar.specs.declared.symbol.Symbol.{Symbol}
use Rattle.policy_grammar.specs.declared.symbol.Symbol.TheVariants as symbol
use Rattle.policy_grammar.specs.Raw.{Arg, Arg as arg, RawCall, Step, Step as step, RawPattern, RawPattern as pattern, Item, Item as item}
use Rattle.policy_words.specs.declared.word.SetCall.{SetCall}
use Rattle.policy_words.specs.declared.word.CallWord.{CallWord}
use Rattle.policy_words.specs.declared.word.CallWord.TheVariants.{Any, Drop, Internal, Link, Path, Of}

-- the token stands for this
pub record Is (s : Symbol) (l : Lexeme) : Type 0 where
  pub symbol : l.symbol ≡ s

-- what is written, and as which tokens
abbrev pub Rule : Type 0 → Type 1
Rule A = A → List Lexeme → Type 0

-- { joint one }
pub data IsMore {A : Type 0} (joint : Symbol) (One : Rule A) : List A → List Lexeme → Type 0 where
  none : IsMore joint One [] []
  more : {j : Lexeme} {x : A} {xs : List A} {ts us : List Lexeme} → Is joint j → One x ts → IsMore joint One xs us
      → IsMore joint One (x ∷ xs) (j ∷ ts ++ us)

-- one { joint one }
pub data IsList {A : Type 0} (joint : Symbol) (One : Rule A) : List A → List Lexeme → Type 0 where
  list : {x : A} {xs : List A} {ts us : List Lexeme} → One x ts → IsMore joint One xs us → IsList joint One (x ∷ xs) (ts ++ us)

-- NAME
pub data IsName : Lexeme → List Lexeme → Type 0 where
  name : {n : Lexeme} → Is symbol.Name n → IsName n (n ∷ [])

-- NAME { "," NAME }
abbrev pub IsNames : Rule (List Lexeme)
IsNames = IsList symbol.Comma IsName

-- "{" NAME { "," NAME } "}"
pub data IsGroup : List Lexeme → List Lexeme → Type 0 where
  group : {o c : Lexeme} {names ts : List Lexeme} → Is symbol.BraceOpen o → IsNames names ts → Is symbol.BraceClose c
      → IsGroup names (o ∷ ts ++ c ∷ [])

-- set = "any" | NAME { "," NAME }
pub data IsSet : Arg → List Lexeme → Type 0 where
  any : {l : Lexeme} → Is (symbol.Call Any) l → IsSet arg.Any (l ∷ [])
  names : {ns ts : List Lexeme} → IsNames ns ts → IsSet (arg.Names ns) ts

-- one = "any" | NAME | "{" NAME { "," NAME } "}"
pub data IsOne : Arg → List Lexeme → Type 0 where
  any : {l : Lexeme} → Is (symbol.Call Any) l → IsOne arg.Any (l ∷ [])
  name : {n : Lexeme} {ts : List Lexeme} → IsName n ts → IsOne (arg.Names (n ∷ [])) ts
  group : {ns ts : List Lexeme} → IsGroup ns ts → IsOne (arg.Names ns) ts

-- the words of calls without brackets
pub data StandsAlone : CallWord → Type 0 where
  any : StandsAlone Any
  drop : StandsAlone Drop
  internal : StandsAlone Internal

-- where the first of some tokens stands, if there is one
abbrev pub front_place : List Lexeme → Option Place
front_place [] = None
front_place (l ∷ ls) = Some l.place

-- A call. That of several sets knows the place of the first `>>` between them.
pub data IsCall : RawCall → List Lexeme → Type 0 where
  -- "any" | "drop" | "internal"
  alone : {word : CallWord} {w : Lexeme} → StandsAlone word → Is (symbol.Call word) w
      → IsCall (record { word = word; args = []; above = None }) (w ∷ [])
  -- ( "avoid" | "through" | "notransit" | "start" | "end" | "exit" | "enter" ) "(" set { ">>" set } ")"
  sets : {one : SetCall} {w o c : Lexeme} {x : Arg} {xs : List Arg} {ts us : List Lexeme}
      → Is (symbol.Call (Of one)) w → Is symbol.RoundOpen o → IsSet x ts → IsMore symbol.Above IsSet xs us → Is symbol.RoundClose c
      → IsCall (record { word = Of one; args = x ∷ xs; above = front_place us }) (w ∷ o ∷ ts ++ us ++ c ∷ [])
  -- "link" "(" one "," one ")"
  link : {w o m c : Lexeme} {x y : Arg} {ts us : List Lexeme}
      → Is (symbol.Call Link) w → Is symbol.RoundOpen o → IsOne x ts → Is symbol.Comma m → IsOne y us → Is symbol.RoundClose c
      → IsCall (record { word = Link; args = x ∷ y ∷ []; above = None }) (w ∷ o ∷ ts ++ m ∷ us ++ c ∷ [])
  -- "path" "(" one "," one { "," one } ")"
  path : {w o m c : Lexeme} {x y : Arg} {zs : List Arg} {ts us vs : List Lexeme}
      → Is (symbol.Call Path) w → Is symbol.RoundOpen o → IsOne x ts → Is symbol.Comma m → IsOne y us → IsMore symbol.Comma IsOne zs vs → Is symbol.RoundClose c
      → IsCall (record { word = Path; args = x ∷ y ∷ zs; above = None }) (w ∷ o ∷ ts ++ m ∷ us ++ vs ++ c ∷ [])

-- Expressions, as steps in postfix order: an operator follows its sides. Operators group to the left.
mutual
  -- ranked = choice { ">>" choice }
  pub data IsRanked : List Step → List Lexeme → Type 0 where
    choice : {xs : List Step} {ts : List Lexeme} → IsChoice xs ts → IsRanked xs ts
    above : {xs ys : List Step} {j : Lexeme} {ts us : List Lexeme} → IsRanked xs ts → Is symbol.Above j → IsChoice ys us
        → IsRanked (xs ++ ys ++ step.Above j.place ∷ []) (ts ++ j ∷ us)

  -- choice = joint { "or" joint }
  pub data IsChoice : List Step → List Lexeme → Type 0 where
    joint : {xs : List Step} {ts : List Lexeme} → IsJoint xs ts → IsChoice xs ts
    or : {xs ys : List Step} {j : Lexeme} {ts us : List Lexeme} → IsChoice xs ts → Is symbol.Or j → IsJoint ys us
        → IsChoice (xs ++ ys ++ step.Or ∷ []) (ts ++ j ∷ us)

  -- joint = unit { "and" unit }
  pub data IsJoint : List Step → List Lexeme → Type 0 where
    unit : {xs : List Step} {ts : List Lexeme} → IsUnit xs ts → IsJoint xs ts
    and : {xs ys : List Step} {j : Lexeme} {ts us : List Lexeme} → IsJoint xs ts → Is symbol.And j → IsUnit ys us
        → IsJoint (xs ++ ys ++ step.And ∷ []) (ts ++ j ∷ us)

  -- unit = [ "not" ] atom
  pub data IsUnit : List Step → List Lexeme → Type 0 where
    atom : {xs : List Step} {ts : List Lexeme} → IsAtom xs ts → IsUnit xs ts
    not : {xs : List Step} {n : Lexeme} {ts : List Lexeme} → Is symbol.Not n → IsAtom xs ts → IsUnit (xs ++ step.Not ∷ []) (n ∷ ts)

  -- atom = "(" ranked ")" | call
  pub data IsAtom : List Step → List Lexeme → Type 0 where
    bracket : {xs : List Step} {o c : Lexeme} {ts : List Lexeme} → Is symbol.RoundOpen o → IsRanked xs ts → Is symbol.RoundClose c
        → IsAtom xs (o ∷ ts ++ c ∷ [])
    call : {x : RawCall} {ts : List Lexeme} → IsCall x ts → IsAtom (step.Call x ∷ []) ts

-- pattern = FIGURE [ "le" FIGURE ]
pub data IsPattern : RawPattern → List Lexeme → Type 0 where
  only : {f : Lexeme} → Is symbol.Figure f → IsPattern (pattern.Only f) (f ∷ [])
  up_to : {f l g : Lexeme} → Is symbol.Figure f → Is symbol.Le l → Is symbol.Figure g → IsPattern (pattern.UpTo f g) (f ∷ l ∷ g ∷ [])

-- predicate = "true" | pattern { "or" pattern }
pub data IsPredicate : List RawPattern → List Lexeme → Type 0 where
  all : {l : Lexeme} → Is symbol.True l → IsPredicate (pattern.All ∷ []) (l ∷ [])
  patterns : {ps : List RawPattern} {ts : List Lexeme} → IsList symbol.Or IsPattern ps ts → IsPredicate ps ts

-- [ "from" ( "any" | NAME { "," NAME } ) ]: all sources where it is left out
pub data IsFrom : Arg → List Lexeme → Type 0 where
  left_out : IsFrom arg.Any []
  from : {l : Lexeme} {x : Arg} {ts : List Lexeme} → Is symbol.From l → IsSet x ts → IsFrom x (l ∷ ts)

-- an item
pub data IsItem : Item → List Lexeme → Type 0 where
  -- "define" NAME "=" "{" NAME { "," NAME } "}" ";"
  define : {d n e s : Lexeme} {names ts us : List Lexeme} → Is symbol.Define d → IsName n ts → Is symbol.Equals e → IsGroup names us → Is symbol.Semicolon s
      → IsItem (item.Define n names) (d ∷ ts ++ e ∷ us ++ s ∷ [])
  -- "originate" FIGURE "at" NAME { "," NAME } ";"
  originate : {o f t s : Lexeme} {names ts : List Lexeme} → Is symbol.Originate o → Is symbol.Figure f → Is symbol.At t → IsNames names ts → Is symbol.Semicolon s
      → IsItem (item.Originate f names) (o ∷ f ∷ t ∷ ts ++ s ∷ [])
  -- predicate "=>" ranked [ "from" .. ] ";"
  state : {ps : List RawPattern} {xs : List Step} {x : Arg} {a s : Lexeme} {ts us vs : List Lexeme}
      → IsPredicate ps ts → Is symbol.Arrow a → IsRanked xs us → IsFrom x vs → Is symbol.Semicolon s
      → IsItem (item.State (record { patterns = ps; ranked = xs; from = x })) (ts ++ a ∷ us ++ vs ++ s ∷ [])

-- policy = { item }
pub data IsPolicy : List Item → List Lexeme → Type 0 where
  none : IsPolicy [] []
  more : {x : Item} {xs : List Item} {ts us : List Lexeme} → IsItem x ts → IsPolicy xs us → IsPolicy (x ∷ xs) (ts ++ us)
