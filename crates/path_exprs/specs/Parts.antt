-- Expressions by numbers, which share their parts.
use Rattle.std.specs.Prelude.{◌≡◌, ℕ, suc, Bool, true, ◌&&◌, nat_lt, List, [], ◌∷◌, ◌++◌, map, length, get_or}
use Rattle.std.specs.List.{list_all}
use Rattle.path_exprs.specs.Expression.{Expression, never, either, complement, expressions_of}
use Rattle.path_exprs.specs.Forward.{both_of_two}
use Rattle.path_exprs.specs.View.{view}
use Rattle.path_exprs.specs.declared.parts.Part.{Part}
use Rattle.path_exprs.specs.declared.parts.Part.TheVariants.{Own, Both, Either, Not}

-- the expression of a number
abbrev pub at : List Expression → ℕ → Expression
at es n = get_or es n never

-- each number is below k
abbrev pub are_known : ℕ → List ℕ → Bool
are_known k ns = list_all (λ n. nat_lt n k) ns

-- each expression keeps its number, and others may follow
abbrev pub Extends : List Expression → List Expression → Type 0
Extends old new = (more : List Expression) × (new ≡ old ++ more)

-- one part, where the expressions before it are these
abbrev pub expression_of : List Expression → Part → Expression
expression_of es (Own e) = view e
expression_of es (Both a b) = both_of_two (at es a) (at es b)
expression_of es (Either ns) = either (expressions_of (map (at es) ns.items))
expression_of es (Not a) = complement (at es a)

-- the expressions of further parts behind these
abbrev pub grow : List Expression → List Part → List Expression
grow es [] = es
grow es (p ∷ ps) = grow (es ++ expression_of es p ∷ []) ps

abbrev pub expressions_of_parts : List Part → List Expression
expressions_of_parts ps = grow [] ps

-- a part that is made of some of the first k
abbrev pub is_earlier : ℕ → Part → Bool
is_earlier k (Own e) = true
is_earlier k (Both a b) = nat_lt a k && nat_lt b k
is_earlier k (Either ns) = are_known k ns.items
is_earlier k (Not a) = nat_lt a k

-- each is made of those before it, where the first of them stands at k
abbrev pub are_earlier : ℕ → List Part → Bool
are_earlier k [] = true
are_earlier k (p ∷ ps) = is_earlier k p && are_earlier (suc k) ps

-- These are the numbers of such expressions, and the earlier expressions keep theirs.
abbrev pub Puts : List Expression → List Expression → List ℕ → List Expression → Type 0
Puts old new ns es = (map (at new) ns ≡ es) × (are_known (length new) ns ≡ true) × Extends old new
