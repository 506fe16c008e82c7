-- Languages: which lists of locations they hold.
use Rattle.std.specs.Prelude.{ℕ, List, [], ◌∷◌, Bool, true, false, ◌&&◌, ◌||◌}
use Rattle.net_base.specs.declared.loc.LocSet.{LocSet}
use Rattle.net_base.specs.Sets.{holds}

abbrev pub Language : Type 0
Language = List ℕ → Bool

-- the empty list alone
abbrev pub nothing : Language
nothing [] = true
nothing (x ∷ xs) = false

-- a list of one location of the set
abbrev pub one_of : LocSet → Language
one_of s [] = false
one_of s (x ∷ xs) = holds s x && nothing xs

-- some cut divides the list into one in p and one in q
abbrev pub divides : Language → Language → Language
divides p q [] = p [] && q []
divides p q (x ∷ xs) = (p [] && q (x ∷ xs)) || divides (λ ys. p (x ∷ ys)) q xs

-- some cut divides the list into one in q and pieces in p that aren't empty
abbrev pub goes_on : Language → Language → Language
goes_on p q [] = q []
goes_on p q (x ∷ xs) = (q [] && goes_on p (λ ys. p (x ∷ ys)) xs) || goes_on p (λ ys. q (x ∷ ys)) xs

-- the list is cut into pieces in p that aren't empty
abbrev pub repeats : Language → Language
repeats p [] = true
repeats p (x ∷ xs) = goes_on p (λ ys. p (x ∷ ys)) xs
