-- The cases in which some router takes what peers announce.
use Rattle.std.specs.Prelude.{ℕ, suc, Bool, ◌&&◌, List, [], ◌∷◌, ◌++◌, length, if◌then◌else◌}
use Rattle.std.specs.List.{list_any}
use Rattle.net_base.specs.Locations.{numbers_below}
use Rattle.net_base.specs.Network.{PlainNet}
use Rattle.policy_base.specs.declared.case.Case.{Case}
use Rattle.own_space.specs.declared.open_case.OpenCase.{OpenCase}
use Rattle.promises_report.specs.Promises.{Promises}

-- some router takes what peers announce: a permitted walk goes over it, and ends at a peer
abbrev pub takes : PlainNet → Case → Promises → Bool
takes net c a = c.external && list_any a.passes (numbers_below (length net.routers))

abbrev pub taking_case : PlainNet → ℕ → Case → Promises → List OpenCase
taking_case net k c a = if takes net c a then record { number = k; statement = c.statement } ∷ [] else []

-- the cases in which some router does, from a number on
abbrev pub taking_cases : PlainNet → ℕ → List Case → List Promises → List OpenCase
taking_cases net k [] xs = []
taking_cases net k (c ∷ cs) [] = []
taking_cases net k (c ∷ cs) (a ∷ xs) = taking_case net k c a ++ taking_cases net (suc k) cs xs
