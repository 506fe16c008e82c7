-- Where a set has no location nothing is dead.
use Rattle.std.proofs.Common.{◌≡◌, ℕ, false, List, [], ◌∷◌, refl, sym, ap, ◌∙◌}
use Rattle.std.specs.Prelude.{◌==◌, ◌||◌}
use Rattle.std.specs.List.{list_any}
use Rattle.std.proofs.lemmas.Bool.{eq-eqb, true≢false}
use Rattle.net_base.specs.Sets.{holds}
use Rattle.outcome_base.specs.Outcomes.{no_failures}
use Rattle.scenarios.specs.Scenarios.{failures_of, members}
use Rattle.scenarios.specs.declared.scenario.Scenario.{Scenario}
use Rattle.scenarios.proofs.Members.{any-members}

-- a list in which nothing is found
nothing_in : (ls : List ℕ) → ((l : ℕ) → list_any (λ d. d == l) ls ≡ false) → ls ≡ []
nothing_in [] none = refl
nothing_in (l ∷ ls) none = absurd (true≢false (sym (ap (λ b. b || list_any (λ d. d == l) ls) (eq-eqb l l refl)) ∙ none l))

pub nothing_failed : (s : Scenario) → ((l : ℕ) → holds s.dead l ≡ false) → s.dead_links ≡ [] → s.silent ≡ [] → failures_of s ≡ no_failures
nothing_failed s dead links silent =
    let none : members s.dead ≡ [] = nothing_in (members s.dead) (λ l. any-members s.dead l ∙ dead l) in
    λ i. record { dead = none i; dead_links = links i; silent = silent i }
