-- The locations of a list of names.
use Rattle.std.proofs.Common.{◌≡◌, ℕ, ◌<◌, List, [], ◌∷◌, Bool, ◌||◌, sym, ap, ◌∙◌}
use Rattle.std.proofs.Math.Bool.{or-false, or_assoc}
use Rattle.std.specs.Prelude.{fold}
use Rattle.std.specs.List.{list_any}
use Rattle.net_base.specs.declared.loc.LocSet.{LocSet}
use Rattle.net_base.specs.SetOperations.{no_location, union_of}
use Rattle.net_base.specs.Sets.{holds}
use Rattle.net_base.proofs.SetLaws.{holds-none, holds-union}
use Rattle.policy_grammar.specs.declared.lexeme.Lexeme.{Lexeme}
use Rattle.policy_law.specs.Senses.{Sense, located, set_of_names}

held_from : (sense : Sense) (so_far : LocSet) (names : List Lexeme) (l : ℕ) → l < 768
    → holds (fold (λ (s : LocSet) (n : Lexeme). union_of s (located (sense n))) so_far names) l ≡ (holds so_far l || list_any (λ n. holds (located (sense n)) l) names)
held_from sense so_far [] l low = sym (or-false (holds so_far l))
held_from sense so_far (n ∷ ns) l low =
    let s : LocSet = located (sense n) in
    let others : Bool = list_any (λ n. holds (located (sense n)) l) ns in
    held_from sense (union_of so_far s) ns l low ∙ ap (λ (b : Bool). b || others) (holds-union so_far s l low) ∙ or_assoc (holds so_far l) (holds s l) others

pub names_held : (sense : Sense) (names : List Lexeme) (l : ℕ) → l < 768 → holds (set_of_names sense names) l ≡ list_any (λ n. holds (located (sense n)) l) names
names_held sense names l low = held_from sense no_location names l low ∙ ap (λ (b : Bool). b || list_any (λ n. holds (located (sense n)) l) names) (holds-none l low)
