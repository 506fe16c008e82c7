-- How the tree that `json` reads is written.
use Rattle.std.specs.Prelude.{◌≡◌, ℕ, List, [], ◌∷◌, true, false, codes}
use Rattle.json.specs.Json.{Json, null, boolean, number, string, array, object, Items, no_items, item, Members, no_members, member}
use Rattle.json_law.specs.Grammar.{IsNumber, IsString, IsArray, IsObject}

abbrev mutual
  pub IsWritten : Json → List ℕ → Type 0
  IsWritten null text = text ≡ codes "null"
  IsWritten (boolean true) text = text ≡ codes "true"
  IsWritten (boolean false) text = text ≡ codes "false"
  IsWritten (number s) text = (text ≡ s) × IsNumber s
  IsWritten (string s) text = IsString s text
  IsWritten (array js) text = (items : List (List ℕ)) × IsArray items text × AreWritten js items
  IsWritten (object ms) text = (members : List (List ℕ × List ℕ)) × IsObject members text × MembersAreWritten ms members

  pub AreWritten : Items → List (List ℕ) → Type 0
  AreWritten no_items [] = Unit {0}
  AreWritten no_items (t ∷ ts) = ⊥
  AreWritten (item j js) [] = ⊥
  AreWritten (item j js) (t ∷ ts) = IsWritten j t × AreWritten js ts

  pub MembersAreWritten : Members → List (List ℕ × List ℕ) → Type 0
  MembersAreWritten no_members [] = Unit {0}
  MembersAreWritten no_members (t ∷ ts) = ⊥
  MembersAreWritten (member k j ms) [] = ⊥
  MembersAreWritten (member k j ms) (t ∷ ts) = (k ≡ t.0) × IsWritten j t.1 × MembersAreWritten ms ts
