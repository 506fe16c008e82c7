-- Values that are each made of an item of a list, and are plain.
use Rattle.std.proofs.Common.{List, [], ◌∷◌, map}
use Rattle.std.specs.List.{AllByRecursion}
use Rattle.serde_json.specs.Data.{Data}
use Rattle.serde_json.specs.View.{items_of}
use Rattle.json_values.specs.Plain.{IsPlain, ArePlain}

pub plain_map : {A : Type 0} (P : A → Type 0) (f : A → Data) → ((x : A) → P x → IsPlain (f x)) → (xs : List A) → AllByRecursion P xs → ArePlain (items_of (map f xs))
plain_map P f one [] are = tt
plain_map P f one (x ∷ xs) are = (one x are.0, plain_map P f one xs are.1)
