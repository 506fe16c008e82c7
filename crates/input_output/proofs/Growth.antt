-- What is written in parts is written whole.
use Rattle.std.proofs.Common.{ℕ, ◌+◌, List, ◌++◌, take, drop, Option, Some, None, append_assoc}
use Rattle.std.proofs.Math.Seq.{take-add}
use Rattle.input_output.specs.Outside.{Grew}

pub Grew-Grew : (a b c : Option (List ℕ)) (x y : List ℕ) → Grew a b x → Grew b c y → Grew a c (x ++ y)
Grew-Grew None b c x y first second = rw (second, first)
Grew-Grew (Some t) b c x y first second = rw (second, first, append_assoc)

pub Grew-take : (a b c : Option (List ℕ)) (m n : ℕ) (bytes : List ℕ) → Grew a b (take m bytes) → Grew b c (take n (drop m bytes)) → Grew a c (take (m + n) bytes)
Grew-take a b c m n bytes first second = rw (take-add m n bytes) (Grew-Grew a b c _ _ first second)
