-- What a function that reads a text gives.
use Rattle.std.specs.Prelude.{◌≡◌, ◌≢◌, Result, Ok, Err}

-- What came back, seen by view, is what reading gives, unless it is this fault: that memory ran out.
abbrev pub GivesUnless : {F X Y : Type 0} → F → (X → Y) → Result X F → Result Y F → Type 0
GivesUnless no_memory view (Ok x) read = read ≡ Ok (view x)
GivesUnless no_memory view (Err e) read = e ≢ no_memory → read ≡ Err e
