-- What stands at the end of an array once a word is written before it.
use Rattle.std.proofs.Common.{◌≡◌, ℕ, ◌+◌, ◌≤◌, List, ◌++◌, length, take, drop, sym, ap, ◌∙◌, drop-drop, drop_at, length-take-le}
use Rattle.std.proofs.lemmas.List.{drop-append-le}
use borrow.Rule.Slice.PartMut.{put_mid}

word_before : (a k : ℕ) (bytes word : List ℕ) → a ≤ length bytes → drop a (put_mid a k bytes word) ≡ word ++ drop (a + k) bytes
word_before a k bytes word within = drop_at (take a bytes) _ a (length-take-le a bytes within) ∙ ap (λ t. word ++ t) (drop-drop k a bytes)

-- of the word only what stands from a place on
pub rest_before : (a k n : ℕ) (bytes word : List ℕ) → a ≤ length bytes → n ≤ length word → drop (a + n) (put_mid a k bytes word) ≡ drop n word ++ drop (a + k) bytes
rest_before a k n bytes word within short =
    sym (drop-drop n a (put_mid a k bytes word)) ∙ ap (drop n) (word_before a k bytes word within) ∙ drop-append-le n word (drop (a + k) bytes) short
