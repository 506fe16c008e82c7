use Rattle.std.proofs.Common.{◌≡◌, ℕ, zero, suc, ◌<◌, ◌≤◌, Bool, true, false, cond, List, [], ◌∷◌, ◌++◌, Some, length, replicate, take, ap, sym, ◌∙◌, arith}
use Rattle.std.specs.Prelude.{slice_get}
use Rattle.std.proofs.lemmas.List.{take_all}
use Rattle.std.proofs.lemmas.Option.{same_Some}
use Rattle.path_automata.proofs.memo.Memo.make_room.Goals as goal

filled : (k v i x : ℕ) → slice_get (replicate k v) i ≡ Some x → x ≡ v
filled zero v i x h = cc
filled (suc k) v zero x h = sym (same_Some _ _ h)
filled (suc k) v (suc i) x h = filled k v i x h

in_front : (xs : List ℕ) (k v i x : ℕ) → slice_get (xs ++ replicate k v) i ≡ Some x → x < v → slice_get xs i ≡ Some x
in_front [] k v i x h lt = let is = filled k v i x h in absurd (omega (arith, is, lt))
in_front (y ∷ ys) k v zero x h lt = h
in_front (y ∷ ys) k v (suc i) x h lt = in_front ys k v i x h lt

-- what stands behind the former places is no known state
resized : (b : Bool) (xs new : List ℕ) (n k v i x : ℕ) → new ≡ cond b (take n xs ++ replicate k v) xs → length xs ≤ n → slice_get new i ≡ Some x → x < v
    → slice_get xs i ≡ Some x
resized true xs new n k v i x is le h lt = in_front xs k v i x (ap (λ l. slice_get l i) (sym (is ∙ ap (λ l. l ++ replicate k v) (take_all n xs le))) ∙ h) lt
resized false xs new n k v i x is le h lt = ap (λ l. slice_get l i) (sym is) ∙ h

pub returns-clause-kept : goal.returns-clause-kept
returns-clause-kept c = λ s at next note.
    (note.0, note.1, resized _ c.args.self.now.next.items _ _ _ _ note.0 next c.resize.ensures.items (omega (arith, c.len.ensures)) note.2 note.3, note.3)
