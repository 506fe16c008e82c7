-- One more node is come to.
use Rattle.std.proofs.Common.{◌≡◌, ℕ, ◌+◌, ◌<◌, Bool, true, false, not, ◌&&◌, ◌||◌, List, length, get_or, take, refl, sym, ap, ap₂, ◌∙◌, inl, inr}
use Rattle.std.specs.Prelude.{◌==◌}
use Rattle.std.proofs.lemmas.Bool.{cases_Bool, eqb-true}
use Rattle.std.proofs.lemmas.List.Folds.{list_any_more}
use Rattle.std.proofs.Math.Bool.{and-false}
use Rattle.reach_prune.specs.Searches.{is_among, is_marked}
use Rattle.cut_ranks.specs.declared.search.Search.{Search}
use Rattle.cut_ranks.specs.Searching.{Visits}

marked_too : (o a e q : Bool) → ((o || (a && q)) || (q && e)) ≡ (o || ((a || e) && q))
marked_too true a e q = refl
marked_too false true true true = refl
marked_too false true true false = refl
marked_too false true false true = refl
marked_too false true false false = refl
marked_too false false true true = refl
marked_too false false true false = refl
marked_too false false false true = refl
marked_too false false false false = refl

waiting_too : (w m a e q : Bool) → ((w || ((a && q) && not m)) || ((q && e) && not (m || (a && q)))) ≡ (w || (((a || e) && q) && not m))
waiting_too true m a e q = refl
waiting_too false true true true true = refl
waiting_too false true true true false = refl
waiting_too false true true false true = refl
waiting_too false true true false false = refl
waiting_too false true false true true = refl
waiting_too false true false true false = refl
waiting_too false true false false true = refl
waiting_too false true false false false = refl
waiting_too false false true true true = refl
waiting_too false false true true false = refl
waiting_too false false true false true = refl
waiting_too false false true false false = refl
waiting_too false false false true true = refl
waiting_too false false false true false = refl
waiting_too false false false false true = refl
waiting_too false false false false false = refl

-- the next node of a list is come to where the way to it is open
pub visits_more : (q : ℕ → Bool) (nodes : List ℕ) (i node : ℕ) (opens : Bool) (old mid new : Search) → i < length nodes → node ≡ get_or nodes i 0 → opens ≡ q node
    → Visits (λ n. is_among (take i nodes) n && q n) old mid → Visits (λ n. opens && node == n) mid new → Visits (λ n. is_among (take (i + 1) nodes) n && q n) old new
visits_more q nodes i node opens old mid new within is opened v w = record {
  size = w.size ∙ v.size;
  marks = λ n.
      w.marks n ∙ ap₂ (λ b e. b || e) (v.marks n) (here n) ∙ marked_too (is_marked old.marks.items n) (is_among (take i nodes) n) (node == n) (q n)
      ∙ ap (λ b. is_marked old.marks.items n || (b && q n)) (sym (more n));
  waiting = λ n.
      w.waiting n ∙ ap₂ (λ b m. b || ((opens && node == n) && not m)) (v.waiting n) (v.marks n)
      ∙ ap (λ e. (is_among old.waiting.items n || ((is_among (take i nodes) n && q n) && not (is_marked old.marks.items n)))
      || (e && not (is_marked old.marks.items n || (is_among (take i nodes) n && q n)))) (here n)
      ∙ waiting_too (is_among old.waiting.items n) (is_marked old.marks.items n) (is_among (take i nodes) n) (node == n) (q n)
      ∙ ap (λ b. is_among old.waiting.items n || ((b && q n) && not (is_marked old.marks.items n))) (sym (more n));
  left = w.left ∙ v.left;
}
  where
    more : (n : ℕ) → is_among (take (i + 1) nodes) n ≡ (is_among (take i nodes) n || node == n)
    more n = list_any_more (λ x. x == n) nodes i 0 within ∙ ap (λ x. is_among (take i nodes) n || x == n) (sym is)

    -- the way to n is open, where n is the node
    here : (n : ℕ) → (opens && node == n) ≡ (q n && node == n)
    here n = elim (cases_Bool (node == n)) [
      | inl same ↦ rw same (ap (λ b. b && true) (opened ∙ ap q (eqb-true node n same)))
      | inr other ↦ rw other (and-false opens ∙ sym (and-false (q n)))
    ]
