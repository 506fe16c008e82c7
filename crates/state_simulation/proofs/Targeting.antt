-- Targets with one mask.
use Rattle.std.proofs.Common.{◌≡◌, ℕ, Bool, true, false, not, ◌&&◌, ◌||◌, eqb, List, sym, ap, ◌∙◌}
use Rattle.bit_rows.specs.Bits.{has}
use Rattle.bit_rows.specs.Tables.{PlainRows, row_of}
use Rattle.graph_base.specs.Graphs.{PlainGraph}
use Rattle.graph_base.specs.Runs.{is_listener, place_of, rank_at}
use Rattle.relation_law.specs.Numbers.{any_below}
use Rattle.relation_law.specs.Relations.{is_heard, no_worse, steps_on}
use Rattle.relation_law.specs.Rounds.{fails_at, has_answer, is_heard_there, is_looped}
use Rattle.relation_law.proofs.Rounds.{fails_heard, fails_stepped}
use Rattle.state_simulation.specs.Looked.{shown}
use Rattle.state_simulation.specs.Targets.{gone_in}

module _ (g : PlainGraph) (left : PlainRows) (s t : ℕ) (place : place_of g s ≡ place_of g t) (reach : ℕ → ℕ → Bool) (m : ℕ) where
  pub one_where_heard : is_listener g s ≡ true → is_listener g t ≡ true → rank_at g s ≡ rank_at g t → fails_at (shown g) reach (gone_in left) m s ≡ fails_at (shown g) reach (gone_in left) m t
  one_where_heard hs ht rank =
      let there : is_heard_there (shown g) m s ≡ is_heard_there (shown g) m t =
      ap (λ p. any_below (shown g).size (λ x. is_heard (shown g) m x && (eqb (place_of g x) p && no_worse (rank_at g x) (rank_at g s)))) place
      ∙ ap (λ r. any_below (shown g).size (λ x. is_heard (shown g) m x && (eqb (place_of g x) (place_of g t) && no_worse (rank_at g x) r))) rank in
      fails_heard (shown g) reach (gone_in left) m s hs ∙ ap not there ∙ sym (fails_heard (shown g) reach (gone_in left) m t ht)

  pub one_where_stepped : is_listener g s ≡ false → is_listener g t ≡ false → row_of left s ≡ row_of left t → fails_at (shown g) reach (gone_in left) m s ≡ fails_at (shown g) reach (gone_in left) m t
  one_where_stepped hs ht rows =
      let answer : has_answer (shown g) (gone_in left) m s ≡ has_answer (shown g) (gone_in left) m t =
      ap (λ p. any_below (shown g).size (λ x. steps_on (shown g) m x && (eqb (place_of g x) p && not (not (has (row_of left s) x))))) place
      ∙ ap (λ (r : List ℕ). any_below (shown g).size (λ x. steps_on (shown g) m x && (eqb (place_of g x) (place_of g t) && not (not (has r x))))) rows in
      let loop : is_looped (shown g) reach (gone_in left) m s ≡ is_looped (shown g) reach (gone_in left) m t =
      ap (λ p. any_below (shown g).size (λ x. eqb (place_of g x) p && (reach x m && not (has (row_of left s) x)))) place
      ∙ ap (λ (r : List ℕ). any_below (shown g).size (λ x. eqb (place_of g x) (place_of g t) && (reach x m && not (has r x)))) rows in
      fails_stepped (shown g) reach (gone_in left) m s hs ∙ ap (λ z. not z || is_looped (shown g) reach (gone_in left) m s) answer ∙ ap (λ z. not (has_answer (shown g) (gone_in left) m t) || z) loop
      ∙ sym (fails_stepped (shown g) reach (gone_in left) m t ht)
