-- One more round.
use Rattle.std.proofs.Common.{◌≡◌, ℕ, zero, suc, List, ◌++◌, sym, ap, ◌∙◌}
use Rattle.std.proofs.lemmas.List.{append-nil, append_assoc}
use Rattle.event_base.specs.Steps.{run}
use Rattle.event_base.specs.World.{Speakers, World}
use Rattle.rest_law.proofs.Failures.{run_more}
use Rattle.rest_law.specs.Laws.{each_round, each_waiting}
use Rattle.rest_law.specs.Rounds.{deliveries}

module _ {R : Type 0} (net : Speakers R) (ways : List (ℕ × ℕ)) where
  abbrev after : ℕ → World R → World R
  after k w = run net (deliveries (each_round net ways k w)) w

  -- it begins where those before it end
  pub each_round_more : (k : ℕ) (w : World R) → each_round net ways (suc k) w ≡ each_round net ways k w ++ each_waiting (after k w) ways
  each_round_more zero w = append-nil (each_waiting w ways)
  each_round_more (suc k) w =
      let round = each_waiting w ways in
      let next : World R = run net (deliveries round) w in
      ap (λ ds. round ++ ds) (each_round_more k next)
      ∙ sym (append_assoc round (each_round net ways k next) (each_waiting (after k next) ways))
      ∙ ap (λ (v : World R). (round ++ each_round net ways k next) ++ each_waiting v ways) (run_more net round (each_round net ways k next) w)

  pub after_more : (k : ℕ) (w : World R) → after (suc k) w ≡ run net (deliveries (each_waiting (after k w) ways)) (after k w)
  after_more k w = ap (λ ds. run net (deliveries ds) w) (each_round_more k w) ∙ sym (run_more net (each_round net ways k w) (each_waiting (after k w) ways) w)
