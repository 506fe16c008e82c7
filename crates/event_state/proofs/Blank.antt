-- A world in whose lists nothing stands.
use Rattle.std.proofs.Common.{◌≡◌, ℕ, Bool, false, List, [], length, Option, None, Some, replicate, refl, ap, ◌∙◌}
use Rattle.std.specs.Prelude.{slice_index_or}
use Rattle.std.specs.Option.{option_map_or}
use Rattle.std.proofs.lemmas.List.{length-replicate}
use Rattle.list_law.proofs.Items.{get_or-replicate_same}
use Rattle.net_base.specs.Network.{PlainNet}
use Rattle.config_base.specs.declared.route.Route.{Route}
use Rattle.event_state.specs.Directions.{at_direction, direction}
use Rattle.event_state.specs.States.{blank, state_of}

module _ {A : Type 0} (xs : List A) (n : ℕ) (x : A) (all : xs ≡ replicate n x) where
  pub sized : (m : ℕ) → n ≡ m → length xs ≡ m
  sized m same = ap length all ∙ length-replicate n x ∙ same

  here : (r : ℕ) → slice_index_or xs r x ≡ x
  here r = ap (λ ys. slice_index_or ys r x) all ∙ get_or-replicate_same n r x

  between : (net : PlainNet) (a b : ℕ) → at_direction net xs x a b ≡ x
  between net a b = by (direction net a b)
    where
      by : (o : Option ℕ) → option_map_or (λ d. slice_index_or xs d x) o x ≡ x
      by None = refl
      by (Some d) = here d

pub blank_made : (net : PlainNet) (n d : ℕ) (down : List Bool) (routes : List (Option Route)) (cut silent : List Bool) (queues : List (List (Option Route))) (heard queued : List (Option Route))
    → down ≡ replicate n false → routes ≡ replicate n None → cut ≡ replicate d false → silent ≡ replicate d false → queues ≡ replicate d [] → heard ≡ replicate d None → queued ≡ replicate d None
    → state_of net down routes cut silent queues heard queued ≡ blank
blank_made net n d down routes cut silent queues heard queued e1 e2 e3 e4 e5 e6 e7 = λ i. record {
  down = λ r. here down n false e1 r i;
  cut = λ a b. between cut d false e3 net a b i;
  silent = λ a b. between silent d false e4 net a b i;
  queue = λ a b. between queues d [] e5 net a b i;
  heard = λ a b. between heard d None e6 net a b i;
  queued = λ a b. between queued d None e7 net a b i;
  route = λ r. here routes n None e2 r i;
}
