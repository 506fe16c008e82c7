-- Blocks that are written in order of location.
use Rattle.std.proofs.Common.{◌≡◌, ℕ, ◌+◌, ◌∙◌, true, false, List, [], ◌∷◌, ◌++◌, ap, map, filter, sym}
use Rattle.std.proofs.lemmas.List.{map-append}
use Rattle.net_base.specs.Network.{PlainNet, linked}
use Rattle.net_base.specs.Locations.{numbers_below}
use Rattle.net_base.proofs.NumbersBelow.{filter_kept, filter_left}
use Rattle.config_base.specs.declared.config.Session.{Session}
use Rattle.config_maker.specs.declared.hop.Hop.{Hop}
use Rattle.config_maker.specs.Hops.{goes}
use Rattle.config_maker.specs.Writing.{session_with, session_of}

module _ (net : PlainNet) (hops : List Hop) (at n : ℕ) (blocks : List Session) (so_far : blocks ≡ map (session_of net hops at) (filter (linked net at) (numbers_below n))) where
  -- the next location is a neighbour
  pub sessions_next : linked net at n ≡ true → (taken sent : List Hop) (z : ℕ) (block : Session) → z ≡ n → taken ≡ filter (goes z at) hops
      → sent ≡ filter (goes at z) hops → block ≡ session_with net taken sent z
      → blocks ++ block ∷ [] ≡ map (session_of net hops at) (filter (linked net at) (numbers_below (n + 1)))
  sessions_next on taken sent z block is came went made =
      let whole : block ≡ session_of net hops at n =
      made ∙ ap (λ hs. session_with net hs sent z) came ∙ ap (λ hs. session_with net (filter (goes z at) hops) hs z) went ∙ ap (session_of net hops at) is in
      ap (λ bs. bs ++ block ∷ []) so_far
      ∙ ap (λ b. map (session_of net hops at) (filter (linked net at) (numbers_below n)) ++ b ∷ []) whole
      ∙ sym (ap (map (session_of net hops at)) (filter_kept (linked net at) n on) ∙ map-append (session_of net hops at) (filter (linked net at) (numbers_below n)) (n ∷ []))

  -- the next location is none
  pub sessions_same : linked net at n ≡ false → blocks ≡ map (session_of net hops at) (filter (linked net at) (numbers_below (n + 1)))
  sessions_same off = so_far ∙ ap (map (session_of net hops at)) (sym (filter_left (linked net at) n off))
