-- How far the settling of a graph has come.
use Rattle.std.proofs.Common.{◌≡◌, ℕ, ◌<◌, true, false, cond, List, [], length, suc, Option, Some, None, refl, sym, ap, ◌∙◌, subst, arith}
use Rattle.std.specs.Prelude.{◌&&◌, option_map, is_some, IsTrue}
use Rattle.std.proofs.lemmas.Bool.{and_parts}
use Rattle.net_base.specs.declared.loc.LocSet.{LocSet}
use Rattle.net_base.specs.Network.{PlainNet}
use Rattle.net_base.specs.Sets.{holds}
use Rattle.graph_base.specs.Graphs.{PlainGraph}
use Rattle.graph_base.specs.Runs.{place_of, is_start, has_step}
use Rattle.reach_prune.specs.Searches.{is_among, is_listed, AreLists}
use Rattle.routing_law.specs.Outcome.{FullyStable, Setup}
use Rattle.routing_law.specs.Settling.{Tops}
use Rattle.settled_graph.specs.declared.offers.Offer.{Offer}
use Rattle.settled_graph.specs.declared.settled.Settled.{Settled}
use Rattle.graph_base.specs.Preferences.{number_in}
use Rattle.settled_graph.specs.Best.{AreGreatest, entry_at}
use Rattle.settled_graph.specs.Grounds.{IsGround, held_in}
use Rattle.settled_graph.specs.Offers.{AreLowest, IsLowest, IsLowestOrNone}
use Rattle.settled_graph.specs.Rounds.{AreFit, AreOpening, IsRound}
use Rattle.settled_graph.proofs.Reaching.{tops, tops-top}
use Rattle.settled_graph.proofs.Rounds.{AreAt, opening_front, opening_routes, opening_wanted, round_next, settled_all}
use Rattle.settled_graph.proofs.Tables.{entry_within}

-- Whatever network it is the ground of: some round of it. A location of the front waits for nothing.
pub record IsStage (net : PlainNet) (g : PlainGraph) (numbers : List ℕ) (choosers : LocSet) (routes : List (Option Settled)) (wanted : List (Option ℕ)) (front : List ℕ) : Type 0 where
  pub sizes : length routes ≡ 768
  pub room : length wanted ≡ 768
  pub nodes : (n : ℕ) → is_among front n ≡ true → (n < length g.nodes) × (entry_at wanted (place_of g n) ≡ None)
  pub at : (w : Setup) → IsGround net g numbers choosers w → (t : Tops w) × (k : ℕ) × AreAt w t k routes wanted front

module _ (net : PlainNet) (g : PlainGraph) (numbers : List ℕ) (choosers : LocSet) where
  pub stage_first : (routes : List (Option Settled)) (wanted : List (Option ℕ)) → ((s : ℕ) → is_start g s ≡ true → s < length g.nodes)
      → ((s : ℕ) → IsTrue (is_start g s) → holds choosers (place_of g s) ≡ false)
      → AreGreatest g numbers choosers wanted → AreOpening g routes → IsStage net g numbers choosers routes wanted g.starts
  stage_first routes wanted below apart greatest opening = record {
    sizes = opening.size;
    room = greatest.size;
    nodes = λ n is. (below n is, greatest.each (place_of g n) ∙ ap (λ b. cond b (option_map (number_in numbers) (entry_at greatest.best (place_of g n))) None) (apart n is));
    at = λ w ground.
        let t : Tops w = tops net g numbers choosers w ground greatest.reached greatest.best greatest.exact greatest.are_best in (
          t,
          0,
          record {
            held = opening_routes net g numbers choosers w ground t routes opening;
            waits = λ v. opening_wanted net g numbers choosers w ground t v (entry_at wanted v)
                (greatest.each v
                ∙ ap (λ o. cond (holds choosers v) (option_map (number_in numbers) o) None)
                (sym (tops-top net g numbers choosers w ground greatest.reached greatest.best greatest.exact greatest.are_best v)));
            nodes = opening_front net g numbers choosers w ground t;
          },
        );
  }

  module _ (lists : List (List ℕ)) (are_lists : AreLists lists) (count : length lists ≡ length g.nodes)
      (listed : (a b : ℕ) → is_listed lists a b ≡ has_step g a b) (routes : List (Option Settled)) (wanted : List (Option ℕ)) (front : List ℕ)
      (stage : IsStage net g numbers choosers routes wanted front)
      (offers : List (Option Offer)) (lowest : AreLowest net g numbers wanted (λ f t. is_among front f && is_listed lists f t) offers) where
    offered : (l : ℕ) (o : Option Offer) → IsLowestOrNone net g numbers wanted (λ f t. is_among front f && is_listed lists f t) l o → (x : Offer)
        → o ≡ Some x → IsLowest net g numbers wanted (λ f t. is_among front f && is_listed lists f t) l x
    offered l None none x e = absurd (cc)
    offered l (Some o) is x e = let same : o ≡ x = cc in subst (IsLowest net g numbers wanted (λ f t. is_among front f && is_listed lists f t) l) same is

    pub offer_is : (l : ℕ) (o : Offer) → entry_at offers l ≡ Some o → IsLowest net g numbers wanted (λ f t. is_among front f && is_listed lists f t) l o
    offer_is l o e = offered l (entry_at offers l) (lowest.each l (let low = entry_within offers l o e in omega (arith, low, lowest.size))) o e

    pub all_fit : AreFit g wanted offers
    all_fit l o e =
        let is = offer_is l o e in
        let from = (and_parts (is_among front o.from) (is_listed lists o.from o.to) is.step).0 in
        let node = stage.nodes o.from from in
        record { from = node.0; waits = ap is_some is.number; apart = unwanted (place_of g o.from) node.1 (entry_at offers (place_of g o.from)) refl }
      where
        unwanted : (l : ℕ) → entry_at wanted l ≡ None → (o : Option Offer) → entry_at offers l ≡ o → o ≡ None
        unwanted l none None e = refl
        unwanted l none (Some x) e = let clash : None ≡ Some (number_in numbers x.to) = sym none ∙ (offer_is l x e).number in absurd (cc)

    pub stage_next : (next : List (Option Settled)) (left : List (Option ℕ)) (later : List ℕ) → length next ≡ 768 → length left ≡ 768
        → IsRound g offers routes next wanted left later → IsStage net g numbers choosers next left later
    stage_next next left later sizes room round = record {
      sizes = sizes;
      room = room;
      nodes = λ n h.
          let found = (round.later n).0 h in
          let is = offer_is found.0 found.1 found.2 in
          let to = are_lists found.1.from found.1.to (and_parts (is_among front found.1.from) (is_listed lists found.1.from found.1.to) is.step).1 in
          let at : place_of g n ≡ found.0 = ap (place_of g) (sym found.3) ∙ is.place in
          (omega (arith, to, count, found.3), ap (entry_at left) at ∙ round.waits found.0 ∙ ap (λ o. cond (is_some o) None (entry_at wanted found.0)) found.2);
      at = λ w ground.
          let now = stage.at w ground in
          (now.0, suc now.1, round_next net g numbers choosers w ground now.0 now.1 routes wanted front now.2 lists listed offers lowest next left later round);
    }

  pub stage_end : (routes : List (Option Settled)) (wanted : List (Option ℕ)) (front : List ℕ) → IsStage net g numbers choosers routes wanted front
      → front ≡ [] → (w : Setup) → IsGround net g numbers choosers w → FullyStable w (held_in routes)
  stage_end routes wanted front stage empty w ground = let now = stage.at w ground in settled_all net g numbers choosers w ground now.0 now.1 routes wanted front now.2 empty
