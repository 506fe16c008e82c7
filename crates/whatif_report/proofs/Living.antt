-- Cuts that can come are cuts of the network.
use Rattle.std.proofs.Common.{ℕ, List, length, map, filter, subst, inl, inr}
use Rattle.std.specs.Prelude.{not}
use Rattle.list_law.specs.Members.{IsIn}
use Rattle.list_law.proofs.Members.{IsIn-append_cases, IsIn-filter_parts, IsIn-map, IsIn-map_parts}
use Rattle.net_base.specs.Locations.{numbers_below}
use Rattle.net_base.specs.Network.{PlainNet}
use Rattle.net_base.specs.Prefixes.{PlainPrefix}
use Rattle.net_base.proofs.NumbersBelow.{below_from_In}
use Rattle.policy_base.specs.Policies.{PlainPolicy}
use Rattle.outcome_base.specs.Outcomes.{Failures, is_dead, is_live}
use Rattle.impact_law.specs.Cuts.{live_cuts}
use Rattle.impact_law.specs.Impacts.{IsImpact}
use Rattle.impact_law.specs.declared.impact.Cut.{Cut}
use Rattle.impact_law.specs.declared.impact.Cut.TheVariants.{Link, Router}
use Rattle.impact_law.specs.declared.impact.CutRow.{CutRow}
use Rattle.impact_law.specs.declared.impact.Impact.{Impact}
use Rattle.impact_law.proofs.OneImpact.{rows_are_of_live_cuts}
use Rattle.whatif_report.specs.Cutting.{AreCutsOf, IsCutOf}

module _ (net : PlainNet) (f : Failures) where
  abbrev living_links : List (ℕ × ℕ)
  living_links = filter (λ (e : ℕ × ℕ). is_live net f e.0 e.1) net.links

  abbrev living : List ℕ
  living = filter (λ (k : ℕ). not (is_dead f k)) (numbers_below (length net.routers))

  live_is_of : (cut : Cut) → IsIn (live_cuts net f) cut → IsCutOf net cut
  live_is_of cut at = elim (IsIn-append_cases (map (λ (e : ℕ × ℕ). Link e.0 e.1) living_links) (map Router living) cut at) [
    | inl h ↦ (let l = IsIn-map_parts (λ (e : ℕ × ℕ). Link e.0 e.1) living_links cut h in subst (IsCutOf net) l.2 tt)
    | inr h ↦ (
        let r = IsIn-map_parts Router living cut h in
        subst (IsCutOf net) r.2 (below_from_In r.0 (length net.routers) (IsIn-filter_parts (λ (k : ℕ). not (is_dead f k)) (numbers_below (length net.routers)) r.0 r.1).0))
  ]

-- so are those of an impact
pub rows_are_of : (net : PlainNet) (policy : PlainPolicy) (f : Failures) (p : PlainPrefix) (impact : Impact) → IsImpact net policy f p impact → AreCutsOf net impact.rows
rows_are_of net policy f p impact is row at =
    live_is_of net f row.cut (subst (λ (cuts : List Cut). IsIn cuts row.cut) (rows_are_of_live_cuts net policy f p impact is) (IsIn-map (λ (r : CutRow). r.cut) impact.rows row at))
