-- Rows by their ranks: a place has one list of them.
use Rattle.std.proofs.Common.{◌≡◌, List, sym, ◌∙◌, subst, inl, inr, Option, ℕ}
use Rattle.net_base.specs.Network.{PlainNet}
use Rattle.net_base.specs.Prefixes.{PlainPrefix}
use Rattle.policy_base.specs.Policies.{PlainPolicy}
use Rattle.impact_law.proofs.OneImpact.{one_list}
use Rattle.compare_base.specs.declared.rows.Place.{Place}
use Rattle.compare_base.specs.declared.rows.Row.{Row}
use Rattle.compare_base.specs.Order.{IsLess}
use Rattle.compare_base.proofs.Less.{less_itself, less_through}
use Rattle.pair_rows.specs.Rows.{AreRows, IsEarlier}

pub earlier_itself : (row : Row) → IsEarlier row row → ⊥
earlier_itself row (inl less) = less_itself row.old less
earlier_itself row (inr both) = less_itself row.new both.1

pub earlier_through : (x y z : Row) → IsEarlier x y → IsEarlier y z → IsEarlier x z
earlier_through x y z (inl one) (inl other) = inl (less_through x.old y.old z.old one other)
earlier_through x y z (inl one) (inr other) = inl (subst (λ (rank : Option ℕ). IsLess x.old rank) other.0 one)
earlier_through x y z (inr one) (inl other) = inl (subst (λ (rank : Option ℕ). IsLess rank z.old) (sym one.0) other)
earlier_through x y z (inr one) (inr other) = inr (one.0 ∙ other.0, less_through x.new y.new z.new one.1 other.1)

pub rows_are_one : (net : PlainNet) (old new : PlainPolicy) (p : PlainPrefix) (place : Place) (xs ys : List Row) → AreRows net old new p place xs → AreRows net old new p place ys → xs ≡ ys
rows_are_one net old new p place xs ys a b =
    one_list IsEarlier earlier_itself earlier_through xs ys a.order b.order (λ row at. (b.those row).1 ((a.those row).0 at)) (λ row at. (a.those row).1 ((b.those row).0 at))
