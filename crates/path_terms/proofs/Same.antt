-- Equality of terms is exact.
use Rattle.std.proofs.Common.{◌≡◌, Bool, true, refl}
use Rattle.std.specs.Prelude.{◌==◌}
use Rattle.std.proofs.lemmas.Bool.{and_from, eq-eqb}
use Rattle.list_law.proofs.Texts.{bytes_eq_self}
use Rattle.path_terms.specs.declared.term.Term.{Term}
use Rattle.path_terms.specs.declared.term.Term.TheVariants.{Never, Empty, Set, Seq, Either, Both, Not, Star}
use Rattle.path_terms.specs.contracts.term.TermPartialEq.TheImpl as block

abbrev pub same : Term → Term → Bool
same = block.ghosts.eq

pub itself : (t : Term) → same t t ≡ true
itself Never = refl
itself Empty = refl
itself (Set s) = bytes_eq_self s.words
itself (Seq a b) = and_from (a == a) (b == b) (eq-eqb a a refl) (eq-eqb b b refl)
itself (Either v) = bytes_eq_self v.items
itself (Both v) = bytes_eq_self v.items
itself (Not a) = eq-eqb a a refl
itself (Star a) = eq-eqb a a refl
