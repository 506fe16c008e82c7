use Rattle.std.proofs.Common.{refl}
use Rattle.evidence_text.specs.Shape.{places_of}
use Rattle.list_law.proofs.Exits.{passed_on}
use Rattle.evidence_text.proofs.shape.places.Goals as goal

pub returns-in_err-items : goal.returns-in_err-items
unfolding places_of
returns-in_err-items c = rw (passed_on c.from_residual.result c.from_residual.ensures.1) (λ n. rw (c.in_err-items.ensures n) refl)

pub returns-in_err-nodes : goal.returns-in_err-nodes
unfolding places_of
returns-in_err-nodes c = rw (passed_on c.from_residual-in_err-nodes.result c.from_residual-in_err-nodes.ensures.1) (λ n. rw (c.in_ok-items.ensures, c.in_err-nodes.ensures n) refl)

pub returns-in_err-items-2 : goal.returns-in_err-items-2
unfolding places_of
returns-in_err-items-2 c =
    rw (passed_on c.from_residual-in_err-items-2.result c.from_residual-in_err-items-2.ensures.1)
    (λ n. rw (c.in_ok-items.ensures, c.in_ok-nodes.ensures, c.in_err-items-2.ensures n) refl)

pub returns-in_err-origins : goal.returns-in_err-origins
unfolding places_of
returns-in_err-origins c =
    rw (passed_on c.from_residual-in_err-origins.result c.from_residual-in_err-origins.ensures.1)
    (λ n. rw (c.in_ok-items.ensures, c.in_ok-nodes.ensures, c.in_ok-items-2.ensures, c.in_err-origins.ensures n) refl)

pub returns-in_err-items-3 : goal.returns-in_err-items-3
unfolding places_of
returns-in_err-items-3 c =
    rw (passed_on c.from_residual-in_err-items-3.result c.from_residual-in_err-items-3.ensures.1)
    (λ n. rw (c.in_ok-items.ensures, c.in_ok-nodes.ensures, c.in_ok-items-2.ensures, c.in_ok-origins.ensures, c.in_err-items-3.ensures n) refl)

pub returns-in_err-prefixes : goal.returns-in_err-prefixes
unfolding places_of
returns-in_err-prefixes c =
    rw (passed_on c.from_residual-in_err-prefixes.result c.from_residual-in_err-prefixes.ensures.1)
    (λ n. rw (c.in_ok-items.ensures, c.in_ok-nodes.ensures, c.in_ok-items-2.ensures, c.in_ok-origins.ensures, c.in_ok-items-3.ensures, c.in_err-prefixes.ensures n) refl)

pub returns : goal.returns
unfolding places_of
returns c = rw (c.in_ok-items.ensures, c.in_ok-nodes.ensures, c.in_ok-items-2.ensures, c.in_ok-origins.ensures, c.in_ok-items-3.ensures, c.in_ok-prefixes.ensures) refl
