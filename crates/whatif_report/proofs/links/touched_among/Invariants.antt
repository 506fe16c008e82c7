use Rattle.std.proofs.Common.{◌≡◌, ℕ, filter, take}
use Rattle.whatif_report.specs.Shifting.{touches}
use Rattle.whatif_report.proofs.links.touched_among.Given as goal

abbrev pub invariant-loop-link : goal.invariant-loop-link
invariant-loop-link l = l.links ≡ filter (λ (link : ℕ × ℕ). touches l.cut l.moved link.0 link.1) (take l.link-index l.link-items)
