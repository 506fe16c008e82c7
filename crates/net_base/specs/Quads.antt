-- The plain reading of four numbers.
use Rattle.net_base.specs.Addresses.{Quad}
use Rattle.net_base.specs.declared.prefix_text.Dotted.{Dotted}

abbrev pub quad : Dotted → Quad
quad d = record { first = d.first; second = d.second; third = d.third; fourth = d.fourth }
