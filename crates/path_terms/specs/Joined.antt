-- What alternations and intersections have in common: both are made of the sorted parts of their members.
use Rattle.std.specs.Prelude.{ℕ, Bool, List, Vec, if◌then◌else◌}
use Rattle.std.specs.Global.{Global}
use Rattle.std.specs.List.{flat_map, list_any}
use Rattle.path_exprs.specs.Expression.{Expression, Expressions, never, either, both}
use Rattle.path_exprs.specs.Normal.{all, both_from, both_parts, either_from, either_parts, is_all, is_never, sorted}
use Rattle.path_terms.specs.declared.join.Join.{Join}
use Rattle.path_terms.specs.declared.join.Join.TheVariants.{AnyOf, AllOf}
use Rattle.path_terms.specs.declared.term.Term.{Term}
use Rattle.path_terms.specs.declared.term.Term.TheVariants.{Either, Both}

abbrev pub term : Join → Vec ℕ Global → Term
term AnyOf members = Either members
term AllOf members = Both members

abbrev pub expression : Join → Expressions → Expression
expression AnyOf es = either es
expression AllOf es = both es

-- what a member adds
abbrev pub parts : Join → Expression → List Expression
parts AnyOf e = either_parts e
parts AllOf e = both_parts e

-- what the sorted parts make
abbrev pub from : Join → List Expression → Expression
from AnyOf es = either_from es
from AllOf es = both_from es

abbrev pub nothing : Join → Expression
nothing AnyOf = never
nothing AllOf = all

-- beside it no other member counts
abbrev pub whole : Join → Expression
whole AnyOf = all
whole AllOf = never

abbrev pub is_whole : Join → Expression → Bool
is_whole AnyOf e = is_all e
is_whole AllOf e = is_never e

abbrev pub joined : Join → List Expression → Expression
joined j es =
    let fs = sorted (flat_map (parts j) es) in
    if list_any (is_whole j) fs then whole j else from j fs
