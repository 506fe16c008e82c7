-- What borrowed parts of a text say.
use Rattle.std.specs.Prelude.{option_map, Option}
use Rattle.location_names.specs.Names.{texts}
use Rattle.table_reader.specs.declared.shape.RawRoute.{RawRoute}
use Rattle.table_reader.specs.Shape.{Said}

abbrev pub raw_route : RawRoute → Said
raw_route r = record { path = texts r.path.items; tag = r.tag; pref = r.pref }

abbrev pub raw_entry : Option RawRoute → Option Said
raw_entry o = option_map raw_route o
