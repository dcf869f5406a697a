-- Reading an image with the version of its text.
use Rattle.block_grammar.specs.Combinators.{◌>>=◌, map_from}
use Rattle.undo_records.specs.declared.version.Version.{Version}
use Rattle.undo_records.specs.Reading.{Reads}
use Rattle.image_grammar.specs.Stages.{Gathered, Stage, head, nothing_of, undos_then, opening_from, Standing, rest_at}

-- what was gathered, and the version of the text
abbrev pub Versioned : Type 0
Versioned = Version × Gathered

abbrev pub in_version : Version → Reads Gathered → Reads Versioned
in_version version read = map_from (λ g. (version, g)) read

-- the whole image
abbrev pub read_from : Reads Versioned
read_from bytes = opening_from bytes >>= λ x. in_version x.0.0.0 (undos_then x.0.0.0 x.0.1 (nothing_of x.0.0.1)) x.1

-- what is left to be read
abbrev pub left_at : Version → Stage → Gathered → Reads Versioned
left_at version head g = read_from
left_at version stage g = in_version version (rest_at version stage g)

abbrev pub left_from : Standing → Reads Versioned
left_from s = left_at s.version s.stage s.gathered
