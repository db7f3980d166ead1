-- Lists that prefer a level. Assumes nothing.
use Rattle.std.specs.Prelude.{List}
use Rattle.reading.specs.declared.scale.Reading.{Reading}
use Rattle.measures.specs.declared.samples.Sample.{Sample}

-- the readings of such a list
abbrev pub sampled : Sample → List Reading
sampled sample = sample.list.rows.now
