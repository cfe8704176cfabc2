-- Texts of units: what is pending is one unit at most, and units are read alike where the text is cut off behind a segment.
use Rattle.theory.proofs.Divisions.{Holds}
use Rattle.theory.proofs.TableDivides.{table-holds}
use Rattle.utf16.specs.Units.{rows, lone_unit, units}
use Rattle.decoder_shared.proofs.SettledIsCut.{Cuttable, table-cut}

pub units-hold : Holds units 1
unfolding units rows
units-hold = table-holds rows lone_unit

pub units-cut : Cuttable units
unfolding units
units-cut = table-cut rows lone_unit
