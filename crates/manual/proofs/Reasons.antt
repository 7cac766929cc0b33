-- What specs/Reasons.antt states, computed.
use mathlib.Core.Bool.{Bool, true, false}
use lib.Dec.{T}
use Rattle.reading.specs.Names.{mnemonics, name_of}
use Rattle.classes.specs.Meaning.{six}
use Rattle.classes.specs.Table.{common, by_width, table}
use Rattle.laws.specs.Lists.{elem}
use Rattle.manual.specs.Pages.{pages}
use Rattle.manual.specs.Aliases.{aliases, alias_lines, lines_of}
use Rattle.manual.specs.Reasons as specs
use Rattle.manual.specs.Reasons.{Reasons}

columns : (wide : Bool) → T (specs.all_reasons (lines_of pages) (table wide))
unfolding specs.all_reasons specs.reasons specs.reason specs.zeroed specs.boxed mnemonics name_of six common by_width table pages aliases alias_lines lines_of
columns true = tt
columns false = tt

silent : (wide : Bool) → T (specs.only_reserved (lines_of pages) (table wide))
unfolding specs.only_reserved specs.lined elem mnemonics name_of common by_width table pages aliases alias_lines lines_of
silent true = tt
silent false = tt

pub reasons : Reasons
reasons = record { columns = columns; silent = silent }
