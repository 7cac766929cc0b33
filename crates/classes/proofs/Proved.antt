-- What specs/Theorems.antt states, proved.
-- How: rows and refusals are boxes, sets of words given field by field (Boxes.antt). One walk over the fields,
-- computed, shows that each word is in exactly one box of the two tables (Cover.antt, Accepts.antt; the walk itself is
-- Walk.antt of crate `laws`). The laws hold for any two tables that pass the computed test `exact`. The other rules are
-- a computed test of each row and a law that turns it into the statement for every word. For whatever is said of every
-- word's reading, here and in the crates above, that law is `reading_by` (Find.antt), for any tables.
use mathlib.Core.Path.{refl}
use mathlib.Core.Bool.{Bool, true, false}
use Rattle.laws.specs.Lists.{elem}
use Rattle.classes.specs.Table.{common, by_width, table}
use Rattle.classes.specs.Unread.{list, listed_in, unread_at, unread_by}
use Rattle.classes.specs.Theorems.{Unread, Theorems}
use Rattle.classes.proofs.Accepts.{acceptance}
use Rattle.classes.proofs.Uses.{ignored}
use Rattle.classes.proofs.Marks.{marked}
use Rattle.classes.proofs.Width.{width}

-- computed, row by row
unread : (wide : Bool) → Unread wide
unfolding table common by_width elem list listed_in unread_at unread_by
unread true = refl
unread false = refl

pub theorems : Theorems
theorems = record { acceptance = acceptance; unread = unread; ignored = ignored; marked = marked; width = width }
