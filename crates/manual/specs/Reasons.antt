-- Why a class does not read a field, as the table of classes says it, compared with the pages: `zeros` where the page
-- has zeros, `extra` where it has a field. The proof is in proofs/Reasons.antt.
use Rattle.std.specs.Prelude.{ℕ, Bool, true, false, not, ◌&&◌, ◌||◌, List, [], ◌∷◌, ◌++◌, T, eqb}
use Prim.Native.String.{String}
use Rattle.std.specs.Bool.{beq}
use lib.Text.{eqt}
use Rattle.reading.specs.Names.{name_of}
use Rattle.classes.specs.Row.{Pat, is, read, read_but, zeros, extra, skip_but, low, Row, pat_of}
use Rattle.classes.specs.Meaning.{six}
use Rattle.classes.specs.Table.{table}
use Rattle.laws.specs.Lists.{elem}
use Rattle.manual.specs.Page as page
use Rattle.manual.specs.Page.{Column, column_of, Line}
use Rattle.manual.specs.Pages.{pages}
use Rattle.manual.specs.Aliases.{lines_of}
use Rattle.manual.specs.Exceptions.{reserved_three, reserved_two, reserved_compares}

-- the page has zeros there
unfoldable pub zeroed : Column → Bool
zeroed (page.is v) = eqb v 0
zeroed (page.box n) = false
zeroed (page.over n k v) = false
zeroed (page.under v k n) = false

-- the page has a field there
unfoldable pub boxed : Column → Bool
boxed (page.is v) = false
boxed (page.box n) = true
boxed (page.over n k v) = true
boxed (page.under v k n) = true

unfoldable pub reason : Pat → Column → Bool
reason (is v) c = true
reason read c = true
reason (read_but v) c = true
reason zeros c = zeroed c
reason extra c = boxed c
reason (skip_but v) c = true
reason (low v) c = true

-- at each line that has the row's mnemonic, its own or as an alias
unfoldable pub reasons : String → List Line → Row → Bool
reasons m [] r = true
reasons m (ℓ ∷ ls) r =
    elim (eqt m ℓ.name) [
      | true ↦ six (λ x. reason (pat_of r x) (column_of ℓ.page x)) &&
          reasons m ls r
      | false ↦ reasons m ls r
    ]

unfoldable pub all_reasons : List Line → List Row → Bool
all_reasons ls [] = true
all_reasons ls (r ∷ ts) = reasons (name_of r.kind) ls r && all_reasons ls ts

-- ── the classes of which this says nothing ──

-- does a line have the mnemonic?
unfoldable pub lined : String → List Line → Bool
lined m [] = false
lined m (ℓ ∷ ls) = eqt m ℓ.name || lined m ls

-- those whose mnemonic has no line: it is in a format that the manual reserves (D65)
abbrev pub reserved_formats : List ℕ
reserved_formats = reserved_three ++ reserved_two ++ reserved_compares

unfoldable pub only_reserved : List Line → List Row → Bool
only_reserved ls [] = true
only_reserved ls (r ∷ ts) =
    beq (lined (name_of r.kind) ls) (not (elem r.kind reserved_formats)) && only_reserved ls ts

-- ── what is proved ──

pub record Reasons : Type 0 where
  pub columns : (wide : Bool) → T (all_reasons (lines_of pages) (table wide))
  pub silent : (wide : Bool) → T (only_reserved (lines_of pages) (table wide))
