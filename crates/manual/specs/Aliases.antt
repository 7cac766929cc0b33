-- The source's aliases: other names for words of a page, with a register that is zero left out. The manual has none of
-- them; `b`, `bal`, `nop` and `ssnop` are not here, since they have pages.
use Prim.Native.String.{String}
use Rattle.std.specs.Prelude.{cond, List, [], ◌∷◌, ◌++◌, map}
use lib.Text.{eqt}
use Rattle.word.specs.Word.{Field, rs, rt}
use Rattle.classes.specs.Refusals.{◌one_of◌, only}
use Rattle.manual.specs.Page.{Rs, Rt, Rd, Immediate, Arg, gpr, unsigned, signed16, pc_relative, Format, Page}
use Rattle.manual.specs.Page.{Line}

-- the name, the page, the field that is zero, the operands that are left
pub record Alias : Type 0 where
  pub alias : String
  pub of_page : String
  pub zero : Field
  pub left : List Arg

abbrev pub alias_of : String → String → Field → List Arg → Alias
alias_of a p x xs = record { alias = a; of_page = p; zero = x; left = xs }

unfoldable pub aliases : List Alias
aliases =
    alias_of "move" "addu" rt (gpr Rd ∷ gpr Rs ∷ []) ∷
    alias_of "move" "or" rt (gpr Rd ∷ gpr Rs ∷ []) ∷
    alias_of "move" "daddu" rt (gpr Rd ∷ gpr Rs ∷ []) ∷
    alias_of "not" "nor" rt (gpr Rd ∷ gpr Rs ∷ []) ∷
    alias_of "negu" "subu" rs (gpr Rd ∷ gpr Rt ∷ []) ∷
    alias_of "li" "addiu" rs (gpr Rt ∷ signed16 Immediate ∷ []) ∷
    alias_of "li" "daddiu" rs (gpr Rt ∷ signed16 Immediate ∷ []) ∷
    alias_of "li" "ori" rs (gpr Rt ∷ unsigned Immediate ∷ []) ∷
    alias_of "beqz" "beq" rt (gpr Rs ∷ pc_relative ∷ []) ∷
    alias_of "bnez" "bne" rt (gpr Rs ∷ pc_relative ∷ []) ∷
    alias_of "beqzl" "beql" rt (gpr Rs ∷ pc_relative ∷ []) ∷
    alias_of "bnezl" "bnel" rt (gpr Rs ∷ pc_relative ∷ []) ∷
    []

-- ── the lines of a page: its aliases, then its Format lines ──

unfoldable pub alias_lines : List Alias → Page → List Line
alias_lines [] p = []
alias_lines (a ∷ us) p =
    cond (eqt a.of_page p.name)
    (record { page = p; name = a.alias; when = a.zero one_of only 0 ∷ []; args = a.left } ∷ [])
    []
    ++ alias_lines us p

abbrev pub format_line : Page → Format → Line
format_line p φ = record { page = p; name = p.name; when = φ.when; args = φ.args }

unfoldable pub lines_of : List Page → List Line
lines_of [] = []
lines_of (p ∷ ps) = alias_lines aliases p ++ (map (format_line p) p.formats ++ lines_of ps)
