-- THE TEST that a table of classes and an acceptance table pass for demand 3: each word is in one row or is refused, each row is well
-- made, and rows of one mnemonic are twins whose words are in order. All that the laws need of the tables is here.
use Prim.Native.Nat.{ℕ}
use mathlib.Core.Bool.{Bool, true, false, not, ◌&&◌, ◌||◌}
use mathlib.Core.List.{List, [], ◌∷◌}
use lib.Dec.{eqb, ltb, leb}
use Rattle.word.specs.Word.{Field, room}
use Rattle.reading.specs.Kind as kind
use Rattle.classes.specs.Row.{Pat, is, read, read_but, zeros, extra, skip_but, low, Row, pat_of}
use Rattle.classes.specs.Meaning.{match, six}
use Rattle.classes.specs.Table.{rt_imm, rt_uimm}
use Rattle.laws.specs.Lists.{elem}
use Rattle.classes.specs.Refusals.{Refusal}
use Rattle.classes.specs.Private.Same.{same_form}
use Rattle.classes.proofs.Tests.{same_manner}
use Rattle.classes.proofs.Boxes.{exact}
use Rattle.classes.proofs.Accepts.{numbered}
use Rattle.classes.proofs.Find.{every}
use Rattle.classes.proofs.Operands.{operands_in}
use Rattle.classes.proofs.Uses.{is_read, made_of_read}
use Rattle.inverse.specs.Same.{groups}
use Rattle.inverse.specs.Private.Candidate.{least, base}
use Rattle.inverse.proofs.Fill.{apart}

-- ── one row ──

-- the field can have that value
unfoldable pub least_in : Row → Field → Bool
least_in r x = (is_read (pat_of r x) || match (pat_of r x) (base r x)) && ltb (base r x) (room x)

-- the field has this value and no other
abbrev pub fixed_to : ℕ → Pat → Bool
fixed_to n (is v) = eqb v n
fixed_to n read = false
fixed_to n (read_but v) = false
fixed_to n zeros = false
fixed_to n extra = false
fixed_to n (skip_but v) = false
fixed_to n (low v) = false

abbrev pub is_zero : Pat → Bool
is_zero p = fixed_to 0 p

abbrev pub is_free : Pat → Bool
is_free (is v) = false
is_free read = false
is_free (read_but v) = false
is_free zeros = true
is_free extra = true
is_free (skip_but v) = false
is_free (low v) = false

-- a row that leaves words 0 and 0x40 out can do without them: rs is free
unfoldable pub nops_in : Row → Bool
nops_in r =
    not r.nops
    || (is_zero r.pop && (is_zero r.pfunct && (is_free r.prs && (is_read r.prt && (is_read r.prd && is_read r.psa)))))

unfoldable pub sound : Row → Bool
sound r = made_of_read r && (six (least_in r) && (nops_in r && (apart r.form && leb (operands_in r.form) 4)))

-- ── two rows of one mnemonic ──

unfoldable pub same_operands : Row → Row → Bool
same_operands h r =
    same_form h.form r.form
    || (eqb h.kind kind.li
    && ((same_form h.form rt_imm && same_form r.form rt_uimm) || (same_form h.form rt_uimm && same_form r.form rt_imm)))

-- what is read may be anything
abbrev pub is_plain : Pat → Bool
is_plain (is v) = true
is_plain read = true
is_plain (read_but v) = false
is_plain zeros = true
is_plain extra = true
is_plain (skip_but v) = true
is_plain (low v) = true

-- h's words are no larger than r's with the same operands: op is smaller, or no field is larger
unfoldable pub before : Row → Row → Bool
before h r = (not (is_read h.pop) && ltb (least h.pop) (least r.pop)) || six (λ x. leb (base h x) (base r x))

unfoldable pub twin : Row → Row → Bool
twin h r =
    elem r.kind groups
    && (same_manner h.manner r.manner
    && (not h.nops && (same_operands h r && (six (λ x. is_plain (pat_of h x)) && before h r))))

-- ── the tables ──

-- a row's mnemonic is that of no later row but of its twins
unfoldable pub paired : List Row → Bool
paired [] = true
paired (h ∷ ts) = every (λ r. not (eqb h.kind r.kind) || twin h r) ts && paired ts

unfoldable pub good : List Row → List Refusal → Bool
good ts es = exact ts es && (numbered es && (every sound ts && paired ts))
