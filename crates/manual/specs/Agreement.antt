-- DEMAND 2 AGAINST THE MANUALS: the source and the manuals agree on a word, at any address and under either width flag,
-- exactly if no exception covers it. The proofs are in proofs/Proved.antt.
use Rattle.std.specs.Prelude.{ℕ, ◌+◌, ◌%◌, ◌^◌, ◌≤◌, ◌≡◌, Bool, true, false, cond, ◌||◌, List, [], ◌∷◌, map, ◌⊎◌, T}
use Rattle.std.specs.Prelude.{None, Some, Option as Target}
use Rattle.std.specs.Prelude.{leb, take}
use Rattle.std.proofs.Math.Option.{Option, none, some}
use Rattle.word.specs.Word.{Fields, fields_of}
use Rattle.reading.specs.declared.Op.{Op}
use Rattle.reading.specs.declared.Op.TheVariants.{Reg, FReg, Imm, Mem, Addr, Cop0}
use Rattle.reading.specs.declared.Operand.{Operand}
use Rattle.reading.specs.declared.Insn.{Insn}
use Rattle.reading.specs.declared.Decoded.{Decoded}
use Rattle.reading.specs.Names.{name_of}
use Rattle.classes.specs.Meaning.{outs}
use Rattle.laws.specs.Lists.{elem}
use Rattle.classes.specs.Decoded.{decoded_of}
use Rattle.manual.specs.Page.{Name, Arg, Isa, MIPS32, MIPS64, Page, defines, Line, has, whole, without, pc_bits}
use Rattle.manual.specs.Page.{Meant, GPR, FPR, FCR, HWR, CP0, CP2, number, memory, indexed, address}
use Rattle.manual.specs.Page.{meant_in, meant}
use Rattle.manual.specs.Pages.{pages}
use Rattle.manual.specs.Aliases.{lines_of}
use Rattle.manual.specs.Exceptions.{Sort, Answer, refused, reads, drops, Difference, covers, differences}

-- ── what the manuals say of a word ──

-- the manual of the width: MIPS64 has all pages, MIPS32 its own
abbrev pub in_book : Isa → Bool → Bool
in_book MIPS32 wide = true
in_book MIPS64 wide = wide

unfoldable pub book : List Page → Bool → List Page
book [] wide = []
book (p ∷ ps) wide = cond (in_book p.isa wide) (p ∷ book ps wide) (book ps wide)

unfoldable pub first_line : List Line → Fields → Option Line
first_line [] f = none
first_line (ℓ ∷ ls) f = cond (has ℓ f) (some ℓ) (first_line ls f)

-- the first line that has the word
unfoldable pub line_for : Bool → Fields → Option Line
line_for wide f = first_line (lines_of (book pages wide)) f

unfoldable pub any_defines : List Page → Fields → Bool
any_defines [] f = false
any_defines (p ∷ ps) f = defines p f || any_defines ps f

abbrev pub found : Option Line → Bool
found none = false
found (some ℓ) = true

-- ── what a reading says ──

-- the operands in use
abbrev pub used : Insn → List Op
used i = take i.count (map (λ (o : Operand). o.op) i.ops)

abbrev pub shows : Op → Meant
shows (Reg n) = GPR n
shows (FReg n) = FPR n
shows (Imm z) = number z
shows (Mem z n) = memory z n
shows (Addr a) = address a
shows (Cop0 n) = CP0 n

-- the target is the operand that is an address
unfoldable pub target_among : List Meant → Target ℕ
target_among [] = None
target_among (GPR n ∷ ms) = target_among ms
target_among (FPR n ∷ ms) = target_among ms
target_among (FCR n ∷ ms) = target_among ms
target_among (HWR n ∷ ms) = target_among ms
target_among (CP0 n ∷ ms) = target_among ms
target_among (CP2 n ∷ ms) = target_among ms
target_among (number z ∷ ms) = target_among ms
target_among (memory z n ∷ ms) = target_among ms
target_among (indexed m n ∷ ms) = target_among ms
target_among (address a ∷ ms) = Some a

-- ── agreement ──

-- the reading has the line's name, its operands in the Format line's order and its target, and nothing of the page is
-- left out
pub record Reads (ℓ : Line) (wide : Bool) (va : ℕ) (f : Fields) (i : Insn) : Type 0 where
  pub name : name_of i.mnemonic ≡ ℓ.name
  pub operands : map shows (used i) ≡ meant ℓ wide va f
  pub target : i.target ≡ target_among (meant ℓ wide va f)
  pub whole : T (whole ℓ)

-- a word that a page defines is accepted and read so; a word that no page defines is refused
abbrev pub AgreeBy : Option Line → Bool → ℕ → Fields → Decoded → Type 0
AgreeBy none wide va f d = ¬ (d.number ≡ 0)
AgreeBy (some ℓ) wide va f d = (d.number ≡ 0) × Reads ℓ wide va f d.insn

abbrev pub Agree : ℕ → ℕ → Bool → Type 0
Agree w va wide = AgreeBy (line_for wide (fields_of w)) wide va (fields_of w) (decoded_of w va wide)

-- ── what the PC holds of an address ──

abbrev pub held : Bool → Meant → Meant
held wide (GPR n) = GPR n
held wide (FPR n) = FPR n
held wide (FCR n) = FCR n
held wide (HWR n) = HWR n
held wide (CP0 n) = CP0 n
held wide (CP2 n) = CP2 n
held wide (number z) = number z
held wide (memory z n) = memory z n
held wide (indexed m n) = indexed m n
held wide (address a) = address (a % 2 ^ pc_bits wide)

abbrev pub held_target : Bool → Target ℕ → Target ℕ
held_target wide None = None
held_target wide (Some a) = Some (a % 2 ^ pc_bits wide)

-- the PC does not hold all of the address
abbrev pub past : Bool → Op → Bool
past wide (Reg n) = false
past wide (FReg n) = false
past wide (Imm z) = false
past wide (Mem z n) = false
past wide (Addr a) = leb (2 ^ pc_bits wide) a
past wide (Cop0 n) = false

unfoldable pub any_past : Bool → List Op → Bool
any_past wide [] = false
any_past wide (o ∷ os) = past wide o || any_past wide os

-- the line's name, these of its operands and its target, as far as the PC holds an address
pub record Names (ℓ : Line) (xs : List Arg) (wide : Bool) (va : ℕ) (f : Fields) (i : Insn) : Type 0 where
  pub name : name_of i.mnemonic ≡ ℓ.name
  pub operands : map (held wide) (map shows (used i)) ≡ meant_in ℓ.page xs wide va f
  pub target : held_target wide i.target ≡ target_among (meant_in ℓ.page xs wide va f)

-- ── exceptions ──

unfoldable pub any_covers : List Difference → Bool → Fields → Bool
any_covers [] wide f = false
any_covers (d ∷ ds) wide f = covers d wide f || any_covers ds wide f

-- how many exceptions cover a word
unfoldable pub covering : List Difference → Bool → Fields → ℕ
covering [] wide f = 0
covering (d ∷ ds) wide f = cond (covers d wide f) 1 0 + covering ds wide f

abbrev pub covered : Bool → Fields → Bool
covered wide f = any_covers differences wide f

-- one of the sorts has the mnemonic and the operands
abbrev pub OneOf : List Sort → ℕ → Fields → Insn → Type 0
OneOf [] va f i = ⊥
OneOf (s ∷ ss) va f i = (T (elem i.mnemonic s.kinds) × (used i ≡ outs s.form va f)) ⊎ OneOf ss va f i

-- the manual's line without the operands that name the field
abbrev pub Dropped : Name → Option Line → Bool → ℕ → Fields → Insn → Type 0
Dropped n none wide va f i = ⊥
Dropped n (some ℓ) wide va f i = Names ℓ (without n ℓ.args) wide va f i

abbrev pub Answered : Answer → Bool → ℕ → Fields → Decoded → Type 0
Answered (refused n) wide va f d = d.number ≡ n
Answered (reads ss) wide va f d = (d.number ≡ 0) × OneOf ss va f d.insn
Answered (drops n) wide va f d = (d.number ≡ 0) × Dropped n (line_for wide f) wide va f d.insn

-- THE EXCEPTION THAT DEPENDS ON THE ADDRESS (D76): the source's targets have 64 bits under either flag, and the PC of
-- MIPS32 has 32. It is stated here and not in the table of differences, which speaks of words alone
abbrev pub target_past_pc : ℕ → ℕ → Bool → Bool
target_past_pc w va wide = any_past wide (used (decoded_of w va wide).insn)

-- what is read then: the manual's line, but for the address
abbrev pub PastAs : Option Line → Bool → ℕ → Fields → Insn → Type 0
PastAs none wide va f i = ⊥
PastAs (some ℓ) wide va f i = Names ℓ ℓ.args wide va f i × T (whole ℓ)

-- for each of a list
abbrev pub Each : {A : Type 0} → (A → Type 0) → List A → Type 0
Each P [] = Unit {0}
Each P (a ∷ l) = P a × Each P l

-- ── what is proved ──

pub record Manual (w va : ℕ) (wide : Bool) : Type 0 where
  -- there is a line for the word exactly if a page defines it
  pub lined : found (line_for wide (fields_of w)) ≡ any_defines (book pages wide) (fields_of w)
  -- no exception covers the word: the two agree on it
  pub agree : covered wide (fields_of w) ≡ false → target_past_pc w va wide ≡ false → Agree w va wide
  -- an exception covers it: they do not
  pub differ : covered wide (fields_of w) ≡ true → ¬ Agree w va wide
  -- no other one does
  pub single : covering differences wide (fields_of w) ≤ 1
  -- and the source answers what the exception says
  pub answered :
      Each (λ d. T (covers d wide (fields_of w)) → Answered d.answer wide va (fields_of w) (decoded_of w va wide))
      differences
  -- the target is past the PC: they do not agree, and the manual is that of MIPS32
  pub past : target_past_pc w va wide ≡ true → (¬ Agree w va wide) × (wide ≡ false)
  -- where no other exception covers the word, it differs in the address alone
  pub past_answered : covered wide (fields_of w) ≡ false → target_past_pc w va wide ≡ true →
      PastAs (line_for wide (fields_of w)) wide va (fields_of w) (decoded_of w va wide).insn
