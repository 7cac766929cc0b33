-- The names of registers and mnemonics as bytes, and which kind has a name.
use Rattle.std.specs.Prelude.{ℕ, suc, cond, List, [], ◌∷◌, get_or, eqb, Option, Some, None}
use Prim.Native.String.{String}
use Rattle.reading.specs.Names.{mnemonics, name_of}
use Rattle.text.specs.Text.{padded, same}

-- ── registers ──

-- the source's `REGS`
unfoldable pub registers : List String
registers =
    "zero" ∷ "at" ∷ "v0" ∷ "v1" ∷ "a0" ∷ "a1" ∷ "a2" ∷ "a3" ∷ "t0" ∷ "t1" ∷ "t2" ∷ "t3" ∷ "t4" ∷ "t5" ∷ "t6" ∷ "t7" ∷
    "s0" ∷ "s1" ∷ "s2" ∷ "s3" ∷ "s4" ∷ "s5" ∷ "s6" ∷ "s7" ∷ "t8" ∷ "t9" ∷ "k0" ∷ "k1" ∷ "gp" ∷ "sp" ∷ "fp" ∷ "ra" ∷
    []

-- a register's name in four bytes; a number from 32 on has none
unfoldable pub register_bytes : ℕ → List ℕ
register_bytes n = padded 4 (get_or registers n "")

-- ── mnemonics ──

-- a mnemonic's name in sixteen bytes; a number that is not a kind has none
unfoldable pub name_bytes : ℕ → List ℕ
name_bytes k = padded 16 (name_of k)

-- the number that stands for none
abbrev pub no_kind : ℕ
no_kind = 255

-- the first of the names, counted from k on, that these sixteen bytes are
unfoldable pub kind_in : List String → ℕ → List ℕ → ℕ
kind_in [] k l = no_kind
kind_in (s ∷ ss) k l = cond (same (padded 16 s) l) k (kind_in ss (suc k) l)

-- the kind with this name
unfoldable pub kind_of : List ℕ → ℕ
kind_of l = kind_in mnemonics 0 l

-- the same as a value or none
unfoldable pub kind_named : List ℕ → Option ℕ
kind_named l = cond (eqb (kind_of l) no_kind) None (Some (kind_of l))
