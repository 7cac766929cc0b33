-- Which words are refused, and with which number: document 01's acceptance table, a line for each entry. It does not
-- speak of the rows.
use Rattle.std.specs.Prelude.{ℕ, ◌+◌, ◌-◌, Bool, true, not, cond, ◌&&◌, List, [], ◌∷◌, ◌++◌}
use Rattle.laws.specs.Lists.{elem}
use Rattle.refusal.specs.Numbers as numbers
use Rattle.word.specs.Word.{Field, op, rs, rt, sa, funct, Fields}
use Rattle.reading.specs.Kind.{from}

-- is the field one of these, or none of these?
pub data Test : Type 0 where
  ◌one_of◌ : Field → List ℕ → Test
  ◌none_of◌ : Field → List ℕ → Test

infix 80 ◌one_of◌
infix 80 ◌none_of◌
unfoldable pub holds : Test → Fields → Bool
holds (x one_of vs) f = elem (f x) vs
holds (x none_of vs) f = not (elem (f x) vs)

-- an entry: its number, and the tests that a word meets which it refuses
pub record Refusal : Type 0 where
  pub number : ℕ
  pub tests : List Test

abbrev pub refuse : ℕ → List Test → Refusal
refuse n ts = record { number = n; tests = ts }

unfoldable pub meets : List Test → Fields → Bool
meets [] f = true
meets (t ∷ ts) f = holds t f && meets ts f

-- the number of the first entry that refuses the word; 0 if none does
unfoldable pub refusal : List Refusal → Fields → ℕ
refusal [] f = 0
refusal (e ∷ es) f = cond (meets e.tests f) e.number (refusal es f)

-- from a to b
abbrev pub ◌to◌ : ℕ → ℕ → List ℕ
a to b = from a (b + 1 - a)

infix 70 ◌to◌
abbrev pub only : ℕ → List ℕ
only v = v ∷ []

-- the four formats that have arithmetic: s, d, w, l
abbrev pub arithmetic : List ℕ
arithmetic = 16 ∷ 17 ∷ 20 ∷ 21 ∷ []

unfoldable pub refusals : List Refusal
refusals =
    -- op
    refuse numbers.op (op one_of (18 ∷ 19 ∷ 29 ∷ 30 ∷ 50 ∷ 54 ∷ 58 ∷ 59 ∷ 62 ∷ []) ∷ []) ∷
    -- SPECIAL, by funct
    refuse numbers.special (op one_of only 0 ∷ funct one_of (1 ∷ 5 ∷ 14 ∷ 21 ∷ 40 ∷ 41 ∷ 53 ∷ 55 ∷ 57 ∷ 61 ∷ []) ∷ []) ∷
    -- REGIMM, by rt
    refuse numbers.regimm (op one_of only 1 ∷ rt none_of (0 to 3 ++ 16 ∷ 17 ∷ []) ∷ []) ∷
    -- COP0, by rs; rs 16 by funct
    refuse numbers.cop0 (op one_of only 16 ∷ rs none_of (0 ∷ 4 ∷ 16 ∷ []) ∷ []) ∷
    refuse numbers.cop0 (op one_of only 16 ∷ rs one_of only 16 ∷ funct none_of (24 ∷ 32 ∷ []) ∷ []) ∷
    -- COP1, by fmt, the rs bits; 16, 17, 20 and 21 by funct
    refuse numbers.cop1 (op one_of only 17 ∷ rs one_of (3 ∷ 7 ∷ 9 to 15 ++ 18 ∷ 19 ∷ 22 to 31) ∷ []) ∷
    refuse numbers.cop1
    (op one_of only 17 ∷ rs one_of arithmetic ∷
    funct none_of (0 to 7 ++ 13 ∷ 32 ∷ 33 ∷ 36 ∷ 37 ∷ 50 ∷ 60 ∷ 62 ∷ []) ∷ []) ∷
    -- SPECIAL2, by funct
    refuse numbers.special2 (op one_of only 28 ∷ funct none_of (0 ∷ 1 ∷ 2 ∷ 4 ∷ 32 ∷ 33 ∷ []) ∷ []) ∷
    -- SPECIAL3, by funct; 32 by sa
    refuse numbers.special3 (op one_of only 31 ∷ funct none_of (0 ∷ 4 ∷ 32 ∷ 59 ∷ []) ∷ []) ∷
    refuse numbers.special3 (op one_of only 31 ∷ funct one_of only 32 ∷ sa none_of (2 ∷ 16 ∷ 24 ∷ []) ∷ []) ∷
    []
