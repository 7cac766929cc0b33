-- A word and its six fields. Bits are numbered as the manual draws them, 31 on the left and 0 on the right.
use Rattle.std.specs.Prelude.{ℕ, ◌+◌, ◌-◌, ◌*◌, ◌/◌, ◌%◌, ◌^◌, ◌<◌, Bool, true, false}

-- bits hi..lo of a word, as a number
abbrev pub bits : ℕ → ℕ → ℕ → ℕ
bits hi lo w = w / 2 ^ lo % 2 ^ (hi + 1 - lo)

pub data Field : Type 0 where
  op rs rt rd sa funct : Field
  deriving Discrete as Field_discrete

-- are two fields one?
abbrev pub same_field : Field → Field → Bool
same_field x y = elim (Field_discrete x y) [ yes e ↦ true | no d ↦ false ]

-- a value for each field
abbrev pub Fields : Type 0
Fields = Field → ℕ

unfoldable pub fields_of : ℕ → Fields
fields_of w op = bits 31 26 w
fields_of w rs = bits 25 21 w
fields_of w rt = bits 20 16 w
fields_of w rd = bits 15 11 w
fields_of w sa = bits 10 6 w
fields_of w funct = bits 5 0 w

-- how many values a field has
abbrev pub room : Field → ℕ
room op = 2 ^ 6
room rs = 2 ^ 5
room rt = 2 ^ 5
room rd = 2 ^ 5
room sa = 2 ^ 5
room funct = 2 ^ 6

-- each value is one that its field can hold
abbrev pub Fit : Fields → Type 0
Fit f = (x : Field) → f x < room x

-- the word that has these fields
unfoldable pub word : Fields → ℕ
word f = f op * 2 ^ 26 + f rs * 2 ^ 21 + f rt * 2 ^ 16 + f rd * 2 ^ 11 + f sa * 2 ^ 6 + f funct

-- a word is a number below this
abbrev pub words : ℕ
words = 2 ^ 32
