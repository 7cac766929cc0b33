-- What the private functions answer.
use Rattle.std.specs.Prelude.{ℕ, ◌+◌, ◌≤◌, ◌≡◌, Bool, true, false, List, ◌++◌, take}
use Rattle.buffers.specs.Writes.{Wrote}
use Rattle.text.specs.Text.{text_of}
use Rattle.line.specs.declared.Draft.{Draft}

-- a number of 64 bits has at most as many bytes as -9223372036854775808
abbrev pub longest_number : ℕ
longest_number = 20

-- what is written so far
abbrev pub text_in : Draft → List ℕ
text_in d = take d.end d.bytes

-- what stands before the first operand, and before each other
abbrev pub separator : Bool → List ℕ
separator true = text_of " "
separator false = text_of ", "

-- l, of at most `most` bytes, was added at its end, and all else is as it was
pub record Added (most : ℕ) (l : List ℕ) (d d' : Draft) : Type 0 where
  pub text : text_in d' ≡ text_in d ++ l
  pub short : d'.end ≤ d.end + most
  pub wrote : Wrote d.end most l d.bytes d'.bytes d'.end
