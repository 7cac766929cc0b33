-- What the decoder's private functions are handed, and what they answer.
use Rattle.std.specs.Prelude.{ℕ, ◌≡◌, Bool, List, [], ◌∷◌}
use Rattle.word.specs.Word.{Field, fields_of, op, rs, funct}
use Rattle.classes.specs.Decoded.{decoded_of}
use Rattle.refusal.specs.declared.Refusal.{Refusal}
use Rattle.reading.specs.Reading.{answer_of}
use Rattle.forms.specs.declared.Shape.{Shape}
use Rattle.forms.specs.Read.{read_by}

-- ── answers ──

-- the shape of the word under a width flag: read by it, the word has its answer at every address
pub record Is (s : Shape Refusal) (w : ℕ) (wide : Bool) : Type 0 where
  pub reads : (va : ℕ) → answer_of (read_by s w va) ≡ decoded_of w va wide

-- under each
abbrev pub Each : Shape Refusal → ℕ → Type 0
Each s w = (wide : Bool) → Is s w wide

-- ── words ──

-- a word of the group with this op
abbrev pub Group : ℕ → ℕ → Type 0
Group o w = fields_of w op ≡ o

-- none of these, in the shape that the arm `_` of a `match` knows it: the last arm first
abbrev pub NoneOf : ℕ → List ℕ → Type 0
NoneOf a [] = Unit {0}
NoneOf a (v ∷ vs) = NoneOf a vs × (a ≡ v → ⊥)

-- passed on by functions that have arms for these
abbrev pub Passed : ℕ → List (List ℕ) → Type 0
Passed a [] = Unit {0}
Passed a (vs ∷ vss) = NoneOf a vs × Passed a vss

-- the field is this, and was passed on so
abbrev pub Handed : Field → ℕ → List (List ℕ) → ℕ → Type 0
Handed x k vss w = (fields_of w x ≡ k) × Passed (fields_of w x) vss

-- the shape of every such word
abbrev pub EachHanded : Shape Refusal → ℕ → List (List ℕ) → Type 0
EachHanded s k vss = (w : ℕ) → Handed op k vss w → Each s w

-- ── the arms by op ──

abbrev pub grouped : List ℕ
grouped = 31 ∷ 28 ∷ 17 ∷ 16 ∷ 1 ∷ 0 ∷ []

abbrev pub branches : List ℕ
branches = 23 ∷ 22 ∷ 7 ∷ 6 ∷ 21 ∷ 20 ∷ 5 ∷ 4 ∷ 3 ∷ 2 ∷ []

abbrev pub immediates : List ℕ
immediates = 15 ∷ 14 ∷ 13 ∷ 12 ∷ 11 ∷ 10 ∷ 25 ∷ 24 ∷ 9 ∷ 8 ∷ []

-- ── the arms of SPECIAL, by funct ──

abbrev pub shifts : List ℕ
shifts = 23 ∷ 22 ∷ 20 ∷ 7 ∷ 6 ∷ 4 ∷ 63 ∷ 62 ∷ 60 ∷ 59 ∷ 58 ∷ 56 ∷ 3 ∷ 2 ∷ 0 ∷ []

abbrev pub moves : List ℕ
moves = 31 ∷ 30 ∷ 29 ∷ 28 ∷ 27 ∷ 26 ∷ 25 ∷ 24 ∷ 19 ∷ 17 ∷ 18 ∷ 16 ∷ 15 ∷ 13 ∷ 12 ∷ 11 ∷ 10 ∷ 9 ∷ 8 ∷ []

abbrev pub arithmetics : List ℕ
arithmetics = 43 ∷ 42 ∷ 39 ∷ 38 ∷ 37 ∷ 36 ∷ 35 ∷ 34 ∷ 33 ∷ 32 ∷ []

-- a word of SPECIAL whose funct is this, and was passed on so
abbrev pub Special : ℕ → List (List ℕ) → ℕ → Type 0
Special k vss w = Group 0 w × Handed funct k vss w

-- ── COP1, by fmt ──

-- a format's fmt, and the distance of its mnemonics from those of format s
pub data Behind : ℕ → ℕ → Type 0 where
  single : {x k : ℕ} → x ≡ 16 → k ≡ 0 → Behind x k
  double : {x k : ℕ} → x ≡ 17 → k ≡ 16 → Behind x k
  word : {x k : ℕ} → x ≡ 20 → k ≡ 32 → Behind x k
  long : {x k : ℕ} → x ≡ 21 → k ≡ 48 → Behind x k

abbrev pub Format : ℕ → ℕ → Type 0
Format k w = Group 17 w × Behind (fields_of w rs) k
