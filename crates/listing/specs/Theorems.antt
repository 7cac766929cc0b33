-- WHAT IS PROVED OF THE LISTING. The proofs are in proofs/Proved.antt.
use Rattle.std.specs.Prelude.{ℕ, ◌+◌, ◌*◌, ◌%◌, ◌^◌, ◌≤◌, ◌<◌, ◌≡◌, List, [], ◌++◌, length, take, get_or}
use Rattle.text.specs.Text.{lines_of, hex_of}
use Rattle.section.specs.Section.{count_of, address_of}
use Rattle.pages.specs.Page.{longest_line}
use Rattle.listing.specs.declared.Cursor.{Cursor}
use Rattle.listing.specs.Swept.{word_count, sum_from, head_line, line_in, swept_of}
use Rattle.listing.specs.Piece.{last_line, lines_in, piece_bytes, piece_number, cursor_after, written_after}

-- nothing is left: the cursor has no line
abbrev pub Ended : List ℕ → Cursor → Type 0
Ended f c = lines_in f c.section ≤ c.line

-- how many lines are before section n: the words of the sections before it, and a head for each
unfoldable pub lines_before : List ℕ → ℕ → ℕ
lines_before f n = sum_from (word_count f) n 0 + n

-- those of all sections, and the last one
abbrev pub all_lines : List ℕ → ℕ
all_lines f = lines_before f (count_of f) + 1

-- line k of what is written, told by its newlines alone, the first being line 0
abbrev pub written : List ℕ → ℕ → List ℕ
written f k = get_or (lines_of (swept_of f)) k []

-- EVERY WORD HAS ITS LINE, ONCE
pub record Lines (f : List ℕ) : Type 0 where
  -- that of word w of section n is
  pub word : (n w : ℕ) → n < count_of f → w < word_count f n → written f (lines_before f n + 1 + w) ≡ line_in f n w
  -- which begins with its address
  pub address : (n w : ℕ) → take 16 (line_in f n w) ≡ hex_of 16 ((address_of f n + 4 * w) % 2 ^ 64)
  -- no line is that of two words
  pub once : (m v n w : ℕ) → v < word_count f m → w < word_count f n →
      lines_before f m + 1 + v ≡ lines_before f n + 1 + w → (m ≡ n) × (v ≡ w)
  -- before those of a section is its head
  pub head : (n : ℕ) → n < count_of f → written f (lines_before f n) ≡ head_line f n
  -- after all sections is one line more
  pub last : written f (lines_before f (count_of f)) ≡ last_line f
  -- and there are no others
  pub all : length (lines_of (swept_of f)) ≡ all_lines f

-- THE PIECES ARE THE LISTING, in any rooms
pub record Pieces (f : List ℕ) (room : ℕ → ℕ) : Type 0 where
  -- so far they are its beginning
  pub begin : (k : ℕ) → (rest : List ℕ) × (written_after f room k ++ rest ≡ swept_of f)
  -- and when nothing is left, all of it
  pub whole : (k : ℕ) → Ended f (cursor_after f room k) → written_after f room k ≡ swept_of f
  -- with room for the longest line each time, that is so after as many of them as there are lines
  pub ends : ((i : ℕ) → longest_line ≤ room i) → (k : ℕ) → all_lines f ≤ k → Ended f (cursor_after f room k)

pub record Theorems : Type 0 where
  pub lines : (f : List ℕ) → Lines f
  pub pieces : (f : List ℕ) (room : ℕ → ℕ) → Pieces f room
  -- a piece fits
  pub fits : (f : List ℕ) (room : ℕ) (c : Cursor) → length (piece_bytes f room c) ≤ room
  -- one that is not refused and has no bytes comes when nothing is left, and only then
  pub empty : (f : List ℕ) (room : ℕ) (c : Cursor) →
      piece_number f room c ≡ 0 → length (piece_bytes f room c) ≡ 0 → Ended f c
  pub nothing : (f : List ℕ) (room : ℕ) (c : Cursor) → Ended f c →
      (piece_number f room c ≡ 0) × (piece_bytes f room c ≡ [])
  -- with room for the longest line no piece is refused
  pub room : (f : List ℕ) (room : ℕ) (c : Cursor) → longest_line ≤ room → piece_number f room c ≡ 0
  -- a buffer of 65,536 bytes is enough: what has no room in it does not change the listing
  pub full : (f : List ℕ) → swept_of (take 65536 f) ≡ swept_of f
