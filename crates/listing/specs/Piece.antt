-- THE LISTING IN PIECES: as many whole lines as fit in a lent buffer, from a cursor on.
use Rattle.std.specs.Prelude.{ℕ, zero, suc, ◌+◌, ◌-◌, cond, List, [], ◌++◌, eqb, ltb, length, Result, Ok, Err}
use Rattle.refusal.specs.Numbers as refusal
use Rattle.refusal.specs.declared.Refusal.{Refusal}
use Rattle.refusal.specs.Refusals.{number_of}
use Rattle.section.specs.Section.{checked, count_of}
use Rattle.pages.specs.Lines.{lines_from, fitting}
use Rattle.listing.specs.declared.Cursor.{Cursor}
use Rattle.listing.specs.declared.extent.Piece.{Piece}
use Rattle.listing.specs.Swept.{word_count, head_line, line_in, total_line, refused_line}

-- ── the lines by number ──

-- the last line of all: the counts, or what a bad file is refused with
unfoldable pub last_line : List ℕ → List ℕ
last_line f = cond (eqb (checked f) 0) (total_line f) (refused_line f)

-- line 0 of a section is its head, line w + 1 that of word w; in the place of one more section is the last line of all
unfoldable pub line_at : List ℕ → ℕ → ℕ → List ℕ
line_at f n j = cond (ltb n (count_of f)) (cond (eqb j 0) (head_line f n) (line_in f n (j - 1))) (last_line f)

-- how many lines there are in a place
unfoldable pub lines_in : List ℕ → ℕ → ℕ
lines_in f n = cond (ltb n (count_of f)) (word_count f n + 1) (cond (eqb n (count_of f)) 1 0)

-- ── a piece ──

abbrev pub cursor : ℕ → ℕ → Cursor
cursor n j = record { section = n; line = j }

-- lines of one section, as many as fit
unfoldable pub piece_lines : List ℕ → ℕ → Cursor → ℕ
piece_lines f room c = fitting (line_at f c.section) (lines_in f c.section - c.line) c.line room

unfoldable pub piece_bytes : List ℕ → ℕ → Cursor → List ℕ
piece_bytes f room c = lines_from (line_at f c.section) (piece_lines f room c) c.line

-- after some lines of a section that has this many: its next line, after the last one the first of the next section
abbrev pub onward : Cursor → ℕ → ℕ → Cursor
onward c lines all =
    cond (ltb (c.line + lines) all) (cursor c.section (c.line + lines)) (cursor (c.section + 1) 0)

-- a piece without a line goes on where it was
unfoldable pub next_of : List ℕ → ℕ → Cursor → Cursor
next_of f room c =
    cond (eqb (piece_lines f room c) 0) c (onward c (piece_lines f room c) (lines_in f c.section))

-- refused if there is a line and it does not fit
unfoldable pub piece_number : List ℕ → ℕ → Cursor → ℕ
piece_number f room c =
    cond (ltb c.line (lines_in f c.section)) (cond (eqb (piece_lines f room c) 0) refusal.no_room 0) 0

-- 0, how many bytes the piece has and where the listing goes on; or the number, no bytes and the same cursor
pub record Listed : Type 0 where
  pub number : ℕ
  pub bytes : ℕ
  pub next : Cursor

-- an answer at cursor c in that number, bytes and cursor
abbrev pub listing_of : Cursor → Result Piece Refusal → Listed
listing_of c (Ok p) = record { number = 0; bytes = p.bytes; next = p.next }
listing_of c (Err r) = record { number = number_of r; bytes = 0; next = c }

abbrev pub piece_of : List ℕ → ℕ → Cursor → Listed
piece_of f room c =
    record { number = piece_number f room c; bytes = length (piece_bytes f room c); next = next_of f room c }

-- ── one after the other, each in a room of its own ──

-- where the listing goes on after k pieces
unfoldable pub cursor_after : List ℕ → (ℕ → ℕ) → ℕ → Cursor
cursor_after f room zero = cursor 0 0
cursor_after f room (suc k) = next_of f (room k) (cursor_after f room k)

-- what they are together
unfoldable pub written_after : List ℕ → (ℕ → ℕ) → ℕ → List ℕ
written_after f room zero = []
written_after f room (suc k) = written_after f room k ++ piece_bytes f (room k) (cursor_after f room k)
