-- A piece by its cases: nothing is left, the line has no room, some lines.
use Prim.Native.Nat.{ℕ, ◌-◌, ◌<◌, ◌≤◌}
use mathlib.Core.Path.{◌≡◌}
use mathlib.Core.List.{List, []}
use native.Mathlib.Omega.{arith}
use borrow.Author.Tests.{lt-ltb, le-ltb, eq-eqb, ne_eqb}
use lib.ListN.{length}
use Rattle.refusal.specs.Numbers as refusal
use Rattle.buffers.specs.Bytes.{over}
use Rattle.listing.specs.Private.Steps.{Ran}
use Rattle.pages.proofs.Runs.{no_lines, run_most}
use Rattle.listing.specs.declared.Cursor.{Cursor}
use Rattle.listing.specs.Piece.{line_at, lines_in, onward, piece_lines, piece_bytes, next_of, piece_number, piece_of}

module _ (f : List ℕ) (room : ℕ) (c : Cursor) where
  pub most : piece_lines f room c ≤ lines_in f c.section - c.line
  unfolding piece_lines
  most = run_most (line_at f c.section) (lines_in f c.section - c.line) c.line room

  pub no_line : lines_in f c.section ≤ c.line → piece_lines f room c ≡ 0
  no_line h = omega (arith, most)

  -- ── no lines ──

  module _ (z : piece_lines f room c ≡ 0) where
    pub no_bytes : piece_bytes f room c ≡ []
    unfolding piece_bytes
    no_bytes = no_lines (line_at f c.section) (piece_lines f room c) c.line z

    pub stays : next_of f room c ≡ c
    unfolding next_of
    stays = rw (eq-eqb (piece_lines f room c) 0 z)

    nothing : {number : ℕ} → piece_number f room c ≡ number →
        record { number = number; bytes = 0; next = c } ≡ piece_of f room c
    nothing e = rw (e, no_bytes, stays)

    pub full : c.line < lines_in f c.section →
        record { number = refusal.no_room; bytes = 0; next = c } ≡ piece_of f room c
    full h =
        nothing
        (unfold piece_number in rw (lt-ltb c.line (lines_in f c.section) h, eq-eqb (piece_lines f room c) 0 z))

  pub ended : lines_in f c.section ≤ c.line → record { number = 0; bytes = 0; next = c } ≡ piece_of f room c
  ended h = nothing (no_line h) (unfold piece_number in rw (le-ltb c.line (lines_in f c.section) h))

  -- ── some ──

  module _ (h : c.line < lines_in f c.section) (some : piece_lines f room c ≡ 0 → ⊥) where
    pub goes : next_of f room c ≡ onward c (piece_lines f room c) (lines_in f c.section)
    unfolding next_of
    goes = rw (ne_eqb (piece_lines f room c) 0 some)

    pub listed : {lines all bytes : ℕ} {next : Cursor} → lines ≡ piece_lines f room c → all ≡ lines_in f c.section →
        bytes ≡ length (piece_bytes f room c) → next ≡ onward c lines all →
        record { number = 0; bytes = bytes; next = next } ≡ piece_of f room c
    unfolding piece_number
    listed el ea eb en =
        rw (lt-ltb c.line (lines_in f c.section) h, ne_eqb (piece_lines f room c) 0 some, goes, en, eb, ea, el)

-- the lines that were run are the piece
pub ran_piece : (f : List ℕ) (c : Cursor) (out : List ℕ) {out₁ : List ℕ} {lines bytes : ℕ} →
    Ran f c.section c.line out out₁ lines bytes →
    (lines ≡ piece_lines f (length out) c) × (bytes ≡ length (piece_bytes f (length out) c)) ×
    (out₁ ≡ over (piece_bytes f (length out) c) out)
unfolding piece_lines piece_bytes
ran_piece f c out r = (r.fit, rw (← r.fit) r.long, rw (← r.fit) r.text)
