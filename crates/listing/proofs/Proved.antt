-- What specs/Theorems.antt states, proved.
-- How: a run of lines is a list of them (Rows.antt of crate `pages`), which has both their bytes and their number. A
-- piece and what is left after it are what was left before (`piece_rest`, Rest.antt).
use Prim.Native.Nat.{ℕ, zero, suc, ◌+◌, ◌*◌, ◌-◌, ◌%◌, ◌^◌, ◌<◌, ◌≤◌}
use mathlib.Core.Path.{◌≡◌, refl, sym, ap, ◌∙◌}
use mathlib.Core.List.{List, [], ◌∷◌, ◌++◌, append_assoc, append-nil}
use native.Mathlib.Decide.{dec_le, dec_lt, ℕ_discrete}
use native.Mathlib.Omega.{arith}
use borrow.Author.Tests.{lt-ltb, le-ltb, ne_eqb}
use Rattle.std.specs.Prelude.{Result, Ok, Err, IsOk}
use lib.ListN.{length, take, length-append}
use lib.Seq.{take_all, take_at, length-take-le}
use Rattle.refusal.specs.Numbers as refusal
use Rattle.refusal.specs.declared.Refusal.{Refusal}
use Rattle.refusal.proofs.One.{number_above_0}
use Rattle.text.specs.Text.{newline, text_of, numeral_of, lines_of, hex_of}
use Rattle.text.proofs.Lengths.{hex_long}
use Rattle.section.specs.Section.{count_of, address_of}
use Rattle.section.proofs.Answers.{too_big}
use Rattle.body.specs.Body.{address_at}
use Rattle.pages.specs.Page.{word_line, longest_line}
use Rattle.pages.proofs.Runs.{run_fits}
use Rattle.listing.specs.declared.Cursor.{Cursor}
use Rattle.listing.specs.declared.extent.Piece.{Piece}
use Rattle.listing.specs.Piece.{Listed, listing_of, piece_of}
use Rattle.listing.specs.Swept.{view_in, word_count, head_line, line_in, refused_line, swept_of}
use Rattle.listing.specs.Piece.{last_line, line_at, lines_in, piece_lines, piece_bytes, piece_number, next_of}
use Rattle.listing.specs.Piece.{cursor_after, written_after}
use Rattle.listing.specs.Theorems.{Ended, lines_before, all_lines, written, Lines, Pieces, Theorems}
use Rattle.listing.proofs.Sums.{sum_add, sum_more}
use Rattle.pages.proofs.Rows.{joined, rows_long}
use Rattle.listing.proofs.Ranges.{last_is, last_one, head_at, word_at, lines_are}
use Rattle.listing.proofs.Pieces as piece
use Rattle.listing.proofs.Pieces.{no_line, no_bytes}
use Rattle.listing.proofs.Rest.{rest_rows, rest_none, rest_some, rest_all, piece_bytes_lem, piece_count}
use Rattle.listing.proofs.Whole.{all_bytes, all_long, row_is}
use Rattle.listing.proofs.Ends.{rows_are, one_fits, some_bytes}

-- ── the lines ──

module _ (f : List ℕ) where
  line_is : (n j : ℕ) → n ≤ count_of f → j < lines_in f n → written f (lines_before f n + j) ≡ line_at f n j
  line_is n j h g = rw (rows_are f) (row_is f n j h g)

  word : (n w : ℕ) → n < count_of f → w < word_count f n → written f (lines_before f n + 1 + w) ≡ line_in f n w
  word n w h g =
      let e : lines_before f n + 1 + w ≡ lines_before f n + (w + 1) = omega arith in
      rw e (line_is n (w + 1) (omega arith) (omega (arith, lines_are f n h)) ∙ word_at f n h w)

  head : (n : ℕ) → n < count_of f → written f (lines_before f n) ≡ head_line f n
  head n h =
      let e : lines_before f n + 0 ≡ lines_before f n = omega arith in
      rw e at (line_is n 0 (omega arith) (omega (arith, lines_are f n h))) ∙ head_at f n h

  last : written f (lines_before f (count_of f)) ≡ last_line f
  last =
      let e : lines_before f (count_of f) + 0 ≡ lines_before f (count_of f) = omega arith in
      rw e at (line_is (count_of f) 0 (omega arith) (omega (arith, last_one f))) ∙ last_is f 0

  all : length (lines_of (swept_of f)) ≡ all_lines f
  all = ap length (rows_are f) ∙ all_long f

  address : (n w : ℕ) → take 16 (line_in f n w) ≡ hex_of 16 ((address_of f n + 4 * w) % 2 ^ 64)
  unfolding line_in word_line
  address n w =
      let A : List ℕ = hex_of 16 (address_at (view_in f n) w) in
      simp append_assoc (take_at A _ 16 (hex_long 16 (address_at (view_in f n) w)))

  -- a section's lines come before those of the sections after it
  earlier : (m n : ℕ) → m < n → lines_before f m + word_count f m + 1 ≤ lines_before f n
  unfolding lines_before
  earlier m n h =
      let e : m + (n - m) ≡ n = omega arith in
      let z : 0 + m ≡ m = omega arith in
      let s = rw (e, z) at (sum_add (word_count f) m (n - m) 0) in
      omega (arith, s, sum_more (word_count f) n m h)

  once : (m v n w : ℕ) → v < word_count f m → w < word_count f n →
      lines_before f m + 1 + v ≡ lines_before f n + 1 + w → (m ≡ n) × (v ≡ w)
  once m v n w h g e = go (dec_lt m n) (dec_lt n m)
    where
      go : Dec (m < n) → Dec (n < m) → (m ≡ n) × (v ≡ w)
      go (yes l) d = absurd (omega (arith, earlier m n l))
      go (no l) (yes r) = absurd (omega (arith, earlier n m r))
      go (no l) (no r) =
          let q : m ≡ n = omega arith in
          (q, omega (arith, ap (lines_before f) q))

  lines : Lines f
  lines = record { word = word; address = address; once = once; head = head; last = last; all = all }

-- ── the pieces ──

module _ (f : List ℕ) (room : ℕ → ℕ) where
  -- what was written and what is left
  so_far : (k : ℕ) → written_after f room k ++ joined (rest_rows f (cursor_after f room k)) ≡ swept_of f
  unfolding written_after cursor_after
  so_far zero = ap joined (rest_all f) ∙ all_bytes f
  so_far (suc k) =
      append_assoc (written_after f room k) (piece_bytes f (room k) (cursor_after f room k))
      (joined (rest_rows f (next_of f (room k) (cursor_after f room k))))
      ∙ ap (λ (l : List ℕ). written_after f room k ++ l) (piece_bytes_lem f (room k) (cursor_after f room k)) ∙ so_far k

  whole : (k : ℕ) → Ended f (cursor_after f room k) → written_after f room k ≡ swept_of f
  whole k h =
      sym (append-nil (written_after f room k))
      ∙ (unfold joined in rw (rest_none f (cursor_after f room k) h) at (so_far k))

  -- how many lines are left
  abbrev left : ℕ → ℕ
  left k = length (rest_rows f (cursor_after f room k))

  -- before the first piece
  left_first : left 0 ≡ all_lines f
  unfolding cursor_after
  left_first = ap length (rest_all f) ∙ all_long f

  -- where nothing is left, or not so
  left_none : (k : ℕ) → Ended f (cursor_after f room k) → left k ≡ 0
  left_none k h = ap length (rest_none f (cursor_after f room k) h)

  left_some : (k : ℕ) → (cursor_after f room k).line < lines_in f (cursor_after f room k).section → 1 ≤ left k
  left_some k h =
      let c = cursor_after f room k in
      rw (rest_some f c h)
      (simp length-append
      (omega (arith, rows_long (line_at f c.section) (lines_in f c.section - c.line) c.line)))

  module _ (enough : (i : ℕ) → longest_line ≤ room i) where
    -- one fewer after each piece
    next_fewer : (k : ℕ) → left k ≤ all_lines f - k → left (suc k) ≤ all_lines f - suc k
    unfolding cursor_after
    next_fewer k p = go (dec_lt c.line (lines_in f c.section))
      where
        c : Cursor
        c = cursor_after f room k

        go : Dec (c.line < lines_in f c.section) → left (suc k) ≤ all_lines f - suc k
        go (yes h) = omega (arith, piece_count f (room k) c, one_fits f (room k) c (enough k) h, p)
        go (no h) = omega (arith, piece_count f (room k) c, left_none k (omega arith))

    fewer : (k : ℕ) → left k ≤ all_lines f - k
    fewer zero = omega (arith, left_first)
    fewer (suc k) = next_fewer k (fewer k)

    ends : (k : ℕ) → all_lines f ≤ k → Ended f (cursor_after f room k)
    ends k h = go (dec_lt (cursor_after f room k).line (lines_in f (cursor_after f room k).section))
      where
        go : Dec ((cursor_after f room k).line < lines_in f (cursor_after f room k).section) →
            Ended f (cursor_after f room k)
        go (yes l) = absurd (omega (arith, fewer k, left_some k l))
        go (no l) = omega arith

  pieces : Pieces f room
  pieces = record { begin = λ k. (joined (rest_rows f (cursor_after f room k)), so_far k); whole = whole; ends = ends }

-- ── one piece ──

module _ (f : List ℕ) (room : ℕ) (c : Cursor) where
  fits : length (piece_bytes f room c) ≤ room
  unfolding piece_bytes piece_lines
  fits = run_fits (line_at f c.section) (lines_in f c.section - c.line) c.line room

  nothing : Ended f c → (piece_number f room c ≡ 0) × (piece_bytes f room c ≡ [])
  unfolding piece_number
  nothing h = (rw (le-ltb c.line (lines_in f c.section) h), no_bytes f room c (no_line f room c h))

  enough : longest_line ≤ room → piece_number f room c ≡ 0
  enough r = go (dec_lt c.line (lines_in f c.section))
    where
      go : Dec (c.line < lines_in f c.section) → piece_number f room c ≡ 0
      go (yes h) =
          unfold piece_number in
          rw (
            lt-ltb c.line (lines_in f c.section) h,
            ne_eqb (piece_lines f room c) 0 (λ z. omega (arith, z, one_fits f room c r h)),
          )
      go (no h) = (nothing (omega arith)).0

  empty : piece_number f room c ≡ 0 → length (piece_bytes f room c) ≡ 0 → Ended f c
  empty e z = go (dec_lt c.line (lines_in f c.section)) (ℕ_discrete (piece_lines f room c) 0)
    where
      go : Dec (c.line < lines_in f c.section) → Dec (piece_lines f room c ≡ 0) → Ended f c
      go (no h) d = omega arith
      go (yes h) (yes k) = absurd (omega (arith, e, ap (λ (l : Listed). l.number) (piece.full f room c k h)))
      go (yes h) (no k) = absurd (omega (arith, z, some_bytes f room c (omega arith)))

  -- a piece with bytes leaves fewer lines
  pub falls : (length (piece_bytes f room c) ≡ 0 → ⊥) →
      length (rest_rows f (next_of f room c)) < length (rest_rows f c)
  falls some = go (ℕ_discrete (piece_lines f room c) 0)
    where
      go : Dec (piece_lines f room c ≡ 0) → length (rest_rows f (next_of f room c)) < length (rest_rows f c)
      go (yes z) = absurd (some (ap length (no_bytes f room c z)))
      go (no z) = omega (arith, piece_count f room c)

-- with room for the longest line no piece is refused, as an answer of the code
pub accepted : (f : List ℕ) (room : ℕ) (c : Cursor) (r : Result Piece Refusal) → listing_of c r ≡ piece_of f room c
    → longest_line ≤ room → IsOk r
accepted f room c (Ok p) e h = refl
accepted f room c (Err r) e h =
    let refused = ap (λ (l : Listed). l.number) e ∙ enough f room c h in
    absurd (omega (arith, refused, number_above_0 r))

-- ── a buffer of 65,536 bytes ──

-- such a file is refused for its header, whatever is in it
too_long : (f : List ℕ) → 65535 < length f →
    swept_of f ≡ text_of "file refused " ++ numeral_of 10 refusal.bad_header ++ (newline ∷ [])
unfolding swept_of refused_line
too_long f h = rw (too_big f h)

full : (f : List ℕ) → swept_of (take 65536 f) ≡ swept_of f
full f = go (dec_le (length f) 65535)
  where
    go : Dec (length f ≤ 65535) → swept_of (take 65536 f) ≡ swept_of f
    go (yes h) = ap swept_of (take_all 65536 f (omega arith))
    go (no h) =
        too_long (take 65536 f) (omega (arith, length-take-le 65536 f (omega arith))) ∙ sym (too_long f (omega arith))

pub theorems : Theorems
theorems =
    record {
      lines = lines;
      pieces = pieces;
      fits = fits;
      empty = empty;
      nothing = nothing;
      room = enough;
      full = full;
    }
