-- As many lines as fit, from a line of a section on: none, one, and the lines of words after the head or without it.
use Prim.Native.Nat.{ℕ, suc, ◌+◌, ◌-◌, ◌<◌, ◌≤◌}
use mathlib.Core.Path.{◌≡◌, refl, sym, ap, ◌∙◌}
use mathlib.Core.List.{List, ◌++◌, append-nil}
use native.Mathlib.Numerals.{add-one}
use native.Mathlib.Decide.{dec_le, ℕ_discrete}
use mir.Val.{bool_byte}
use native.Mathlib.Omega.{arith}
use borrow.Author.Tests.{le-leb, lt-ltb, le-ltb, eq-eqb, ne_eqb, eqb-true}
use mathlib.Core.Bool.{Bool, true, false, cond, not}
use lib.Dec.{eqb, ltb}
use lib.ListN.{length, length-append}
use Rattle.buffers.specs.Bytes.{over, over_at}
use Rattle.buffers.proofs.Laws.{then_at, at_start, over_at_length, whole_in, whole_out, has_room, no_room}
use Rattle.line.specs.Line.{plain}
use Rattle.section.specs.Section.{count_of, body_of}
use Rattle.pages.specs.Lines.{lines_from, fitting}
use Rattle.body.specs.declared.View.{View}
use Rattle.std.specs.Result.{ResultUnwrapsOrElse}
use Rattle.std.proofs.Common.{Result, Ok, Err}
use Rattle.refusal.specs.declared.Refusal.{Refusal}
use Rattle.pages.specs.declared.extent.Page.{Page}
use Rattle.pages.specs.contracts.extent.PageDefault.TheImpl as page_impl
use Rattle.pages.specs.Page.{paging_of}
use Rattle.pages.specs.Page.{Paged, page_words, page_bytes, page_of}
use Rattle.pages.proofs.Proved.{theorems}
use Rattle.pages.proofs.Runs.{one_fits, none_fits, run_most, lines_shift, fitting_shift}
use Rattle.listing.specs.Swept.{view_in, word_count, head_line, line_in}
use Rattle.listing.specs.Piece.{last_line, line_at, lines_in}
use Rattle.listing.specs.Private.Steps.{Put, Ran}
use Rattle.listing.proofs.Texts.{last_some}
use Rattle.listing.proofs.Sums.{most_words, words_most}

-- ── which lines there are ──

module _ (f : List ℕ) where
  -- the last one of all
  pub last_is : (j : ℕ) → line_at f (count_of f) j ≡ last_line f
  unfolding line_at
  last_is j = rw (le-ltb (count_of f) (count_of f) (omega arith))

  pub last_one : lines_in f (count_of f) ≡ 1
  unfolding lines_in
  last_one = rw (le-ltb (count_of f) (count_of f) (omega arith), eq-eqb (count_of f) (count_of f) refl)

  -- those of a section
  module _ (n : ℕ) (h : n < count_of f) where
    pub head_at : line_at f n 0 ≡ head_line f n
    unfolding line_at
    head_at = rw (lt-ltb n (count_of f) h)

    pub word_at : (w : ℕ) → line_at f n (w + 1) ≡ line_in f n w
    unfolding line_at
    word_at w =
        let e : w + 1 - 1 ≡ w = omega arith in
        rw (lt-ltb n (count_of f) h, ne_eqb (w + 1) 0 (λ z. omega (arith, z)), e)

    pub lines_are : lines_in f n ≡ word_count f n + 1
    unfolding lines_in
    lines_are = rw (lt-ltb n (count_of f) h)

-- past the sections there is a line only in one place
pub only_last : (f : List ℕ) (n j : ℕ) → j < lines_in f n → count_of f ≤ n → (n ≡ count_of f) × (j ≡ 0)
unfolding lines_in
only_last f n j h g = go (eqb n (count_of f)) refl
  where
    past : ltb n (count_of f) ≡ false
    past = le-ltb n (count_of f) g

    go : (b : Bool) → eqb n (count_of f) ≡ b → (n ≡ count_of f) × (j ≡ 0)
    go true e = (eqb-true n (count_of f) e, omega (arith, rw (past, e) at h))
    go false e = absurd (omega (arith, rw (past, e) at h))

-- not past the last one
pub lines_within : (f : List ℕ) (n j : ℕ) → j < lines_in f n → n ≤ count_of f
lines_within f n j h = go (dec_le n (count_of f))
  where
    go : Dec (n ≤ count_of f) → n ≤ count_of f
    go (yes g) = g
    go (no g) = omega (arith, (only_last f n j h (omega arith)).0)

pub lines_most : (f : List ℕ) (n : ℕ) → lines_in f n ≤ most_words + 1
unfolding lines_in
lines_most f n = go (ltb n (count_of f)) (eqb n (count_of f))
  where
    go : (b d : Bool) → cond b (word_count f n + 1) (cond d 1 0) ≤ most_words + 1
    go true d = omega (arith, words_most f n)
    go false true = omega arith
    go false false = omega arith

-- ── what was written ──

module _ (f : List ℕ) (n j : ℕ) (out : List ℕ) {out₁ : List ℕ} {size : ℕ}
    (put : Put (line_at f n j) out out₁ size) where
  abbrev L : List ℕ
  L = line_at f n j

  -- the line has no room
  pub ran_none : j < lines_in f n → 0 < length L → size ≡ 0 → Ran f n j out out₁ 0 0
  unfolding lines_from
  ran_none h p z =
      let e : lines_in f n - j ≡ suc (lines_in f n - (j + 1)) = omega arith in
      let r = no_room L (length out) p (sym put.size_is ∙ z) in
      record {
        fit = rw (e, none_fits (line_at f n) (lines_in f n - (j + 1)) j (length out) r);
        long = refl;
        text = rw (whole_out L (length out) r) at put.left;
      }

  module _ (some : size ≡ 0 → ⊥) where
    pub room : length L ≤ length out
    room = has_room L (length out) (λ z. some (put.size_is ∙ z))

    pub size_long : size ≡ length L
    size_long = put.size_is ∙ ap length (whole_in L (length out) room)

    line_left : out₁ ≡ over L out
    line_left = rw (whole_in L (length out) room) at put.left

    pub put_kept : length out₁ ≡ length out
    put_kept = ap length (line_left ∙ sym (at_start L out)) ∙ over_at_length 0 L out (omega (arith, room))

    -- it has, and is the last
    pub ran_one : lines_in f n - j ≡ 1 → Ran f n j out out₁ 1 size
    unfolding lines_from fitting
    ran_one e =
        record {
          fit = rw (e, le-leb (length L) (length out) room);
          long = simp append-nil size_long;
          text = simp append-nil line_left;
        }

    -- it has, and others come after it
    pub ran_more : {k m : ℕ} {P out₂ : List ℕ} → j < lines_in f n →
        k ≡ fitting (line_at f n) (lines_in f n - (j + 1)) (j + 1) (length out - length L) →
        P ≡ lines_from (line_at f n) k (j + 1) → m ≡ length P → length L + length P ≤ length out →
        out₂ ≡ over_at (length L) P out₁ → Ran f n j out out₂ (k + 1) (length L + m)
    unfolding lines_from
    ran_more {k} {m} {P} {out₂} h ek ep em fits e =
        let left : lines_in f n - j ≡ suc (lines_in f n - (j + 1)) = omega arith in
        let p = line_left ∙ sym (at_start L out) in
        record {
          fit = rw (left, one_fits (line_at f n) (lines_in f n - (j + 1)) j (length out) room) (omega (arith, ek));
          long = rw (add-one k, ← ep) (simp length-append (omega (arith, em)));
          text =
              rw (add-one k, ← ep) (then_at 0 (length L) L P out (omega arith) fits p e ∙ at_start (L ++ P) out);
        }

-- the last line of all, or nothing where it has no room
pub ran_last : (f : List ℕ) (out : List ℕ) {out₁ : List ℕ} {size lines : ℕ} → Put (last_line f) out out₁ size →
    lines ≡ bool_byte (not (eqb size 0)) → Ran f (count_of f) 0 out out₁ lines size
ran_last f out {out₁} {size} {lines} last e = go (ℕ_discrete size 0)
  where
    put : Put (line_at f (count_of f) 0) out out₁ size
    put = rw (last_is f 0) last

    some : 0 < length (line_at f (count_of f) 0)
    some = rw (last_is f 0) (last_some f)

    go : Dec (size ≡ 0) → Ran f (count_of f) 0 out out₁ lines size
    go (yes z) = rw (e, z) (ran_none f (count_of f) 0 out put (omega (arith, last_one f)) some z)
    go (no s) = rw (e, ne_eqb size 0 s) (ran_one f (count_of f) 0 out put s (omega (arith, last_one f)))

-- ── a page of words, from a place on ──

-- one that is refused has no words
abbrev pub page_or_none : Result Page Refusal → Page → Type 0
page_or_none r p = ResultUnwrapsOrElse r (page_impl.is_default-value).it p

pub page_is : (r : Result Page Refusal) (p : Page) → page_or_none r p →
    (p.words ≡ (paging_of r).words) × (p.bytes ≡ (paging_of r).bytes)
page_is (Ok q) p e = (ap (λ (d : Page). d.words) e, ap (λ (d : Page). d.bytes) e)
page_is (Err r) p e = e

module _ (f : List ℕ) (n : ℕ) (h : n < count_of f) (w place : ℕ) (out : List ℕ) {v : View} {b : List ℕ} {p : Paged}
    {out₁ : List ℕ} (ev : v ≡ view_in f n) (eb : b ≡ body_of f n)
    (page : (p ≡ page_of plain v b w (length out) place) ×
    (out₁ ≡ over_at place (page_bytes plain v b w (length out) place) out)) where
  -- how many fit
  pub paged_words : p.words ≡ fitting (line_at f n) (lines_in f n - (w + 1)) (w + 1) (length out - place)
  unfolding page_words line_in
  paged_words =
      let e : lines_in f n - (w + 1) ≡ word_count f n - w = omega (arith, lines_are f n h) in
      ap (λ (q : Paged). q.words) page.0
      ∙ rw (e, ev, eb)
      (sym (fitting_shift (line_in f n) (line_at f n) (word_at f n h) (word_count f n - w) w (length out - place)))

  -- their lines
  bytes_are : page_bytes plain v b w (length out) place ≡ lines_from (line_at f n) p.words (w + 1)
  unfolding page_bytes line_in
  bytes_are =
      rw (page.0, ev, eb)
      (sym (lines_shift (line_in f n) (line_at f n) (word_at f n h)
      (page_words plain (view_in f n) (body_of f n) w (length out) place) w))

  pub paged_long : p.bytes ≡ length (lines_from (line_at f n) p.words (w + 1))
  paged_long = ap (λ (q : Paged). q.bytes) page.0 ∙ ap length bytes_are

  pub paged_text : out₁ ≡ over_at place (lines_from (line_at f n) p.words (w + 1)) out
  paged_text = page.1 ∙ ap (λ (l : List ℕ). over_at place l out) bytes_are

  pub paged_fits : length (lines_from (line_at f n) p.words (w + 1)) ≤ length out - place
  paged_fits = rw (← bytes_are) (theorems.fits plain v b w (length out) place)

-- the lines of words without the head
pub ran_words : (f : List ℕ) (n : ℕ) → n < count_of f → (j : ℕ) → 0 < j → (out : List ℕ) {v : View} {b : List ℕ}
    {p : Paged} {out₁ : List ℕ} → v ≡ view_in f n → b ≡ body_of f n →
    (p ≡ page_of plain v b (j - 1) (length out) 0) ×
    (out₁ ≡ over_at 0 (page_bytes plain v b (j - 1) (length out) 0) out) → Ran f n j out out₁ p.words p.bytes
ran_words f n h j g out {p = p} ev eb page =
    let e : j - 1 + 1 ≡ j = omega arith in
    let z : length out - 0 ≡ length out = omega arith in
    record {
      fit = rw (e, z) at (paged_words f n h (j - 1) 0 out ev eb page);
      long = rw e at (paged_long f n h (j - 1) 0 out ev eb page);
      text = rw e at (paged_text f n h (j - 1) 0 out ev eb page) ∙ at_start (lines_from (line_at f n) p.words j) out;
    }

-- and with the head before them
module _ (f : List ℕ) (n : ℕ) (h : n < count_of f) (out : List ℕ) {size : ℕ} {out₁ out₂ : List ℕ} {v : View}
    {b : List ℕ} {p : Paged} (put : Put (head_line f n) out out₁ size) (some : size ≡ 0 → ⊥)
    (ev : v ≡ view_in f n) (eb : b ≡ body_of f n)
    (page : (p ≡ page_of plain v b 0 (length out₁) size) ×
    (out₂ ≡ over_at size (page_bytes plain v b 0 (length out₁) size) out₁)) where
  first : Put (line_at f n 0) out out₁ size
  first = rw (head_at f n h) put

  long : p.bytes ≡ length (lines_from (line_at f n) p.words (0 + 1))
  long = paged_long f n h 0 size out₁ ev eb page

  pub words_few : p.words ≤ word_count f n
  words_few =
      omega (
        arith,
        paged_words f n h 0 size out₁ ev eb page,
        lines_are f n h,
        run_most (line_at f n) (lines_in f n - (0 + 1)) (0 + 1) (length out₁ - size),
      )

  pub bytes_fit : size + p.bytes ≤ length out
  bytes_fit =
      omega (
        arith,
        long,
        paged_fits f n h 0 size out₁ ev eb page,
        put_kept f n 0 out first some,
        size_long f n 0 out first some,
        room f n 0 out first some,
      )

  pub ran_head : Ran f n 0 out out₂ (p.words + 1) (size + p.bytes)
  ran_head =
      let s = size_long f n 0 out first some in
      rw s
      (ran_more f n 0 out first some (omega (arith, lines_are f n h))
      (rw (put_kept f n 0 out first some, s) at (paged_words f n h 0 size out₁ ev eb page)) refl long
      (omega (arith, bytes_fit, long, s)) (rw s at (paged_text f n h 0 size out₁ ev eb page)))
