-- The walk over rows, refusals, lines and exceptions at once, computed under either flag.
use Prim.Native.Nat.{ℕ}
use mathlib.Core.Path.{◌≡◌, ◌∙◌, ap, subst}
use mathlib.Core.Bool.{Bool, ◌&&◌}
use mathlib.Core.List.{List}
use lib.Dec.{T}
use Rattle.word.specs.Word.{Fields, Fit}
use Rattle.classes.specs.Row.{Row}
use Rattle.classes.specs.Meaning.{find}
use Rattle.classes.specs.Refusals.{Refusal, refusal}
use Rattle.laws.proofs.Tests.{and_l, and_r}
use Rattle.laws.proofs.Walk.{walk, left, walked, keep_in, free_in, mark_in, keep_free, mark_keep, left_sift}
use Rattle.manual.specs.Page.{Line}
use Rattle.manual.specs.Agreement.{first_line}
use Rattle.manual.proofs.Axes.{Axis, room_of, coord, coord_fits, axes, ask_line}
use Rattle.manual.proofs.Verdict.{Part, verdict, together}
use Rattle.manual.proofs.Swaps.{restores}
use Rattle.manual.proofs.Left.{Boxed, ask_row, ask_entry, ask_part, boxed, left_parts, head_line, head_row, head_number}
use Rattle.manual.proofs.Left.{lines_left, rows_left}
use Rattle.manual.proofs.Left.{entries_left}

-- the four lists that are walked with
pub record State : Type 0 where
  pub rows : List Boxed
  pub entries : List Refusal
  pub lines : List Line
  pub parts : List Part

abbrev pub state : List Boxed → List Refusal → List Line → List Part → State
state a b c d = record { rows = a; entries = b; lines = c; parts = d }

unfoldable pub keep : Axis → ℕ → State → State
keep x v s = state (keep_in ask_row x v s.rows) (keep_in ask_entry x v s.entries) (keep_in ask_line x v s.lines) (keep_in ask_part x v s.parts)

unfoldable pub free : Axis → State → Bool
free x s = free_in ask_row x s.rows && (free_in ask_entry x s.entries && (free_in ask_line x s.lines && free_in ask_part x s.parts))

unfoldable pub mark : Axis → ℕ → State → ℕ
mark x v s = mark_in ask_row x v s.rows (mark_in ask_entry x v s.entries (mark_in ask_line x v s.lines (mark_in ask_part x v s.parts 0)))

unfoldable pub good : List Row → State → Bool
good ts s =
    verdict (head_line s.lines) (head_row s.rows) (head_number s.entries) s.parts
    && (together s.parts && restores ts (head_line s.lines) (head_row s.rows) s.parts)

-- THE TEST, for any tables
unfoldable pub sound : List Row → List Refusal → List Line → List Part → Bool
sound ts es ls ps = walk room_of keep free mark (good ts) axes (state (boxed ts) es ls ps)

state_same : (s t : State) → s.rows ≡ t.rows → s.entries ≡ t.entries → s.lines ≡ t.lines → s.parts ≡ t.parts → s ≡ t
state_same s t a b c d = λ i. state (a i) (b i) (c i) (d i)

free_kept : (x : Axis) (v : ℕ) (s : State) → T (free x s) → keep x v s ≡ s
unfolding free keep
free_kept x v s t =
    let u = and_r (free_in ask_row x s.rows) _ t in
    let w = and_r (free_in ask_entry x s.entries) _ u in
    state_same (keep x v s) s (keep_free ask_row x v s.rows (and_l (free_in ask_row x s.rows) _ t))
    (keep_free ask_entry x v s.entries (and_l (free_in ask_entry x s.entries) _ u))
    (keep_free ask_line x v s.lines (and_l (free_in ask_line x s.lines) _ w))
    (keep_free ask_part x v s.parts (and_r (free_in ask_line x s.lines) _ w))

mark_kept : (x : Axis) (u v : ℕ) (s : State) → mark x u s ≡ mark x v s → keep x u s ≡ keep x v s
unfolding mark keep
mark_kept x u v s e =
    let a = mark_keep ask_row x u v s.rows _ _ e in
    let b = mark_keep ask_entry x u v s.entries _ _ a.1 in
    let c = mark_keep ask_line x u v s.lines _ _ b.1 in
    let d = mark_keep ask_part x u v s.parts _ _ c.1 in
    state_same (keep x u s) (keep x v s) a.0 b.0 c.0 d.0

-- then what is left for a word passes
pub sound_at : (ts : List Row) (es : List Refusal) (ls : List Line) (ps : List Part) → T (sound ts es ls ps) → (f : Fields) → Fit f →
    T (verdict (first_line ls f) (find ts f) (refusal es f) (left_parts ps f)
    && (together (left_parts ps f) && restores ts (first_line ls f) (find ts f) (left_parts ps f)))
unfolding sound good left keep
sound_at ts es ls ps t f h =
    subst T (λ i. verdict (first i) (taker i) (number i) (covering i) && (together (covering i) && restores ts (first i) (taker i) (covering i))) passed
  where
    end : State
    end = left room_of keep free mark axes (state (boxed ts) es ls ps) (coord f)

    first : head_line end.lines ≡ first_line ls f
    first = ap head_line (left_sift ask_line room_of (free_in ask_line) (λ x v l. 0) axes ls (coord f)) ∙ lines_left ls f

    taker : head_row end.rows ≡ find ts f
    taker = ap head_row (left_sift ask_row room_of (free_in ask_row) (λ x v l. 0) axes (boxed ts) (coord f)) ∙ rows_left ts f

    number : head_number end.entries ≡ refusal es f
    number = ap head_number (left_sift ask_entry room_of (free_in ask_entry) (λ x v l. 0) axes es (coord f)) ∙ entries_left es f

    covering : end.parts ≡ left_parts ps f
    covering = left_sift ask_part room_of (free_in ask_part) (λ x v l. 0) axes ps (coord f)

    passed : T (good ts end)
    passed = walked room_of keep free mark free_kept mark_kept (good ts) axes (state (boxed ts) es ls ps) (coord f) (coord_fits f h) t
