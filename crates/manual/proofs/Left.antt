-- What the walk starts with, and what is left of it for a word: the first line that has the word, the row that takes it, its refusal's
-- number, and the exceptions that cover it.
use Prim.Native.Nat.{ℕ, zero, suc}
use mathlib.Core.Path.{◌≡◌, refl, sym, ◌∙◌, ap, ap₂, subst}
use mathlib.Core.Bool.{Bool, true, false, cond, ◌&&◌, ◌||◌}
use mathlib.Core.List.{List, [], ◌∷◌, ◌++◌}
use mathlib.Core.Option.{Option, none, some}
use lib.Dec.{T}
use lib.ListN.{length}
use Rattle.word.specs.Word.{Fields}
use Rattle.classes.specs.Row.{Row}
use Rattle.classes.specs.Meaning.{takes, find}
use Rattle.classes.specs.Refusals.{Refusal, meets, refusal}
use Rattle.laws.proofs.Tests.{and_l}
use Rattle.laws.proofs.Walk.{Guard, passing, sift, sift_append}
use Rattle.classes.proofs.Cover.{Box, within, count}
use Rattle.classes.proofs.Boxes.{bit, row_box, boxes_by, count_row, tests_box, within_tests}
use Rattle.classes.proofs.Find.{or_else}
use Rattle.manual.specs.Page.{obeys, Line, has}
use Rattle.manual.specs.Exceptions.{Words, Difference, flagged, among, covers}
use Rattle.manual.specs.Agreement.{first_line, any_covers, Each}
use Rattle.manual.proofs.Axes.{Axis, coord, axes, ask_box, box_passing, ask_rules, rules_passing, ask_line}
use Rattle.manual.proofs.Axes.{line_passing}
use Rattle.manual.proofs.Verdict.{Part, each}

-- ── lines ──

abbrev pub left_lines : List Line → Fields → List Line
left_lines ls f = sift (λ ℓ. passing ask_line axes ℓ (coord f)) ls

abbrev pub head_line : List Line → Option Line
head_line [] = none
head_line (ℓ ∷ ls) = some ℓ

pub lines_left : (ls : List Line) (f : Fields) → head_line (left_lines ls f) ≡ first_line ls f
unfolding sift first_line
lines_left [] f = refl
lines_left (ℓ ∷ ls) f = ap (λ (b : Bool). head_line (cond b (ℓ ∷ left_lines ls f) (left_lines ls f))) (line_passing ℓ f) ∙ go (has ℓ f) (lines_left ls f)
  where
    go : (b : Bool) → head_line (left_lines ls f) ≡ first_line ls f → head_line (cond b (ℓ ∷ left_lines ls f) (left_lines ls f)) ≡ cond b (some ℓ) (first_line ls f)
    go true e = refl
    go false e = e

-- ── rows, with their boxes ──

abbrev pub Boxed : Type 0
Boxed = Row × Box

abbrev pub ask_row : Boxed → Axis → Guard
ask_row b = ask_box b.1

unfoldable pub tag : Row → List Box → List Boxed
tag r [] = []
tag r (b ∷ bs) = (r, b) ∷ tag r bs

unfoldable pub boxed : List Row → List Boxed
boxed [] = []
boxed (r ∷ ts) = tag r (boxes_by r.nops (row_box r)) ++ boxed ts

abbrev pub left_rows : List Boxed → Fields → List Boxed
left_rows bs f = sift (λ b. passing ask_row axes b (coord f)) bs

abbrev pub head_row : List Boxed → Option Row
head_row [] = none
head_row (b ∷ bs) = some b.0

head_append : (bs cs : List Boxed) → head_row (bs ++ cs) ≡ or_else (head_row bs) (head_row cs)
head_append [] cs = refl
head_append (b ∷ bs) cs = refl

abbrev positive : ℕ → Bool
positive zero = false
positive (suc n) = true

row_passing : (b : Boxed) (f : Fields) → passing ask_row axes b (coord f) ≡ within b.1 f
unfolding passing
row_passing b f = box_passing b.1 f

tag_left : (r : Row) (bs : List Box) (f : Fields) → head_row (left_rows (tag r bs) f) ≡ cond (positive (count bs f)) (some r) none
unfolding sift tag
tag_left r [] f = refl
tag_left r (b ∷ bs) f =
    ap (λ (t : Bool). head_row (cond t ((r, b) ∷ left_rows (tag r bs) f) (left_rows (tag r bs) f))) (row_passing (r, b) f)
    ∙ go (within b f) (tag_left r bs f)
  where
    go : (t : Bool) → head_row (left_rows (tag r bs) f) ≡ cond (positive (count bs f)) (some r) none →
        head_row (cond t ((r, b) ∷ left_rows (tag r bs) f) (left_rows (tag r bs) f))
        ≡ cond (positive (length (cond t (b ∷ sift (λ k. within k f) bs) (sift (λ k. within k f) bs)))) (some r) none
    go true e = refl
    go false e = e

pub rows_left : (ts : List Row) (f : Fields) → head_row (left_rows (boxed ts) f) ≡ find ts f
unfolding sift boxed find
rows_left [] f = refl
rows_left (r ∷ ts) f =
    ap head_row (sift_append (λ b. passing ask_row axes b (coord f)) (tag r (boxes_by r.nops (row_box r))) (boxed ts))
    ∙ (head_append (left_rows (tag r (boxes_by r.nops (row_box r))) f) (left_rows (boxed ts) f)
    ∙ (ap₂ or_else (tag_left r (boxes_by r.nops (row_box r)) f ∙ ap (λ (n : ℕ). cond (positive n) (some r) none) (count_row r f)) (rows_left ts f)
    ∙ go (takes r f)))
  where
    go : (b : Bool) → or_else (cond (positive (bit b)) (some r) none) (find ts f) ≡ cond b (some r) (find ts f)
    go true = refl
    go false = refl

-- ── refusals ──

abbrev pub ask_entry : Refusal → Axis → Guard
ask_entry e = ask_box (tests_box e.tests)

abbrev pub left_entries : List Refusal → Fields → List Refusal
left_entries es f = sift (λ e. passing ask_entry axes e (coord f)) es

abbrev pub head_number : List Refusal → ℕ
head_number [] = 0
head_number (e ∷ es) = e.number

entry_passing : (e : Refusal) (f : Fields) → passing ask_entry axes e (coord f) ≡ meets e.tests f
unfolding passing
entry_passing e f = box_passing (tests_box e.tests) f ∙ within_tests e.tests f

pub entries_left : (es : List Refusal) (f : Fields) → head_number (left_entries es f) ≡ refusal es f
unfolding sift refusal
entries_left [] f = refl
entries_left (e ∷ es) f = ap (λ (b : Bool). head_number (cond b (e ∷ left_entries es f) (left_entries es f))) (entry_passing e f) ∙ go (meets e.tests f) (entries_left es f)
  where
    go : (b : Bool) → head_number (left_entries es f) ≡ refusal es f → head_number (cond b (e ∷ left_entries es f) (left_entries es f)) ≡ cond b e.number (refusal es f)
    go true h = refl
    go false h = h

-- ── exceptions ──

abbrev pub ask_part : Part → Axis → Guard
ask_part p = ask_rules p.1

unfoldable pub parts_in : Difference → List Words → Bool → List Part
parts_in d [] wide = []
parts_in d (u ∷ us) wide = cond (flagged u.flag wide) ((d, u.rules) ∷ []) [] ++ parts_in d us wide

unfoldable pub parts_of : List Difference → Bool → List Part
parts_of [] wide = []
parts_of (d ∷ ds) wide = parts_in d d.words wide ++ parts_of ds wide

abbrev pub left_parts : List Part → Fields → List Part
left_parts ps f = sift (λ p. passing ask_part axes p (coord f)) ps

abbrev pub present : List Part → Bool
present [] = false
present (p ∷ ps) = true

present_append : (ps qs : List Part) → present (ps ++ qs) ≡ (present ps || present qs)
present_append [] qs = refl
present_append (p ∷ ps) qs = refl

part_passing : (p : Part) (f : Fields) → passing ask_part axes p (coord f) ≡ obeys p.1 f
unfolding passing
part_passing p f = rules_passing p.1 f

in_left : (d : Difference) (us : List Words) (wide : Bool) (f : Fields) → present (left_parts (parts_in d us wide) f) ≡ among us wide f
unfolding sift parts_in among
in_left d [] wide f = refl
in_left d (u ∷ us) wide f = go (flagged u.flag wide) (in_left d us wide f)
  where
    one : (b : Bool) → present (left_parts (parts_in d us wide) f) ≡ among us wide f →
        present (cond b ((d, u.rules) ∷ left_parts (parts_in d us wide) f) (left_parts (parts_in d us wide) f)) ≡ (b || among us wide f)
    one true e = refl
    one false e = e

    go : (b : Bool) → present (left_parts (parts_in d us wide) f) ≡ among us wide f →
        present (left_parts (cond b ((d, u.rules) ∷ []) [] ++ parts_in d us wide) f) ≡ ((b && obeys u.rules f) || among us wide f)
    go true e =
        ap (λ (t : Bool). present (cond t ((d, u.rules) ∷ left_parts (parts_in d us wide) f) (left_parts (parts_in d us wide) f))) (part_passing (d, u.rules) f)
        ∙ one (obeys u.rules f) e
    go false e = e

pub parts_left : (ds : List Difference) (wide : Bool) (f : Fields) → present (left_parts (parts_of ds wide) f) ≡ any_covers ds wide f
unfolding sift parts_of any_covers covers
parts_left [] wide f = refl
parts_left (d ∷ ds) wide f =
    ap present (sift_append (λ p. passing ask_part axes p (coord f)) (parts_in d d.words wide) (parts_of ds wide))
    ∙ (present_append (left_parts (parts_in d d.words wide) f) (left_parts (parts_of ds wide) f)
    ∙ ap₂ ◌||◌ (in_left d d.words wide f) (parts_left ds wide f))

each_append : (q : Difference → Bool) (ps qs : List Part) → T (each q (ps ++ qs)) → T (each q ps) × T (each q qs)
unfolding each
each_append q [] qs t = (tt, t)
each_append q (p ∷ ps) qs t = go (q p.0) t (each_append q ps qs)
  where
    go : (b : Bool) → T (b && each q (ps ++ qs)) → (T (each q (ps ++ qs)) → T (each q ps) × T (each q qs)) → T (b && each q ps) × T (each q qs)
    go true s rec = rec s
    go false s rec = absurd s

each_in : (q : Difference → Bool) (d : Difference) (us : List Words) (wide : Bool) (f : Fields) → T (each q (left_parts (parts_in d us wide) f)) →
    T (present (left_parts (parts_in d us wide) f)) → T (q d)
unfolding sift parts_in each
each_in q d [] wide f t h = absurd h
each_in q d (u ∷ us) wide f t h = go (flagged u.flag wide) t h (each_in q d us wide f)
  where
    one : (b : Bool) → T (each q (cond b ((d, u.rules) ∷ left_parts (parts_in d us wide) f) (left_parts (parts_in d us wide) f))) →
        T (present (cond b ((d, u.rules) ∷ left_parts (parts_in d us wide) f) (left_parts (parts_in d us wide) f))) →
        (T (each q (left_parts (parts_in d us wide) f)) → T (present (left_parts (parts_in d us wide) f)) → T (q d)) → T (q d)
    one true s k rec = and_l (q d) _ s
    one false s k rec = rec s k

    go : (b : Bool) → T (each q (left_parts (cond b ((d, u.rules) ∷ []) [] ++ parts_in d us wide) f)) →
        T (present (left_parts (cond b ((d, u.rules) ∷ []) [] ++ parts_in d us wide) f)) →
        (T (each q (left_parts (parts_in d us wide) f)) → T (present (left_parts (parts_in d us wide) f)) → T (q d)) → T (q d)
    go true s k rec = one (passing ask_part axes (d, u.rules) (coord f)) s k rec
    go false s k rec = rec s k

-- what all exceptions that are left pass, each exception passes that covers the word
pub parts_each : (q : Difference → Bool) (ds : List Difference) (wide : Bool) (f : Fields) → T (each q (left_parts (parts_of ds wide) f)) →
    Each (λ d. T (covers d wide f) → T (q d)) ds
unfolding parts_of covers
parts_each q [] wide f t = tt
parts_each q (d ∷ ds) wide f t =
    let r =
    each_append q (left_parts (parts_in d d.words wide) f) (left_parts (parts_of ds wide) f)
    (subst (λ (l : List Part). T (each q l)) (sift_append (λ p. passing ask_part axes p (coord f)) (parts_in d d.words wide) (parts_of ds wide)) t) in
    ((λ c. each_in q d d.words wide f r.0 (subst T (sym (in_left d d.words wide f)) c)), parts_each q ds wide f r.1)
