-- Rows and refusals as boxes: a row that leaves out words 0 and 0x40 is four, any other one; an entry of the acceptance table is one.
use Prim.Native.Nat.{ℕ, ◌+◌}
use mathlib.Core.Path.{◌≡◌, refl, sym, ◌∙◌, ap, ap₂}
use mathlib.Core.Bool.{Bool, true, false, not, cond, ◌&&◌, and-true}
use mathlib.Core.List.{List, [], ◌∷◌, ◌++◌}
use mathlib.Core.Option.{none, some}
use lib.Dec.{T, eqb, leb}
use Rattle.word.specs.Word.{Field, same_field, op, rs, rt, rd, sa, funct, Fields, Fit}
use Rattle.classes.specs.Row.{Pat, is, read, read_but, zeros, extra, skip_but, low, Row, pat_of}
use Rattle.classes.specs.Meaning.{match, six, nop_like, takes}
use Rattle.laws.specs.Lists.{elem}
use Rattle.classes.specs.Refusals.{Test, ◌one_of◌, ◌none_of◌, holds, Refusal, meets}
use Rattle.classes.specs.Theorems.{taking}
use Rattle.laws.proofs.Walk.{Guard, passes}
use Rattle.classes.proofs.Cover.{Box, within, ones, count, walked_ones, count_append, count_none, count_box}
use Rattle.classes.proofs.Cover.{meet, within_meet, six_same}

-- ── rows ──

unfoldable pub guard_of : Pat → Guard
guard_of (is v) = some (λ a. eqb a v)
guard_of read = none
guard_of (read_but v) = some (λ a. not (eqb a v))
guard_of zeros = none
guard_of extra = none
guard_of (skip_but v) = some (λ a. not (eqb a v))
guard_of (low v) = some (match (low v))

guard_match : (p : Pat) (a : ℕ) → passes (guard_of p) a ≡ match p a
unfolding guard_of match
guard_match (is v) a = refl
guard_match read a = refl
guard_match (read_but v) a = refl
guard_match zeros a = refl
guard_match extra a = refl
guard_match (skip_but v) a = refl
guard_match (low v) a = refl

abbrev pub row_box : Row → Box
row_box r x = guard_of (pat_of r x)

within_row : (r : Row) (f : Fields) → within (row_box r) f ≡ six (λ x. match (pat_of r x) (f x))
within_row r f = six_same (λ x. passes (guard_of (pat_of r x)) (f x)) (λ x. match (pat_of r x) (f x)) (λ x. guard_match (pat_of r x) (f x))

-- what is neither word 0 nor 0x40, if op and funct are 0: by the first field that tells
abbrev nought : Guard
nought = some (λ a. eqb a 0)

abbrev some_bit : Guard
some_bit = some (λ a. not (eqb a 0))

abbrev pub limits : Guard → Guard → Guard → Guard → Box
limits a b c d op = none
limits a b c d rs = a
limits a b c d rt = b
limits a b c d rd = c
limits a b c d sa = d
limits a b c d funct = none

unfoldable pub boxes_by : Bool → Box → List Box
boxes_by false b = b ∷ []
boxes_by true b =
    meet b (limits some_bit none none none) ∷
    meet b (limits nought some_bit none none) ∷
    meet b (limits nought nought some_bit none) ∷
    meet b (limits nought nought nought (some (λ a. not (leb a 1)))) ∷
    []

unfoldable pub boxes : List Row → List Box
boxes [] = []
boxes (r ∷ ts) = boxes_by r.nops (row_box r) ++ boxes ts

-- one for true, none for false
abbrev pub bit : Bool → ℕ
bit t = cond t 1 0

four : (m a b c d : Bool) → bit (m && not a) + (bit (m && (a && not b)) + (bit (m && (a && (b && not c))) + (bit (m && (a && (b && (c && not d)))) + 0))) ≡ bit (m && not (a && (b && (c && d))))
four false a b c d = refl
four true false b c d = refl
four true true false c d = refl
four true true true false d = refl
four true true true true true = refl
four true true true true false = refl

count_more : (b : Box) (bs : List Box) (f : Fields) → count (b ∷ bs) f ≡ bit (within b f) + count bs f
count_more b bs f = count_append (b ∷ []) bs f ∙ ap (λ (n : ℕ). n + count bs f) (count_box b f)

-- a box that meets another one, if what that asks is known
count_meet : (b q : Box) (bs : List Box) (f : Fields) (m t : Bool) (n : ℕ) → within b f ≡ m → within q f ≡ t → count bs f ≡ n →
    count (meet b q ∷ bs) f ≡ bit (m && t) + n
count_meet b q bs f m t n e d c =
    count_more (meet b q) bs f ∙ ap₂ (λ (s : Bool) (k : ℕ). bit s + k) (within_meet b q f ∙ ap₂ ◌&&◌ e d) c

-- the four boxes of a row that leaves two words out
count_four : (x : Box) (f : Fields) (m : Bool) → within x f ≡ m → count (boxes_by true x) f ≡ bit (m && not (nop_like f))
unfolding boxes_by nop_like six
count_four x f m e =
    let a : Bool = eqb (f rs) 0 in
    let b : Bool = eqb (f rt) 0 in
    let c : Bool = eqb (f rd) 0 in
    let d : Bool = leb (f sa) 1 in
    count_meet x (limits some_bit none none none) _ f m (not a) _ e (and-true (not a))
    (count_meet x (limits nought some_bit none none) _ f m (a && not b) _ e (ap (λ (t : Bool). a && t) (and-true (not b)))
    (count_meet x (limits nought nought some_bit none) _ f m (a && (b && not c)) _ e (ap (λ (t : Bool). a && (b && t)) (and-true (not c)))
    (count_meet x (limits nought nought nought (some (λ v. not (leb v 1)))) [] f m (a && (b && (c && not d))) 0 e (ap (λ (t : Bool). a && (b && (c && t))) (and-true (not d)))
    (count_none f))))
    ∙ four m a b c d

pub count_row : (r : Row) (f : Fields) → count (boxes_by r.nops (row_box r)) f ≡ bit (takes r f)
unfolding takes boxes_by
count_row r f = go r.nops
  where
    go : (n : Bool) → count (boxes_by n (row_box r)) f ≡ bit (six (λ x. match (pat_of r x) (f x)) && not (n && nop_like f))
    go false = count_box (row_box r) f ∙ ap bit (within_row r f ∙ sym (and-true (six (λ x. match (pat_of r x) (f x)))))
    go true = count_four (row_box r) f (six (λ x. match (pat_of r x) (f x))) (within_row r f)

pub count_rows : (ts : List Row) (f : Fields) → count (boxes ts) f ≡ taking ts f
unfolding boxes taking
count_rows [] f = count_none f
count_rows (r ∷ ts) f = count_append (boxes_by r.nops (row_box r)) (boxes ts) f ∙ ap₂ ◌+◌ (count_row r f) (count_rows ts f)

-- ── refusals ──

unfoldable pub test_box : Test → Box
test_box (y one_of vs) x = cond (same_field y x) (some (λ a. elem a vs)) none
test_box (y none_of vs) x = cond (same_field y x) (some (λ a. not (elem a vs))) none

-- a test at one field is that test
only_at : (y : Field) (p : ℕ → Bool) (f : Fields) → within (λ x. cond (same_field y x) (some p) none) f ≡ p (f y)
unfolding six
only_at op p f = and-true (p (f op))
only_at rs p f = and-true (p (f rs))
only_at rt p f = and-true (p (f rt))
only_at rd p f = and-true (p (f rd))
only_at sa p f = and-true (p (f sa))
only_at funct p f = refl

within_test : (t : Test) (f : Fields) → within (test_box t) f ≡ holds t f
unfolding test_box holds
within_test (y one_of vs) f = only_at y (λ a. elem a vs) f
within_test (y none_of vs) f = only_at y (λ a. not (elem a vs)) f

unfoldable pub tests_box : List Test → Box
tests_box [] x = none
tests_box (t ∷ ts) x = meet (test_box t) (tests_box ts) x

pub within_tests : (ts : List Test) (f : Fields) → within (tests_box ts) f ≡ meets ts f
unfolding tests_box meets six
within_tests [] f = refl
within_tests (t ∷ ts) f = within_meet (test_box t) (tests_box ts) f ∙ ap₂ ◌&&◌ (within_test t f) (within_tests ts f)

unfoldable pub refused_boxes : List Refusal → List Box
refused_boxes [] = []
refused_boxes (e ∷ es) = tests_box e.tests ∷ refused_boxes es

-- how many entries refuse the word
unfoldable pub refusing : List Refusal → Fields → ℕ
refusing [] f = 0
refusing (e ∷ es) f = bit (meets e.tests f) + refusing es f

count_refusals : (es : List Refusal) (f : Fields) → count (refused_boxes es) f ≡ refusing es f
unfolding refused_boxes refusing
count_refusals [] f = count_none f
count_refusals (e ∷ es) f = count_more (tests_box e.tests) (refused_boxes es) f ∙ ap₂ (λ (t : Bool) (n : ℕ). bit t + n) (within_tests e.tests f) (count_refusals es f)

-- ── the law ──

-- THE TEST, for any table and any acceptance table: each word is in one box of the two
unfoldable pub exact : List Row → List Refusal → Bool
exact ts es = ones (boxes ts ++ refused_boxes es)

-- then each word is taken by one row or refused by one entry, and not both
pub taken_or_refused : (ts : List Row) (es : List Refusal) → T (exact ts es) → (f : Fields) → Fit f → taking ts f + refusing es f ≡ 1
unfolding exact
taken_or_refused ts es t f h =
    sym (count_append (boxes ts) (refused_boxes es) f ∙ ap₂ ◌+◌ (count_rows ts f) (count_refusals es f))
    ∙ walked_ones (boxes ts ++ refused_boxes es) f h t
