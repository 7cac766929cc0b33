-- The acceptance table and the table of classes agree: the walk of Cover, computed, and what follows from it.
use Prim.Native.Nat.{ℕ, ◌+◌, ◌≤◌}
use mathlib.Core.Path.{◌≡◌, refl, sym, ap}
use mathlib.Core.Bool.{Bool, true, false, cond, ◌&&◌}
use mathlib.Core.List.{List, [], ◌∷◌}
use mathlib.Core.Option.{Option, none, some, none-ne-some}
use native.Mathlib.Omega.{arith}
use lib.Dec.{T, ltb, ltb→lt}
use Rattle.word.specs.Word.{Fields, Fit, fields_of}
use Rattle.word.proofs.Fields.{fields_fit}
use Rattle.reading.specs.declared.Insn.{Insn}
use Rattle.reading.specs.declared.Decoded.{Decoded}
use Rattle.reading.specs.Kind.{from}
use Rattle.reading.specs.Reading.{refused_of, accepted_as}
use Rattle.classes.specs.Row.{Row}
use Rattle.classes.specs.Meaning.{match, takes, find, meaning}
use Rattle.classes.specs.Table.{common, by_width, table}
use Rattle.laws.specs.Lists.{elem}
use Rattle.classes.specs.Refusals.{Refusal, meets, refusal, refusals}
use Rattle.classes.specs.Decoded.{reading_by, decoded_by, decoded_of}
use Rattle.classes.specs.Theorems.{taking, Acceptance}
use Rattle.laws.proofs.Tests.{and_l, and_r}
use Rattle.classes.proofs.Find.{found_taking}
use Rattle.laws.proofs.Walk.{spread, walk, sift, free_in, mark_in}
use Rattle.classes.proofs.Cover.{ones}
use Rattle.classes.proofs.Boxes.{bit, guard_of, boxes_by, boxes, test_box, tests_box, refused_boxes, refusing, exact}
use Rattle.classes.proofs.Boxes.{taken_or_refused}

-- ── any two tables ──

-- no row takes the word: none is found
pub none_taking : (ts : List Row) (f : Fields) → taking ts f ≡ 0 → find ts f ≡ none
unfolding taking find
none_taking [] f e = refl
none_taking (r ∷ ts) f e = go (takes r f) e (none_taking ts f)
  where
    go : (b : Bool) → bit b + taking ts f ≡ 0 → (taking ts f ≡ 0 → find ts f ≡ none) → cond b (some r) (find ts f) ≡ none
    go true d rec = absurd (omega arith)
    go false d rec = rec (omega arith)

-- none is found: no row takes it
pub none_found : (ts : List Row) (f : Fields) → find ts f ≡ none → taking ts f ≡ 0
unfolding find taking
none_found [] f e = refl
none_found (r ∷ ts) f e = go (takes r f) e (none_found ts f)
  where
    go : (b : Bool) → cond b (some r) (find ts f) ≡ none → (find ts f ≡ none → taking ts f ≡ 0) → bit b + taking ts f ≡ 0
    go true d rec = absurd (none-ne-some r (sym d))
    go false d rec = omega (arith, rec d)

-- every entry has a number
unfoldable pub numbered : List Refusal → Bool
numbered [] = true
numbered (e ∷ es) = ltb 0 e.number && numbered es

-- the number is 0 exactly if no entry refuses
pub unrefused : (es : List Refusal) → T (numbered es) → (f : Fields) → refusal es f ≡ 0 → refusing es f ≡ 0
unfolding numbered refusal refusing
unrefused [] t f e = refl
unrefused (e ∷ es) t f d = go (meets e.tests f) d (unrefused es (and_r (ltb 0 e.number) (numbered es) t) f)
  where
    go : (b : Bool) → cond b e.number (refusal es f) ≡ 0 → (refusal es f ≡ 0 → refusing es f ≡ 0) → bit b + refusing es f ≡ 0
    go true z rec = absurd (omega (arith, ltb→lt 0 e.number (and_l (ltb 0 e.number) (numbered es) t)))
    go false z rec = omega (arith, rec z)

pub refused_some : (es : List Refusal) (f : Fields) → ¬ (refusal es f ≡ 0) → 1 ≤ refusing es f
unfolding refusal refusing
refused_some [] f n = absurd (n refl)
refused_some (e ∷ es) f n = go (meets e.tests f) n (refused_some es f)
  where
    go : (b : Bool) → ¬ (cond b e.number (refusal es f) ≡ 0) → (¬ (refusal es f ≡ 0) → 1 ≤ refusing es f) → 1 ≤ bit b + refusing es f
    go true m rec = omega arith
    go false m rec = omega (arith, rec m)

pub none_refusing : (es : List Refusal) (f : Fields) → refusing es f ≡ 0 → refusal es f ≡ 0
unfolding refusal refusing
none_refusing [] f e = refl
none_refusing (e ∷ es) f d = go (meets e.tests f) d (none_refusing es f)
  where
    go : (b : Bool) → bit b + refusing es f ≡ 0 → (refusing es f ≡ 0 → refusal es f ≡ 0) → cond b e.number (refusal es f) ≡ 0
    go true z rec = absurd (omega arith)
    go false z rec = rec (omega arith)

-- THE LAWS for any table and any acceptance table that pass the test: what the answer is
module _ (ts : List Row) (es : List Refusal) (t : T (exact ts es)) (f : Fields) (h : Fit f) where
  pub one_taking : T (numbered es) → refusal es f ≡ 0 → taking ts f ≡ 1
  one_taking n e = omega (arith, taken_or_refused ts es t f h, unrefused es n f e)

  pub none_takes : ¬ (refusal es f ≡ 0) → taking ts f ≡ 0
  none_takes n = omega (arith, taken_or_refused ts es t f h, refused_some es f n)

  pub refused_by : (va : ℕ) → ¬ (refusal es f ≡ 0) → decoded_by ts es va f ≡ refused_of (refusal es f)
  unfolding decoded_by
  refused_by va n =
      ap (λ (o : Option Row). record { number = refusal es f; insn = reading_by o va f }) (none_taking ts f (none_takes n))

  pub accepted_by : (va : ℕ) (r : Row) → find ts f ≡ some r → decoded_by ts es va f ≡ accepted_as (meaning r va f)
  unfolding decoded_by
  accepted_by va r e = λ i. record { number = number i; insn = reading_by (e i) va f }
    where
      number : refusal es f ≡ 0
      number = none_refusing es f (omega (arith, taken_or_refused ts es t f h, found_taking ts f r e))

-- an accepted answer is its reading
pub accepted_as_lem : (d : Decoded) (i : Insn) → d.number ≡ 0 → d.insn ≡ i → d ≡ accepted_as i
accepted_as_lem d i e h = λ t. record { number = e t; insn = h t }

pub accepted_insn : (d : Decoded) → d.number ≡ 0 → d ≡ accepted_as d.insn
accepted_insn d e = accepted_as_lem d d.insn e refl

-- ── the two tables of the definition ──

pub exact_table : (wide : Bool) → T (exact (table wide) refusals)
unfolding exact ones walk spread sift free_in mark_in boxes boxes_by guard_of refused_boxes tests_box test_box match elem from refusals table common by_width
exact_table true = tt
exact_table false = tt

pub numbered_refusals : T (numbered refusals)
unfolding numbered refusals
numbered_refusals = tt

pub one_or_other : (wide : Bool) (w : ℕ) → taking (table wide) (fields_of w) + refusing refusals (fields_of w) ≡ 1
one_or_other wide w = taken_or_refused (table wide) refusals (exact_table wide) (fields_of w) (fields_fit w)

pub acceptance : (w va : ℕ) (wide : Bool) → Acceptance w va wide
unfolding decoded_of decoded_by
acceptance w va wide =
    record {
      accepted = one_taking (table wide) refusals (exact_table wide) (fields_of w) (fields_fit w) numbered_refusals;
      refused = none_takes (table wide) refusals (exact_table wide) (fields_of w) (fields_fit w);
      blank = refused_by (table wide) refusals (exact_table wide) (fields_of w) (fields_fit w) va;
    }

pub accepted : (w va : ℕ) (wide : Bool) (r : Row) → find (table wide) (fields_of w) ≡ some r → decoded_of w va wide ≡ accepted_as (meaning r va (fields_of w))
unfolding decoded_of
accepted w va wide = accepted_by (table wide) refusals (exact_table wide) (fields_of w) (fields_fit w) va
