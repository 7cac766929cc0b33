-- Which rows a mnemonic has: the first is computed, and none has a mnemonic past the last. And one law for every arm
-- that names the class of a mnemonic, in any tables: a test of the mnemonic's first row, computed.
use Rattle.std.proofs.Common.{◌≡◌, ℕ, suc, ◌+◌, ◌*◌, ◌^◌, ◌<◌, Bool, true, false, ◌&&◌, T, eqb, leb, List, pos, sym, refl, ap, ◌∙◌, subst, arith, eqb→eq, leb→le}
use mathlib.Core.Option.{Option, none, some}
use Rattle.word.specs.Word.{word}
use Rattle.reading.specs.declared.Op.{Op}
use Rattle.classes.specs.Row.{Code, reg, freg, cop0, num, size, s16, u16, mem, br, jmp, Form, end, ◌▸◌, pos_size, link}
use Rattle.classes.specs.Row.{Row}
use Rattle.classes.specs.Table.{common, by_width, table}
use Rattle.laws.proofs.Tests.{and_l, and_r}
use Rattle.classes.specs.Private.Same.{same_form}
use Rattle.classes.proofs.Tests.{same_form_lem}
use Rattle.classes.proofs.Find.{every}
use Rattle.classes.proofs.Operands.{known, known_table, known_kind}
use Rattle.inverse.specs.Private.Fill.{part, one_less, filled}
use Rattle.inverse.specs.Private.Candidate.{base, least, first}
use Rattle.inverse.proofs.Tables.{pick_first, pick_every}
use Rattle.encode.specs.declared.stem.Stem.{Stem}
use Rattle.encode.specs.Private.Stem.{least_of, shape_of, Serves, Roomy, IsIn, Is}

-- the first row, its least word and what is put into it: an attribute that names this opens all of it
unfoldable pub first_row : Bool → ℕ → Option Row
unfolding filled part first least word table common by_width
first_row wide = first (table wide)

-- no row has a mnemonic past the last
pub past_in : (t : Bool → List Row) → ((wide : Bool) → T (every known (t wide))) →
    (s : Stem) (m : ℕ) → Roomy s → 211 < m → IsIn t s m
past_in t every-known s m l h = record { roomy = l; serves = λ wide k e. absurd (none wide k e) }
  where
    none : (wide : Bool) (k : Row) → first (t wide) m ≡ some k → ⊥
    none wide k e =
        let picked = pick_first (t wide) m (pos 0) (λ d. omega (arith, d)) ∙ e in
        let p = pick_every known (t wide) (every-known wide) m (pos 0) k picked in
        omega (arith, p.0, known_kind k p.1)

pub past_all : (s : Stem) (m : ℕ) → Roomy s → 211 < m → Is s m
past_all = past_in table known_table

-- ── forms that are filled in the same way ──

-- registers and numbers go into a field alike, and immediates into the low half
abbrev pub plain_code : Code → Code
plain_code (reg x) = reg x
plain_code (freg x) = reg x
plain_code (cop0 x) = reg x
plain_code (num x) = reg x
plain_code size = size
plain_code s16 = s16
plain_code u16 = s16
plain_code mem = mem
plain_code br = br
plain_code jmp = jmp

unfoldable pub plain_form : Form → Form
plain_form end = end
plain_form (c ▸ φ) = plain_code c ▸ plain_form φ
plain_form pos_size = pos_size
plain_form link = link

part_plain : (c : Code) (va : ℕ) (o : Op) → part (plain_code c) va o ≡ part c va o
unfolding part
part_plain (reg x) va o = refl
part_plain (freg x) va o = refl
part_plain (cop0 x) va o = refl
part_plain (num x) va o = refl
part_plain size va o = refl
part_plain s16 va o = refl
part_plain u16 va o = refl
part_plain mem va o = refl
part_plain br va o = refl
part_plain jmp va o = refl

filled_plain : (φ : Form) (va n : ℕ) (o : ℕ → Op) → filled (plain_form φ) va n o ≡ filled φ va n o
unfolding filled plain_form
filled_plain end va n o = refl
filled_plain (c ▸ φ) va n o = λ i. part_plain c va (o 0) i + filled_plain φ va (one_less n) (λ k. o (suc k)) i
filled_plain pos_size va n o = refl
filled_plain link va n o = refl

-- ── the test ──

unfoldable pub serves : Stem → Option Row → Bool
serves s none = true
serves s (some h) = eqb (least_of s) (word (base h)) && same_form (plain_form (shape_of s)) (plain_form h.form)

abbrev pub suited_in : (Bool → List Row) → Stem → ℕ → Bool
suited_in t s k = leb (least_of s) (63 * 2 ^ 26) && (serves s (first (t true) k) && serves s (first (t false) k))

served : (s : Stem) (h : Row) → T (serves s (some h)) → Serves s h
unfolding serves
served s h t =
    record {
      least = eqb→eq (least_of s) (word (base h)) (and_l (eqb (least_of s) (word (base h))) _ t);
      shape =
          λ va n o.
          sym (filled_plain (shape_of s) va n o)
          ∙ (ap (λ (φ : Form). filled φ va n o) same ∙ filled_plain h.form va n o);
    }
  where
    same : plain_form (shape_of s) ≡ plain_form h.form
    same = same_form_lem (plain_form (shape_of s)) (plain_form h.form) (and_r (eqb (least_of s) (word (base h))) _ t)

-- THE LAW of an arm in any tables: m is the arm's mnemonic
module _ (t : Bool → List Row) where
  suited_is : (s : Stem) (k : ℕ) → T (suited_in t s k) → IsIn t s k
  suited_is s k u = record { roomy = leb→le (least_of s) (63 * 2 ^ 26) (and_l low both u); serves = go }
    where
      low : Bool
      low = leb (least_of s) (63 * 2 ^ 26)

      both : Bool
      both = serves s (first (t true) k) && serves s (first (t false) k)

      by_row : (h : Row) {o : Option Row} → o ≡ some h → T (serves s o) → Serves s h
      by_row h e v = served s h (subst (λ (o : Option Row). T (serves s o)) e v)

      go : (wide : Bool) (h : Row) → first (t wide) k ≡ some h → Serves s h
      go true h e = by_row h e (and_l (serves s (first (t true) k)) _ (and_r low both u))
      go false h e = by_row h e (and_r (serves s (first (t true) k)) (serves s (first (t false) k)) (and_r low both u))

  pub arm_in : {s : Stem} {k m : ℕ} → m ≡ k → T (suited_in t s k) → IsIn t s m
  arm_in {s} {k} e u = subst (IsIn t s) (sym e) (suited_is s k u)

-- in those of the definition
unfoldable pub suited : Stem → ℕ → Bool
suited s k = suited_in table s k

pub arm : {s : Stem} {k m : ℕ} → m ≡ k → T (suited s k) → Is s m
unfolding suited
arm e u = arm_in table e u
