-- Which class a reading's candidate is made in: the mnemonic's first, but for `li` by its value; and words 0 and 0x40.
use Rattle.std.proofs.Common.{◌≡◌, ℕ, ◌+◌, ◌<◌, Bool, true, false, cond, ◌&&◌}
use Rattle.std.proofs.Common.{T, eqb, List, ℤ, sym, refl, ap, ◌∙◌, subst, arith}
use mathlib.Core.Bool.{beq}
use mathlib.Core.Option.{none, some, none-ne-some, some-injective}
use native.Mathlib.Decide.{ℕ_discrete}
use Rattle.word.specs.Word.{word}
use Rattle.reading.specs.declared.Op.{Op}
use Rattle.reading.specs.Kind as kind
use Rattle.classes.specs.Row.{is, read, Row}
use Rattle.classes.specs.Table.{rt_imm, rt_uimm, sets_immediate, row, common, by_width, table}
use Rattle.laws.proofs.Tests.{at_true, beq_same}
use Rattle.classes.proofs.Find.{every}
use Rattle.inverse.specs.Private.Fill.{branch_back, filled, part}
use Rattle.inverse.specs.Private.Candidate.{least, base, in_signed, in_unsigned, holds, suits, after_nops, candidate}
use Rattle.inverse.specs.Private.Candidate.{first, pick}
use Rattle.inverse.proofs.Tables.{pick_first, pick_suited, pick_every}
use Rattle.encode.specs.declared.stem.Stem.{Stem}
use Rattle.encode.specs.declared.stem.Form.{Form}
use Rattle.encode.specs.declared.stem.Form.TheVariants as stem
use Rattle.encode.specs.Private.Stem.{form_of, word_by, Serves, IsIn, ForIn, Is, For}

-- ── the rows of `li` ──

unfoldable pub signed_row : Row
signed_row = row kind.li (is 9) (is 0) read read read read rt_imm sets_immediate

unfoldable pub unsigned_row : Row
unsigned_row = row kind.li (is 13) (is 0) read read read read rt_uimm sets_immediate

-- `li` with an unsigned immediate
abbrev li_unsigned_stem : Stem
li_unsigned_stem = record { 0 = stem.RtImm; 1 = 0x34000000 }

suits_signed : (z : ℤ) → T (in_signed z) → T (suits signed_row z)
unfolding suits holds signed_row ℕ_discrete
suits_signed z t = go (in_signed z) t
  where
    go : (b : Bool) → T b → T (b && true)
    go true u = tt
    go false u = u

-- `sll` alone leaves words 0 and 0x40 out
abbrev pub nops_of_sll : Row → Bool
nops_of_sll r = beq r.nops (eqb r.kind kind.sll)

-- ── THE LAWS, for any tables of which these things are known ──

-- the value goes into an unsigned immediate
abbrev pub PicksUnsigned : List Row → Type 0
PicksUnsigned ts = (z : ℤ) (h : Row) → in_signed z ≡ false → pick ts kind.li z ≡ some h → unsigned_row ≡ h

module _ (t : Bool → List Row) where
  -- any mnemonic but `li`
  pub not_li_in : (s : Stem) (m : ℕ) (z : ℤ) → ¬ (m ≡ kind.li) → IsIn t s m → ForIn t s m z
  not_li_in s m z n i =
      record { roomy = i.roomy; serves = λ wide h e. i.serves wide h (sym (pick_first (t wide) m z n) ∙ e) }

  -- `li`
  pub li_signed_in : ((wide : Bool) → first (t wide) kind.li ≡ some signed_row) →
      (s : Stem) (m : ℕ) (z : ℤ) → m ≡ kind.li → in_signed z ≡ true → IsIn t s m → ForIn t s m z
  li_signed_in first_li s m z e b i = record { roomy = i.roomy; serves = go }
    where
      picked : (wide : Bool) → pick (t wide) kind.li z ≡ some signed_row
      picked wide = pick_suited (t wide) kind.li z signed_row (first_li wide) (suits_signed z (at_true b))

      go : (wide : Bool) (h : Row) → pick (t wide) m z ≡ some h → Serves s h
      go wide h d =
          let q : pick (t wide) kind.li z ≡ some h = ap (λ (k : ℕ). pick (t wide) k z) (sym e) ∙ d in
          i.serves wide h (ap (first (t wide)) e ∙ (first_li wide ∙ (sym (picked wide) ∙ q)))

  pub li_unsigned_in : ((wide : Bool) → PicksUnsigned (t wide)) →
      (m : ℕ) (z : ℤ) → m ≡ kind.li → in_signed z ≡ false → ForIn t li_unsigned_stem m z
  li_unsigned_in picks m z e b = record { roomy = omega arith; serves = go }
    where
      served : Serves li_unsigned_stem unsigned_row
      served =
          record {
            least = unfold unsigned_row least word in refl;
            shape = λ va n o. unfold unsigned_row filled part in refl;
          }

      go : (wide : Bool) (h : Row) → pick (t wide) m z ≡ some h → Serves li_unsigned_stem h
      go wide h d =
          let q : pick (t wide) kind.li z ≡ some h = ap (λ (k : ℕ). pick (t wide) k z) (sym e) ∙ d in
          subst (Serves li_unsigned_stem) (picks wide z h b q) served

  -- words 0 and 0x40
  pub made_in : ((wide : Bool) → T (every nops_of_sll (t wide))) →
      (s : Stem) (m : ℕ) (z : ℤ) → ForIn t s m z → (wide : Bool) (h : Row) → pick (t wide) m z ≡ some h →
      (b : Bool) → eqb m kind.sll ≡ b →
      (va n : ℕ) (o : ℕ → Op) (w : ℕ) → w ≡ word_by s va n o → after_nops b w ≡ candidate h va n o
  unfolding candidate
  made_in only_sll s m z f wide h e b q va n o w d = λ i. after_nops (nops i) (sum i)
    where
      k : (h.kind ≡ m) × T (nops_of_sll h)
      k = pick_every nops_of_sll (t wide) (only_sll wide) m z h e

      nops : b ≡ h.nops
      nops =
          sym q
          ∙ (ap (λ (x : ℕ). eqb x kind.sll) (sym k.0) ∙ sym (beq_same h.nops (eqb h.kind kind.sll) k.1))

      sum : w ≡ word (base h) + filled h.form va n o
      sum = d ∙ (λ i. (f.serves wide h e).least i + (f.serves wide h e).shape va n o i)

-- ── the tables of the definition ──

first_li : (wide : Bool) → first (table wide) kind.li ≡ some signed_row
unfolding first table common by_width signed_row
first_li true = refl
first_li false = refl

-- op 25 has the same operands as op 9
last_row : Row
last_row = row kind.li (is 25) (is 0) read read read read rt_imm sets_immediate

-- the three rows of `li`, in a table's order
of_three : (b c : Bool) (h : Row) → b ≡ false →
    cond (b && true) (some signed_row) (cond c (some unsigned_row) (cond (b && true) (some last_row) none)) ≡ some h →
    unsigned_row ≡ h
of_three true c h q e = absurd (subst T q tt)
of_three false true h q e = some-injective unsigned_row h e
of_three false false h q e = absurd (none-ne-some h e)

unsigned_pick : (wide : Bool) → PicksUnsigned (table wide)
unfolding pick table common by_width suits holds signed_row unsigned_row last_row ℕ_discrete
unsigned_pick true z h b e = of_three (in_signed z) (in_unsigned z) h b e
unsigned_pick false z h b e = of_three (in_signed z) (in_unsigned z) h b e

only_sll : (wide : Bool) → T (every nops_of_sll (table wide))
unfolding every table common by_width
only_sll true = tt
only_sll false = tt

pub not_li : (s : Stem) (m : ℕ) (z : ℤ) → ¬ (m ≡ kind.li) → Is s m → For s m z
not_li = not_li_in table

pub li_signed : (s : Stem) (m : ℕ) (z : ℤ) → m ≡ kind.li → in_signed z ≡ true → Is s m → For s m z
li_signed = li_signed_in table first_li

pub li_unsigned : (m : ℕ) (z : ℤ) → m ≡ kind.li → in_signed z ≡ false → For li_unsigned_stem m z
li_unsigned = li_unsigned_in table unsigned_pick

pub made : (s : Stem) (m : ℕ) (z : ℤ) → For s m z → (wide : Bool) (h : Row) → pick (table wide) m z ≡ some h →
    (b : Bool) → eqb m kind.sll ≡ b →
    (va n : ℕ) (o : ℕ → Op) (w : ℕ) → w ≡ word_by s va n o → after_nops b w ≡ candidate h va n o
made = made_in table only_sll

-- ── operands ──

-- no class has more than the fields below op
pub filled_small : (φ : Form) (va n : ℕ) (o : ℕ → Op) → filled (form_of φ) va n o < 67108864
unfolding filled part branch_back
filled_small φ va n o = grind arith
