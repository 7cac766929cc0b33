-- What an arm of the decoder has to show: the facts that it knows, and that the row or the entry they leave says what
-- the arm answers.
-- How: an arm knows facts of the word's fields (`op ≐ 0 ∷ funct ≐ 3 ∷ []`, Facts.antt). That a row takes every word
-- with such fields, or an entry of the acceptance table refuses every one, is computed over the values that the fields
-- can still have (Rows.antt, Entries.antt); that no other row does follows from `exact` of crate `classes`. Fields.antt
-- says it in the form that the search applies at each arm. An arm answers with a shape, and what a shape reads is
-- `read_by` of crate `forms`, in the words of the table's columns.
use Prim.Native.Nat.{ℕ, ◌+◌, ◌*◌, ◌^◌, ◌<◌}
use mathlib.Core.Path.{◌≡◌, refl, sym, ◌∙◌, ap, subst}
use mathlib.Core.Bool.{Bool, true, false, not, ◌&&◌}
use mathlib.Core.List.{List}
use mathlib.Core.Option.{Option, some}
use native.Mathlib.Omega.{arith}
use borrow.Author.Tests.{eqb-true}
use lib.Dec.{T, eqb, leb, leb→le}
use Rattle.word.specs.Word.{op, rs, rt, rd, sa, funct, Fields, Fit, fields_of, word, words}
use Rattle.word.proofs.Fields.{fields_fit, word_fields}
use Rattle.reading.specs.declared.Decoded.{Decoded}
use Rattle.reading.specs.Kind.{from}
use Rattle.reading.specs.Reading.{refused_of, accepted_as}
use Rattle.classes.specs.Row.{Row}
use Rattle.classes.specs.Meaning.{match, six, nop_like, meaning}
use Rattle.classes.specs.Table.{common, by_width, table}
use Rattle.laws.specs.Lists.{elem}
use Rattle.classes.specs.Refusals.{Refusal, refusal, refusals}
use Rattle.classes.specs.Decoded.{decoded_by, decoded_of}
use Rattle.laws.proofs.Tests.{all_below, at_true}
use Rattle.classes.proofs.Boxes.{exact, taken_or_refused}
use Rattle.classes.proofs.Accepts.{accepted_by, refused_by, exact_table}
use Rattle.decode.proofs.Facts.{Fact, Known, possible, leaves, value_in, value_of, sure}
use Rattle.decode.proofs.Rows.{surely, is_busy, certain, chosen, chosen_found}
use Rattle.decode.proofs.Entries.{sure_test, sure_tests, refusing_number, number_is}

-- ── THE LAWS, for any table and any acceptance table that pass the test ──

module _ (ts : List Row) (es : List Refusal) (t : T (exact ts es))
    (ks : List Fact) (va : ℕ) (f : Fields) (fit : Fit f) (h : Known f ks) where
  -- the answer is what the row reads
  pub accepts_by : {r : Row} {d : Decoded} → chosen ks ts ≡ some r → d ≡ accepted_as (meaning r va f) →
      d ≡ decoded_by ts es va f
  accepts_by {r} e q =
      let found = chosen_found ks f h fit ts (omega (arith, taken_or_refused ts es t f fit)) r e in
      q ∙ sym (accepted_by ts es t f fit va r found)

  -- the answer is the entry's number and the blank reading
  pub refuses_by : {n : ℕ} {d : Decoded} → refusing_number ks es ≡ some n → T (not (eqb n 0)) → d ≡ refused_of n →
      d ≡ decoded_by ts es va f
  refuses_by {n} e z q = q ∙ sym (refused_by ts es t f fit va refused ∙ ap refused_of number)
    where
      number : refusal es f ≡ n
      number = number_is ks f h fit es (omega (arith, taken_or_refused ts es t f fit)) n e

      refused : ¬ (refusal es f ≡ 0)
      refused y = subst (λ (m : ℕ). T (not (eqb m 0))) (sym number ∙ y) z

-- ── the tables of the definition ──

unfoldable pub row_by : List Fact → Bool → Option Row
unfolding chosen certain surely is_busy sure value_of value_in possible leaves elem all_below match six
    common by_width table
row_by ks wide = chosen ks (table wide)

unfoldable pub number_by : List Fact → Option ℕ
unfolding refusing_number sure_tests sure_test sure value_of value_in possible leaves elem all_below from refusals
number_by ks = refusing_number ks refusals

pub accepts : (ks : List Fact) (w va : ℕ) (wide : Bool) {r : Row} {d : Decoded} → Known (fields_of w) ks →
    row_by ks wide ≡ some r →
    d ≡ accepted_as (meaning r va (fields_of w)) → d ≡ decoded_of w va wide
unfolding row_by decoded_of
accepts ks w va wide h = accepts_by (table wide) refusals (exact_table wide) ks va (fields_of w) (fields_fit w) h

pub refuses : (ks : List Fact) (w va : ℕ) (wide : Bool) {n : ℕ} {d : Decoded} → Known (fields_of w) ks →
    number_by ks ≡ some n →
    T (not (eqb n 0)) → d ≡ refused_of n → d ≡ decoded_of w va wide
unfolding number_by decoded_of
refuses ks w va wide h = refuses_by (table wide) refusals (exact_table wide) ks va (fields_of w) (fields_fit w) h

-- ── a word that the code compares with two others as a whole ──

parts : (w : ℕ) → w < words →
    fields_of w op * 2 ^ 26 + fields_of w rs * 2 ^ 21 + fields_of w rt * 2 ^ 16 + fields_of w rd * 2 ^ 11
    + fields_of w sa * 2 ^ 6 + fields_of w funct ≡ w
unfolding word
parts w small = word_fields w small

-- neither 0 nor 0x40
pub known_busy : (w : ℕ) → w < words → fields_of w op ≡ 0 → fields_of w funct ≡ 0 → ¬ (w ≡ 0) →
    ¬ (w ≡ 64) → nop_like (fields_of w) ≡ false
unfolding nop_like
known_busy w small o k zero ssnop = go (eqb (f rs) 0) refl (eqb (f rt) 0) refl (eqb (f rd) 0) refl (leb (f sa) 1) refl
  where
    f : Fields
    f = fields_of w

    go : (a : Bool) → eqb (fields_of w rs) 0 ≡ a → (b : Bool) → eqb (fields_of w rt) 0 ≡ b →
        (c : Bool) → eqb (fields_of w rd) 0 ≡ c → (d : Bool) →
        leb (fields_of w sa) 1 ≡ d →
        (a && (b && (c && d))) ≡ false
    go false i b j c l d m = refl
    go true i false j c l d m = refl
    go true i true j false l d m = refl
    go true i true j true l false m = refl
    go true i true j true l true m =
        absurd
        (omega (
          arith,
          parts w small,
          o,
          k,
          eqb-true (fields_of w rs) 0 i,
          eqb-true (fields_of w rt) 0 j,
          eqb-true (fields_of w rd) 0 l,
          leb→le (fields_of w sa) 1 (at_true m),
          zero,
          ssnop,
        ))
