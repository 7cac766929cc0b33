-- Which word a reading gets: the candidate of the reading's row has the reading and is the smallest, if any word has it.
use Prim.Native.Nat.{ℕ, ◌≤◌, ◌<◌}
use mathlib.Core.Path.{◌≡◌, refl, sym, ◌∙◌, ap, subst, fun_ext}
use mathlib.Core.List.{List}
use mathlib.Core.Logic.{inl, inr}
use mathlib.Core.Option.{Option, none, some, some-injective}
use native.Mathlib.Omega.{arith}
use lib.Dec.{T}
use lib.ListN.{length}
use Rattle.word.specs.Word.{Fields, Fit, fields_of, word, words}
use Rattle.word.proofs.Fields.{fields_fit, word_small, word_fields, fields_word}
use Rattle.reading.specs.declared.Op.{Op}
use Rattle.reading.specs.declared.Operand.{Operand}
use Rattle.reading.specs.declared.Insn.{Insn}
use Rattle.reading.specs.declared.Decoded.{Decoded}
use Rattle.reading.specs.Reading.{accepted_as}
use Rattle.classes.specs.Row.{Row}
use Rattle.classes.specs.Meaning.{takes, find, outs, int_of, reading, meaning}
use Rattle.classes.specs.Refusals.{Refusal}
use Rattle.classes.specs.Decoded.{decoded_by}
use Rattle.classes.specs.Theorems.{taking}
use Rattle.classes.proofs.Boxes.{taken_or_refused}
use Rattle.classes.proofs.Accepts.{none_found, one_taking, accepted_by}
use Rattle.classes.proofs.Find.{In, find_in, only_row}
use Rattle.classes.proofs.Operands.{most_outs, slot_at}
use Rattle.inverse.specs.Encoded.{Has}
use Rattle.inverse.proofs.Fill.{nth}
use Rattle.inverse.specs.Private.Candidate.{operand_at, Tries, suits, candidate, pick}
use Rattle.inverse.proofs.Rows.{Sound, Within, own}
use Rattle.inverse.proofs.Twins.{value_in, own_suits, twin_within}
use Rattle.inverse.proofs.Tables.{Near, Picked, pick_law, Good}

-- the answer for a word at an address, by two tables; decodedOf's, if they are those of the definition
abbrev pub answer_by : List Row → List Refusal → ℕ → ℕ → Decoded
answer_by ts es va w = decoded_by ts es va (fields_of w)

-- ── the operands of a reading ──

pub operands_back : (r : Row) → Sound r → (va : ℕ) (f : Fields) → operand_at (meaning r va f).ops ≡ nth (outs r.form va f)
unfolding meaning reading
operands_back r ok va f = fun_ext (λ n. ap (λ (o : Operand). o.op) (slot_at (outs r.form va f) (most_outs r.form ok.four va f) n))

-- ── the row of an accepted word ──

found_of : (ts : List Row) (f : Fields) → 1 ≤ taking ts f → (r : Row) × (find ts f ≡ some r)
found_of ts f h = go (find ts f) refl
  where
    go : (o : Option Row) → find ts f ≡ o → (r : Row) × (find ts f ≡ some r)
    go none e = absurd (omega (arith, none_found ts f e))
    go (some r) e = (r, e)

module _ (ts : List Row) (es : List Refusal) (ok : Good ts es) (va : ℕ) where
  pub row_of : (w : ℕ) → (answer_by ts es va w).number ≡ 0 → (r : Row) × (find ts (fields_of w) ≡ some r)
  unfolding decoded_by
  row_of w e = found_of ts (fields_of w) (omega (arith, one_taking ts es ok.exact (fields_of w) (fields_fit w) ok.numbered e))

  pub answer_is : (w : ℕ) (r : Row) → find ts (fields_of w) ≡ some r → answer_by ts es va w ≡ accepted_as (meaning r va (fields_of w))
  answer_is w r e = accepted_by ts es ok.exact (fields_of w) (fields_fit w) va r e

  -- a word that is given by its fields
  given : (h : Row) → In h ts → (g : Fields) → Fit g → T (takes h g) → answer_by ts es va (word g) ≡ accepted_as (meaning h va g)
  given h i g fit t =
      ap (decoded_by ts es va) (fields_word g fit)
      ∙ accepted_by ts es ok.exact g fit va h (only_row ts g (omega (arith, taken_or_refused ts es ok.exact g fit)) h i t)

-- ── the candidate ──

pub near_reading : (h r : Row) (os : List Op) → h.kind ≡ r.kind → Near h r →
    reading h.kind h.manner os ≡ reading r.kind r.manner os
near_reading h r os k (inl e) = ap (λ (x : Row). reading x.kind x.manner os) e
near_reading h r os k (inr p) = λ i. reading (k i) (p.manner i) os

near_within : (h r : Row) → Sound h → Near h r → (va : ℕ) (f : Fields) → Fit f → T (takes r f) → T (suits h (value_in (outs r.form va f))) →
    Within h va (outs r.form va f) f (candidate h va (length (outs r.form va f)) (nth (outs r.form va f)))
near_within h r ok (inl e) va f fit t u =
    subst (λ (x : Row). Within x va (outs r.form va f) f (candidate x va (length (outs r.form va f)) (nth (outs r.form va f)))) (sym e)
    (own r (subst Sound e ok) va f fit t)
near_within h r ok (inr p) va f fit t u = twin_within h r ok p va f fit t u

module _ (ts : List Row) (es : List Refusal) (ok : Good ts es) (va : ℕ) where
  -- the candidate of the row that is picked for the operands of a word f
  within_has : (r h : Row) (f : Fields) (c : ℕ) → In h ts → h.kind ≡ r.kind → Near h r → Within h va (outs r.form va f) f c →
      Has (answer_by ts es va) (meaning r va f) c
  unfolding meaning
  within_has r h f c i k near s =
      record {
        small = subst (λ (n : ℕ). n < words) (sym s.are) (word_small s.fields s.fit);
        reads =
            ap (answer_by ts es va) s.are
            ∙ (given ts es ok va h i s.fields s.fit s.taken
            ∙ ap accepted_as
            (ap (reading h.kind h.manner) s.operands ∙ near_reading h r (outs r.form va f) k near));
      }

  -- the row that is picked for the operands of a word of row r, and what its candidate is
  module _ (w : ℕ) (r : Row) (e : find ts (fields_of w) ≡ some r) where
    abbrev pub os : List Op
    os = outs r.form va (fields_of w)

    i : In r ts × T (takes r (fields_of w))
    i = find_in ts (fields_of w) r e

    pub picked_for : (h : Row) × Picked ts r (value_in os) h
    picked_for = pick_law ts ok.paired r i.0 (value_in os) (own_suits r va (fields_of w) (fields_fit w))

    abbrev pub tried_for : ℕ
    tried_for = candidate picked_for.0 va (length os) (nth os)

    pub within_for : Within picked_for.0 va os (fields_of w) tried_for
    within_for =
        near_within picked_for.0 r (ok.rows picked_for.0 picked_for.1.here) picked_for.1.near va (fields_of w) (fields_fit w) i.1
        picked_for.1.suited

    pub has_for : Has (answer_by ts es va) (meaning r va (fields_of w)) tried_for
    has_for = within_has r picked_for.0 (fields_of w) tried_for picked_for.1.here picked_for.1.kind picked_for.1.near within_for

    -- no larger than the word
    pub le_for : w < words → tried_for ≤ w
    le_for small = subst (λ (n : ℕ). tried_for ≤ n) (word_fields w small) within_for.le

    back : operand_at (meaning r va (fields_of w)).ops ≡ nth os
    back = operands_back r (ok.rows r i.0) va (fields_of w)

    found_for : pick ts r.kind (int_of (operand_at (meaning r va (fields_of w)).ops 1)) ≡ some picked_for.0
    found_for = ap (λ (o : ℕ → Op). pick ts r.kind (int_of (o 1))) back ∙ picked_for.1.found

    -- it is what an encoder tries for the word's reading, and nothing else is
    pub tries_for : Tries ts va (meaning r va (fields_of w)) tried_for
    unfolding meaning reading
    tries_for h d =
        ap (λ (x : Row). candidate x va (length os) (nth os)) (some-injective picked_for.0 h (sym found_for ∙ d))
        ∙ ap (candidate h va (length os)) (sym back)

    is_tried : (c : ℕ) → Tries ts va (meaning r va (fields_of w)) c → c ≡ tried_for
    unfolding meaning reading
    is_tried c tries = tries picked_for.0 found_for ∙ ap (candidate picked_for.0 va (length os)) back

  of_row : (w : ℕ) → w < words → (r : Row) → find ts (fields_of w) ≡ some r → (c : ℕ) → Tries ts va (meaning r va (fields_of w)) c →
      Has (answer_by ts es va) (meaning r va (fields_of w)) c × (c ≤ w)
  of_row w small r e c tries =
      let is : c ≡ tried_for w r e = is_tried w r e c tries in
      (subst (Has (answer_by ts es va) (meaning r va (fields_of w))) (sym is) (has_for w r e), subst (λ (n : ℕ). n ≤ w) (sym is) (le_for w r e small))

  -- THE LAW: if any word has the reading, what is tried has it and is no larger
  pub smallest_law : (i : Insn) (c : ℕ) → Tries ts va i c → (w : ℕ) → Has (answer_by ts es va) i w → Has (answer_by ts es va) i c × (c ≤ w)
  smallest_law i c tries w h =
      subst (λ (j : Insn). Tries ts va j c → Has (answer_by ts es va) j c × (c ≤ w)) is (of_row w h.small r.0 r.1 c) tries
    where
      r : (r : Row) × (find ts (fields_of w) ≡ some r)
      r = row_of ts es ok va w (ap (λ (d : Decoded). d.number) h.reads)

      is : meaning r.0 va (fields_of w) ≡ i
      is = ap (λ (d : Decoded). d.insn) (sym (answer_is ts es ok va w r.0 r.1) ∙ h.reads)
