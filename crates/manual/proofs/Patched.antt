-- What specs/Patching.antt states, proved: the encoder's word is that of the row which is picked (crate `inverse`), and the walk has tested
-- which row that is and which fields it has.
use Rattle.inverse.specs.Encoded.{Encoded, Encodes}
use Prim.Native.Nat.{ℕ, ◌<◌}
use mathlib.Core.Path.{◌≡◌, refl, sym, ◌∙◌, ap, subst}
use mathlib.Core.Bool.{Bool, true, false}
use mathlib.Core.Option.{Option, none, some, some-injective}
use borrow.Author.Tests.{eqb-false}
use lib.Dec.{T}
use Rattle.word.specs.Word.{Fields, fields_of, word, words}
use Rattle.word.specs.Numbers.{imm}
use Rattle.word.proofs.Fields.{fields_fit, word_fields}
use Rattle.reading.specs.declared.Insn.{Insn}
use Rattle.reading.specs.Kind.{from}
use Rattle.classes.specs.Row.{Row}
use Rattle.classes.specs.Meaning.{six, takes, find, outs}
use Rattle.classes.specs.Table.{table}
use Rattle.laws.specs.Lists.{elem}
use Rattle.classes.specs.Refusals.{holds, meets, refusals}
use Rattle.classes.specs.Decoded.{decoded_of}
use Rattle.classes.proofs.Find.{In, find_in}
use Rattle.inverse.specs.Private.Candidate.{after_nops, pick}
use Rattle.inverse.proofs.Rows.{lift}
use Rattle.inverse.proofs.Twins.{value_in, own_suits, no_nops}
use Rattle.inverse.proofs.Tables.{pick_suited}
use Rattle.inverse.proofs.Smallest.{answer_by, row_of}
use Rattle.inverse.proofs.Restored.{Restored, kept_word}
use Rattle.inverse.proofs.Restored as encoder
use Rattle.inverse.proofs.Later.{pick_own}
use Rattle.inverse.proofs.Computed.{ordered_table}
use Rattle.inverse.proofs.Proved.{good_of}
use Rattle.manual.specs.Page.{fit, related, true_of, claimed, obeys, Line, defines, has}
use Rattle.manual.specs.Pages.{pages}
use Rattle.manual.specs.Aliases.{aliases, alias_lines, lines_of}
use Rattle.manual.specs.Exceptions.{flagged, among, covers, refused_words, other_readings, reserved_words}
use Rattle.manual.specs.Exceptions.{differences}
use Rattle.manual.specs.Agreement.{book, first_line, line_for, Agree, any_covers, covered, Each}
use Rattle.manual.specs.Patching.{in_range, Swap, swaps, value_of, changed, of_line, swap_in, swap_by, swap_for}
use Rattle.manual.specs.Patching.{Patched, ShownSwap, Patching}
use Rattle.manual.proofs.Swaps.{Kept, Moved, By, restoring_by}
use Rattle.manual.proofs.Proved.{manual, insn_is, found, line_of_lem, restored}

module _ (w va : ℕ) (wide : Bool) (e : Encoded) (small : w < words) where
  abbrev f : Fields
  f = fields_of w

  module _ (r : Row) (q : find (table wide) f ≡ some r) (back : Restored (table wide) va r f e) where
    here : In r (table wide) × T (takes r f)
    here = find_in (table wide) f r q

    -- the row that the encoder takes
    row_is : (h : Row) → pick (table wide) r.kind (value_in (outs r.form va f)) ≡ some h → e.word ≡ after_nops h.nops (word (lift h f))
    row_is h d =
        back.is
        ∙ ap (λ (x : Row). after_nops x.nops (word (lift x f))) (some-injective back.row h (sym back.picked.found ∙ d))

    kept : Kept (table wide) r va f → e.word ≡ w
    kept k =
        row_is r (pick_own (table wide) r (value_in (outs r.form va f)) k.alone (table wide) (ordered_table wide) here.0 (own_suits r va f (fields_fit w)))
        ∙ (ap (λ (g : Fields). after_nops r.nops (word g)) k.fields ∙ (kept_word r f here.1 ∙ word_fields w small))

    moved : (s : Swap) → Moved (table wide) r va f s → e.word ≡ word (changed s.back f)
    moved s m =
        row_is m.row (pick_suited (table wide) r.kind (value_in (outs r.form va f)) m.row m.here m.suited)
        ∙ (no_nops m.row.nops (word (lift m.row f)) m.plain ∙ ap word m.fields)

    module _ (ℓ : Line) (a : line_for wide f ≡ some ℓ) (by : By (table wide) r va f (swap_in swaps ℓ f)) where
      swap_is : swap_for wide f ≡ swap_in swaps ℓ f
      unfolding swap_for
      swap_is = ap (λ (o : Option Line). swap_by o f) a

      same : swap_for wide f ≡ none → e.word ≡ w
      same n = kept (subst (By (table wide) r va f) (sym swap_is ∙ n) by)

      other : (s : Swap) → swap_for wide f ≡ some s → e.word ≡ word (changed s.back f)
      other s n = moved s (subst (By (table wide) r va f) (sym swap_is ∙ n) by)

  patched : covered wide f ≡ false → (decoded_of w va wide).number ≡ 0 → Encodes (λ v. decoded_of v va wide) (decoded_of w va wide).insn e → Patched w va wide e
  unfolding decoded_of
  patched c z enc = record { accepted = back.accepted; same = same r q back ℓ a by; other = other r q back ℓ a by }
    where
      r : Row
      r = (row_of (table wide) refusals (good_of wide) va w z).0

      q : find (table wide) f ≡ some r
      q = (row_of (table wide) refusals (good_of wide) va w z).1

      back : Restored (table wide) va r f e
      back =
          encoder.restored (table wide) refusals (good_of wide) va w small r q e
          (subst (λ (i : Insn). Encodes (answer_by (table wide) refusals va) i e) (insn_is w va wide r q) enc)

      ℓ : Line
      ℓ = (line_of_lem w va wide c r q).0

      a : line_for wide f ≡ some ℓ
      a = (line_of_lem w va wide c r q).1

      by : By (table wide) r va f (swap_in swaps ℓ f)
      by = restoring_by (table wide) ℓ r va f (fields_fit w) (here r q back).1 (found w va wide ℓ a) swaps (restored w va wide c ℓ r a q)

-- ── the swaps are needed ──

agreeing : (w va : ℕ) (wide : Bool) → Agree w va wide → covered wide (fields_of w) ≡ false
agreeing w va wide a = go (covered wide (fields_of w)) refl
  where
    go : (b : Bool) → covered wide (fields_of w) ≡ b → covered wide (fields_of w) ≡ false
    go true c = absurd ((manual w va wide).differ c a)
    go false c = c

shown : Each ShownSwap swaps
unfolding swaps swap_for swap_in of_line in_range line_for first_line has defines fit obeys meets holds elem from claimed true_of related fields_of imm six
    book pages aliases alias_lines lines_of any_covers covers among flagged refused_words other_readings reserved_words differences word changed value_of
shown = (
  record { listed = refl; plain = refl; moved = eqb-false _ _ refl },
  (
    record { listed = refl; plain = refl; moved = eqb-false _ _ refl },
    (
      record { listed = refl; plain = refl; moved = eqb-false _ _ refl },
      (
        record { listed = refl; plain = refl; moved = eqb-false _ _ refl },
        (
          record { listed = refl; plain = refl; moved = eqb-false _ _ refl },
          (
            record { listed = refl; plain = refl; moved = eqb-false _ _ refl },
            (
              record { listed = refl; plain = refl; moved = eqb-false _ _ refl },
              tt,
            ),
          ),
        ),
      ),
    ),
  ),
)

pub patching : Patching
patching = record { agreeing = agreeing; patched = λ w va wide e small. patched w va wide e small; shown = shown }
