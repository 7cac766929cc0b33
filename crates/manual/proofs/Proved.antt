-- What specs/Agreement.antt states, proved.
-- How: rows, refusals, lines and exceptions are walked over at once, field by field, and at the end of each path a test
-- decides on what is left (`verdict`, Verdict.antt): the line and the row have the same name and the same operands, or
-- an exception is left and the two clearly differ. Relations between two fields (rs = rd) are further axes of the walk
-- (Axes.antt). antt computes it once under each flag (Tables.antt); the law that turns it into the statement holds for
-- any four tables that pass (`sound_at`, Computed.antt). The same walk tests what comes back when a word is encoded
-- again (`restores`, Swaps.antt): which row the encoder picks for the line's words, and that each field which that row
-- does not read has its least value in all of them.
use Prim.Native.Nat.{ℕ, ◌+◌, ◌^◌, ◌≤◌}
use mathlib.Core.Path.{◌≡◌, refl, sym, ◌∙◌, ap, ap₂, subst}
use mathlib.Core.Bool.{Bool, true, false, not, cond, ◌&&◌, ◌||◌}
use mathlib.Core.List.{List, [], ◌∷◌}
use mathlib.Core.Option.{Option, none, some, none-ne-some, some-injective}
use native.Mathlib.Omega.{arith}
use lib.Dec.{T, eqb, eqb→eq}
use borrow.Author.Tests.{eqb-false, lt-leb}
use Rattle.word.specs.Word.{Fields, Fit, fields_of}
use Rattle.word.specs.Numbers.{imm, index, branch_to, jump_to}
use Rattle.word.proofs.Fields.{fields_fit, index_small}
use Rattle.word.proofs.Signed.{branch_small, jump_small}
use Rattle.reading.specs.declared.Op.{Op}
use Rattle.reading.specs.declared.Insn.{Insn}
use Rattle.reading.specs.declared.Decoded.{Decoded}
use Rattle.classes.specs.Row.{Code, reg, freg, cop0, num, size, s16, u16, mem, br, jmp, Row}
use Rattle.classes.specs.Meaning.{out, outs, find, meaning}
use Rattle.classes.specs.Table.{table}
use Rattle.laws.specs.Lists.{elem}
use Rattle.classes.specs.Refusals.{meets, refusal, refusals}
use Rattle.classes.specs.Decoded.{reading_by, decoded_by, decoded_of}
use Rattle.laws.proofs.Tests.{and_l, and_r, at_true, distinct}
use Rattle.classes.proofs.Accepts.{none_found, acceptance, accepted}
use Rattle.classes.proofs.Find.{every_found, each_reading}
use Rattle.classes.proofs.Operands as operands
use Rattle.classes.proofs.Operands.{known, known_table, outs_each, any_code}
use Rattle.manual.specs.Page.{defines, Line, has}
use Rattle.manual.specs.Pages.{pages}
use Rattle.manual.specs.Aliases.{lines_of}
use Rattle.manual.specs.Exceptions.{Difference, covers, refused_words, other_readings, reserved_words, differences}
use Rattle.manual.specs.Agreement.{book, first_line, line_for, used, past, any_past, AgreeBy, Agree, covering}
use Rattle.manual.specs.Agreement.{covered, Answered, target_past_pc}
use Rattle.manual.specs.Agreement.{PastAs, Each, Manual}
use Rattle.manual.specs.Patching.{swaps}
use Rattle.manual.proofs.Lines.{lined}
use Rattle.manual.proofs.Verdict.{used_meaning, Part, matches_named, matches_reads, matches_past, clashes}
use Rattle.manual.proofs.Verdict.{clashes_reads, read_by, refused_by}
use Rattle.manual.proofs.Verdict.{Meets, read_answered, refused_answered, each, verdict, shown_by, together}
use Rattle.manual.proofs.Left.{parts_of, left_parts, present, parts_left, parts_each}
use Rattle.manual.proofs.Swaps.{restoring, restores}
use Rattle.manual.proofs.Computed.{sound_at}
use Rattle.manual.proofs.Tables.{tested, tested_table}

-- the line that is found has the word
line_has : (ls : List Line) (f : Fields) (ℓ : Line) → first_line ls f ≡ some ℓ → T (has ℓ f)
unfolding first_line
line_has [] f ℓ e = absurd (none-ne-some ℓ e)
line_has (k ∷ ls) f ℓ e = go (has k f) refl e (line_has ls f ℓ)
  where
    go : (b : Bool) → has k f ≡ b → cond b (some k) (first_line ls f) ≡ some ℓ → (first_line ls f ≡ some ℓ → T (has ℓ f)) → T (has ℓ f)
    go true d c rec = subst (λ (m : Line). T (has m f)) (some-injective k ℓ c) (subst T (sym d) tt)
    go false d c rec = rec c

line_when : (ℓ : Line) (f : Fields) → T (has ℓ f) → T (meets ℓ.when f)
unfolding has
line_when ℓ f t = and_r (defines ℓ.page f) (meets ℓ.when f) t

each_map : (P Q : Difference → Type 0) → ((d : Difference) → P d → Q d) → (ds : List Difference) → Each P ds → Each Q ds
each_map P Q h [] e = tt
each_map P Q h (d ∷ ds) e = (h d e.0, each_map P Q h ds e.1)

-- ── at most one exception ──

-- the examples of a list of exceptions
unfoldable pub keys : List Difference → List ℕ
keys [] = []
keys (d ∷ ds) = d.example.word ∷ keys ds

module _ (wide : Bool) (f : Fields) (k : ℕ) where
  abbrev Keyed : Difference → Type 0
  Keyed d = T (covers d wide f) → T (shown_by k d)

  -- exceptions with another example do not cover the word
  none_covering : (ds : List Difference) → Each Keyed ds → T (not (elem k (keys ds))) → covering ds wide f ≡ 0
  unfolding covering keys elem
  none_covering [] e n = refl
  none_covering (d ∷ ds) e n = go (covers d wide f) refl (eqb k d.example.word) refl n (none_covering ds e.1)
    where
      go : (b : Bool) → covers d wide f ≡ b → (c : Bool) → eqb k d.example.word ≡ c → T (not (c || elem k (keys ds))) →
          (T (not (elem k (keys ds))) → covering ds wide f ≡ 0) → cond b 1 0 + covering ds wide f ≡ 0
      go b h true g m rec = absurd m
      go true h false g m rec = absurd (eqb-false k d.example.word g (sym (eqb→eq d.example.word k (e.0 (subst T (sym h) tt)))))
      go false h false g m rec = omega (arith, rec m)

  one_covering : (ds : List Difference) → T (distinct (keys ds)) → Each Keyed ds → covering ds wide f ≤ 1
  unfolding covering keys distinct
  one_covering [] t e = omega arith
  one_covering (d ∷ ds) t e = go (covers d wide f) refl (one_covering ds (and_r (not (elem d.example.word (keys ds))) (distinct (keys ds)) t) e.1)
    where
      go : (b : Bool) → covers d wide f ≡ b → covering ds wide f ≤ 1 → cond b 1 0 + covering ds wide f ≤ 1
      go true h rec = omega (arith, none_covering ds e.1 other)
        where
          other : T (not (elem k (keys ds)))
          other =
              subst (λ (j : ℕ). T (not (elem j (keys ds)))) (eqb→eq d.example.word k (e.0 (subst T (sym h) tt)))
              (and_l (not (elem d.example.word (keys ds))) (distinct (keys ds)) t)
      go false h rec = omega (arith, rec)

examples_distinct : T (distinct (keys differences))
unfolding distinct elem keys refused_words other_readings reserved_words differences
examples_distinct = tt

module _ (w va : ℕ) (wide : Bool) where
  abbrev f : Fields
  f = fields_of w

  abbrev ps : List Part
  ps = left_parts (parts_of differences wide) f

  unread : find (table wide) f ≡ none → ¬ ((decoded_of w va wide).number ≡ 0)
  unread e z = absurd (omega (arith, (acceptance w va wide).accepted z, none_found (table wide) f e))

  row_known : (r : Row) → find (table wide) f ≡ some r → T (known r)
  row_known r e = every_found known (table wide) (known_table wide) f r e

  pub found : (ℓ : Line) → line_for wide f ≡ some ℓ → T (has ℓ f)
  unfolding line_for
  found ℓ e = line_has (lines_of (book pages wide)) f ℓ e

  passed : T (verdict (line_for wide f) (find (table wide) f) (refusal refusals f) ps
      && (together ps && restores (table wide) (line_for wide f) (find (table wide) f) ps))
  unfolding line_for tested
  passed = sound_at (table wide) refusals (lines_of (book pages wide)) (parts_of differences wide) (tested_table wide) f (fields_fit w)

  judged : T (verdict (line_for wide f) (find (table wide) f) (refusal refusals f) ps)
  judged = and_l (verdict (line_for wide f) (find (table wide) f) (refusal refusals f) ps) _ passed

  beside : T (together ps && restores (table wide) (line_for wide f) (find (table wide) f) ps)
  beside = and_r (verdict (line_for wide f) (find (table wide) f) (refusal refusals f) ps) _ passed

  -- the line for the word is one for it
  line_meets : Meets (line_for wide f) f
  line_meets = go (line_for wide f) refl
    where
      go : (o : Option Line) → line_for wide f ≡ o → Meets o f
      go none e = tt
      go (some ℓ) e = line_when ℓ f (found ℓ e)

  pub insn_is : (r : Row) → find (table wide) f ≡ some r → (decoded_of w va wide).insn ≡ meaning r va f
  insn_is r b = ap (λ (d : Decoded). d.insn) (accepted w va wide r b)

  -- what is past the PC, by the row
  past_is : (r : Row) (t : Bool) → find (table wide) f ≡ some r → target_past_pc w va wide ≡ t → any_past wide (used (meaning r va f)) ≡ t
  past_is r t b p = ap (λ (i : Insn). any_past wide (used i)) (sym (insn_is r b)) ∙ p

  agree : covered wide f ≡ false → target_past_pc w va wide ≡ false → Agree w va wide
  unfolding verdict
  agree c p = go (line_for wide f) refl (find (table wide) f) refl ps (parts_left differences wide f ∙ c) judged
    where
      go : (o : Option Line) → line_for wide f ≡ o → (q : Option Row) → find (table wide) f ≡ q → (l : List Part) → present l ≡ false →
          T (verdict o q (refusal refusals f) l) → AgreeBy o wide va f (decoded_of w va wide)
      go none a none b [] h t = unread b
      go none a (some r) b [] h t = absurd t
      go (some ℓ) a none b [] h t = absurd t
      go (some ℓ) a (some r) b [] h t =
          subst (AgreeBy (some ℓ) wide va f) (sym (accepted w va wide r b))
          (refl, matches_reads ℓ r (row_known r b) t wide va f (line_when ℓ f (found ℓ a)) (past_is r false b p))
      go o a q b (d ∷ l) h t = absurd (subst T h tt)

  differ : covered wide f ≡ true → ¬ Agree w va wide
  unfolding verdict
  differ c = go (line_for wide f) (find (table wide) f) refl ps (parts_left differences wide f ∙ c) judged
    where
      go : (o : Option Line) (q : Option Row) → find (table wide) f ≡ q → (l : List Part) → present l ≡ true →
          T (verdict o q (refusal refusals f) l) → ¬ AgreeBy o wide va f (decoded_of w va wide)
      go none none b (d ∷ l) h t = absurd t
      go none (some r) b (d ∷ l) h t = λ n. n (ap (λ (e : Decoded). e.number) (accepted w va wide r b))
      go (some ℓ) none b (d ∷ l) h t = λ a. unread b a.0
      go (some ℓ) (some r) b (d ∷ l) h t =
          λ a. clashes_reads ℓ r (row_known r b) (and_l (clashes ℓ r) _ t) wide va f (subst (AgreeBy (some ℓ) wide va f) (accepted w va wide r b) a).1
      go o q b [] h t = absurd (subst T (sym h) tt)

  -- a word that no row takes has no address
  row_of_past : target_past_pc w va wide ≡ true → find (table wide) f ≡ none → ⊥
  unfolding decoded_of decoded_by any_past
  row_of_past p b = at_true (ap (λ (q : Option Row). any_past wide (used (reading_by q va f))) (sym b) ∙ p)

  -- where no exception covers the word, it is read as the line has it, but for the address
  past_named : covered wide f ≡ false → target_past_pc w va wide ≡ true →
      PastAs (line_for wide f) wide va f (decoded_of w va wide).insn × (¬ AgreeBy (line_for wide f) wide va f (decoded_of w va wide))
  unfolding verdict
  past_named c p = go (line_for wide f) refl (find (table wide) f) refl ps (parts_left differences wide f ∙ c) judged
    where
      go : (o : Option Line) → line_for wide f ≡ o → (q : Option Row) → find (table wide) f ≡ q → (l : List Part) → present l ≡ false →
          T (verdict o q (refusal refusals f) l) → PastAs o wide va f (decoded_of w va wide).insn × (¬ AgreeBy o wide va f (decoded_of w va wide))
      go o a none b [] h t = absurd (row_of_past p b)
      go none a (some r) b [] h t = absurd t
      go (some ℓ) a (some r) b [] h t = (
        subst (PastAs (some ℓ) wide va f) (sym (insn_is r b)) (matches_named ℓ r (row_known r b) t wide va f (line_when ℓ f (found ℓ a))),
        λ g. matches_past ℓ r (row_known r b) t wide va f (line_when ℓ f (found ℓ a)) (past_is r true b p)
            (subst (AgreeBy (some ℓ) wide va f) (accepted w va wide r b) g).1,
      )
      go o a q b (d ∷ l) h t = absurd (subst T h tt)

  past_differs : target_past_pc w va wide ≡ true → ¬ Agree w va wide
  past_differs p = go (covered wide f) refl
    where
      go : (b : Bool) → covered wide f ≡ b → ¬ Agree w va wide
      go true c = differ c
      go false c = (past_named c p).1

  -- what the exceptions that are left say of the answer
  answered : Each (λ d. T (covers d wide f) → Answered d.answer wide va f (decoded_of w va wide)) differences
  unfolding verdict each decoded_of decoded_by
  answered = go (line_for wide f) refl (find (table wide) f) refl ps refl judged
    where
      from_row : (r : Row) → find (table wide) f ≡ some r → T (each (read_by (line_for wide f) r) ps) →
          Each (λ d. T (covers d wide f) → Answered d.answer wide va f (decoded_of w va wide)) differences
      from_row r b t =
          each_map _ _
          (λ d h c. subst (Answered d.answer wide va f) (sym (accepted w va wide r b)) (read_answered wide r d.answer va f (row_known r b) line_meets (h c)))
          differences (parts_each (read_by (line_for wide f) r) differences wide f t)

      by_line : (o : Option Line) (r : Row) → line_for wide f ≡ o → (l : List Part) → ps ≡ l → T (each (read_by o r) l) → T (each (read_by (line_for wide f) r) ps)
      by_line o r a l h t = subst (λ (m : Option Line). T (each (read_by m r) ps)) (sym a) (subst (λ (k : List Part). T (each (read_by o r) k)) (sym h) t)

      from_number : T (each (refused_by (refusal refusals f)) ps) → Each (λ d. T (covers d wide f) → Answered d.answer wide va f (decoded_of w va wide)) differences
      from_number t =
          each_map _ _
          (λ d h c. refused_answered (refusal refusals f) d.answer (h c) (λ a. Answered a wide va f (decoded_of w va wide)) (λ k e. e))
          differences (parts_each (refused_by (refusal refusals f)) differences wide f t)

      go : (o : Option Line) → line_for wide f ≡ o → (q : Option Row) → find (table wide) f ≡ q → (l : List Part) → ps ≡ l →
          T (verdict o q (refusal refusals f) l) →
          Each (λ d. T (covers d wide f) → Answered d.answer wide va f (decoded_of w va wide)) differences
      go o a q b [] h t = from_number (subst (λ (k : List Part). T (each (refused_by (refusal refusals f)) k)) (sym h) tt)
      go none a none b (d ∷ l) h t = absurd t
      go none a (some r) b (d ∷ l) h t = from_row r b (by_line none r a (d ∷ l) h t)
      go (some ℓ) a none b (d ∷ l) h t = from_number (subst (λ (k : List Part). T (each (refused_by (refusal refusals f)) k)) (sym h) t)
      go (some ℓ) a (some r) b (d ∷ l) h t = from_row r b (by_line (some ℓ) r a (d ∷ l) h (and_r (clashes ℓ r) _ t))

  single : covering differences wide f ≤ 1
  unfolding together each
  single = go ps refl (and_l (together ps) _ beside)
    where
      at_key : (k : ℕ) → T (each (shown_by k) ps) → covering differences wide f ≤ 1
      at_key k t = one_covering wide f k differences examples_distinct (parts_each (shown_by k) differences wide f t)

      go : (l : List Part) → ps ≡ l → T (together l) → covering differences wide f ≤ 1
      go [] h t = at_key 0 (subst (λ (l : List Part). T (each (shown_by 0) l)) (sym h) tt)
      go (p ∷ l) h t = at_key p.0.example.word (subst (λ (k : List Part). T (each (shown_by p.0.example.word) k)) (sym h) t)

  -- an accepted word that no exception covers has a line
  pub line_of_lem : covered wide f ≡ false → (r : Row) → find (table wide) f ≡ some r → (ℓ : Line) × (line_for wide f ≡ some ℓ)
  unfolding verdict
  line_of_lem c r b = go (line_for wide f) refl ps (parts_left differences wide f ∙ c) (subst (λ (q : Option Row). T (verdict (line_for wide f) q (refusal refusals f) ps)) b judged)
    where
      go : (o : Option Line) → line_for wide f ≡ o → (l : List Part) → present l ≡ false → T (verdict (line_for wide f) (some r) (refusal refusals f) l) →
          (ℓ : Line) × (line_for wide f ≡ some ℓ)
      go o a (p ∷ l) h t = absurd (subst T h tt)
      go none a [] h t = absurd (subst (λ (q : Option Line). T (verdict q (some r) (refusal refusals f) [])) a t)
      go (some ℓ) a [] h t = (ℓ, a)

  -- what is tested of a word that no exception covers
  pub restored : covered wide f ≡ false → (ℓ : Line) (r : Row) → line_for wide f ≡ some ℓ → find (table wide) f ≡ some r → T (restoring (table wide) ℓ r swaps)
  unfolding restores
  restored c ℓ r a b = go ps (parts_left differences wide f ∙ c) (subst (λ (o : Option Line). T (restores (table wide) o (some r) ps)) a
      (subst (λ (q : Option Row). T (restores (table wide) (line_for wide f) q ps)) b (and_r (together ps) _ beside)))
    where
      go : (l : List Part) → present l ≡ false → T (restores (table wide) (some ℓ) (some r) l) → T (restoring (table wide) ℓ r swaps)
      go [] h t = t
      go (p ∷ l) h t = absurd (subst T h tt)

-- ── a PC of 64 bits holds every target ──

held_code : (c : Code) (va : ℕ) (f : Fields) → Fit f → past true (out c va f) ≡ false
unfolding out
held_code (reg x) va f h = refl
held_code (freg x) va f h = refl
held_code (cop0 x) va f h = refl
held_code (num x) va f h = refl
held_code size va f h = refl
held_code s16 va f h = refl
held_code u16 va f h = refl
held_code mem va f h = refl
held_code br va f h = lt-leb (2 ^ 64) (branch_to va (imm f)) (branch_small va (imm f))
held_code jmp va f h = lt-leb (2 ^ 64) (jump_to va (index f)) (jump_small va (index f) (index_small f h))

none_past : (os : List Op) → operands.Each (λ o. past true o ≡ false) os → any_past true os ≡ false
unfolding any_past
none_past [] h = refl
none_past (o ∷ os) h = ap₂ ◌||◌ h.0 (none_past os h.1)

held_64 : (w va : ℕ) → target_past_pc w va true ≡ false
held_64 w va =
    each_reading (λ i. any_past true (used i) ≡ false) known (unfold any_past in refl) w va true (known_table true)
    (λ r t. ap (any_past true) (used_meaning r va (fields_of w) t)
    ∙ none_past (outs r.form va (fields_of w))
    (outs_each (λ o. past true o ≡ false) (λ c. true) va (fields_of w) (λ c u. held_code c va (fields_of w) (fields_fit w)) refl r.form (any_code r.form)))

past_narrow : (w va : ℕ) (wide : Bool) → target_past_pc w va wide ≡ true → wide ≡ false
past_narrow w va true p = absurd (at_true (sym (held_64 w va) ∙ p))
past_narrow w va false p = refl

pub manual : (w va : ℕ) (wide : Bool) → Manual w va wide
manual w va wide =
    record {
      lined = lined wide (fields_of w);
      agree = agree w va wide;
      differ = differ w va wide;
      single = single w va wide;
      answered = answered w va wide;
      past = λ p. (past_differs w va wide p, past_narrow w va wide p);
      past_answered = λ c p. (past_named w va wide c p).0;
    }
