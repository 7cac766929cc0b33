-- What of a word comes back when its reading is encoded: the test of a line of the manual and the row of its words, and what a passed test
-- says of each word that both have.
use Prim.Native.Nat.{ℕ}
use mathlib.Core.Path.{◌≡◌, refl, sym, ◌∙◌, subst, fun_ext}
use mathlib.Core.Bool.{Bool, true, false, not, cond, ◌&&◌, ◌||◌}
use mathlib.Core.List.{List, [], ◌∷◌}
use mathlib.Core.Logic.{inl, inr, ⊎_elim}
use mathlib.Core.Option.{Option, none, some}
use lib.Dec.{T, eqb, eqb→eq, ltb}
use lib.IntN.{ℤ, pos}
use Rattle.word.specs.Word.{Field, Fields, Fit, room}
use Rattle.word.specs.Numbers.{imm}
use Rattle.reading.specs.Kind as kind
use Rattle.classes.specs.Row.{Form, Row, pat_of}
use Rattle.classes.specs.Meaning.{match, six, takes, out, outs}
use Rattle.classes.specs.Table.{rt_imm, rt_uimm}
use Rattle.laws.proofs.Tests.{and_l, and_r, and_i, or_e, implies, implied, at_true, at_false, all_below, below}
use Rattle.classes.specs.Private.Same.{same_form}
use Rattle.classes.proofs.Tests.{six_at, same_form_lem}
use Rattle.laws.proofs.Walk.{passes}
use Rattle.classes.proofs.Uses.{is_read}
use Rattle.inverse.specs.Private.Candidate.{base, in_signed, holds, suits, first}
use Rattle.inverse.proofs.Rows.{takes_at, lift}
use Rattle.inverse.proofs.Twins.{value_in, own_holds}
use Rattle.inverse.proofs.Later.{later, unsigned_li, Alone}
use Rattle.manual.specs.Page.{Line, has}
use Rattle.manual.specs.Patching.{Range, all, below_0x8000, in_range, Setting, Swap, swaps, value_of, set_or}
use Rattle.manual.specs.Patching.{changed, of_line, swap_in}
use Rattle.manual.proofs.Axes.{at, by_parts, ask_line, line_passing}
use Rattle.manual.proofs.Verdict.{Part}

-- ── one field ──

-- the words that the line and the row have hold this value in the field
unfoldable pub fixed_at : Line → Row → Field → ℕ → Bool
fixed_at ℓ r x a = all_below (λ v. not (match (pat_of r x) v && passes (ask_line ℓ (at x)) v) || eqb v a) (room x)

module _ (ℓ : Line) (r : Row) (f : Fields) (fit : Fit f) (t : T (takes r f)) (u : T (has ℓ f)) where
  line_at : (x : Field) → T (passes (ask_line ℓ (at x)) (f x))
  line_at = six_at (λ x. passes (ask_line ℓ (at x)) (f x)) (and_l (six (λ x. passes (ask_line ℓ (at x)) (f x))) _ (subst T (sym (line_passing ℓ f) ∙ by_parts ask_line ℓ f) u))

  fixed_at_lem : (x : Field) (a : ℕ) → T (fixed_at ℓ r x a) → f x ≡ a
  unfolding fixed_at
  fixed_at_lem x a s =
      eqb→eq (f x) a
      (implied (match (pat_of r x) (f x) && passes (ask_line ℓ (at x)) (f x)) (eqb (f x) a)
      (below (λ v. not (match (pat_of r x) v && passes (ask_line ℓ (at x)) v) || eqb v a) (room x) s (f x) (fit x))
      (and_i (match (pat_of r x) (f x)) _ (takes_at r f t x) (line_at x)))

-- row h's word with the fields of one of row r's: these settings are all
unfoldable pub fits_at : Line → Row → Row → List Setting → Field → Bool
fits_at ℓ r h cs x =
    elim (value_of cs x) [
      | none ↦ is_read (pat_of h x) || fixed_at ℓ r x (base h x)
      | some v ↦ not (is_read (pat_of h x)) && eqb (base h x) v
    ]

unfoldable pub fits : Line → Row → Row → List Setting → Bool
fits ℓ r h cs = six (fits_at ℓ r h cs)

module _ (ℓ : Line) (r : Row) (f : Fields) (fit : Fit f) (t : T (takes r f)) (u : T (has ℓ f)) (h : Row) (cs : List Setting) (s : T (fits ℓ r h cs)) where
  pub fits_fields : lift h f ≡ changed cs f
  unfolding fits fits_at lift changed
  fits_fields = fun_ext (λ x. go x (value_of cs x) (six_at (fits_at ℓ r h cs) s x))
    where
      go : (x : Field) (o : Option ℕ) →
          T (elim o [ none ↦ is_read (pat_of h x) || fixed_at ℓ r x (base h x) | some v ↦ not (is_read (pat_of h x)) && eqb (base h x) v ]) →
          cond (is_read (pat_of h x)) (f x) (base h x) ≡ set_or o (f x)
      go x none k = read (is_read (pat_of h x)) k
        where
          read : (b : Bool) → T (b || fixed_at ℓ r x (base h x)) → cond b (f x) (base h x) ≡ f x
          read true l = refl
          read false l = sym (fixed_at_lem ℓ r f fit t u x (base h x) l)
      go x (some v) k = unread (is_read (pat_of h x)) k
        where
          unread : (b : Bool) → T (not b && eqb (base h x) v) → cond b (f x) (base h x) ≡ v
          unread true l = absurd l
          unread false l = eqb→eq (base h x) v l

-- ── the row that is picked ──

abbrev is_below : Range → Bool
is_below all = false
is_below below_0x8000 = true

-- row h can have the second operand of row r's words in the range
unfoldable pub suited : Range → Row → Row → Bool
suited ρ h r =
    not (eqb h.kind kind.li)
    || (same_form h.form rt_imm && (same_form r.form rt_imm || (same_form r.form rt_uimm && is_below ρ)))

module _ (r : Row) (va : ℕ) (f : Fields) (fit : Fit f) where
  abbrev z : ℤ
  z = value_in (outs r.form va f)

  -- the value of an immediate that is not signed
  unsigned_value : T (same_form r.form rt_uimm) → (P : ℤ → Type 0) → P (pos (imm f)) → P z
  unsigned_value e P p = subst (λ (φ : Form). P (value_in (outs φ va f))) (sym (same_form_lem r.form rt_uimm e)) (unfold outs out in p)

  below_signed : (ρ : Range) → T (is_below ρ) → T (in_range ρ f) → T (ltb (imm f) 32768)
  unfolding in_range
  below_signed all b i = absurd b
  below_signed below_0x8000 b i = i

  signed_held : (ρ : Range) (h : Row) → T (same_form h.form rt_imm) → T (same_form r.form rt_imm || (same_form r.form rt_uimm && is_below ρ)) → T (in_range ρ f) →
      T (holds h.form z)
  signed_held ρ h e d i = subst (λ (φ : Form). T (holds φ z)) (sym (same_form_lem h.form rt_imm e)) (⊎_elim by_signed by_unsigned (or_e (same_form r.form rt_imm) _ d))
    where
      by_signed : T (same_form r.form rt_imm) → T (holds rt_imm z)
      by_signed k = subst (λ (φ : Form). T (holds φ z)) (same_form_lem r.form rt_imm k) (own_holds r.form va f fit)

      by_unsigned : T (same_form r.form rt_uimm && is_below ρ) → T (holds rt_imm z)
      by_unsigned k =
          unsigned_value (and_l (same_form r.form rt_uimm) _ k) (λ y. T (holds rt_imm y))
          (unfold holds in and_i (in_signed (pos (imm f))) true (below_signed ρ (and_r (same_form r.form rt_uimm) (is_below ρ) k) i) tt)

  pub suited_value : (ρ : Range) (h : Row) → T (suited ρ h r) → T (in_range ρ f) → T (suits h z)
  unfolding suited suits
  suited_value ρ h t i =
      implies (eqb h.kind kind.li) (holds h.form z)
      (λ k.
      let d = implied (eqb h.kind kind.li) _ t k in
      signed_held ρ h (and_l (same_form h.form rt_imm) _ d) (and_r (same_form h.form rt_imm) _ d) i)

-- ── one line and one row ──

-- a swap of the line: the first row of the mnemonic is picked, and makes these settings
unfoldable pub swapping : List Row → Line → Row → Swap → Bool
swapping ts ℓ r s =
    elim (first ts r.kind) [ none ↦ false | some h ↦ (not h.nops && suited s.range h r) && fits ℓ r h s.back ]

unfoldable pub unmatched : List Swap → Line → Bool
unmatched [] ℓ = true
unmatched (s ∷ ss) ℓ = not (of_line s ℓ) && unmatched ss ℓ

-- and for what is not in its range: the row's own words come back
unfoldable pub outside : Range → List Swap → Line → Row → Bool
outside all ss ℓ r = true
outside below_0x8000 ss ℓ r = (unsigned_li r && fits ℓ r r []) && unmatched ss ℓ

-- THE TEST, for any table and any list of swaps
unfoldable pub restoring : List Row → Line → Row → List Swap → Bool
restoring ts ℓ r [] = not (later ts r) && fits ℓ r r []
restoring ts ℓ r (s ∷ ss) = elim (of_line s ℓ) [ true ↦ swapping ts ℓ r s && outside s.range ss ℓ r | false ↦ restoring ts ℓ r ss ]

-- the row is picked for its own words, and has all of their fields
pub record Kept (ts : List Row) (r : Row) (va : ℕ) (f : Fields) : Type 0 where
  pub alone : Alone ts r (value_in (outs r.form va f))
  pub fields : lift r f ≡ f

-- another row may be picked
pub record Moved (ts : List Row) (r : Row) (va : ℕ) (f : Fields) (s : Swap) : Type 0 where
  pub row : Row
  pub here : first ts r.kind ≡ some row
  pub plain : T (not row.nops)
  pub suited : T (suits row (value_in (outs r.form va f)))
  pub fields : lift row f ≡ changed s.back f

-- what comes back, by the swap that the word has
abbrev pub By : List Row → Row → ℕ → Fields → Option Swap → Type 0
By ts r va f none = Kept ts r va f
By ts r va f (some s) = Moved ts r va f s

module _ (ts : List Row) (ℓ : Line) (r : Row) (va : ℕ) (f : Fields) (fit : Fit f) (t : T (takes r f)) (u : T (has ℓ f)) where
  own_fields : T (fits ℓ r r []) → lift r f ≡ f
  unfolding changed value_of
  own_fields s = fits_fields ℓ r f fit t u r [] s

  moved : (s : Swap) → T (swapping ts ℓ r s) → T (in_range s.range f) → Moved ts r va f s
  unfolding swapping
  moved s k i = go (first ts r.kind) refl k
    where
      go : (o : Option Row) → first ts r.kind ≡ o →
          T (elim o [ none ↦ false | some h ↦ (not h.nops && suited s.range h r) && fits ℓ r h s.back ]) → Moved ts r va f s
      go none e w = absurd w
      go (some h) e w =
          let both : T (not h.nops && suited s.range h r) = and_l (not h.nops && suited s.range h r) _ w in
          record {
            row = h;
            here = e;
            plain = and_l (not h.nops) _ both;
            suited = suited_value r va f fit s.range h (and_r (not h.nops) (suited s.range h r) both) i;
            fields = fits_fields ℓ r f fit t u h s.back (and_r (not h.nops && suited s.range h r) _ w);
          }

  unmatched_none : (ss : List Swap) → T (unmatched ss ℓ) → swap_in ss ℓ f ≡ none
  unfolding unmatched swap_in
  unmatched_none [] k = refl
  unmatched_none (s ∷ ss) k = go (of_line s ℓ) k (unmatched_none ss)
    where
      go : (b : Bool) → T (not b && unmatched ss ℓ) → (T (unmatched ss ℓ) → swap_in ss ℓ f ≡ none) →
          cond (b && in_range s.range f) (some s) (swap_in ss ℓ f) ≡ none
      go true w rec = absurd w
      go false w rec = rec w

  -- a value that is not in the range is not a signed one
  outside_kept : (ρ : Range) (ss : List Swap) → T (outside ρ ss ℓ r) → in_range ρ f ≡ false → (swap_in ss ℓ f ≡ none) × Kept ts r va f
  unfolding outside in_range
  outside_kept all ss k e = absurd (at_true (sym e))
  outside_kept below_0x8000 ss k e = (
    unmatched_none ss (and_r (unsigned_li r && fits ℓ r r []) _ k),
    record { alone = inr (li, unsigned_value r va f fit (and_r (eqb r.kind kind.li) _ li) (λ y. T (not (in_signed y))) (at_false e)); fields = own_fields (and_r (unsigned_li r) _ both) },
  )
    where
      both : T (unsigned_li r && fits ℓ r r [])
      both = and_l (unsigned_li r && fits ℓ r r []) _ k

      li : T (unsigned_li r)
      li = and_l (unsigned_li r) _ both

  pub restoring_by : (ss : List Swap) → T (restoring ts ℓ r ss) → By ts r va f (swap_in ss ℓ f)
  unfolding restoring swap_in
  restoring_by [] k = record { alone = inl (and_l (not (later ts r)) _ k); fields = own_fields (and_r (not (later ts r)) _ k) }
  restoring_by (s ∷ ss) k = go (of_line s ℓ) k (restoring_by ss)
    where
      ranged : (b : Bool) → in_range s.range f ≡ b → T (swapping ts ℓ r s && outside s.range ss ℓ r) → By ts r va f (cond b (some s) (swap_in ss ℓ f))
      ranged true e w = moved s (and_l (swapping ts ℓ r s) _ w) (at_true e)
      ranged false e w = let o = outside_kept s.range ss (and_r (swapping ts ℓ r s) _ w) e in subst (By ts r va f) (sym o.0) o.1

      go : (b : Bool) → T (elim b [ true ↦ swapping ts ℓ r s && outside s.range ss ℓ r | false ↦ restoring ts ℓ r ss ]) →
          (T (restoring ts ℓ r ss) → By ts r va f (swap_in ss ℓ f)) → By ts r va f (cond (b && in_range s.range f) (some s) (swap_in ss ℓ f))
      go true w rec = ranged (in_range s.range f) refl w
      go false w rec = rec w

-- ── at the end of the walk ──

-- of a word that no exception covers
unfoldable pub restores : List Row → Option Line → Option Row → List Part → Bool
restores ts none o ps = true
restores ts (some ℓ) none ps = true
restores ts (some ℓ) (some r) [] = restoring ts ℓ r swaps
restores ts (some ℓ) (some r) (p ∷ ps) = true
