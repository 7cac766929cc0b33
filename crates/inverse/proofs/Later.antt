-- Which row is picked for a word's reading: the word's own, unless an earlier row has its mnemonic and its operands.
use Prim.Native.Nat.{ℕ}
use mathlib.Core.Path.{◌≡◌, refl, sym, ◌∙◌, ap, subst}
use mathlib.Core.Bool.{Bool, true, false, not, cond, ◌&&◌, ◌||◌}
use mathlib.Core.List.{List, [], ◌∷◌}
use mathlib.Core.Logic.{◌⊎◌, inl, inr, ⊎_elim}
use mathlib.Core.Option.{none, some}
use lib.Dec.{T, T_not, eqb, eqb→eq, eqb_refl}
use lib.IntN.{ℤ}
use Rattle.word.specs.Word.{word}
use Rattle.reading.specs.Kind as kind
use Rattle.classes.specs.Row.{Row}
use Rattle.classes.specs.Table.{rt_imm, rt_uimm}
use Rattle.laws.proofs.Tests.{and_l, and_r, and_i, implied, at_true}
use Rattle.classes.specs.Private.Same.{same_form}
use Rattle.classes.proofs.Find.{In, every, every_in}
use Rattle.inverse.specs.Private.Candidate.{base, in_signed, holds, suits, pick, first}

-- another row has the mnemonic first
unfoldable pub later : List Row → Row → Bool
later ts r = elim (first ts r.kind) [ none ↦ false | some h ↦ not (eqb (word (base h)) (word (base r))) ]

-- `li` by an immediate that is not signed
abbrev pub unsigned_li : Row → Bool
unsigned_li r = eqb r.kind kind.li && same_form r.form rt_uimm

-- of two rows with one mnemonic the second is later; if it is that of `li`, the first has a signed immediate
unfoldable pub follows : List Row → Row → Row → Bool
follows ts h r = later ts r && (not (unsigned_li r) || same_form h.form rt_imm)

unfoldable pub in_order : List Row → List Row → Bool
in_order ts [] = true
in_order ts (h ∷ us) = every (λ r. not (eqb h.kind r.kind) || follows ts h r) us && in_order ts us

-- a row that is picked for its own words with that value: it is not a later one, or an unsigned `li` whose value is not signed
abbrev pub Alone : List Row → Row → ℤ → Type 0
Alone ts r z = T (not (later ts r)) ⊎ (T (unsigned_li r) × T (not (in_signed z)))

module _ (ts : List Row) (r : Row) (z : ℤ) (alone : Alone ts r z) where
  -- no row of the mnemonic before it can have the value
  unsuited : (h : Row) → T (follows ts h r) → h.kind ≡ r.kind → ¬ T (suits h z)
  unfolding follows suits holds
  unsuited h t k u = ⊎_elim (λ n. T_not (later ts r) n (and_l (later ts r) _ t)) unsigned alone
    where
      unsigned : T (unsigned_li r) × T (not (in_signed z)) → ⊥
      unsigned (l, n) = T_not (in_signed z) n held
        where
          form : T (same_form h.form rt_imm)
          form = implied (unsigned_li r) (same_form h.form rt_imm) (and_r (later ts r) _ t) l

          li : T (eqb h.kind kind.li)
          li = subst (λ (n : ℕ). T (eqb n kind.li)) (sym k) (and_l (eqb r.kind kind.li) _ l)

          held : T (in_signed z)
          held =
              implied (same_form h.form rt_imm) (in_signed z)
              (and_l (not (same_form h.form rt_imm) || in_signed z) _ (implied (eqb h.kind kind.li) (holds h.form z) u li)) form

  pub pick_own : (us : List Row) → T (in_order ts us) → In r us → T (suits r z) → pick us r.kind z ≡ some r
  unfolding in_order pick In
  pick_own [] t i u = absurd i
  pick_own (s ∷ us) t (inl e) u = chosen (eqb s.kind r.kind && suits s z) here ∙ ap some (sym e)
    where
      chosen : (b : Bool) → T b → cond b (some s) (pick us r.kind z) ≡ some s
      chosen true k = refl
      chosen false k = absurd k

      here : T (eqb s.kind r.kind && suits s z)
      here = subst (λ (x : Row). T (eqb x.kind r.kind && suits x z)) e (and_i (eqb r.kind r.kind) (suits r z) (eqb_refl r.kind) u)
  pick_own (s ∷ us) t (inr i) u =
      passed (eqb s.kind r.kind && suits s z) refl
      (pick_own us (and_r (every (λ x. not (eqb s.kind x.kind) || follows ts s x) us) (in_order ts us) t) i u)
    where
      ok : Row → Bool
      ok x = not (eqb s.kind x.kind) || follows ts s x

      passed : (b : Bool) → (eqb s.kind r.kind && suits s z) ≡ b → pick us r.kind z ≡ some r →
          cond b (some s) (pick us r.kind z) ≡ some r
      passed false q rest = rest
      passed true q rest =
          let k : T (eqb s.kind r.kind) = and_l (eqb s.kind r.kind) (suits s z) (at_true q) in
          let f : T (follows ts s r) = implied (eqb s.kind r.kind) (follows ts s r) (every_in ok us (and_l (every ok us) (in_order ts us) t) r i) k in
          absurd (unsuited s f (eqb→eq s.kind r.kind k) (and_r (eqb s.kind r.kind) (suits s z) (at_true q)))
