-- The tables of the source, each by a computed test: whatever list passes it serves.
-- How: the code looks a name up at a place worked out of its letters, and compares. That each of the 212 names is at
-- its place is one test over the code's own tables, computed; so is each array of four names.
use Prim.Native.Nat.{ℕ, ◌+◌, ◌*◌, ◌/◌, ◌%◌, ◌≤◌, ◌<◌}
use mathlib.Core.Path.{◌≡◌, refl, sym, ◌∙◌, ap, subst}
use mathlib.Core.Bool.{Bool, true, false, ◌||◌}
use mathlib.Core.Logic.{◌⊎◌, inl, inr}
use mathlib.Core.List.{List}
use native.Mathlib.Omega.{arith}
use lib.Dec.{T, eqb, ltb, eqb→eq, ltb→lt}
use lib.ListN.{take, drop, get_or, get_or-eq_default}
use Rattle.buffers.specs.Bytes.{num_at}
use Rattle.reading.specs.Kind.{many}
use Rattle.text.specs.Text.{padded, same}
use Rattle.names.specs.Names.{registers, register_bytes, name_bytes, no_kind, kind_of, kind_named}
use Rattle.names.specs.Private.Table.{IsRow, IsEntry, Candidate}
use Rattle.laws.proofs.Tests.{all_below, below}
use Rattle.text.proofs.Texts.{same_eq}
use Rattle.names.proofs.Found.{HasKind, kind_or_none, back}
use Rattle.std.proofs.Common.{Option, Some, None}
use Rattle.std.specs.Bool.{Decides, then_some}
use Rattle.std.specs.Option.{MatchOption}
use mathlib.Core.Bool.{true≢false}
use Rattle.std.proofs.lemmas.Option.{none-some, same_Some}
use borrow.Author.Tests.{ne_eqb}

-- ── REGS ──

unfoldable pub right_regs : List ℕ → Bool
right_regs l = all_below (λ n. same (take 4 (drop (4 * n) l)) (register_bytes n)) 32

pub register_is : {l r : List ℕ} {n : ℕ} → IsRow 4 l n r → n < 32 → T (right_regs l) → r ≡ register_bytes n
unfolding right_regs
register_is {l} {n = n} e h t =
    e.bytes
    ∙ same_eq _ (register_bytes n) (below (λ n. same (take 4 (drop (4 * n) l)) (register_bytes n)) 32 t n h)

pub no_register : (n : ℕ) → 32 ≤ n → register_bytes n ≡ padded 4 ""
unfolding register_bytes registers
no_register n h = ap (padded 4) (get_or-eq_default registers "" h)

-- ── NAMES_g: four names ──

unfoldable pub right_names : List ℕ → ℕ → Bool
right_names l g = all_below (λ j. same (take 16 (drop (16 * j) l)) (name_bytes (4 * g + j))) 4

-- THE LAW of an arm: r is one row of the arm's array
pub arm : {l r : List ℕ} {array row g : ℕ} → IsRow 16 l row r → row < 4 → array ≡ g → T (right_names l g) →
    r ≡ name_bytes (4 * array + row)
unfolding right_names
arm {l} {array = array} {row} {g} e h d t =
    e.bytes
    ∙ same_eq _ (name_bytes (4 * g + row))
    (below (λ j. same (take 16 (drop (16 * j) l)) (name_bytes (4 * g + j))) 4 t row h)
    ∙ ap (λ (n : ℕ). name_bytes (4 * n + row)) (sym d)

pub whole : (kind : ℕ) → 4 * (kind / 4) + kind % 4 ≡ kind
whole kind = omega arith

-- the same for a whole kind
pub arm_of : {l r : List ℕ} {g : ℕ} (kind : ℕ) → IsRow 16 l (kind % 4) r → kind / 4 ≡ g → T (right_names l g) →
    r ≡ name_bytes kind
arm_of kind e d t = arm e (omega arith) d t ∙ ap name_bytes (whole kind)

-- ── SHIFTS and KINDS ──

-- the place of a name: its first eight letters are one number
abbrev pub place_in : List ℕ → List ℕ → ℕ
place_in shifts l = (num_at 8 0 l % 265 + get_or l 8 0 + get_or shifts (num_at 8 0 l % 63) 0) % 256

-- the kind of each name is at the name's place
unfoldable pub complete : List ℕ → List ℕ → Bool
complete shifts kinds = all_below (λ k. eqb (get_or kinds (place_in shifts (name_bytes k)) 0) k) many

-- each entry is a kind or says that there is none
unfoldable pub only_kinds : List ℕ → Bool
only_kinds kinds = all_below (λ p. ltb (get_or kinds p 0) many || eqb (get_or kinds p 0) no_kind) 256

-- r is the number at the place of the name l
pub record AtPlace (l : List ℕ) (r : ℕ) : Type 0 where
  pub only : (k : ℕ) → k < many → l ≡ name_bytes k → r ≡ k
  pub kind : (r < many) ⊎ (r ≡ no_kind)

-- n is the number of the first eight letters, x the ninth, s the shift
pub at_place : {shifts kinds l : List ℕ} {y r : ℕ} (n x s : ℕ) → n ≡ num_at 8 0 l → x ≡ get_or l 8 0 →
    IsEntry shifts (n % 63) y → s ≡ y → IsEntry kinds ((n % 265 + x + s) % 256) r →
    T (complete shifts kinds) → T (only_kinds kinds) → AtPlace l r
unfolding complete only_kinds
at_place {shifts} {kinds} {l} {r = r} n x s en ex ey es er t u =
    record {
      only = λ k h e. is ∙ ap (λ (m : List ℕ). at (place_in shifts m)) e ∙ eqb→eq _ _ (below complete_at many t k h);
      kind = go r (subst (λ (x : ℕ). T (test x)) (sym is) (below (λ p. test (at p)) 256 u _ (omega arith)));
    }
  where
    at : ℕ → ℕ
    at p = get_or kinds p 0

    complete_at : ℕ → Bool
    complete_at k = eqb (at (place_in shifts (name_bytes k))) k

    test : ℕ → Bool
    test r = ltb r many || eqb r no_kind

    is : r ≡ at (place_in shifts l)
    is = er.value ∙ ap at (rw (es, ey.value, ex, en))

    pick : (r : ℕ) (b : Bool) → ltb r many ≡ b → T (b || eqb r no_kind) → (r < many) ⊎ (r ≡ no_kind)
    pick r true e v = inl (ltb→lt r many (subst T (sym e) tt))
    pick r false e v = inr (eqb→eq r no_kind v)

    go : (r : ℕ) → T (test r) → (r < many) ⊎ (r ≡ no_kind)
    go r v = pick r (ltb r many) refl v

-- so it is the candidate
pub candidate_is : {l : List ℕ} {r : ℕ} → AtPlace l r → ¬ (r ≡ no_kind) → Candidate l (Some r)
candidate_is {r = r} p n =
    record { only = λ k h e. ap Some (p.only k h e); kind = λ k e. small k (same_Some r k e) p.kind }
  where
    small : (k : ℕ) → r ≡ k → (r < many) ⊎ (r ≡ no_kind) → k < many
    small k e (inl h) = omega arith
    small k e (inr d) = absurd (n d)

-- or there is none
pub no_candidate : {l : List ℕ} {r : ℕ} → AtPlace l r → r ≡ no_kind → Candidate l None
no_candidate {r = r} p d =
    record { only = λ k h e. absurd (omega (arith, p.only k h e)); kind = λ k e. absurd (none-some k e) }

-- ── the kind of a name ──

pub kind_named_is : (l : List ℕ) (k : ℕ) → k < many → kind_of l ≡ k → kind_named l ≡ Some k
unfolding kind_named
kind_named_is l k h e = rw (e, ne_eqb k no_kind (omega arith))

pub kind_named_none : (l : List ℕ) → kind_of l ≡ no_kind → kind_named l ≡ None
unfolding kind_named
kind_named_none l e = rw e

-- there is no candidate, and so no kind
none_is : (l : List ℕ) → Candidate l None → kind_named l ≡ None
none_is l c = go (kind_or_none l)
  where
    go : (kind_of l ≡ no_kind) ⊎ HasKind l → kind_named l ≡ None
    go (inl d) = kind_named_none l d
    go (inr f) = absurd (none-some f.kind (c.only f.kind f.small f.bytes))

-- the candidate has the name, and so the kind
taken_is : (l : List ℕ) (r : ℕ) → Candidate l (Some r) → l ≡ name_bytes r → kind_named l ≡ Some r
taken_is l r c e = let h = c.kind r refl in kind_named_is l r h (ap kind_of e ∙ back r h)

-- the candidate has another name, and so no kind has this one
left_is : (l : List ℕ) (r : ℕ) → Candidate l (Some r) → ¬ (l ≡ name_bytes r) → kind_named l ≡ None
left_is l r c n = go (kind_or_none l)
  where
    go : (kind_of l ≡ no_kind) ⊎ HasKind l → kind_named l ≡ None
    go (inl d) = kind_named_none l d
    go (inr f) = let same = same_Some r f.kind (c.only f.kind f.small f.bytes) in
        absurd (n (f.bytes ∙ ap name_bytes (sym same)))

-- the candidate is kept where a test Q, which decides whether it has the name, holds
pub kept_is : (l : List ℕ) (o r : Option ℕ) {Q : ℕ → Bool → Type 0} → Candidate l o →
    MatchOption o (r ≡ None) (λ x. (b : Bool) × Q x b × (r ≡ then_some b x)) →
    ((x : ℕ) (b : Bool) → Q x b → Decides b (l ≡ name_bytes x)) → r ≡ kind_named l
kept_is l None r c m q = m ∙ sym (none_is l c)
kept_is l (Some x) r {Q} c (b, t, e) q = go b (q x b t) e
  where
    go : (b : Bool) → Decides b (l ≡ name_bytes x) → r ≡ then_some b x → r ≡ kind_named l
    go true d e = e ∙ sym (taken_is l x c (d.0 refl))
    go false d e = e ∙ sym (left_is l x c (λ same. true≢false (sym (d.1 same))))
