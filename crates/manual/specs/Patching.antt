-- WHAT A PATCH RESTORES: a word that no exception covers (every word on which manual and source agree is one), decoded
-- and encoded again, is the word itself, save for the words of seven pages, which come back with other fields. The
-- proofs are in proofs/Patched.antt.
use Rattle.inverse.specs.Encoded.{Encoded, Encodes}
use Rattle.std.specs.Prelude.{ℕ, ◌<◌, ◌≡◌, Bool, true, false, cond, ◌&&◌, List, [], ◌∷◌, ltb}
use Prim.Native.String.{String}
use Rattle.std.proofs.Math.Option.{Option, none, some}
use lib.Text.{eqt}
use Rattle.word.specs.Word.{Field, same_field, op, rt, funct, Fields, fields_of, word, words}
use Rattle.word.specs.Numbers.{imm}
use Rattle.classes.specs.Decoded.{decoded_of}
use Rattle.manual.specs.Page.{Line}
use Rattle.manual.specs.Exceptions.{Example, narrow, wide}
use Rattle.manual.specs.Agreement.{line_for, Agree, covered, Each}

-- ── the pages whose words come back otherwise ──

pub data Swapped : Type 0 where
  or_as_addu daddu_as_addu ori_as_addiu daddiu_as_addiu b_as_bgez clz_without_rt clo_without_rt : Swapped

-- for which immediates
pub data Range : Type 0 where
  all below_0x8000 : Range

unfoldable pub in_range : Range → Fields → Bool
in_range all f = true
in_range below_0x8000 f = ltb (imm f) 0x8000

-- a field, and the value with which it comes back
pub record Setting : Type 0 where
  pub field : Field
  pub value : ℕ

abbrev pub ◌gets◌ : Field → ℕ → Setting
x gets v = record { field = x; value = v }

infix 70 ◌gets◌
-- the words of a page that are read under this mnemonic, and the fields that come back otherwise
pub record Swap : Type 0 where
  pub swapped : Swapped
  pub page : String
  pub read_as : String
  pub range : Range
  pub back : List Setting
  pub example : Example

abbrev pub swap : Swapped → String → String → Range → List Setting → Example → Swap
swap n p m ρ cs x = record { swapped = n; page = p; read_as = m; range = ρ; back = cs; example = x }

unfoldable pub swaps : List Swap
swaps =
    -- what comes back is another instruction of the manual, with the same reading
    swap or_as_addu "or" "move" all (funct gets 33 ∷ []) (narrow 0x00000025) ∷
    swap daddu_as_addu "daddu" "move" all (funct gets 33 ∷ []) (wide 0x0000002d) ∷
    swap ori_as_addiu "ori" "li" below_0x8000 (op gets 9 ∷ []) (narrow 0x34000000) ∷
    swap daddiu_as_addiu "daddiu" "li" all (op gets 9 ∷ []) (wide 0x64000000) ∷
    swap b_as_bgez "b" "b" all (op gets 1 ∷ rt gets 1 ∷ []) (narrow 0x10000000) ∷
    -- what comes back is not a word of the manual, which wants rd in rt
    swap clz_without_rt "clz" "clz" all (rt gets 0 ∷ []) (narrow 0x70010820) ∷
    swap clo_without_rt "clo" "clo" all (rt gets 0 ∷ []) (narrow 0x70010821) ∷
    []

-- ── what comes back ──

unfoldable pub value_of : List Setting → Field → Option ℕ
value_of [] x = none
value_of (c ∷ cs) x = cond (same_field c.field x) (some c.value) (value_of cs x)

abbrev pub set_or : Option ℕ → ℕ → ℕ
set_or none a = a
set_or (some v) a = v

-- the fields, with these settings
unfoldable pub changed : List Setting → Fields → Fields
changed cs f x = set_or (value_of cs x) (f x)

-- the line has its page and mnemonic
unfoldable pub of_line : Swap → Line → Bool
of_line s ℓ = eqt s.page ℓ.page.name && eqt s.read_as ℓ.name

-- the first one for a line and a word's immediate
unfoldable pub swap_in : List Swap → Line → Fields → Option Swap
swap_in [] ℓ f = none
swap_in (s ∷ ss) ℓ f = cond (of_line s ℓ && in_range s.range f) (some s) (swap_in ss ℓ f)

abbrev pub swap_by : Option Line → Fields → Option Swap
swap_by none f = none
swap_by (some ℓ) f = swap_in swaps ℓ f

unfoldable pub swap_for : Bool → Fields → Option Swap
swap_for wide f = swap_by (line_for wide f) f

-- ── what is proved ──

-- of an accepted word that no exception covers, and the encoder's answer to its reading
pub record Patched (w va : ℕ) (wide : Bool) (e : Encoded) : Type 0 where
  pub accepted : e.number ≡ 0
  pub same : swap_for wide (fields_of w) ≡ none → e.word ≡ w
  pub other : (s : Swap) → swap_for wide (fields_of w) ≡ some s → e.word ≡ word (changed s.back (fields_of w))

-- each swap is needed: its example is a word of it that no exception covers, and another one comes back
pub record ShownSwap (s : Swap) : Type 0 where
  pub listed : swap_for s.example.wide (fields_of s.example.word) ≡ some s
  pub plain : covered s.example.wide (fields_of s.example.word) ≡ false
  pub moved : ¬ (word (changed s.back (fields_of s.example.word)) ≡ s.example.word)

pub record Patching : Type 0 where
  pub agreeing : (w va : ℕ) (wide : Bool) → Agree w va wide → covered wide (fields_of w) ≡ false
  pub patched : (w va : ℕ) (wide : Bool) (e : Encoded) → w < words → covered wide (fields_of w) ≡ false →
      (decoded_of w va wide).number ≡ 0 → Encodes (λ v. decoded_of v va wide) (decoded_of w va wide).insn e →
      Patched w va wide e
  pub shown : Each ShownSwap swaps
