-- A padded name without its zeros is the name, and names are short and have no newline: one computed test of the
-- registers, and one of the mnemonics.
use Prim.Native.Nat.{ℕ, zero, suc, ◌≤◌}
use Prim.Native.String.{String}
use mathlib.Core.Path.{◌≡◌}
use mathlib.Core.Bool.{Bool, true, ◌&&◌}
use mathlib.Core.List.{List, [], ◌∷◌}
use lib.Dec.{T, leb, leb→le}
use lib.ListN.{length, get_or}
use Rattle.reading.specs.Names.{mnemonics, name_of}
use Rattle.names.specs.Names.{registers, register_bytes, name_bytes}
use Rattle.text.proofs.Texts.{same_eq}
use Rattle.laws.proofs.Tests.{and_l, and_r, all_of, EachOf, each_of, true_of}
use Rattle.text.specs.Text.{letter, letters, padded, same, text_of, before_zero, newline, without}
use Rattle.line.specs.Line.{register_name, longest_register, longest_mnemonic}

-- padded to `size` bytes it is still the name; it has at most `most` letters; none of them is a newline
abbrev name_tests : ℕ → ℕ → String → List Bool
name_tests size most s =
    same (before_zero (padded size s)) (text_of s) ∷ leb (length (text_of s)) most ∷ without newline (text_of s) ∷ []

abbrev is_name : ℕ → ℕ → String → Bool
is_name size most s = all_of (name_tests size most s)

-- each of these, and the empty text, which is there for a name that does not exist
unfoldable are_names : ℕ → ℕ → List String → Bool
are_names size most [] = is_name size most ""
are_names size most (s ∷ ss) = is_name size most s && are_names size most ss

module _ (size most : ℕ) where
  each : (ss : List String) → T (are_names size most ss) → (k : ℕ) → T (is_name size most (get_or ss k ""))
  unfolding are_names
  each [] t k = t
  each (s ∷ ss) t zero = and_l (is_name size most s) (are_names size most ss) t
  each (s ∷ ss) t (suc k) = each ss (and_r (is_name size most s) (are_names size most ss) t) k

  module _ (s : String) (t : T (is_name size most s)) where
    passed : EachOf (name_tests size most s)
    passed = each_of (name_tests size most s) t

    name_is : before_zero (padded size s) ≡ text_of s
    name_is = same_eq (before_zero (padded size s)) (text_of s) passed.0

    name_short : length (text_of s) ≤ most
    name_short = leb→le (length (text_of s)) most passed.1.0

    name_without : without newline (text_of s) ≡ true
    name_without = true_of (without newline (text_of s)) passed.1.1.0

-- ── registers ──

all_registers : T (are_names 4 4 registers)
unfolding are_names same before_zero without registers text_of padded letters letter
all_registers = tt

pub register_name_lem : (r : ℕ) → before_zero (register_bytes r) ≡ register_name r
unfolding register_bytes register_name
register_name_lem r = name_is 4 4 (get_or registers r "") (each 4 4 registers all_registers r)

pub register_most : (r : ℕ) → length (register_name r) ≤ longest_register
unfolding register_name
register_most r = name_short 4 4 (get_or registers r "") (each 4 4 registers all_registers r)

pub register_without : (r : ℕ) → without newline (register_name r) ≡ true
unfolding register_name
register_without r = name_without 4 4 (get_or registers r "") (each 4 4 registers all_registers r)

-- ── mnemonics ──

all_mnemonics : T (are_names 16 9 mnemonics)
unfolding are_names same before_zero without mnemonics text_of padded letters letter
all_mnemonics = tt

pub mnemonic_name : (k : ℕ) → before_zero (name_bytes k) ≡ text_of (name_of k)
unfolding name_bytes name_of
mnemonic_name k = name_is 16 9 (get_or mnemonics k "") (each 16 9 mnemonics all_mnemonics k)

pub mnemonic_most : (k : ℕ) → length (text_of (name_of k)) ≤ longest_mnemonic
unfolding name_of
mnemonic_most k = name_short 16 9 (get_or mnemonics k "") (each 16 9 mnemonics all_mnemonics k)

pub mnemonic_without : (k : ℕ) → without newline (text_of (name_of k)) ≡ true
unfolding name_of
mnemonic_without k = name_without 16 9 (get_or mnemonics k "") (each 16 9 mnemonics all_mnemonics k)
