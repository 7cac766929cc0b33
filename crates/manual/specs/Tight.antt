-- Each exception is needed: its example is a word that no other exception covers, and manuals and source differ there.
-- The proof is in proofs/Shown.antt.
use Rattle.std.specs.Prelude.{ℕ, ◌≡◌, true, false, T}
use Rattle.word.specs.Word.{fields_of}
use Rattle.manual.specs.Exceptions.{Difference, covers, differences}
use Rattle.manual.specs.Agreement.{Agree, covering, target_past_pc, Each}

pub record Shown (d : Difference) : Type 0 where
  pub covered : T (covers d d.example.wide (fields_of d.example.word))
  pub alone : covering differences d.example.wide (fields_of d.example.word) ≡ 1
  pub differ : (va : ℕ) → ¬ Agree d.example.word va d.example.wide

-- `bltz zero, 0x100000000`, without the flag: to MIPS32 the target is 0
pub record ShownPast : Type 0 where
  pub past : target_past_pc 0x04000000 0xfffffffc false ≡ true
  pub alone : covering differences false (fields_of 0x04000000) ≡ 0
  pub differ : ¬ Agree 0x04000000 0xfffffffc false

pub record Tight : Type 0 where
  pub each : Each Shown differences
  pub past : ShownPast
