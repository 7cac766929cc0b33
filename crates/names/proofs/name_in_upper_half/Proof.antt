-- `names::name_in_upper_half` meets its contract: one law, one computed test an arm. In one term, so that the definitions
-- are unfolded once; in Answers.antt each of the arms would name them again.
-- The search finds no arm by a law of an array's names (three forms were tried): 64 bytes are too deep for `grind`.
use borrow.Author.Rules.{rules}
use Prim.Native.Nat.{◌+◌, ◌*◌, ◌≤◌}
use mathlib.Core.Path.{sym}
use native.Mathlib.Omega.{arith}
use Rattle.reading.specs.Names.{mnemonics, name_of}
use Rattle.text.specs.Text.{letter, letters, padded, same}
use Rattle.names.specs.Names.{name_bytes}
use Rattle.laws.proofs.Tests.{all_below, past}
use Rattle.names.proofs.Found.{no_name}
use Rattle.names.proofs.Tables.{right_names, arm}
use Rattle.names.proofs.name_in_upper_half.Statement.{statement}
use Rattle.names.proofs.name_in_upper_half.Tie as tie

pub name_in_upper_half_spec : {M : Type 1} → statement M
unfolding right_names all_below same name_bytes name_of mnemonics padded letters letter
name_in_upper_half_spec = tie.close (tie.spec
    (λ c κs. search rules) (λ c κs. search rules) (λ c κs. search rules) (λ c κs. search rules) (λ c κs. search rules)
    (λ c κs. search rules) (λ c κs. search rules) (λ c κs. search rules) (λ c κs. search rules) (λ c κs. search rules)
    (λ c κs. search rules) (λ c κs. search rules) (λ c κs. search rules) (λ c κs. search rules) (λ c κs. search rules)
    (λ c κs. search rules) (λ c κs. search rules) (λ c κs. search rules) (λ c κs. search rules) (λ c κs. search rules)
    (λ c κs. search rules) (λ c κs. search rules) (λ c κs. search rules) (λ c κs. search rules) (λ c κs. search rules)
    (λ c κs. search rules)
    (λ c. arm c.row_in.ensures c.requires.1 c.in-27.is tt)
    (λ c. arm c.row_in-in-28.ensures c.requires.1 c.in-28.is tt)
    (λ c. arm c.row_in-in-29.ensures c.requires.1 c.in-29.is tt)
    (λ c. arm c.row_in-in-30.ensures c.requires.1 c.in-30.is tt)
    (λ c. arm c.row_in-in-31.ensures c.requires.1 c.in-31.is tt)
    (λ c. arm c.row_in-in-32.ensures c.requires.1 c.in-32.is tt)
    (λ c. arm c.row_in-in-33.ensures c.requires.1 c.in-33.is tt)
    (λ c. arm c.row_in-in-34.ensures c.requires.1 c.in-34.is tt)
    (λ c. arm c.row_in-in-35.ensures c.requires.1 c.in-35.is tt)
    (λ c. arm c.row_in-in-36.ensures c.requires.1 c.in-36.is tt)
    (λ c. arm c.row_in-in-37.ensures c.requires.1 c.in-37.is tt)
    (λ c. arm c.row_in-in-38.ensures c.requires.1 c.in-38.is tt)
    (λ c. arm c.row_in-in-39.ensures c.requires.1 c.in-39.is tt)
    (λ c. arm c.row_in-in-40.ensures c.requires.1 c.in-40.is tt)
    (λ c. arm c.row_in-in-41.ensures c.requires.1 c.in-41.is tt)
    (λ c. arm c.row_in-in-42.ensures c.requires.1 c.in-42.is tt)
    (λ c. arm c.row_in-in-43.ensures c.requires.1 c.in-43.is tt)
    (λ c. arm c.row_in-in-44.ensures c.requires.1 c.in-44.is tt)
    (λ c. arm c.row_in-in-45.ensures c.requires.1 c.in-45.is tt)
    (λ c. arm c.row_in-in-46.ensures c.requires.1 c.in-46.is tt)
    (λ c. arm c.row_in-in-47.ensures c.requires.1 c.in-47.is tt)
    (λ c. arm c.row_in-in-48.ensures c.requires.1 c.in-48.is tt)
    (λ c. arm c.row_in-in-49.ensures c.requires.1 c.in-49.is tt)
    (λ c. arm c.row_in-in-50.ensures c.requires.1 c.in-50.is tt)
    (λ c. arm c.row_in-in-51.ensures c.requires.1 c.in-51.is tt)
    (λ c. arm c.row_in-in-52.ensures c.requires.1 c.in-52.is tt)
    (λ c. let a = c.args in
    let p : 53 ≤ a.array = past a.array 27 26 c.requires.0 c.in_default.in_default-own.rest in
    sym (no_name (4 * a.array + a.row) (omega arith))))
