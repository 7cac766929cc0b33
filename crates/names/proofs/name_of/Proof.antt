-- `names::name_of` meets its contract: one law, one computed test an arm. In one term, so that the definitions are
-- unfolded once; in Answers.antt each of the arms would name them again.
-- The search finds no arm by a law of an array's names (three forms were tried): 64 bytes are too deep for `grind`.
use borrow.Author.Rules.{rules}
use mathlib.Core.Path.{◌∙◌, ap}
use native.Mathlib.Omega.{arith}
use Rattle.reading.specs.Names.{mnemonics, name_of}
use Rattle.text.specs.Text.{letter, letters, padded, same}
use Rattle.names.specs.Names.{name_bytes}
use Rattle.laws.proofs.Tests.{all_below, past}
use Rattle.names.proofs.Tables.{right_names, arm_of, whole}
use Rattle.names.proofs.name_of.Statement.{statement}
use Rattle.names.proofs.name_of.Tie as tie

pub name_of_spec : {M : Type 1} → statement M
unfolding right_names all_below same name_bytes name_of mnemonics padded letters letter
name_of_spec = tie.close (tie.spec
    (λ c. search rules) (λ c κs. search rules) (λ c κs. search rules) (λ c κs. search rules) (λ c κs. search rules)
    (λ c κs. search rules) (λ c κs. search rules) (λ c κs. search rules) (λ c κs. search rules) (λ c κs. search rules)
    (λ c κs. search rules) (λ c κs. search rules) (λ c κs. search rules) (λ c κs. search rules) (λ c κs. search rules)
    (λ c κs. search rules) (λ c κs. search rules) (λ c κs. search rules) (λ c κs. search rules) (λ c κs. search rules)
    (λ c κs. search rules) (λ c κs. search rules) (λ c κs. search rules) (λ c κs. search rules) (λ c κs. search rules)
    (λ c κs. search rules) (λ c κs. search rules) (λ c κs. search rules)
    (λ c κs. (past _ 0 27 (omega arith) c.in_default.in_default-own.rest, omega arith))
    (λ c. arm_of c.args.kind c.row_in.ensures c.in-0.is tt)
    (λ c. arm_of c.args.kind c.row_in-in-1.ensures c.in-1.is tt)
    (λ c. arm_of c.args.kind c.row_in-in-2.ensures c.in-2.is tt)
    (λ c. arm_of c.args.kind c.row_in-in-3.ensures c.in-3.is tt)
    (λ c. arm_of c.args.kind c.row_in-in-4.ensures c.in-4.is tt)
    (λ c. arm_of c.args.kind c.row_in-in-5.ensures c.in-5.is tt)
    (λ c. arm_of c.args.kind c.row_in-in-6.ensures c.in-6.is tt)
    (λ c. arm_of c.args.kind c.row_in-in-7.ensures c.in-7.is tt)
    (λ c. arm_of c.args.kind c.row_in-in-8.ensures c.in-8.is tt)
    (λ c. arm_of c.args.kind c.row_in-in-9.ensures c.in-9.is tt)
    (λ c. arm_of c.args.kind c.row_in-in-10.ensures c.in-10.is tt)
    (λ c. arm_of c.args.kind c.row_in-in-11.ensures c.in-11.is tt)
    (λ c. arm_of c.args.kind c.row_in-in-12.ensures c.in-12.is tt)
    (λ c. arm_of c.args.kind c.row_in-in-13.ensures c.in-13.is tt)
    (λ c. arm_of c.args.kind c.row_in-in-14.ensures c.in-14.is tt)
    (λ c. arm_of c.args.kind c.row_in-in-15.ensures c.in-15.is tt)
    (λ c. arm_of c.args.kind c.row_in-in-16.ensures c.in-16.is tt)
    (λ c. arm_of c.args.kind c.row_in-in-17.ensures c.in-17.is tt)
    (λ c. arm_of c.args.kind c.row_in-in-18.ensures c.in-18.is tt)
    (λ c. arm_of c.args.kind c.row_in-in-19.ensures c.in-19.is tt)
    (λ c. arm_of c.args.kind c.row_in-in-20.ensures c.in-20.is tt)
    (λ c. arm_of c.args.kind c.row_in-in-21.ensures c.in-21.is tt)
    (λ c. arm_of c.args.kind c.row_in-in-22.ensures c.in-22.is tt)
    (λ c. arm_of c.args.kind c.row_in-in-23.ensures c.in-23.is tt)
    (λ c. arm_of c.args.kind c.row_in-in-24.ensures c.in-24.is tt)
    (λ c. arm_of c.args.kind c.row_in-in-25.ensures c.in-25.is tt)
    (λ c. arm_of c.args.kind c.row_in-in-26.ensures c.in-26.is tt)
    (λ c. c.name_in_upper_half.ensures ∙ ap name_bytes (whole c.args.kind)))
