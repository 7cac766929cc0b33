-- No two answers are one number, one kind and one number of words.
use Rattle.std.proofs.Common.{◌≡◌, arith, Result, Ok, Err, ap, refl}
use Rattle.std.proofs.lemmas.Grind.{common_steps}
use Rattle.refusal.specs.declared.Refusal.{Refusal}
use Rattle.refusal.specs.Refusals.{number_in}
use Rattle.refusal.proofs.One.{told_apart}
use Rattle.blocks.specs.declared.End.{End}
use Rattle.blocks.specs.declared.extent.Block.{Block}
use Rattle.blocks.specs.Block.{Ended, kind_of, ended_as, ended_of}

kind_one : (a b : End) → kind_of a ≡ kind_of b → a ≡ b
kind_one a b e = grind (arith, common_steps)

block_one : (a b : Block) → ended_as a ≡ ended_as b → a ≡ b
block_one a b e =
    let ends : a.end ≡ b.end = kind_one a.end b.end (ap (λ (d : Ended). d.kind) e) in
    let words : a.words ≡ b.words = ap (λ (d : Ended). d.words) e in
    λ i. record { end = ends i; words = words i }

numbered : (x : Result Block Refusal) → (ended_of x).number ≡ number_in x
numbered (Ok b) = refl
numbered (Err r) = refl

pub ended_one : (x y : Result Block Refusal) → ended_of x ≡ ended_of y → x ≡ y
ended_one = told_apart ended_of (λ d. d.number) numbered block_one
