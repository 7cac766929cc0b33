use Rattle.std.proofs.Common.{◌≡◌, ◌∙◌, sym, ap, subst, arith, ℕ, Ok}
use Rattle.calmuredda.specs.Boundary.{on, EncodesRecord}
use Rattle.calmuredda.specs.Private.Steps.{both}
use Rattle.calmuredda.proofs.calmuredda_encode.Goals as goal

-- the number of a word is 0
word_alone : (w : ℕ) → both (Ok w) ≡ w
word_alone w = grind arith

pub returns-in-Ok : goal.returns-in-Ok
returns-in-Ok c =
    subst (EncodesRecord c.args.«record».now c.args.va (on c.args.wide))
    (ap both c.in-Ok.is ∙ word_alone c.in-Ok.word ∙ sym c.from.ensures) c.word_of.ensures
