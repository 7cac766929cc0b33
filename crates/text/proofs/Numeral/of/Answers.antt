use Rattle.std.proofs.Common.{◌<◌, ◌-◌, length, arith, ◌∙◌, refl}
use Rattle.text.specs.Text.{numeral_of}
use Rattle.text.proofs.Digits.{last_none, last_moved, fewer, some}
use Rattle.text.proofs.Numeral.of.Goals as goal

pub loop-rest-init : goal.loop-rest-init
unfolding numeral_of
loop-rest-init c =
    rw (c.push_front.ensures, c.glyph.ensures)
    (record { short = omega arith; left = fewer c.args.base 19 20 c.args.n refl c.requires.0 (omega arith); whole = cc })

pub loop-rest-preserved : goal.loop-rest-preserved
loop-rest-preserved c =
    let l = c.loop-rest in
    let more : 0 < 20 - length l.numeral = some _ l.rest (omega arith) l.invariant.left in
    rw c.push_front-in-loop-rest.ensures
    (record {
      short = omega arith;
      left = fewer c.args.base _ _ l.rest (omega arith) c.requires.0 l.invariant.left;
      whole = last_moved c.args.base _ _ l.rest _ l.numeral (omega arith) c.loop-rest-test.true c.glyph-in-loop-rest.ensures ∙ l.invariant.whole;
    })

pub returns : goal.returns
returns c =
    let l = c.loop-rest in
    rw (last_none c.args.base (20 - length l.numeral) l.rest (omega arith)) at l.invariant.whole
