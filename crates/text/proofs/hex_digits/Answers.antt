use Rattle.std.proofs.Common.{◌-◌, ◌∙◌, length-set, arith, rules}
use Rattle.text.specs.Text.{hex_of}
use Rattle.text.proofs.Digits.{hex_moved}
use Rattle.text.proofs.hex_digits.Goals as goal

pub loop-i-preserved : goal.loop-i-preserved
loop-i-preserved g c =
    let l = c.loop-i in
    let moved = hex_moved (l.i - 1) l.i l.rest _ l.columns (omega arith) (omega arith) c.glyph.ensures in
    (simp length-set l.invariant.0, moved ∙ l.invariant.1)

pub returns : goal.returns
unfolding hex_of
returns g c = search rules
