use Rattle.std.proofs.Common.{◌<◌, sym, ap, ◌∙◌, arith}
use Rattle.body.specs.Body.{words_in, is_refused}
use Rattle.body.proofs.Words.{all_counted, one_more, refused_is}
use Rattle.body.proofs.refusals.Goals as goal
use Rattle.body.proofs.refusals.Goals.{then-is_err, else-is_err}

pub loop-n-preserved : goal.loop-n-preserved
loop-n-preserved c =
    let a = c.args in
    let l = c.loop-n in
    let h : l.n < words_in a.body.now = omega (arith, c.count-n-end.ensures, l.auto.n-end, c.loop-n-test.true) in
    let e = sym (ap is_refused c.decoded.ensures) ∙ refused_is c.decoded.result ∙ sym c.is_err.ensures.value in
    elim c.if-is_err.branch [
      | then-is_err w ↦ one_more a.v a.body.now l.n l.found l.invariant h (e ∙ w.if-is_err.true) w.found-is
      | else-is_err w ↦ one_more a.v a.body.now l.n l.found l.invariant h (e ∙ w.if-is_err.false)
          (omega (arith, w.found-is))
    ]

pub returns : goal.returns
returns c =
    all_counted c.args.v c.args.body.now c.loop-n.n c.loop-n.found c.loop-n.invariant
    (omega (arith, c.count-n-end.ensures, c.loop-n.auto.n-end, c.loop-n-test.false))
