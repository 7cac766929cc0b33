use Rattle.std.proofs.Common.{◌<◌, ◌≤◌, ap, arith, le-ltb}
use Rattle.body.specs.Body.{words_in}
use Rattle.blocks.specs.Block.{Ended, block_of}
use Rattle.blocks.proofs.Blocks.{start, ran_out, inside, stopped, went}
use Rattle.blocks.proofs.block.Goals as goal

pub returns-then-words-n : goal.returns-then-words-n
unfolding block_of
returns-then-words-n c =
    let a = c.args in
    let h : words_in a.body.now ≤ a.n = omega (arith, c.count-words.ensures, c.if-words-n.true) in
    rw (le-ltb a.n (words_in a.body.now) h)

pub loop-k-init : goal.loop-k-init
loop-k-init c =
    let a = c.args in
    start a.v a.body.now a.n (omega (arith, c.count-words.ensures, c.if-words-n.false))

pub overflow_add-block : goal.overflow_add-block
overflow_add-block c =
    let words = ap (λ (t : Ended). t.words) c.in-Some.ensures in
    let there : c.loop-k.k < words_in c.args.body.now = omega (arith, c.count-words.ensures, c.if-words-k.false) in
    omega (arith, c.count-words.ensures, words, inside c.loop-k.invariant there)

pub loop-k-preserved : goal.loop-k-preserved
loop-k-preserved c =
    went c.loop-k.invariant (omega (arith, c.count-words.ensures, c.if-words-k.false)) c.in_default.ensures

pub returns-then-words-k : goal.returns-then-words-k
returns-then-words-k c = ran_out c.loop-k.invariant (omega (arith, c.count-words.ensures, c.if-words-k.true))

pub returns-in-Some : goal.returns-in-Some
returns-in-Some c =
    let there : c.loop-k.k < words_in c.args.body.now = omega (arith, c.count-words.ensures, c.if-words-k.false) in
    stopped c.loop-k.invariant there c.in-Some.last c.in-Some.ensures
