use Rattle.std.proofs.Common.{◌<◌, ◌+◌, ◌-◌, ◌≡◌, ◌∙◌, length, arith}
use borrow.Rule.Slice.PartMut.{put_mid}
use Rattle.line.specs.Line.{plain}
use Rattle.body.specs.Body.{words_in}
use Rattle.pages.specs.Page.{word_line, page_words, page_bytes}
use Rattle.pages.proofs.Loop.{Ends, start, went, stopped, all}
use Rattle.pages.proofs.Pieces.{line_some}
use Rattle.pages.proofs.lines.Goals as goal
use Rattle.pages.proofs.lines.Goals.{After-loop-k, Then-size-eq0}

pub loop-k-init : goal.loop-k-init
loop-k-init c =
    let a = c.args in
    let b = a.body.now in
    let line = word_line plain a.v b in
    let e : a.place + 0 ≡ a.place = omega arith in
    (omega arith, rw e (start line a.n a.place (words_in b) a.out.now (omega (arith, c.requires.0)) c.requires.1))

pub loop-k-preserved : goal.loop-k-preserved
loop-k-preserved c =
    let a = c.args in
    let b = a.body.now in
    let l = c.loop-k in
    let p = c.put_line-size in
    let t = l.invariant.1 in
    let e : a.place + (l.page.bytes + p.result) ≡ a.place + l.page.bytes + p.result = omega arith in
    let h : l.k < words_in b = omega (arith, c.count-k-end.ensures, c.loop-k-test.true, l.auto.k-end) in (
      omega (arith, l.invariant.0, t.low),
      rw e
          (went (word_line plain a.v b) a.n a.place (words_in b) a.out.now l.out l.k (a.place + l.page.bytes) t h
          p.result p.new.out p.ensures.value p.ensures.out_after c.if-size-eq0.false),
    )

-- the two ways out: the words ended, or a line had no room

ran_out : (c : After-loop-k) →
    let a = c.args in
    Ends (word_line plain a.v a.body.now) a.n a.place (words_in a.body.now) a.out.now c.loop-k.out c.loop-k.k
    (a.place + c.loop-k.page.bytes)
ran_out c =
    let a = c.args in
    let l = c.loop-k in
    all (word_line plain a.v a.body.now) a.n a.place (words_in a.body.now) a.out.now l.out l.k (a.place + l.page.bytes)
    l.invariant.1 (omega (arith, c.count-k-end.ensures, c.loop-k-test.false))

full : (c : Then-size-eq0) →
    let a = c.args in
    let l = c.loop-k in
    let at = a.place + l.page.bytes in
    Ends (word_line plain a.v a.body.now) a.n a.place (words_in a.body.now) a.out.now
    (put_mid at (length l.out - at) l.out c.put_line-size.new.out) l.k at
full c =
    let a = c.args in
    let b = a.body.now in
    let l = c.loop-k in
    let p = c.put_line-size in
    let h : l.k < words_in b = omega (arith, c.count-k-end.ensures, c.loop-k-test.true) in
    stopped (word_line plain a.v b) a.n a.place (words_in b) a.out.now l.out l.k (a.place + l.page.bytes) l.invariant.1
    h p.result p.new.out p.ensures.value p.ensures.out_after (line_some plain a.v b l.k) c.if-size-eq0.true

pub returns-after-loop-k-clause-value : goal.returns-after-loop-k-clause-value
unfolding page_words page_bytes
returns-after-loop-k-clause-value c =
    let e = ran_out c in
    (c.loop-k.invariant.0 ∙ e.words, omega (arith, e.bytes))

pub returns-after-loop-k-clause-out_after : goal.returns-after-loop-k-clause-out_after
unfolding page_words page_bytes
returns-after-loop-k-clause-out_after c = (ran_out c).left

pub returns-then-size-eq0-clause-value : goal.returns-then-size-eq0-clause-value
unfolding page_words page_bytes
returns-then-size-eq0-clause-value c =
    let e = full c in
    (c.loop-k.invariant.0 ∙ e.words, omega (arith, e.bytes))

pub returns-then-size-eq0-clause-out_after : goal.returns-then-size-eq0-clause-out_after
unfolding page_words page_bytes
returns-then-size-eq0-clause-out_after c = (full c).left
