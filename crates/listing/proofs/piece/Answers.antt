use Rattle.std.proofs.Common.{◌<◌, ◌≤◌, ◌∙◌, sym, length, arith}
use Rattle.section.proofs.Answers.{count_most}
use Rattle.listing.specs.Piece.{lines_in}
use Rattle.listing.proofs.Ranges.{lines_within, lines_most}
use Rattle.listing.proofs.Pieces.{most, no_line, no_bytes, full, ended, listed, ran_piece}
use Rattle.listing.proofs.piece.Goals as goal

pub returns-then-all-c-clause-value : goal.returns-then-all-c-clause-value
returns-then-all-c-clause-value c =
    let a = c.args in
    ended a.file.now (length a.out.now) a.c (omega (arith, c.if-all-c.true, c.lines_in-all.ensures))

pub returns-then-all-c-clause-out_after : goal.returns-then-all-c-clause-out_after
returns-then-all-c-clause-out_after c =
    let a = c.args in
    let f = a.file.now in
    let room = length a.out.now in
    let h : lines_in f a.c.section ≤ a.c.line = omega (arith, c.if-all-c.true, c.lines_in-all.ensures) in
    rw (no_bytes f room a.c (no_line f room a.c h))

pub returns-then-run-eq0-clause-value : goal.returns-then-run-eq0-clause-value
returns-then-run-eq0-clause-value c =
    let a = c.args in
    let r = ran_piece a.file.now a.c a.out.now c.run_from-run.ensures in
    full a.file.now (length a.out.now) a.c (sym r.0 ∙ c.if-run-eq0.true)
    (omega (arith, c.lines_in-all.ensures, c.if-all-c.false))

pub returns-then-run-eq0-clause-out_after : goal.returns-then-run-eq0-clause-out_after
returns-then-run-eq0-clause-out_after c =
    let a = c.args in
    (ran_piece a.file.now a.c a.out.now c.run_from-run.ensures).2

pub after-requires : goal.after-requires
after-requires c =
    let a = c.args in
    let f = a.file.now in
    let all = c.lines_in-all.ensures in
    let r = ran_piece f a.c a.out.now c.run_from-run.ensures in
    let h : a.c.line < lines_in f a.c.section = omega (arith, all, c.if-all-c.false) in (
      omega (arith, all, r.0, most f (length a.out.now) a.c, h),
      omega (arith, count_most f, lines_within f a.c.section a.c.line h),
      omega (arith, all, lines_most f a.c.section),
    )

pub returns-clause-value : goal.returns-clause-value
returns-clause-value c =
    let a = c.args in
    let f = a.file.now in
    let all = c.lines_in-all.ensures in
    let r = ran_piece f a.c a.out.now c.run_from-run.ensures in
    listed f (length a.out.now) a.c (omega (arith, all, c.if-all-c.false)) (λ z. c.if-run-eq0.false (r.0 ∙ z)) r.0 all
    r.1 c.after.ensures

pub returns-clause-out_after : goal.returns-clause-out_after
returns-clause-out_after c =
    let a = c.args in
    (ran_piece a.file.now a.c a.out.now c.run_from-run.ensures).2
