use Rattle.std.proofs.Common.{◌≡◌, ◌≤◌, ℕ, List, ◌++◌, length, drop, sym, ap, ◌∙◌, le-ltb}
use Rattle.reading.specs.declared.Decoded.{Decoded}
use Rattle.record.specs.Record.{size, record_of, packed}
use Rattle.record.proofs.Cases.{refused_bytes, accepted_bytes}
use Rattle.record.proofs.Proved.{record_long}
use Rattle.record.proofs.pack.Goals as goal

-- the record, and what stood after it
whole : (d : Decoded) (l r : List ℕ) → size ≤ length l → r ≡ record_of d → r ++ drop size l ≡ packed d l
whole d l r h e =
    rw (le-ltb (length l) size h, record_long d) (ap (λ (b : List ℕ). b ++ drop size l) e)

pub returns-then-d-eq0-clause-value : goal.returns-then-d-eq0-clause-value
returns-then-d-eq0-clause-value c = rw (le-ltb (length c.args.out.now) size c.in-Some.ensures.cases.enough)

pub returns-then-d-eq0-clause-out_after : goal.returns-then-d-eq0-clause-out_after
returns-then-d-eq0-clause-out_after c =
    whole c.args.d c.args.out.now _ c.in-Some.ensures.cases.enough
    (c.accept.ensures ∙ sym (accepted_bytes c.args.d c.if-d-eq0.true))

pub returns-else-d-eq0-clause-value : goal.returns-else-d-eq0-clause-value
returns-else-d-eq0-clause-value c = rw (le-ltb (length c.args.out.now) size c.in-Some.ensures.cases.enough)

pub returns-else-d-eq0-clause-out_after : goal.returns-else-d-eq0-clause-out_after
returns-else-d-eq0-clause-out_after c =
    whole c.args.d c.args.out.now _ c.in-Some.ensures.cases.enough
    (c.refuse.ensures ∙ sym (refused_bytes c.args.d c.if-d-eq0.false))
