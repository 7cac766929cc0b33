use Rattle.std.proofs.Common.{true, false, ◌∙◌, eq-eqb, ne_eqb}
use Rattle.inverse.specs.Private.Candidate.{after_nops}
use Rattle.encode.proofs.Candidates.{made}
use Rattle.encode.proofs.candidate.Goals as goal

pub returns-then-insn-eq-SLL : goal.returns-then-insn-eq-SLL
returns-then-insn-eq-SLL c = λ wide h e.
    c.after_nops.ensures
    ∙ made _ _ _ c.stem_for.ensures wide h e true (eq-eqb _ _ c.if-insn-eq-SLL.true) _ _ _ _ c.fill-w.ensures

pub returns : goal.returns
unfolding after_nops
returns c = λ wide h e.
    made _ _ _ c.stem_for.ensures wide h e false (ne_eqb _ _ c.if-insn-eq-SLL.false) _ _ _ _ c.fill-w.ensures
