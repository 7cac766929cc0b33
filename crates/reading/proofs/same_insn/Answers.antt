use Rattle.std.proofs.Common.{◌≡◌, true, sym, ◌∙◌, subst}
use Rattle.reading.proofs.same_insn.Goals as goal
use Rattle.reading.proofs.Same.{insn_one, insn_same}
use Rattle.reading.specs.contracts.InsnPartialEq.TheImpl as insn_impl

pub returns : goal.returns
returns c = (λ e. insn_one _ _ (sym c.eq.ensures ∙ e), λ e. c.eq.ensures ∙ subst (λ i. (insn_impl.ghosts).eq c.args.a i ≡ true) e (insn_same c.args.a))
