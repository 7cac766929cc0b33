use Rattle.std.proofs.Common.{ap, ◌∙◌, arith}
use Rattle.word.specs.Numbers.{imm, modulo64}
use Rattle.word.specs.Word.{fields_of}
use Rattle.word.proofs.Fields.{imm_fits}
use Rattle.word.proofs.Signed.{product_fits, product_held, branch_is}
use Rattle.word.proofs.branch_target.Goals as goal

pub overflow_mul-offset : goal.overflow_mul-offset
overflow_mul-offset c = product_fits 4 (imm (fields_of c.args.w)) (omega arith) (imm_fits c.args.w) _ c.simm-offset.ensures

pub returns : goal.returns
returns c =
    let offset = product_held 4 (imm (fields_of c.args.w)) (omega arith) (imm_fits c.args.w) _ c.simm-offset.ensures in
    omega (arith, c.twos_complement.ensures ∙ ap modulo64 offset, branch_is c.args.va (imm (fields_of c.args.w)))
