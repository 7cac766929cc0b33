use Rattle.std.proofs.Common.{◌≡◌, ◌-◌, length, drop, sym, ◌∙◌, ap, take_all, length-drop, arith, rules}
use Rattle.record.proofs.name_in.Goals as goal

pub returns : goal.returns
returns c =
    let l = c.args.«record».now in
    let size : length l ≡ 80 = search rules in
    let h = rw c.unwrap.ensures at c.last_chunk.ensures.cases in
    h.1.same ∙ ap (λ n. drop (n - 16) l) size ∙ sym (take_all 16 (drop 64 l) (simp length-drop (omega (arith, size))))
