use Rattle.std.proofs.Common.{◌≡◌, ◌≤◌, length, arith, rules, to_z-of_z}
use Rattle.text.specs.Text.{text_of, letters, letter}
use Rattle.line.specs.Line.{op_text}
use Rattle.line.proofs.Drafts.{after}
use Rattle.line.proofs.Draft.push_memory.Goals as goal

pub returns : goal.returns
unfolding op_text text_of letters letter
returns c =
    let d = c.args.self.now in
    let size : length d.bytes ≡ 120 = search rules in
    let room : d.end ≤ length d.bytes = omega (arith, size, c.requires) in
    let signed = rw (to_z-of_z c.ranges.offset) at c.push_signed.ensures in
    after (after (after signed c.push_bytes.ensures room) c.push_register.ensures room) c.push_bytes-2.ensures room
