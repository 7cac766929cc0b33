use Rattle.std.proofs.Common.{◌≡◌, ◌≤◌, length, arith, rules}
use Rattle.line.proofs.Drafts.{bound, after}
use Rattle.line.proofs.Draft.push_numbered.Goals as goal

pub returns : goal.returns
returns c =
    let d = c.args.self.now in
    let size : length d.bytes ≡ 120 = search rules in
    let room : d.end ≤ length d.bytes = omega (arith, size, c.requires.1) in
    bound (omega (arith, c.requires.0)) (after c.push_bytes.ensures c.push_number.ensures room)
