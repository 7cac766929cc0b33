use Rattle.std.proofs.Common.{sym, ◌∙◌, eqb, rules, tests}
use Rattle.std.proofs.lemmas.List.Sums.{position_or_len_is}
use Rattle.text.proofs.Names.{name_is}
use Rattle.text.proofs.name_length.Goals as goal

pub returns : goal.returns
returns c =
    let b = c.args.b.now in
    sym (name_is b ∙ position_or_len_is (λ byte. eqb byte 0) b c.unwrap_or.result 0
    (search rules) (λ k h. search (rules, tests)) (λ h. search (rules, tests)))
