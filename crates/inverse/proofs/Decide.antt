-- Whether two readings are one can be decided: the derived `==` decides it.
use mathlib.Core.Path.{◌≡◌, subst}
use mathlib.Core.Bool.{true, Bool-discrete}
use Rattle.reading.specs.declared.Insn.{Insn}
use Rattle.reading.specs.contracts.InsnPartialEq.TheImpl as derived
use Rattle.reading.proofs.Same.{insn_one, insn_same}

pub insn : (a b : Insn) → Dec (a ≡ b)
insn a b = by_test (Bool-discrete ((derived.ghosts).eq a b) true)
  where
    by_test : Dec ((derived.ghosts).eq a b ≡ true) → Dec (a ≡ b)
    by_test (yes e) = yes (insn_one a b e)
    by_test (no n) = no (λ p. n (subst (λ i. (derived.ghosts).eq a i ≡ true) p (insn_same a)))
