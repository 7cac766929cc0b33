use Rattle.std.proofs.Common.{◌≡◌, ℕ, ◌<◌, ◌≤◌, Bool, true, false, List, length, MatchBool, refl, ◌∙◌, subst, arith, rules, tests}
use Rattle.std.specs.List.{HoldsAt, AllWithin, range_with_len}
use Rattle.std.proofs.lemmas.Iterator.{cases_from_all, YieldsList-from_range}
use Rattle.std.proofs.lemmas.List.FromFn.{get_or-range_with_len}
use Rattle.laws.proofs.Says.{Says, differs}
use Rattle.reading.specs.declared.Insn.{Insn}
use Rattle.record.specs.Record.{operand_bytes}
use Rattle.record.specs.Private.Steps.{part}
use Rattle.record.proofs.Pieces.{Slot, all_slots, each_slot}
use Rattle.record.proofs.are_operands.Goals as goal

module _ (i : Insn) (l : List ℕ) where
  abbrev Missing : ℕ → Type 0
  Missing k = ¬ Slot i l k

  says : (r : Bool) → 64 ≤ length l →
      MatchBool r (AllWithin (Slot i l) (range_with_len 0 4) 0 4)
      ((k : ℕ) × (k < 4) × HoldsAt Missing (range_with_len 0 4) k) → Says r (operand_bytes i ≡ part 24 40 l)
  says true h m =
      let at : (k : ℕ) → k < 4 → Slot i l k = λ k b.
      subst (Slot i l) (get_or-range_with_len 0 4 k 0 b ∙ omega arith) (m k 0 (omega arith) b) in
      (λ e. all_slots i l 4 at, λ e. refl)
  says false h m =
      let missing : Missing m.0 = subst Missing (get_or-range_with_len 0 4 m.0 0 m.1 ∙ omega arith) (m.2 0) in
      differs (λ e. missing (each_slot i l 4 (omega arith) e m.0 m.1))

pub returns : goal.returns
returns c =
    let i = c.args.i.now in
    let l = c.args.«record».now in
    says i l c.all.result (omega arith)
    (cases_from_all _ _ _ (Slot i l) (Missing i l) c.all.ensures.ran (YieldsList-from_range 0 4 4 refl refl)
    (λ x q k. search (rules, tests)) (λ x q k. search (rules, tests)))
