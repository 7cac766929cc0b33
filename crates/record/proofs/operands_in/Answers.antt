use Rattle.std.proofs.Common.{◌≡◌, ℕ, zero, suc, ◌+◌, ◌*◌, ◌<◌, ◌≤◌, Bool, true, false, eqb, List, get_or, sym, refl, ◌∙◌, subst, eqb-true, arith, rules}
use Rattle.std.proofs.lemmas.Bool.{eqb-false}
use Rattle.std.specs.Array.{IsFromFnResultFrom}
use Rattle.std.specs.Fn.{Called}
use Rattle.std.proofs.lemmas.List.FromFn.{fill_by_all}
use denote.Param.Members.{Mut}
use Rattle.reading.specs.Reading.{unused}
use Rattle.record.specs.Unpacked.{slot_in}
use Rattle.record.proofs.operands_in.Goals as goal

-- a closure that each call leaves as it was, and that gives v x at x
module _ {F B : Type 0} {g : Mut F (ℕ × Unit {0}) B} (f : F) (ys : List B) (v : ℕ → B)
    (gives : (x : ℕ) (y : B) (q : F) → Called g f (x, tt) y q → (q ≡ f) × (y ≡ v x)) where
  each : (n i : ℕ) → IsFromFnResultFrom g f ys i n → (k : ℕ) (d : B) → i ≤ k → k < i + n → get_or ys k d ≡ v k
  each zero i e k d low high = absurd (omega arith)
  each (suc n) i (q, y, at, called, rest) k d low high =
      let said = gives i y q called in
      let later = each n (i + 1) (subst (λ (p : F). IsFromFnResultFrom g p ys (i + 1) n) said.0 rest) k d in
      go (eqb k i) refl later (at.1 d ∙ said.1)
    where
      go : (b : Bool) → eqb k i ≡ b → (i + 1 ≤ k → k < i + 1 + n → get_or ys k d ≡ v k) → get_or ys i d ≡ v i →
          get_or ys k d ≡ v k
      go true e later here = subst (λ (m : ℕ). get_or ys m d ≡ v m) (sym (eqb-true k i e)) here
      go false e later here = let n = eqb-false k i e in later (omega (arith, n)) (omega (arith, n))

pub returns : goal.returns
returns c =
    let made = c.from_fn.ensures.items in
    let l = c.args.«record».now in
    fill_by_all (λ k. slot_in (24 + k * 10) l) c.from_fn.result 4 unused made.long
    (λ k below.
    each _ c.from_fn.result (λ k. slot_in (24 + k * 10) l) (λ x y q k. search rules) 4 0 made.each k unused
    (omega arith) (omega arith))
