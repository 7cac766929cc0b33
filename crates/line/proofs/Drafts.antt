-- What is written so far, and what is added to it.
use Prim.Native.Nat.{ℕ, ◌+◌, ◌≤◌}
use mathlib.Core.Path.{◌≡◌, ap, ◌∙◌}
use mathlib.Core.List.{List, ◌++◌, append_assoc}
use native.Mathlib.Omega.{arith}
use lib.ListN.{length, take, drop, length-append}
use lib.Seq.{take_at, length-take-le}
use Rattle.buffers.specs.Bytes.{placed}
use Rattle.buffers.proofs.Laws.{placed_in}
use Rattle.buffers.proofs.Writes as Writes
use Rattle.line.specs.declared.Draft.{Draft}
use Rattle.line.specs.Private.Steps.{text_in, Added}

-- what a writer that takes any place leaves, where there was room
pub added : (most : ℕ) (l : List ℕ) (d : Draft) {b : List ℕ} {n : ℕ} → length l ≤ most →
    d.end + length l ≤ length d.bytes → n ≡ length l → b ≡ placed d.end l d.bytes →
    Added most l d (record { bytes = b; end = d.end + n })
added most l d {b} {n} h room e w =
    let long : length (take d.end d.bytes ++ l) ≡ d.end + length l =
    length-append (take d.end d.bytes) l ∙ ap (λ (m : ℕ). m + length l) (length-take-le d.end d.bytes (omega arith)) in
    record {
      text =
          ap (λ (m : ℕ). take (d.end + m) b) e ∙ ap (take (d.end + length l)) (w ∙ placed_in d.end l d.bytes room)
          ∙ take_at (take d.end d.bytes ++ l) (drop (d.end + length l) d.bytes) (d.end + length l) long;
      short = omega arith;
      wrote = Writes.wrote h room e w;
    }

-- another bound
pub bound : {most n : ℕ} {l : List ℕ} {d d' : Draft} → most ≤ n → Added most l d d' → Added n l d d'
bound {n = n} {d = d} {d' = d'} h a =
    let short : d'.end ≤ d.end + n = omega (arith, h, a.short) in
    record { text = a.text; short = short; wrote = Writes.bound short a.wrote }

-- one text after another
pub after : {m n : ℕ} {k l : List ℕ} {d d₁ d₂ : Draft} → Added m k d d₁ → Added n l d₁ d₂ → d.end ≤ length d.bytes →
    Added (m + n) (k ++ l) d d₂
after {k = k} {l = l} {d = d} a b h =
    record {
      text = b.text ∙ ap (λ (t : List ℕ). t ++ l) a.text ∙ append_assoc (text_in d) k l;
      short = omega (arith, a.short, b.short);
      wrote = Writes.after a.wrote b.wrote h;
    }

-- the text by another name, and its own bound
pub named : {most : ℕ} {k l : List ℕ} {d d' : Draft} → k ≡ l → length l ≤ most → Added (length k) k d d' →
    Added most l d d'
named {most = most} {d = d} {d' = d'} e h a =
    let short : d'.end ≤ d.end + most = omega (arith, h, a.short, ap length e) in
    record {
      text = a.text ∙ ap (λ (t : List ℕ). text_in d ++ t) e;
      short = short;
      wrote = Writes.bound short (rw e at a.wrote);
    }
