-- The loop that writes as many lines as fit, over any lines that are not empty.
-- How: the page's loop is a law over such lines (`Turn`). That every word's reading has a line of at most 120 bytes is
-- `readable` and `short` of crate `line`, by computed tests of each row of the table of classes.
use Prim.Native.Nat.{ℕ, suc, ◌+◌, ◌-◌, ◌<◌, ◌≤◌}
use mathlib.Core.Path.{◌≡◌, refl, sym, ap, ◌∙◌}
use mathlib.Core.List.{List, [], ◌++◌, append_assoc, append-nil}
use native.Mathlib.Omega.{arith}
use lib.ListN.{length, length-append, length-drop}
use borrow.Rule.Slice.PartMut.{put_mid, mid_of, put_same}
use Rattle.buffers.specs.Bytes.{over, over_at, whole}
use Rattle.buffers.proofs.Laws.{tail_part, lent_over, over_nothing, over_at_length, then_at}
use Rattle.buffers.proofs.Laws.{whole_in, whole_out, has_room, no_room}
use Rattle.pages.specs.Lines.{fitting}
use Rattle.pages.proofs.Runs.{run, one_fits, none_fits, run_more, no_lines}

module _ (line : ℕ → List ℕ) (n place total : ℕ) (out₀ : List ℕ) where
  abbrev text : List ℕ
  text = run line (total - n) n (length out₀ - place)

  abbrev count : ℕ
  count = fitting line (total - n) n (length out₀ - place)

  -- before line k: what is there already, and what is to come
  pub record Turn (out : List ℕ) (k at : ℕ) : Type 0 where
    pub done : List ℕ
    pub low : n ≤ k
    pub high : k ≤ total
    pub after : at ≡ place + length done
    pub fits : at ≤ length out₀
    pub size : length out ≡ length out₀
    pub bytes : out ≡ over_at place done out₀
    pub lines : done ++ run line (total - k) k (length out₀ - at) ≡ text
    pub words : (k - n) + fitting line (total - k) k (length out₀ - at) ≡ count

  -- what the page answers
  pub record Ends (out : List ℕ) (k at : ℕ) : Type 0 where
    pub words : k - n ≡ count
    pub bytes : at - place ≡ length text
    pub left : out ≡ over_at place text out₀

  pub start : n ≤ total → place ≤ length out₀ → Turn out₀ n place
  start h g =
      record {
        done = [];
        low = omega arith;
        high = h;
        after = omega arith;
        fits = g;
        size = refl;
        bytes = sym (over_nothing place out₀);
        lines = refl;
        words = let e : n - n ≡ 0 = omega arith in rw e (omega arith);
      }

  module _ (out : List ℕ) (k at : ℕ) (t : Turn out k at) where
    -- nothing more fits
    stops : fitting line (total - k) k (length out₀ - at) ≡ 0 → Ends out k at
    stops w =
        let e = no_lines line (fitting line (total - k) k (length out₀ - at)) k w in
        let d : t.done ≡ text = sym (append-nil t.done) ∙ ap (λ (l : List ℕ). t.done ++ l) (sym e) ∙ t.lines in
        record {
          words = omega (arith, w, t.words);
          bytes = rw (← d) (omega (arith, t.after));
          left = t.bytes ∙ ap (λ (l : List ℕ). over_at place l out₀) d;
        }

    pub all : total ≤ k → Ends out k at
    unfolding fitting
    all h = let e : total - k ≡ 0 = omega arith in stops (rw e)

    module _ (h : k < total) (m : ℕ) (ys : List ℕ)
        (em : m ≡ length (whole (line k) (length (mid_of at (length out - at) out))))
        (ey : ys ≡
        over (whole (line k) (length (mid_of at (length out - at) out))) (mid_of at (length out - at) out)) where
      room_is : length (mid_of at (length out - at) out) ≡ length out₀ - at
      room_is = ap length (tail_part at out) ∙ length-drop at out ∙ ap (λ (z : ℕ). z - at) t.size

      left_is : total - k ≡ suc (total - (k + 1))
      left_is = omega arith

      abbrev out' : List ℕ
      out' = put_mid at (length out - at) out ys

      fit : length (line k) ≤ length out₀ - at → whole (line k) (length (mid_of at (length out - at) out)) ≡ line k
      fit f = rw room_is (whole_in (line k) (length out₀ - at) f)

      unfit : length out₀ - at < length (line k) → whole (line k) (length (mid_of at (length out - at) out)) ≡ []
      unfit f = rw room_is (whole_out (line k) (length out₀ - at) f)

      -- the line went in
      more : length (line k) ≤ length out₀ - at → Turn out' (k + 1) (at + m)
      more f =
          let e = fit f in
          let em' : m ≡ length (line k) = em ∙ ap length e in
          let ey' : ys ≡ over (line k) (mid_of at (length out - at) out) =
          ey ∙ ap (λ (l : List ℕ). over l (mid_of at (length out - at) out)) e in
          let g : length out₀ - at - length (line k) ≡ length out₀ - (at + m) = omega arith in
          let b : out' ≡ over_at place (t.done ++ line k) out₀ =
          then_at place at t.done (line k) out₀ (sym t.after) (omega (arith, t.fits)) t.bytes
          (lent_over at (line k) out ys ey') in
          record {
            done = t.done ++ line k;
            low = omega (arith, t.low);
            high = omega arith;
            after = simp length-append (omega (arith, t.after));
            fits = omega (arith, t.fits);
            size =
                ap length b
                ∙ over_at_length place (t.done ++ line k) out₀ (simp length-append (omega (arith, t.after, t.fits)));
            bytes = b;
            lines =
                append_assoc t.done (line k) (run line (total - (k + 1)) (k + 1) (length out₀ - (at + m)))
                ∙ ap (λ (l : List ℕ). t.done ++ l)
                (ap (λ (z : ℕ). line k ++ run line (total - (k + 1)) (k + 1) z) (sym g)
                ∙ sym (run_more line (total - (k + 1)) k (length out₀ - at) f)
                ∙ ap (λ (z : ℕ). run line z k (length out₀ - at)) (sym left_is))
                ∙ t.lines;
            words =
                let w : fitting line (total - k) k (length out₀ - at) ≡
                fitting line (total - (k + 1)) (k + 1) (length out₀ - (at + m)) + 1 =
                ap (λ (z : ℕ). fitting line z k (length out₀ - at)) left_is
                ∙ one_fits line (total - (k + 1)) k (length out₀ - at) f
                ∙ ap (λ (z : ℕ). fitting line (total - (k + 1)) (k + 1) z + 1) g in
                omega (arith, w, t.words, t.low);
          }

      -- the line did not
      full : length out₀ - at < length (line k) → Ends out' k at
      full f =
          let e : out' ≡ out =
          ap (put_mid at (length out - at) out)
          (ey ∙ ap (λ (l : List ℕ). over l (mid_of at (length out - at) out)) (unfit f))
          ∙ put_same at (length out - at) out in
          rw e
          (stops
          (ap (λ (z : ℕ). fitting line z k (length out₀ - at)) left_is
          ∙ none_fits line (total - (k + 1)) k (length out₀ - at) f))

      -- which of the two, by the number that came back
      pub went : (m ≡ 0 → ⊥) → Turn out' (k + 1) (at + m)
      went ne = more (has_room (line k) (length out₀ - at) (λ z. ne (em ∙ rw room_is z)))

      pub stopped : 0 < length (line k) → m ≡ 0 → Ends out' k at
      stopped p z = full (no_room (line k) (length out₀ - at) p (rw room_is at (sym em ∙ z)))
