-- What specs/Tight.antt states, proved: a test of each exception's example, computed; the rest follows from `manual`.
use Prim.Native.Nat.{◌+◌}
use mathlib.Core.Path.{◌≡◌, refl}
use mathlib.Core.Bool.{Bool, true, false, cond, ◌&&◌, ◌||◌}
use mathlib.Core.List.{List, [], ◌∷◌}
use native.Mathlib.Omega.{arith}
use lib.Dec.{T, eqb, eqb→eq}
use Rattle.word.specs.Word.{Fields, fields_of}
use Rattle.reading.specs.Kind.{from}
use Rattle.word.specs.Numbers.{imm, signed, branch_to}
use Rattle.classes.specs.Meaning.{match, six, nop_like, takes, find, out, outs, reading, meaning}
use Rattle.classes.specs.Table.{common, by_width, table}
use Rattle.laws.specs.Lists.{elem}
use Rattle.classes.specs.Refusals.{holds, meets}
use Rattle.classes.specs.Decoded.{decoded_by, decoded_of}
use Rattle.laws.proofs.Tests.{and_l, and_r}
use Rattle.manual.specs.Page.{related, true_of, claimed, obeys}
use Rattle.manual.specs.Exceptions.{Difference, flagged, among, covers, refused_words, other_readings}
use Rattle.manual.specs.Exceptions.{reserved_words, differences}
use Rattle.manual.specs.Agreement.{any_covers, covering, any_past, Each}
use Rattle.manual.specs.Tight.{Shown, ShownPast, Tight}
use Rattle.manual.proofs.Proved.{manual}

-- what an exception's example is: a word of its own and of no other
abbrev shows_itself : Difference → Bool
shows_itself d = covers d d.example.wide (fields_of d.example.word) && eqb (covering differences d.example.wide (fields_of d.example.word)) 1

unfoldable pub all_show : List Difference → Bool
all_show [] = true
all_show (d ∷ ds) = shows_itself d && all_show ds

examples_show : T (all_show differences)
unfolding all_show covering covers among flagged obeys meets holds elem from claimed true_of related fields_of refused_words other_readings reserved_words differences
examples_show = tt

-- a word that some exceptions cover is covered
some_cover : (ds : List Difference) (wide : Bool) (f : Fields) → ¬ (covering ds wide f ≡ 0) → any_covers ds wide f ≡ true
unfolding covering any_covers
some_cover [] wide f n = absurd (n refl)
some_cover (d ∷ ds) wide f n = go (covers d wide f) n (some_cover ds wide f)
  where
    go : (b : Bool) → ¬ (cond b 1 0 + covering ds wide f ≡ 0) → (¬ (covering ds wide f ≡ 0) → any_covers ds wide f ≡ true) → (b || any_covers ds wide f) ≡ true
    go true m rec = refl
    go false m rec = rec (λ e. m (omega (arith, e)))

shown : (d : Difference) → T (shows_itself d) → Shown d
shown d t =
    record {
      covered = and_l (covers d d.example.wide (fields_of d.example.word)) _ t;
      alone = alone;
      differ = λ va. (manual d.example.word va d.example.wide).differ covered;
    }
  where
    alone : covering differences d.example.wide (fields_of d.example.word) ≡ 1
    alone = eqb→eq (covering differences d.example.wide (fields_of d.example.word)) 1 (and_r (covers d d.example.wide (fields_of d.example.word)) _ t)

    covered : any_covers differences d.example.wide (fields_of d.example.word) ≡ true
    covered = some_cover differences d.example.wide (fields_of d.example.word) (λ e. absurd (omega (arith, alone, e)))

all_shown : (ds : List Difference) → T (all_show ds) → Each Shown ds
unfolding all_show
all_shown [] t = tt
all_shown (d ∷ ds) t = (shown d (and_l (shows_itself d) (all_show ds) t), all_shown ds (and_r (shows_itself d) (all_show ds) t))

past_shown : ShownPast
unfolding any_past covering covers among flagged obeys meets holds elem from claimed true_of related refused_words other_readings reserved_words differences
    decoded_of decoded_by table common by_width find takes six match nop_like fields_of meaning reading outs out imm signed branch_to
past_shown = record { past = refl; alone = refl; differ = ((manual 0x04000000 0xfffffffc false).past refl).0 }

pub tight : Tight
tight = record { each = all_shown differences examples_show; past = past_shown }
