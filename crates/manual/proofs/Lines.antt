-- A word that a page defines has a line: one of the page's Format lines is for it.
use Prim.Native.Nat.{ℕ}
use mathlib.Core.Path.{◌≡◌, refl, sym, ◌∙◌, ap, ap₂, subst}
use mathlib.Core.Bool.{Bool, true, false, not, cond, ◌&&◌, ◌||◌, and-true, or_assoc, or-not_self}
use mathlib.Core.List.{List, [], ◌∷◌, ◌++◌, map}
use mathlib.Core.Option.{Option, some}
use lib.Dec.{T}
use lib.Text.{eqt}
use Rattle.word.specs.Word.{Field, same_field, Fields}
use Rattle.laws.specs.Lists.{elem}
use Rattle.classes.specs.Refusals.{Test, ◌one_of◌, ◌none_of◌, holds, meets, only}
use Rattle.laws.proofs.Tests.{and_l, and_r}
use Rattle.classes.proofs.Tests.{same_field_lem}
use Rattle.manual.specs.Page.{Format, Page, defines, Line, has}
use Rattle.manual.specs.Pages.{pages}
use Rattle.manual.specs.Aliases.{Alias, aliases, alias_lines, format_line, lines_of}
use Rattle.manual.specs.Agreement.{book, first_line, line_for, any_defines, found}
use Rattle.manual.proofs.Same.{same_list, same_numbers, same_numbers_lem}

-- ── Format lines that leave no word out ──

abbrev nothing : List Test → Bool
nothing [] = true
nothing (t ∷ ts) = false

-- one of two tests is met: a field is one of some values, or none of them
abbrev opposed : Test → Test → Bool
opposed (x one_of vs) (y one_of us) = false
opposed (x one_of vs) (y none_of us) = same_field x y && same_numbers vs us
opposed (x none_of vs) (y one_of us) = false
opposed (x none_of vs) (y none_of us) = false

abbrev opposite : List Test → List Test → Bool
opposite [] us = false
opposite (t ∷ []) [] = false
opposite (t ∷ []) (u ∷ []) = opposed t u
opposite (t ∷ []) (u ∷ v ∷ us) = false
opposite (t ∷ s ∷ ts) us = false

unfoldable pub closed : List Format → Bool
closed [] = false
closed (φ ∷ []) = nothing φ.when
closed (φ ∷ χ ∷ φs) = opposite φ.when χ.when || closed (χ ∷ φs)

unfoldable pub any_when : List Format → Fields → Bool
any_when [] f = false
any_when (φ ∷ φs) f = meets φ.when f || any_when φs f

opposed_met : (t u : Test) (f : Fields) → T (opposed t u) → (holds t f || holds u f) ≡ true
unfolding holds
opposed_met (x one_of vs) (y one_of us) f h = absurd h
opposed_met (x one_of vs) (y none_of us) f h =
    ap₂ (λ (z : Field) (l : List ℕ). elem (f x) vs || not (elem (f z) l)) (sym (same_field_lem x y (and_l (same_field x y) _ h)))
    (sym (same_numbers_lem vs us (and_r (same_field x y) _ h)))
    ∙ or-not_self (elem (f x) vs)
opposed_met (x none_of vs) (y one_of us) f h = absurd h
opposed_met (x none_of vs) (y none_of us) f h = absurd h

opposite_met : (ts us : List Test) (f : Fields) → T (opposite ts us) → (meets ts f || meets us f) ≡ true
unfolding meets
opposite_met [] us f h = absurd h
opposite_met (t ∷ []) [] f h = absurd h
opposite_met (t ∷ []) (u ∷ []) f h = ap₂ ◌||◌ (and-true (holds t f)) (and-true (holds u f)) ∙ opposed_met t u f h
opposite_met (t ∷ []) (u ∷ v ∷ us) f h = absurd h
opposite_met (t ∷ s ∷ ts) us f h = absurd h

closed_met : (φs : List Format) (f : Fields) → T (closed φs) → any_when φs f ≡ true
unfolding closed any_when meets
closed_met [] f t = absurd t
closed_met (φ ∷ []) f t = go φ.when t
  where
    go : (ts : List Test) → T (nothing ts) → (meets ts f || false) ≡ true
    go [] s = refl
    go (u ∷ ts) s = absurd s
closed_met (φ ∷ χ ∷ φs) f t = go (opposite φ.when χ.when) refl t (closed_met (χ ∷ φs) f)
  where
    first : (a b c : Bool) → (a || b) ≡ true → (a || (b || c)) ≡ true
    first true b c e = refl
    first false true c e = refl
    first false false c e = absurd (subst T (sym e) tt)

    later : (a b : Bool) → b ≡ true → (a || b) ≡ true
    later true b e = refl
    later false b e = e

    go : (b : Bool) → opposite φ.when χ.when ≡ b → T (b || closed (χ ∷ φs)) → (T (closed (χ ∷ φs)) → any_when (χ ∷ φs) f ≡ true) →
        any_when (φ ∷ χ ∷ φs) f ≡ true
    go true e s rec = first (meets φ.when f) (meets χ.when f) (any_when φs f) (opposite_met φ.when χ.when f (subst T (sym e) tt))
    go false e s rec = later (meets φ.when f) (any_when (χ ∷ φs) f) (rec s)

-- ── the lines of a page ──

found_first : (b : Bool) (ℓ : Line) (o : Option Line) → found (cond b (some ℓ) o) ≡ (b || found o)
found_first true ℓ o = refl
found_first false ℓ o = refl

found_append : (ls ks : List Line) (f : Fields) → found (first_line (ls ++ ks) f) ≡ (found (first_line ls f) || found (first_line ks f))
unfolding first_line
found_append [] ks f = refl
found_append (ℓ ∷ ls) ks f =
    found_first (has ℓ f) ℓ (first_line (ls ++ ks) f)
    ∙ (ap (λ (b : Bool). has ℓ f || b) (found_append ls ks f)
    ∙ (sym (or_assoc (has ℓ f) (found (first_line ls f)) (found (first_line ks f)))
    ∙ ap (λ (b : Bool). b || found (first_line ks f)) (sym (found_first (has ℓ f) ℓ (first_line ls f)))))

-- an alias has only words of its page
alias_found : (us : List Alias) (p : Page) (f : Fields) → (found (first_line (alias_lines us p) f) || defines p f) ≡ defines p f
unfolding alias_lines first_line has
alias_found [] p f = refl
alias_found (a ∷ us) p f = go (eqt a.of_page p.name) (alias_found us p f)
  where
    aliased : Line
    aliased = record { page = p; name = a.alias; when = a.zero one_of only 0 ∷ []; args = a.left }

    one : (d m r : Bool) → (r || d) ≡ d → (((d && m) || r) || d) ≡ d
    one true true r e = refl
    one true false r e = e
    one false m r e = e

    go : (b : Bool) → (found (first_line (alias_lines us p) f) || defines p f) ≡ defines p f →
        (found (first_line (cond b (aliased ∷ []) [] ++ alias_lines us p) f) || defines p f) ≡ defines p f
    go true e =
        ap (λ (b : Bool). b || defines p f) (found_first (has aliased f) aliased (first_line (alias_lines us p) f))
        ∙ one (defines p f) (meets aliased.when f) (found (first_line (alias_lines us p) f)) e
    go false e = e

format_found : (φs : List Format) (p : Page) (f : Fields) → found (first_line (map (format_line p) φs) f) ≡ (defines p f && any_when φs f)
unfolding first_line has any_when
format_found [] p f = never (defines p f)
  where
    never : (b : Bool) → false ≡ (b && false)
    never true = refl
    never false = refl
format_found (φ ∷ φs) p f =
    found_first (has (format_line p φ) f) (format_line p φ) (first_line (map (format_line p) φs) f)
    ∙ (ap (λ (b : Bool). has (format_line p φ) f || b) (format_found φs p f) ∙ share (defines p f) (meets φ.when f) (any_when φs f))
  where
    share : (d a b : Bool) → ((d && a) || (d && b)) ≡ (d && (a || b))
    share true a b = refl
    share false a b = refl

-- ── all pages ──

unfoldable pub all_closed : List Page → Bool
all_closed [] = true
all_closed (p ∷ ps) = closed p.formats && all_closed ps

pub lines_found : (ps : List Page) (f : Fields) → T (all_closed ps) → found (first_line (lines_of ps) f) ≡ any_defines ps f
unfolding all_closed lines_of any_defines first_line
lines_found [] f t = refl
lines_found (p ∷ ps) f t =
    found_append (alias_lines aliases p) (map (format_line p) p.formats ++ lines_of ps) f
    ∙ (ap (λ (b : Bool). found (first_line (alias_lines aliases p) f) || b) (rest (lines_found ps f (and_r (closed p.formats) (all_closed ps) t)))
    ∙ (sym (or_assoc (found (first_line (alias_lines aliases p) f)) (defines p f) (any_defines ps f)) ∙ ap (λ (b : Bool). b || any_defines ps f) (alias_found aliases p f)))
  where
    formats : found (first_line (map (format_line p) p.formats) f) ≡ defines p f
    formats =
        format_found p.formats p f
        ∙ (ap (λ (b : Bool). defines p f && b) (closed_met p.formats f (and_l (closed p.formats) (all_closed ps) t)) ∙ and-true (defines p f))

    rest : found (first_line (lines_of ps) f) ≡ any_defines ps f → found (first_line (map (format_line p) p.formats ++ lines_of ps) f) ≡ (defines p f || any_defines ps f)
    rest e = found_append (map (format_line p) p.formats) (lines_of ps) f ∙ ap₂ ◌||◌ formats e

book_closed : (wide : Bool) → T (all_closed (book pages wide))
unfolding all_closed closed book pages same_list
book_closed true = tt
book_closed false = tt

pub lined : (wide : Bool) (f : Fields) → found (line_for wide f) ≡ any_defines (book pages wide) f
unfolding line_for
lined wide f = lines_found (book pages wide) f (book_closed wide)
