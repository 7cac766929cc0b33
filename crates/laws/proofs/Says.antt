-- A test and the statement that it decides; and a chain of tests, each made only if those before it were passed.
use mathlib.Core.Path.{◌≡◌, sym, ◌∙◌}
use mathlib.Core.Bool.{Bool, true, false, false≢true}
use mathlib.Core.Logic.{◌↔◌}

-- the test b is true exactly if P holds
abbrev pub Says : Bool → Type 0 → Type 0
Says b P = (b ≡ true) ↔ P

pub differs : {P : Type 0} → (P → ⊥) → Says false P
differs n = (λ e. absurd (false≢true e), λ p. absurd (n p))

-- ── a chain of tests: all of it holds exactly if each part does ──

module _ {b : Bool} {Part All : Type 0} (s : Says b Part) (part : All → Part) where
  -- a part fails, and so does all of it
  pub ends : (Part → ⊥) → Says b All
  ends n = (λ e. absurd (n (s.0 e)), λ q. s.1 (part q))

  -- the same, where the answer was read
  pub ends_no : b ≡ false → Says b All
  ends_no e = ends (λ p. false≢true (sym e ∙ s.1 p))
