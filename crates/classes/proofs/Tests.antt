-- Laws of tests at each of the six fields, and of forms and manners that a test finds to be the same.
use mathlib.Core.Path.{◌≡◌, ◌∙◌, ap}
use mathlib.Core.Bool.{Bool, true, false, ◌&&◌}
use native.Mathlib.Decide.{ℕ_discrete}
use lib.Dec.{T}
use Rattle.laws.proofs.Tests.{and_l, and_r, and_i, decided, zip}
use Rattle.word.specs.Word.{Field, Field_discrete, same_field, op, rs, rt, rd, sa, funct}
use Rattle.classes.specs.Row.{Code-discrete, Form, Form-discrete, Control, Control-discrete, Change}
use Rattle.classes.specs.Row.{Change-discrete, Manner}
use Rattle.classes.specs.Meaning.{six}
use Rattle.classes.specs.Private.Same.{same_form}

-- both tests at each field
pub six_and : (p q : Field → Bool) → six (λ x. p x && q x) ≡ (six p && six q)
unfolding six
six_and p q =
    ap (λ (b : Bool). (p op && q op) && ((p rs && q rs) && ((p rt && q rt) && ((p rd && q rd) && b)))) (zip (p sa) (q sa) (p funct) (q funct))
    ∙ (ap (λ (b : Bool). (p op && q op) && ((p rs && q rs) && ((p rt && q rt) && b))) (zip (p rd) (q rd) (p sa && p funct) (q sa && q funct))
    ∙ (ap (λ (b : Bool). (p op && q op) && ((p rs && q rs) && b)) (zip (p rt) (q rt) (p rd && (p sa && p funct)) (q rd && (q sa && q funct)))
    ∙ (ap (λ (b : Bool). (p op && q op) && b) (zip (p rs) (q rs) (p rt && (p rd && (p sa && p funct))) (q rt && (q rd && (q sa && q funct))))
    ∙ zip (p op) (q op) (p rs && (p rt && (p rd && (p sa && p funct)))) (q rs && (q rt && (q rd && (q sa && q funct)))))))

pub six_at : (p : Field → Bool) → T (six p) → (x : Field) → T (p x)
unfolding six
six_at p t op = and_l (p op) _ t
six_at p t rs = and_l (p rs) _ (and_r (p op) _ t)
six_at p t rt = and_l (p rt) _ (and_r (p rs) _ (and_r (p op) _ t))
six_at p t rd = and_l (p rd) _ (and_r (p rt) _ (and_r (p rs) _ (and_r (p op) _ t)))
six_at p t sa = and_l (p sa) _ (and_r (p rd) _ (and_r (p rt) _ (and_r (p rs) _ (and_r (p op) _ t))))
six_at p t funct = and_r (p sa) (p funct) (and_r (p rd) _ (and_r (p rt) _ (and_r (p rs) _ (and_r (p op) _ t))))

pub six_make : (p : Field → Bool) → ((x : Field) → T (p x)) → T (six p)
unfolding six
six_make p h =
    and_i (p op) _ (h op) (and_i (p rs) _ (h rs) (and_i (p rt) _ (h rt) (and_i (p rd) _ (h rd) (and_i (p sa) (p funct) (h sa) (h funct)))))

pub same_field_lem : (x y : Field) → T (same_field x y) → x ≡ y
same_field_lem x y t = decided (Field_discrete x y) t

pub self : (x : Field) → T (same_field x x)
self op = tt
self rs = tt
self rt = tt
self rd = tt
self sa = tt
self funct = tt

pub same_form_lem : (φ ψ : Form) → T (same_form φ ψ) → φ ≡ ψ
same_form_lem φ ψ t = decided (Form-discrete (Code-discrete Field_discrete) φ ψ) t

-- manners, column by column
abbrev same_control : Control → Control → Bool
same_control a b = elim (Control-discrete a b) [ yes e ↦ true | no d ↦ false ]

abbrev same_change : Change → Change → Bool
same_change a b = elim (Change-discrete ℕ_discrete a b) [ yes e ↦ true | no d ↦ false ]

abbrev pub same_manner : Manner → Manner → Bool
same_manner m n = same_control m.control n.control && same_change m.change n.change

pub same_manner_lem : (m n : Manner) → T (same_manner m n) → m ≡ n
same_manner_lem m n t = λ i. record { control = control i; change = change i }
  where
    control : m.control ≡ n.control
    control = decided (Control-discrete m.control n.control) (and_l (same_control m.control n.control) _ t)

    change : m.change ≡ n.change
    change =
        decided (Change-discrete ℕ_discrete m.change n.change) (and_r (same_control m.control n.control) _ t)
