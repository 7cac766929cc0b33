-- No two answers are one number, one count of words and one of bytes.
use Rattle.std.proofs.Common.{◌≡◌, ap, refl, Result, Ok, Err}
use Rattle.refusal.specs.declared.Refusal.{Refusal}
use Rattle.refusal.specs.Refusals.{number_in}
use Rattle.refusal.proofs.One.{told_apart}
use Rattle.pages.specs.declared.extent.Page.{Page}
use Rattle.pages.specs.Page.{Paged, paging_of}

numbered : (x : Result Page Refusal) → (paging_of x).number ≡ number_in x
numbered (Ok p) = refl
numbered (Err r) = refl

page_one : (p q : Page) → paging_of (Ok p) ≡ paging_of (Ok q) → p ≡ q
page_one p q e =
    let words : p.words ≡ q.words = ap (λ (d : Paged). d.words) e in
    let bytes : p.bytes ≡ q.bytes = ap (λ (d : Paged). d.bytes) e in
    λ i. record { words = words i; bytes = bytes i }

pub paging_one : (x y : Result Page Refusal) → paging_of x ≡ paging_of y → x ≡ y
paging_one = told_apart paging_of (λ d. d.number) numbered page_one
