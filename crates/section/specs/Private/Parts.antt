-- What is read of a file.
use Rattle.std.specs.Prelude.{ℕ, ◌+◌, ◌≤◌, ◌≡◌, List, length}
use Rattle.section.specs.declared.Header.{Header}
use Rattle.section.specs.declared.Entry.{Entry}
use Rattle.section.specs.Section.{count_in, flags_in, total_in, address_in, offset_in, length_in}
use Rattle.section.specs.Section.{count_of, flags_of, address_of, start_of, length_of}

-- h is what the header of the file f says
pub record IsHeader (f : List ℕ) (h : Header) : Type 0 where
  pub count : h.count ≡ count_in f
  pub flags : h.flags ≡ flags_in f
  pub total : h.total ≡ total_in f

-- e is what entry n says
pub record IsEntry (f : List ℕ) (n : ℕ) (e : Entry) : Type 0 where
  pub address : e.address ≡ address_in f n
  pub offset : e.offset ≡ offset_in f n
  pub length : e.length ≡ length_in f n

-- h is what is answered of f: what its header says if it is good, else zeros
pub record HeaderFor (f : List ℕ) (h : Header) : Type 0 where
  pub count : h.count ≡ count_of f
  pub flags : h.flags ≡ flags_of f
  pub few : h.flags ≤ 3

abbrev pub no_header : Header
no_header = record { count = 0; flags = 0; total = 0 }

-- e is what is answered of section n: what its entry says if it is there, else zeros
pub record EntryFor (f : List ℕ) (n : ℕ) (e : Entry) : Type 0 where
  pub address : e.address ≡ address_of f n
  pub start : e.offset ≡ start_of f n
  pub long : e.length ≡ length_of f n
  pub inside : e.offset + e.length ≤ length f

abbrev pub no_entry : Entry
no_entry = record { address = 0; offset = 0; length = 0 }
