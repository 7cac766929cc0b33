-- THE REFUSAL NUMBERS, document 01's table: 0 is accepted.
use Rattle.std.specs.Prelude.{ℕ}

-- fewer than four bytes to decode
abbrev pub short : ℕ
short = 1

-- the word, by the manual's table that has no such word
abbrev pub op : ℕ
op = 2

abbrev pub special : ℕ
special = 3

abbrev pub regimm : ℕ
regimm = 4

abbrev pub cop0 : ℕ
cop0 = 5

abbrev pub cop1 : ℕ
cop1 = 6

abbrev pub special2 : ℕ
special2 = 7

abbrev pub special3 : ℕ
special3 = 8

-- no word has the reading
abbrev pub no_word : ℕ
no_word = 9

-- the reading has no line
abbrev pub no_line : ℕ
no_line = 10

-- the line, or the first line of a page, has no room
abbrev pub no_room : ℕ
no_room = 11

-- a section file's length, count, flags or total, or its records are cut off
abbrev pub bad_header : ℕ
bad_header = 12

-- a record of a section file breaks its rules
abbrev pub bad_record : ℕ
bad_record = 13

-- the section file has no section of that number
abbrev pub no_section : ℕ
no_section = 14

-- the body has no word of that index
abbrev pub no_index : ℕ
no_index = 15

-- fewer than 80 bytes for the record of a word, or of it
abbrev pub short_record : ℕ
short_record = 16
