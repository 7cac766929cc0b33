-- The tables pass the test of the walk.
use mathlib.Core.Bool.{Bool, true, false}
use lib.Dec.{T}
use Rattle.word.specs.Word.{word}
use Rattle.reading.specs.Kind.{from}
use Rattle.reading.specs.Names.{mnemonics, name_of}
use Rattle.classes.specs.Meaning.{match, six}
use Rattle.classes.specs.Table.{common, by_width, table}
use Rattle.laws.specs.Lists.{elem}
use Rattle.classes.specs.Refusals.{refusals}
use Rattle.laws.proofs.Tests.{all_below}
use Rattle.classes.proofs.Uses.{is_read}
use Rattle.laws.proofs.Walk.{spread, walk, sift, free_in, mark_in}
use Rattle.classes.proofs.Boxes.{guard_of, boxes_by, test_box, tests_box}
use Rattle.inverse.specs.Private.Candidate.{least, first}
use Rattle.inverse.proofs.Later.{later}
use Rattle.manual.specs.Page.{fit, names, named, without, one_above, implied, tied, settled, told, whole}
use Rattle.manual.specs.Pages.{pages}
use Rattle.manual.specs.Aliases.{aliases, alias_lines, lines_of}
use Rattle.manual.specs.Exceptions.{flagged, refused_words, other_readings, reserved_words, differences}
use Rattle.manual.specs.Agreement.{book}
use Rattle.manual.specs.Patching.{swaps, value_of, of_line}
use Rattle.manual.proofs.Axes.{ask_claim, ask_claims, ask_column}
use Rattle.manual.proofs.Same.{same_list}
use Rattle.manual.proofs.Slots.{full_in, partly_in, spots, slot_of, form_slots, line_slots, same_operands}
use Rattle.manual.proofs.Verdict.{named_as, matches, arg_sort, code_sort, form_sorts, clashes, sorted, read_as}
use Rattle.manual.proofs.Verdict.{refused_as, each, verdict}
use Rattle.manual.proofs.Verdict.{together}
use Rattle.manual.proofs.Left.{tag, boxed, parts_in, parts_of}
use Rattle.manual.proofs.Swaps.{fixed_at, fits_at, fits, suited, swapping, unmatched, outside, restoring, restores}
use Rattle.manual.proofs.Computed.{keep, free, mark, good, sound}

-- the test of the tables under a flag, with all that it computes with
unfoldable pub tested : Bool → Bool
unfolding sound walk spread sift free_in mark_in keep free mark good from mnemonics name_of match six common by_width table elem refusals guard_of boxes_by test_box tests_box fit names named one_above implied tied settled without told whole pages aliases alias_lines lines_of flagged refused_words other_readings reserved_words differences book ask_claim ask_claims ask_column full_in partly_in spots same_list slot_of form_slots line_slots same_operands named_as matches arg_sort code_sort form_sorts clashes sorted read_as refused_as each verdict together tag boxed parts_in parts_of
    word all_below is_read least first later swaps value_of of_line fixed_at fits_at fits suited swapping unmatched outside restoring restores
tested wide = sound (table wide) refusals (lines_of (book pages wide)) (parts_of differences wide)

-- each flag by itself, which leaves room for larger tables under the prover's limit of steps for one declaration
tested_wide : T (tested true)
unfolding tested
tested_wide = tt

tested_narrow : T (tested false)
unfolding tested
tested_narrow = tt

pub tested_table : (wide : Bool) → T (tested wide)
tested_table true = tested_wide
tested_table false = tested_narrow
