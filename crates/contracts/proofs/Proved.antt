-- The contract of every public function fixes its answer.
use mathlib.Core.Path.{refl, subst}
use mathlib.Core.List.{Mem, not-mem-nil}
use Rattle.inverse.proofs.Proved.{theorems as encodings}
use Rattle.calmuredda.specs.Boundary.{on}
use Rattle.calmuredda.proofs.Proved.{theorems as boundary}
use Rattle.refusal.proofs.One.{number_in_one}
use Rattle.inverse.proofs.One.{encoding_one}
use Rattle.line.proofs.One.{printing_one}
use Rattle.blocks.proofs.Answer.{ended_one}
use Rattle.pages.proofs.One.{paging_one}
use Rattle.listing.proofs.One.{listing_one}
use Rattle.reading.proofs.Answer.{answer_one}
use Rattle.contracts.specs.Refusal.{Refusal}
use Rattle.contracts.specs.Word.{Word}
use Rattle.contracts.specs.Reading.{Reading}
use Rattle.contracts.specs.Forms.{Forms}
use Rattle.contracts.specs.Decode.{Decode}
use Rattle.contracts.specs.Encode.{Encode}
use Rattle.contracts.specs.Buffers.{Buffers}
use Rattle.contracts.specs.Names.{Names}
use Rattle.contracts.specs.Record.{Record}
use Rattle.contracts.specs.Text.{Text}
use Rattle.contracts.specs.Line.{Line}
use Rattle.contracts.specs.Section.{Section}
use Rattle.contracts.specs.Body.{Body}
use Rattle.contracts.specs.Blocks.{Blocks}
use Rattle.contracts.specs.Pages.{Pages}
use Rattle.contracts.specs.Listing.{Listing}
use Rattle.contracts.specs.Calmuredda.{Calmuredda}
use Rattle.contracts.specs.Theorems.{Theorems}
use Rattle.contracts.proofs.Laws.{same, same_test, ◌⨾◌, determined, by_equation}

of_refusal : Refusal
of_refusal = record { number = by_equation (λ κs a v w. refl) }

of_word : Word
of_word =
    record {
      op = by_equation (λ κs a v w. refl);
      rs = by_equation (λ κs a v w. refl);
      rt = by_equation (λ κs a v w. refl);
      rd = by_equation (λ κs a v w. refl);
      sa = by_equation (λ κs a v w. refl);
      funct = by_equation (λ κs a v w. refl);
      number = by_equation (λ κs a v w. refl);
      uimm = by_equation (λ κs a v w. refl);
      simm = by_equation (λ κs a v w. refl);
      twos_complement = by_equation (λ κs a v w. refl);
      branch_target = by_equation (λ κs a v w. refl);
      jump_target = by_equation (λ κs a v w. refl);
      lui_value = by_equation (λ κs a v w. refl);
      ins_size = by_equation (λ κs a v w. refl);
      from_le_bytes = by_equation (λ κs a v w. refl);
      from_be_bytes = by_equation (λ κs a v w. refl);
      from_bytes = by_equation (λ κs a v w. refl);
    }

of_reading : Reading
of_reading =
    record {
      op_parts = by_equation (λ κs a v w. refl);
      effect_parts = by_equation (λ κs a v w. refl);
      target_parts = by_equation (λ κs a v w. refl);
      flow_number = by_equation (λ κs a v w. refl);
      decoded = by_equation (λ κs a v w. refl);
      ends = by_equation (λ κs a v w. refl);
      refused = by_equation (λ κs a v w. refl);
      same_insn = determined (λ κs a x y v w p q. (same_test x y p q, refl));
    }

of_forms : Forms
of_forms =
    record {
      read =
          λ R l c copies d none.
          record {
            asks_nothing = λ κs a n m. absurd (not-mem-nil (subst (λ ns. Mem n ns) none m));
            one = λ κs a x y v w p q. (same p q, refl);
          };
    }

of_decode : Decode
of_decode =
    record {
      decode = determined (λ κs a x y v w p q. (answer_one x y (same p q), refl));
      decode_word = determined (λ κs a x y v w p q. (answer_one x y (same p q), refl));
    }

of_encode : Encode
of_encode =
    record {
      encode =
          determined
          (λ κs a x y v w p q. (encoding_one x y ((encodings.definition a.1.1.0 a.1.0).unique a.0 _ _ p q), refl));
    }

of_buffers : Buffers
of_buffers =
    record {
      put = determined (λ κs a x y v w p q. (refl, refl ⨾ same p q ⨾ refl));
      put_whole = determined (λ κs a x y v w p q. (same p.0 q.0, refl ⨾ same p.1 q.1 ⨾ refl));
      put1 = determined (λ κs a x y v w p q. (refl, refl ⨾ same p q ⨾ refl));
      put8 = determined (λ κs a x y v w p q. (refl, refl ⨾ same p q ⨾ refl));
      get2 = by_equation (λ κs a v w. refl);
      get4 = by_equation (λ κs a v w. refl);
      get8 = determined (λ κs a x y v w p q. (same p.0 q.0, refl));
    }

of_names : Names
of_names =
    record {
      register = by_equation (λ κs a v w. refl);
      name_of = by_equation (λ κs a v w. refl);
      kind_of = by_equation (λ κs a v w. refl);
    }

of_record : Record
of_record =
    record {
      pack = determined (λ κs a x y v w p q. (same p.0 q.0, refl ⨾ same p.1 q.1 ⨾ refl));
      unpack = determined (λ κs a x y v w p q. (answer_one x y (same p q), refl));
    }

of_text : Text
of_text =
    record {
      count = determined (λ κs a x y v w p q. (same p.0 q.0, refl ⨾ same p.1 q.1 ⨾ refl));
      decimal = determined (λ κs a x y v w p q. (same p.0 q.0, refl ⨾ same p.1 q.1 ⨾ refl));
      address = determined (λ κs a x y v w p q. (same p.0 q.0, refl ⨾ same p.1 q.1 ⨾ refl));
      hex16 = determined (λ κs a x y v w p q. (refl, refl ⨾ same p q ⨾ refl));
      hex8 = determined (λ κs a x y v w p q. (refl, refl ⨾ same p q ⨾ refl));
      hex_in = by_equation (λ κs a v w. refl);
      name = determined (λ κs a x y v w p q. (same p.0 q.0, refl ⨾ same p.1 q.1 ⨾ refl));
    }

of_line : Line
of_line =
    record {
      print = determined (λ κs a x y v w p q. (printing_one x y (same p.0 q.0), refl ⨾ same p.1.0 q.1.0 ⨾ refl));
    }

of_section : Section
of_section =
    record {
      check = determined (λ κs a x y v w p q. (number_in_one (λ a b. refl) x y (same p q), refl));
      count = by_equation (λ κs a v w. refl);
      flags = by_equation (λ κs a v w. refl);
      refusal = determined (λ κs a x y v w p q. (number_in_one (λ a b. refl) x y (same p q), refl));
      address = by_equation (λ κs a v w. refl);
      body =
          record {
            asks_nothing = λ κs a. tt;
            one = λ κs a x y v w p q. (same p.1 q.1 ⨾ same p.0 q.0, refl);
          };
      start = by_equation (λ κs a v w. refl);
    }

of_body : Body
of_body =
    record {
      view_of = by_equation (λ κs a v w. refl);
      count = by_equation (λ κs a v w. refl);
      address = by_equation (λ κs a v w. refl);
      decoded = determined (λ κs a x y v w p q. (answer_one x y (same p q), refl));
      word = by_equation (λ κs a v w. refl);
      refusals = by_equation (λ κs a v w. refl);
    }

of_blocks : Blocks
of_blocks =
    record {
      kind = by_equation (λ κs a v w. refl);
      block = determined (λ κs a x y v w p q. (ended_one x y (same p q), refl));
    }

of_pages : Pages
of_pages =
    record {
      page = determined (λ κs a x y v w p q. (paging_one x y (same p.0 q.0), refl ⨾ refl ⨾ refl ⨾ same p.1 q.1 ⨾ refl));
    }

of_listing : Listing
of_listing =
    record {
      piece = determined (λ κs a x y v w p q. (listing_one a.1.0 x y (same p.0 q.0), refl ⨾ refl ⨾ same p.1 q.1 ⨾ refl));
    }

of_calmuredda : Calmuredda
of_calmuredda =
    record {
      decode =
          determined
          (λ κs a x y v w p q. (same p.0 q.0, refl ⨾ refl ⨾ refl ⨾ refl ⨾ same p.1 q.1 ⨾ refl));
      encode = determined (λ κs a x y v w p q. (boundary.one a.0.now a.1.0 (on a.1.1.0) x y p q, refl));
      line =
          determined
          (λ κs a x y v w p q.
          (same p.0 q.0, refl ⨾ same p.1.1 q.1.1 ⨾ same p.1.0 q.1.0 ⨾ refl));
      section_check = by_equation (λ κs a v w. refl);
      section_count = by_equation (λ κs a v w. refl);
      section_flags = by_equation (λ κs a v w. refl);
      section_address = by_equation (λ κs a v w. refl);
      section_body =
          determined
          (λ κs a x y v w p q.
          (same p.0 q.0, refl ⨾ refl ⨾ same p.1.0 q.1.0 ⨾ same p.1.1 q.1.1 ⨾ refl));
      block =
          determined
          (λ κs a x y v w p q. (
            same p.0 q.0,
            refl ⨾ refl ⨾ refl ⨾ refl ⨾ same p.1.0 q.1.0 ⨾ same p.1.1 q.1.1 ⨾ refl,
          ));
      page =
          determined
          (λ κs a x y v w p q. (
            same p.0 q.0,
            refl ⨾ refl ⨾ refl ⨾ refl ⨾ same p.1.1.1 q.1.1.1 ⨾ refl ⨾ same p.1.0 q.1.0
                ⨾ same p.1.1.0 q.1.1.0 ⨾ refl,
          ));
      listing =
          determined
          (λ κs a x y v w p q. (
            same p.0 q.0,
            refl ⨾ refl ⨾ refl ⨾ same p.1.1.1.1 q.1.1.1.1 ⨾ same p.1.0 q.1.0
                ⨾ same p.1.1.0 q.1.1.0 ⨾ same p.1.1.1.0 q.1.1.1.0 ⨾ refl,
          ));
    }

pub theorems : Theorems
theorems =
    record {
      in_refusal = of_refusal;
      in_word = of_word;
      in_reading = of_reading;
      in_forms = of_forms;
      in_decode = of_decode;
      in_encode = of_encode;
      in_buffers = of_buffers;
      in_names = of_names;
      in_record = of_record;
      in_text = of_text;
      in_line = of_line;
      in_section = of_section;
      in_body = of_body;
      in_blocks = of_blocks;
      in_pages = of_pages;
      in_listing = of_listing;
      in_calmuredda = of_calmuredda;
    }
