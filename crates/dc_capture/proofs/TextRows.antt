-- Worked rows of capture texts, computed from the definitions.
use Rattle.std.proofs.Common.{◌≡◌, ℕ, Some, None, List, [], ◌∷◌, refl}
use Rattle.std.specs.Prelude.{codes}
use Rattle.dc_device.specs.Lines.{spelled}
use Rattle.dc_document.specs.Names.{padded}
use Rattle.dc_tables.specs.TableNames.{no_names}
use Rattle.dc_tables.specs.TableRows.{TableRows}
use Rattle.dc_event.specs.WordText.{word_of}
use Rattle.dc_capture.specs.CaptureText.{Capture, capture_of, faulty, line_word}
use Rattle.dc_capture.specs.TimeText.{time_of}
use Rattle.dc_capture.specs.declared.fault.CaptureRule.{CaptureRule}
use Rattle.dc_capture.specs.declared.fault.CaptureRule.TheVariants.{LineTooLong, LineNotEnded, FieldCountWrong, NotATime, NameUnknown, NotAWord, TimeFalls}

-- tables of two buses, by their names alone
abbrev two_buses : TableRows
two_buses = record {
  tick_us = 1000;
  buses = [];
  streams = [];
  routers = [];
  outputs = [];
  labels = [];
  names = record (no_names) { buses = padded (codes "A") ∷ padded (codes "B-2") ∷ [] };
}

abbrev said : List ℕ → Capture
said text = capture_of two_buses 1000 text

abbrev one_fault : CaptureRule → ℕ → Capture
one_fault rule line = faulty rule line

a_capture_is_its_lines : said (spelled (codes "1000 A 600000C1" ∷ codes "0001000 B-2 e0000021" ∷ codes "9007199254740992 A 00000000" ∷ []))
    ≡ record { words = (1000, (0, 0x600000C1)) ∷ (1000, (1, 0xE0000021)) ∷ (9007199254740992, (0, 0)) ∷ []; fault = None }
unfolding time_of word_of line_word capture_of
a_capture_is_its_lines = refl

nothing_is_said_of_no_line : said [] ≡ record { words = []; fault = None }
unfolding time_of word_of line_word capture_of
nothing_is_said_of_no_line = refl

an_empty_line_has_no_three_fields : said (10 ∷ []) ≡ one_fault FieldCountWrong 1
unfolding time_of word_of line_word capture_of
an_empty_line_has_no_three_fields = refl

two_spaces_make_a_field : said (spelled (codes "1  A 600000C1" ∷ [])) ≡ one_fault FieldCountWrong 1
unfolding time_of word_of line_word capture_of
two_spaces_make_a_field = refl

times_have_no_sign : said (spelled (codes "+1 A 600000C1" ∷ [])) ≡ one_fault NotATime 1
unfolding time_of word_of line_word capture_of
times_have_no_sign = refl

times_are_at_most_the_last : said (spelled (codes "9007199254740993 X x" ∷ [])) ≡ one_fault NotATime 1
unfolding time_of word_of line_word capture_of
times_are_at_most_the_last = refl

no_time_is_no_number : said (spelled (codes " A 600000C1" ∷ [])) ≡ one_fault NotATime 1
unfolding time_of word_of line_word capture_of
no_time_is_no_number = refl

buses_are_judged_before_words : said (spelled (codes "1 C x" ∷ [])) ≡ one_fault NameUnknown 1
unfolding time_of word_of line_word capture_of
buses_are_judged_before_words = refl

words_are_judged_before_falling_times : said (spelled (codes "2 A 600000C1" ∷ codes "1 A 600000C" ∷ [])) ≡ record { words = (2, (0, 0x600000C1)) ∷ []; fault = Some (record { rule = NotAWord; line = 2 }) }
unfolding time_of word_of line_word capture_of
words_are_judged_before_falling_times = refl

times_never_fall : said (spelled (codes "2 A 600000C1" ∷ codes "1 A 600000C1" ∷ [])) ≡ record { words = (2, (0, 0x600000C1)) ∷ []; fault = Some (record { rule = TimeFalls; line = 2 }) }
unfolding time_of word_of line_word capture_of
times_never_fall = refl

an_end_inside_a_line_is_judged_first : said (codes "x") ≡ one_fault LineNotEnded 1
unfolding time_of word_of line_word capture_of
an_end_inside_a_line_is_judged_first = refl

the_limit_is_passed_at_line_2 : capture_of two_buses 20 (spelled (codes "1 A 600000C1" ∷ codes "2 A 600000C1" ∷ [])) ≡ record { words = (1, (0, 0x600000C1)) ∷ []; fault = Some (record { rule = LineTooLong; line = 2 }) }
unfolding time_of word_of line_word capture_of
the_limit_is_passed_at_line_2 = refl
