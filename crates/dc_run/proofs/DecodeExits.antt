-- How each exit of `decode` ends its answer.
use Rattle.std.proofs.Common.{◌≡◌, ◌≢◌, ℕ, ◌+◌, ◌-◌, ◌<◌, ◌≤◌, List, [], ◌∷◌, ◌++◌, length, length-append, add-zero, refl, sym, ◌∙◌, ap, subst, append_assoc, append-nil, arith, true, false, codes, Option, Some, None, IfErr, IfOk, IfSome, Result, Ok, Err, ◌⊎◌, inl, inr}
use Rattle.std.proofs.KnownBytes.{Appends-nil, Appends-trans}
use Rattle.std.specs.Io.KnownBytes.{Appends, Consumes, IsAtEnd, Keeps, prepend_known}
use Rattle.dc_word.specs.declared.format.Format.{Format}
use Rattle.dc_device.specs.Bytes.{AppendsFront, Gathered}
use Rattle.dc_device.specs.Device.{IsSnapshot}
use Rattle.dc_device.specs.Lines.{Held, NoFeed, ReadsOn, spelled}
use Rattle.dc_device.specs.declared.reader.LineEnd.TheVariants.{Long, Whole}
use Rattle.dc_device.specs.lemmas.Known.{front_more}
use Rattle.dc_device.specs.lemmas.LineLemmas.{NoFeed-append}
use Rattle.dc_event.specs.TraceFaults.{line_rule_code}
use Rattle.dc_event.specs.declared.trace.LineRule.TheVariants.{LineTooLong, NotAWord, LineNotEnded}
use Rattle.dc_answer.specs.Answer.{Answer, Asks, Ends, Reports, ReportsBy, after_all, failed_by, fault, sink_failures_of}
use Rattle.dc_answer.specs.declared.answer.Failure.{Failure}
use Rattle.dc_answer.specs.declared.answer.Failure.TheVariants.{Source, Sink, Memory}
use Rattle.dc_answer.specs.declared.exit.Exit.{Exit}
use Rattle.dc_answer.specs.declared.exit.Outcome.{Outcome}
use Rattle.dc_answer.specs.lemmas.Endings.{after_twice, by_text, ends_after, ends_pushed, gathered_lines, gathered_pushed}
use Rattle.dc_run.specs.declared.decode.TheConstants.{STREAM_LIMIT}
use Rattle.dc_run.specs.Decode.{IsPrompt, answer_end, answer_text, answer_word}
use Rattle.dc_event.specs.WordText.{word_of}
use Rattle.dc_print.specs.Words.{line_of}
use Rattle.dc_run.proofs.LineAnswers.{answer_cut, answer_long, answer_whole}
use Rattle.dc_run.proofs.Says.{Says, waits}
use Rattle.dc_run.proofs.Shown.{seen_all}

-- nothing was read and nothing was said
pub says_first : (format : Format) (limit : ℕ) (from old : Option (List ℕ)) (line held waiting : List ℕ) (room : ℕ) → line ≡ [] → held ≡ [] → room ≡ limit → waiting ≡ []
    → Says format limit from (prepend_known (line ++ held) from) old old waiting (room + length line) 1
says_first format limit from old line held waiting room no_line none whole empty = record {
  says = λ text is. (
    [],
    text,
    rw (is, no_line, none) refl,
    ([], Appends-nil old, empty),
    rw (no_line, whole, add-zero) refl,
    [],
    refl,
    (λ more. rw (no_line, whole, add-zero) refl),
  );
}

pub says_ends : (format : Format) (limit : ℕ) (from left old new last : Option (List ℕ)) (waiting : List ℕ) (room number : ℕ) (result : Result Outcome Failure)
    → Says format limit from left old new waiting room number
    → ((rest : List ℕ) → left ≡ Some rest → Ends new waiting last (answer_text format room number rest) result)
    → IfSome from (λ text. Ends old [] last (answer_text format limit 1 text) result)
says_ends format limit from left old new last waiting room number result said ends =
    by_text from (λ text. Ends old [] last (answer_text format limit 1 text) result) (λ text is.
    let (done, rest, at, gathered, e, front, parted, all) = said.says text is in
    rw e (ends_after old new last waiting done (answer_text format room number rest) result gathered (ends rest at)))

-- the bytes that are left, where they are known
left_is : (held : List ℕ) (r : Option (List ℕ)) (rest : List ℕ) → prepend_known held r ≡ Some rest → (xs : List ℕ) × (r ≡ Some xs) × (rest ≡ held ++ xs)
left_is held None rest e = cc
left_is held (Some xs) rest e = (xs, refl, cc)

split_rest : (line front back xs : List ℕ) (b : ℕ) → (line ++ (front ++ b ∷ back)) ++ xs ≡ (line ++ front) ++ b ∷ (back ++ xs)
split_rest line front back xs b = simp append_assoc

past_limit : (line line' front : List ℕ) (room b : ℕ) → line' ≡ line ++ front → (length front ≡ room) ⊎ ((b ≢ 10) × (length line' ≡ 64))
    → (length (line ++ front) ≡ room + length line) ⊎ ((b ≢ 10) × (length (line ++ front) ≡ 64))
past_limit line line' front room b e (inl h) = inl (omega (arith, length-append line front))
past_limit line line' front room b e (inr (other, h)) = inr (other, ap length (sym e) ∙ h)

-- a byte past a limit
pub long_ends : (format : Format) (line line' : List ℕ) (old new : Held) (r : Option (List ℕ)) (number : ℕ) (a b : Option (List ℕ)) (waiting : List ℕ) (result : Result Outcome Failure)
    → NoFeed line → ReadsOn old new line line' (Some Long) → Ends a waiting b (fault (line_rule_code LineTooLong) number) result
    → (rest : List ℕ) → prepend_known (line ++ old.bytes) r ≡ Some rest → Ends a waiting b (answer_text format (old.room + length line) number rest) result
long_ends format line line' old new r number a b waiting result plain (front, byte, back, e, f, more, limit) ends rest left =
    let (xs, is, at) = left_is (line ++ old.bytes) r rest left in
    let whole : rest ≡ (line ++ front) ++ byte ∷ (back ++ xs) = at ∙ ap (λ l. (line ++ l) ++ xs) e ∙ split_rest line front back xs byte in
    rw (whole, answer_long format (old.room + length line) number (line ++ front) byte (back ++ xs) (NoFeed-append line front plain more) (past_limit line line' front old.room byte f limit)) ends

-- no pull gave none
pub not_dry : (a b : ℕ) (P : Type 0) → b ≤ a → a < b → P
not_dry a b P low high = absurd (omega (arith, low, high))

at_end : (r s : Option (List ℕ)) (xs : List ℕ) → r ≡ Some xs → Keeps r s → IsAtEnd s → xs ≡ []
at_end None s xs e p q = cc
at_end (Some ys) None xs e p q = absurd p
at_end (Some ys) (Some zs) xs e p q = let f : xs ≡ ys = cc in f ∙ sym p ∙ q

-- the text ended after the bytes of a line
pub cut_ends : (format : Format) (line line' : List ℕ) (old new : Held) (r s : Option (List ℕ)) (bytes : List ℕ) (number : ℕ) (a b c : Option (List ℕ)) (waiting : List ℕ) (result : Result Outcome Failure)
    → NoFeed line → ReadsOn old new line line' None → length line' ≤ 64 → Asks r s bytes a b waiting (Ok false) → Ends b [] c (answer_end number line') result
    → (rest : List ℕ) → prepend_known (line ++ old.bytes) r ≡ Some rest → Ends a waiting c (answer_text format (old.room + length line) number rest) result
cut_ends format line line' old new r s bytes number a b c waiting result plain (e, more, none, room) short (pushed, (kept, end, empty)) ends rest left =
    let (xs, is, at) = left_is (line ++ old.bytes) r rest left in
    let whole : rest ≡ line' = at ∙ ap (λ l. (line ++ old.bytes) ++ l) (at_end r s xs is kept end) ∙ append-nil (line ++ old.bytes) ∙ sym e in
    let fits : length line' ≤ old.room + length line = omega (arith, ap length e, length-append line old.bytes) in
    let plain' : NoFeed line' = subst NoFeed (sym e) (NoFeed-append line old.bytes plain more) in
    rw (whole, answer_cut format (old.room + length line) number line' plain' short fits) (ends_pushed a b c waiting (answer_end number line') result pushed ends)

-- a whole line: what is left after it, and its answer before whatever follows
whole_more : (format : Format) (line line' : List ℕ) (old new : Held) (r : Option (List ℕ)) (number : ℕ)
    → NoFeed line → ReadsOn old new line line' (Some Whole) → length line' ≤ 64
    → (rest : List ℕ) → prepend_known (line ++ old.bytes) r ≡ Some rest
    → (next : List ℕ) × (prepend_known new.bytes r ≡ Some next) × (rest ≡ line' ++ 10 ∷ next)
    × ((more : List ℕ) → answer_text format (old.room + length line) number (line' ++ 10 ∷ more) ≡ answer_word format number (word_of line') (answer_text format new.room (number + 1) more))
whole_more format line line' old new r number plain (front, e, f, more, room) short rest left =
    let (xs, is, at) = left_is (line ++ old.bytes) r rest left in
    let whole : rest ≡ line' ++ 10 ∷ (new.bytes ++ xs) = at ∙ ap (λ l. (line ++ l) ++ xs) e ∙ split_rest line front new.bytes xs 10 ∙ ap (λ l. l ++ 10 ∷ (new.bytes ++ xs)) (sym f) in
    let plain' : NoFeed line' = subst NoFeed (sym f) (NoFeed-append line front plain more) in
    let fits : length line' + 1 ≤ old.room + length line = omega (arith, ap length f, length-append line front) in
    let left_room : (old.room + length line) - (length line' + 1) ≡ new.room = omega (arith, ap length f, length-append line front) in (
      new.bytes ++ xs,
      ap (prepend_known new.bytes) is,
      whole,
      (λ next. answer_whole format (old.room + length line) number line' next plain' short fits
          ∙ ap (λ n. answer_word format number (word_of line') (answer_text format n (number + 1) next)) left_room),
    )

-- the same line, and the answer to what is left
pub whole_line : (format : Format) (line line' : List ℕ) (old new : Held) (r : Option (List ℕ)) (number : ℕ)
    → NoFeed line → ReadsOn old new line line' (Some Whole) → length line' ≤ 64
    → (rest : List ℕ) → prepend_known (line ++ old.bytes) r ≡ Some rest
    → (next : List ℕ) × (prepend_known new.bytes r ≡ Some next)
    × (answer_text format (old.room + length line) number rest ≡ answer_word format number (word_of line') (answer_text format new.room (number + 1) next))
whole_line format line line' old new r number plain reads short rest left =
    let (next, is, ends, law) = whole_more format line line' old new r number plain reads short rest left in
    (next, is, ap (answer_text format (old.room + length line) number) ends ∙ law next)

-- a line that is no word
pub word_ends : (format : Format) (line line' : List ℕ) (old new : Held) (r : Option (List ℕ)) (number : ℕ) (a b : Option (List ℕ)) (waiting : List ℕ) (result : Result Outcome Failure)
    → NoFeed line → ReadsOn old new line line' (Some Whole) → length line' ≤ 64 → word_of line' ≡ None → Ends a waiting b (fault (line_rule_code NotAWord) number) result
    → (rest : List ℕ) → prepend_known (line ++ old.bytes) r ≡ Some rest → Ends a waiting b (answer_text format (old.room + length line) number rest) result
word_ends format line line' old new r number a b waiting result plain reads short none ends rest left =
    let (next, is, e) = whole_line format line line' old new r number plain reads short rest left in
    rw (e, none) ends

-- a word whose line could not be written
pub write_ends : (format : Format) (line line' : List ℕ) (old new : Held) (r : Option (List ℕ)) (number word : ℕ) (a b : Option (List ℕ)) (waiting : List ℕ) (failure : Failure)
    → NoFeed line → ReadsOn old new line line' (Some Whole) → length line' ≤ 64 → word_of line' ≡ Some word
    → AppendsFront a b (waiting ++ (line_of format word ++ 10 ∷ [])) → failure ≡ Sink
    → (rest : List ℕ) → prepend_known (line ++ old.bytes) r ≡ Some rest → Ends a waiting b (answer_text format (old.room + length line) number rest) (Err failure)
write_ends format line line' old new r number word a b waiting failure plain reads short some p is_sink rest left =
    let (next, is, e) = whole_line format line line' old new r number plain reads short rest left in
    let more = answer_text format new.room (number + 1) next in
    let joined : (waiting ++ (line_of format word ++ 10 ∷ [])) ++ spelled more.lines ≡ waiting ++ (line_of format word ++ 10 ∷ spelled more.lines) = simp append_assoc in
    rw (is_sink, e, some) (subst (AppendsFront a b) joined (front_more a b (waiting ++ (line_of format word ++ 10 ∷ [])) (spelled more.lines) p))

left_filled : (line line' held bytes : List ℕ) (r s : Option (List ℕ)) (rest : List ℕ) → line' ≡ line ++ held → Consumes r s bytes
    → prepend_known (line ++ held) r ≡ Some rest → prepend_known (line' ++ bytes) s ≡ Some rest
left_filled line line' held bytes None s rest e p at = cc
left_filled line line' held bytes (Some xs) None rest e p at = absurd p
left_filled line line' held bytes (Some xs) (Some ys) rest e p at =
    let f : (line ++ held) ++ xs ≡ rest = cc in
    ap Some (append_assoc line' bytes ys ∙ ap (λ l. l ++ (bytes ++ ys)) e ∙ ap (λ l. (line ++ held) ++ l) (sym p) ∙ f)

behind_line : (front line more : List ℕ) → (front ++ (line ++ 10 ∷ [])) ++ more ≡ front ++ (line ++ 10 ∷ more)
behind_line front line more = simp append_assoc

-- a word whose line was written
pub says_next : (format : Format) (limit : ℕ) (from : Option (List ℕ)) (line line' empty : List ℕ) (old new : Held) (r a b c : Option (List ℕ)) (waiting waiting' : List ℕ) (number word : ℕ)
    → Says format limit from (prepend_known (line ++ old.bytes) r) a b waiting (old.room + length line) number
    → NoFeed line → ReadsOn old new line line' (Some Whole) → length line' ≤ 64 → word_of line' ≡ Some word
    → Gathered b waiting c waiting' (line_of format word ++ 10 ∷ []) → empty ≡ []
    → Says format limit from (prepend_known (empty ++ new.bytes) r) a c waiting' (new.room + length empty) (number + 1)
says_next format limit from line line' empty old new r a b c waiting waiting' number word said plain reads short some gathered none = record {
  says = λ text is.
      let (done, rest, at, before, e, front, parted, all) = said.says text is in
      let (next, left, ends, law) = whole_more format line line' old new r number plain reads short rest at in
      let f = ap (answer_text format (old.room + length line) number) ends ∙ law next in
      let answer = answer_text format new.room (number + 1) next in
      let one : answer_text format (old.room + length line) number rest ≡ after_all (line_of format word ∷ []) answer = rw (f, some) refl in (
        done ++ line_of format word ∷ [],
        next,
        rw none left,
        gathered_lines a b c waiting waiting' done (line_of format word ∷ []) before gathered,
        rw (none, add-zero) (e ∙ ap (after_all done) one ∙ after_twice done (line_of format word ∷ []) answer),
        front ++ (line' ++ 10 ∷ []),
        parted ∙ ap (λ l. front ++ l) ends ∙ sym (behind_line front line' next),
        (λ more.
            let after = answer_text format new.room (number + 1) more in
            let first : answer_text format (old.room + length line) number (line' ++ 10 ∷ more) ≡ after_all (line_of format word ∷ []) after = rw (law more, some) refl in
            let told : answer_text format limit 1 ((front ++ (line' ++ 10 ∷ [])) ++ more) ≡ after_all (done ++ line_of format word ∷ []) after =
            ap (answer_text format limit 1) (behind_line front line' more) ∙ all (line' ++ 10 ∷ more) ∙ ap (after_all done) first ∙ after_twice done (line_of format word ∷ []) after in
            rw (none, add-zero) told),
      );
}

-- the source gave more
pub says_filled : (format : Format) (limit : ℕ) (from : Option (List ℕ)) (line line' : List ℕ) (old new filled : Held) (r s a b c : Option (List ℕ)) (waiting waiting' : List ℕ) (number : ℕ)
    → Says format limit from (prepend_known (line ++ old.bytes) r) a b waiting (old.room + length line) number
    → ReadsOn old new line line' None → filled.room ≡ new.room → Asks r s filled.bytes b c waiting (Ok true) → waiting' ≡ []
    → Says format limit from (prepend_known (line' ++ filled.bytes) s) a c waiting' (filled.room + length line') number
says_filled format limit from line line' old new filled r s a b c waiting waiting' number said (e, more, none, room) same (pushed, (came, some)) empty = record {
  says = λ text is.
      let (done, rest, at, before, f, front, parted, all) = said.says text is in
      let fits : filled.room + length line' ≡ old.room + length line = omega (arith, ap length e, length-append line old.bytes) in (
        done,
        rest,
        left_filled line line' old.bytes filled.bytes r s rest e came at,
        gathered_pushed a b c waiting waiting' (spelled done) before pushed empty,
        rw fits f,
        front,
        parted,
        (λ more. rw fits (all more)),
      );
}

-- ---- what was seen when the source was asked

-- nothing more came
pub end_prompt : (format : Format) (from : Option (List ℕ)) (line line' : List ℕ) (old new : Held) (r s : Option (List ℕ)) (bytes : List ℕ) (number : ℕ) (a b c seen last : Option (List ℕ)) (waiting : List ℕ)
    → Says format STREAM_LIMIT from (prepend_known (line ++ old.bytes) r) a b waiting (old.room + length line) number
    → NoFeed line → ReadsOn old new line line' None → length line' ≤ 64 → Asks r s bytes b c waiting (Ok false) → IsSnapshot c seen → last ≡ seen
    → IfSome from (λ text. IsPrompt format text a last)
end_prompt format from line line' old new r s bytes number a b c seen last waiting said plain (e, more, none, room) short (pushed, (kept, end, empty)) snapshot same =
    by_text from (λ text. IsPrompt format text a last) (λ text is.
    let (done, rest, left, (told, p, joined), f, front, parted, all) = said.says text is in
    let (xs, is, at) = left_is (line ++ old.bytes) r rest left in
    let whole : rest ≡ line' = at ∙ ap (λ l. (line ++ old.bytes) ++ l) (at_end r s xs is kept end) ∙ append-nil (line ++ old.bytes) ∙ sym e in
    let fits : length line' ≤ old.room + length line = omega (arith, ap length e, length-append line old.bytes) in
    let plain' : NoFeed line' = subst NoFeed (sym e) (NoFeed-append line old.bytes plain more) in
    let tail : answer_text format (old.room + length line) number rest ≡ answer_end number line' = ap (answer_text format (old.room + length line) number) whole ∙ answer_cut format (old.room + length line) number line' plain' short fits in (
      done,
      (number, line', f ∙ ap (after_all done) tail),
      subst (λ k. IfSome k (λ bytes. Appends a (Some bytes) (spelled done))) (sym same) (seen_all a c seen (spelled done) (subst (Appends a c) joined (Appends-trans a b c told waiting p pushed)) snapshot),
    ))

-- the text ended inside a line
pub inside_ends : (number : ℕ) (line : List ℕ) (a b : Option (List ℕ)) (waiting : List ℕ) (result : Result Outcome Failure) → 1 ≤ length line → waiting ≡ []
    → Ends a waiting b (fault (line_rule_code LineNotEnded) number) result → Ends a [] b (answer_end number line) result
inside_ends number [] a b waiting result some empty ends = absurd (omega arith)
inside_ends number (x ∷ xs) a b waiting result some empty ends = rw empty at ends

-- ---- what is reported

-- the line of a failed device is one
pub device_reports : (a b : Option (List ℕ)) (answer : Answer) (ended : Result Outcome Failure) (n : ℕ) (exit : Exit) → IfErr ended (λ e. e ≢ Memory)
    → Reports a b (failed_by ended) n answer exit → Reports a b Source n answer exit
device_reports a b answer (Ok x) n exit other r = record { done = r.done; cut = r.cut; sink_failed = r.sink_failed }
device_reports a b answer (Err Source) n exit other r = r
device_reports a b answer (Err Sink) n exit other r = record { done = r.done; cut = r.cut; sink_failed = r.sink_failed }
device_reports a b answer (Err Memory) n exit other r = absurd (other refl)

pub decode_reports : (r old mid new : Option (List ℕ)) (answer : List ℕ → Answer) (ended : Result Outcome Failure) (sink sink' sink'' : ℕ) (exit : Exit)
    → IfSome r (λ text. Ends old [] mid (answer text) ended) → IfErr ended (λ e. e ≢ Memory) → sink' ≡ sink + sink_failures_of ended
    → ReportsBy ended mid new sink' sink'' exit
    → IfSome r (λ text. Reports old new Source (sink'' - sink) (answer text) exit)
decode_reports None old mid new answer ended sink sink' sink'' exit ends other more reports = tt
decode_reports (Some text) old mid new answer ended sink sink' sink'' exit ends other more reports =
    device_reports old new (answer text) ended (sink'' - sink) exit other (reports old (answer text) sink more ends)

-- ---- pulls

-- the source gave more
pub ask_asks : (held filled : List ℕ) (room left room' asked asked' bound : ℕ) → asked + (room + waits held) ≤ bound → length held + left ≡ room → room' ≡ left → filled ≢ []
    → asked' ≤ asked + 1 → asked' + (room' + waits filled) ≤ bound
ask_asks held [] room left room' asked asked' bound before e f some more = absurd (some refl)
ask_asks [] (b ∷ bs) room left room' asked asked' bound before e f some more = omega (arith, before, e, f, more)
ask_asks (x ∷ xs) (b ∷ bs) room left room' asked asked' bound before e f some more = omega (arith, before, e, f, more)

-- a line was read
pub line_asks : (front held rest : List ℕ) (room left asked bound : ℕ) → asked + (room + waits held) ≤ bound → length front + 1 + left ≡ room → asked + (left + waits rest) ≤ bound
line_asks front held [] room left asked bound before e = omega (arith, before, e)
line_asks front held (b ∷ bs) room left asked bound before e = omega (arith, before, e)
