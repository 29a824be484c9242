-- What is said from a place on, by the line that stands there.
use Rattle.std.proofs.Common.{◌≡◌, ℕ, ◌+◌, ◌<◌, ◌≤◌, List, [], ◌∷◌, ◌++◌, length, take, drop, true, false, nat_lt, Ok, Err, refl, sym, ap, ◌∙◌, subst, arith, length-take, take-append-drop}
use Rattle.std.proofs.lemmas.Bool.{cond-false, cond-true, le-ltb, lt-ltb}
use Rattle.std.proofs.lemmas.List.{drop-drop}
use Rattle.dc_cert.specs.Bounds.{CertificateRows}
use Rattle.dc_device.specs.Lines.{Lines, NoFeed, lines_of}
use Rattle.dc_device.specs.lemmas.LineLemmas.{lines_of_rest, lines_of_whole}
use Rattle.dc_tables.specs.TableRows.{TableRows}
use Rattle.dc_seen.specs.Reading.{IsRefused, IsWhole, line_fault, said_from}
use Rattle.dc_seen.specs.Said.{at_line, end_said, followed, line_said, lines_said, lines_wanted, none_seen, seen_of, too_long, unended_rule}
use Rattle.dc_seen.specs.declared.fault.SeenRule.{SeenRule}
use Rattle.dc_seen.specs.declared.fault.SeenRule.TheVariants.{LineTooLong, NotNext}
use Rattle.dc_seen.specs.lemmas.Standing.{first_line}

-- ---- a line that stands whole

first_long : (t : TableRows) (c : CertificateRows) (before k : ℕ) (line : List ℕ) (lines : List (List ℕ)) (rest : List ℕ) → too_long before (length line) (length line + 1) ≡ true
    → lines_said t c before k (line ∷ lines) rest ≡ Err (line_fault k LineTooLong)
first_long t c before k line lines rest long = rw long refl

pub whole_said : (t : TableRows) (c : CertificateRows) (text line : List ℕ) (before k : ℕ) → IsWhole before text line
    → said_from t c text (record { before = before; lines = k }) ≡ followed (at_line k (line_said t c k line)) (said_from t c text (record { before = before + length line + 1; lines = k + 1 }))
unfolding said_from
whole_said t c text line before k whole =
    let rest : List ℕ = drop (length line + 1) (drop before text) in
    let lines : lines_of (drop before text) ≡ (line ∷ (lines_of rest).0, (lines_of rest).1) = ap lines_of whole.begins ∙ lines_of_whole line rest whole.plain in
    let sum : before + (length line + 1) ≡ before + length line + 1 = omega arith in
    let later : rest ≡ drop (before + length line + 1) text = drop-drop (length line + 1) before text ∙ ap (λ n. drop n text) sum in
    ap (λ (ls : Lines). lines_said t c before k ls.0 ls.1) lines
    ∙ first_line t c before k line (lines_of rest).0 (lines_of rest).1 whole.fits
    ∙ ap (λ (l : List ℕ). followed (at_line k (line_said t c k line)) (lines_said t c (before + length line + 1) (k + 1) (lines_of l).0 (lines_of l).1)) later

-- ---- a line feed behind n bytes

begins : (left : List ℕ) (n : ℕ) → drop n left ≡ 10 ∷ drop (n + 1) left → left ≡ take n left ++ 10 ∷ drop (n + 1) left
begins left n feed = sym (take-append-drop n left) ∙ ap (λ l. take n left ++ l) feed

pub is_whole : (text : List ℕ) (before n : ℕ) → n < length (drop before text) → NoFeed (take n (drop before text)) → drop n (drop before text) ≡ 10 ∷ drop (n + 1) (drop before text)
    → too_long before n (n + 1) ≡ false → IsWhole before text (take n (drop before text))
is_whole text before n there plain feed fits =
    let count : n ≡ length (take n (drop before text)) = omega (arith, length-take n (drop before text)) in
    record {
      begins = begins (drop before text) n feed ∙ ap (λ m. take n (drop before text) ++ 10 ∷ drop (m + 1) (drop before text)) count;
      plain = plain;
      fits = subst (λ m. too_long before m (m + 1) ≡ false) count fits;
    }

pub long_refused : (text : List ℕ) (before n : ℕ) → n < length (drop before text) → NoFeed (take n (drop before text)) → drop n (drop before text) ≡ 10 ∷ drop (n + 1) (drop before text)
    → too_long before n (n + 1) ≡ true → IsRefused before text LineTooLong
unfolding said_from
long_refused text before n there plain feed long = λ t c k.
    let left : List ℕ = drop before text in
    let rest : List ℕ = drop (n + 1) left in
    let count : n ≡ length (take n left) = omega (arith, length-take n left) in
    let lines : lines_of left ≡ (take n left ∷ (lines_of rest).0, (lines_of rest).1) = ap lines_of (begins left n feed) ∙ lines_of_whole (take n left) rest plain in
    ap (λ (ls : Lines). lines_said t c before k ls.0 ls.1) lines
    ∙ first_long t c before k (take n left) (lines_of rest).0 (lines_of rest).1 (subst (λ m. too_long before m (m + 1) ≡ true) count long)

-- ---- no line feed

end_cut : (t : TableRows) (before k : ℕ) (left : List ℕ) → 0 < length left → at_line k (end_said t before k left) ≡ Err (line_fault k (unended_rule before (length left)))
end_cut t before k [] some = absurd (omega arith)
end_cut t before k (b ∷ bs) some = refl

pub cut_refused : (text : List ℕ) (before : ℕ) → 0 < length (drop before text) → NoFeed (drop before text) → IsRefused before text (unended_rule before (length (drop before text)))
unfolding said_from
cut_refused text before some plain = λ t c k.
    ap (λ (ls : Lines). lines_said t c before k ls.0 ls.1) (lines_of_rest (drop before text) plain) ∙ end_cut t before k (drop before text) some

-- ---- nothing

nothing_said : (t : TableRows) (c : CertificateRows) (text : List ℕ) (before k : ℕ) → drop before text ≡ []
    → said_from t c text (record { before = before; lines = k }) ≡ at_line k (end_said t before k [])
unfolding said_from
nothing_said t c text before k none = ap (λ (l : List ℕ). lines_said t c before k (lines_of l).0 (lines_of l).1) none

pub missing_said : (t : TableRows) (c : CertificateRows) (text : List ℕ) (before k : ℕ) → drop before text ≡ [] → k < lines_wanted t
    → said_from t c text (record { before = before; lines = k }) ≡ Err (line_fault k NotNext)
missing_said t c text before k none wanted =
    nothing_said t c text before k none ∙ ap (at_line k) (cond-true (nat_lt k (lines_wanted t)) (Err NotNext) (Ok none_seen) (lt-ltb k (lines_wanted t) wanted))

pub ended_said : (t : TableRows) (c : CertificateRows) (text : List ℕ) (before k : ℕ) → drop before text ≡ [] → lines_wanted t ≤ k
    → said_from t c text (record { before = before; lines = k }) ≡ Ok none_seen
ended_said t c text before k none wanted =
    nothing_said t c text before k none ∙ ap (at_line k) (cond-false (nat_lt k (lines_wanted t)) (Err NotNext) (Ok none_seen) (le-ltb k (lines_wanted t) wanted))

-- ---- the same, of what is left of a text

pub cut_at : (text left : List ℕ) (before : ℕ) (rule : SeenRule) → left ≡ drop before text → 0 < length left → NoFeed left → rule ≡ unended_rule before (length left) → IsRefused before text rule
cut_at text left before rule same some plain is =
    subst (λ r. IsRefused before text r) (sym (is ∙ ap (λ l. unended_rule before (length l)) same)) (cut_refused text before (subst (λ l. 0 < length l) same some) (subst NoFeed same plain))

pub long_at : (text left : List ℕ) (before n : ℕ) → left ≡ drop before text → n < length left → NoFeed (take n left) → drop n left ≡ 10 ∷ drop (n + 1) left → too_long before n (n + 1) ≡ true
    → IsRefused before text LineTooLong
long_at text left before n same there plain feed long =
    long_refused text before n (subst (λ l. n < length l) same there) (subst (λ l. NoFeed (take n l)) same plain) (subst (λ l. drop n l ≡ 10 ∷ drop (n + 1) l) same feed) long

-- ---- a whole text

pub seen_start : (t : TableRows) (c : CertificateRows) (text : List ℕ) → seen_of t c text ≡ said_from t c text (record { before = 0; lines = 0 })
unfolding said_from seen_of
seen_start t c text = refl
