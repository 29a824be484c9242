-- A text that says numbers is the one that is printed of them.
use Rattle.std.proofs.Common.{◌≡◌, ℕ, zero, suc, ◌+◌, ◌<◌, ◌≤◌, ◌==◌, List, [], ◌∷◌, ◌++◌, length, get_or, None, Result, Ok, Err, nat_lt, refl, sym, ap, ◌∙◌, inl, inr, arith, append_assoc, append-nil}
use Rattle.std.proofs.lemmas.Bool.{cases_Bool, cases_eq, cond-false, cond-true, eqb-true, ltb-false}
use Rattle.std.proofs.lemmas.List.{nil_from_length}
use Rattle.std.specs.Prelude.{slice_index}
use Rattle.dc_cert.specs.Bounds.{CertificateRows, input_bound, output_bound}
use Rattle.dc_device.specs.Lines.{Lines, lines_of, onto, spelled}
use Rattle.dc_event.specs.ReplyText.{name_at}
use Rattle.dc_observe.specs.declared.labels.LabelNumbers.{LabelNumbers}
use Rattle.dc_run_observe.specs.Lines.{input_text, label_text, output_text}
use Rattle.dc_run_survey.specs.Lines.{first_lines, or_blank}
use Rattle.dc_tables.specs.TableRows.{TableRows, label_row}
use Rattle.dc_seen.specs.Rows.{seen_input, seen_label, seen_output}
use Rattle.dc_seen.specs.Said.{SeenRows, at_line, followed, inputs_only, joined, labels_only, line_said, lines_said, lines_wanted, none_seen, outputs_only, row_count, seen_of, too_long}
use Rattle.dc_seen.specs.declared.fault.SeenFault.{SeenFault}
use Rattle.dc_seen.specs.declared.fault.SeenRule.{SeenRule}
use Rattle.dc_seen.specs.declared.fault.SeenRule.TheVariants.{LineTooLong, NotNext}
use Rattle.dc_seen.specs.declared.rows.InputNumbers.{InputNumbers}
use Rattle.dc_seen.specs.declared.rows.OutputNumbers.{OutputNumbers}
use Rattle.dc_seen.specs.lemmas.Joining.{followed-assoc}
use Rattle.dc_seen.specs.lemmas.Standing.{first_line}
use Rattle.dc_seen.specs.lemmas.Wanted.{as_wanted, one_wanted, other_at, some_wanted, surplus_line}
use Rattle.dc_read_back.specs.Printed.{input_printed, label_printed, output_printed, printed, printed_lines}
use Rattle.dc_read_back.proofs.Back.{blank_not, count_printed, input_join, label_join, output_join}
use Rattle.dc_read_back.proofs.Naming.{input_only, label_only, output_only}

-- ---- a text is its lines

text_is : (text : List ℕ) → spelled (lines_of text).0 ++ (lines_of text).1 ≡ text
text_is [] = refl
text_is (b ∷ bs) = elim (cases_Bool (b == 10)) [
  | inl e ↦ rw e (λ i. sym (eqb-true b 10 e) i ∷ text_is bs i)
  | inr e ↦ rw e (goes_on b (lines_of bs) ∙ ap (λ l. b ∷ l) (text_is bs))
]
  where
    goes_on : (b : ℕ) (ls : Lines) → spelled (onto (b ∷ []) ls).0 ++ (onto (b ∷ []) ls).1 ≡ b ∷ (spelled ls.0 ++ ls.1)
    goes_on b ([], rest) = refl
    goes_on b (l ∷ ls, rest) = refl

-- ---- what is said has no fault

followed_says : (k : ℕ) (said : Result SeenRows SeenRule) (later : Result SeenRows SeenFault) (s : SeenRows) → followed (at_line k said) later ≡ Ok s
    → (r : SeenRows) × (more : SeenRows) × (said ≡ Ok r) × (later ≡ Ok more) × (joined r more ≡ s)
followed_says k (Err rule) later s is = absurd (cc)
followed_says k (Ok r) (Err fault) s is = absurd (cc)
followed_says k (Ok r) (Ok more) s is = (let same : joined r more ≡ s = cc in (r, more, refl, refl, same))

-- a line, and what is behind it
line_says : (t : TableRows) (c : CertificateRows) (before k : ℕ) (line : List ℕ) (lines : List (List ℕ)) (rest : List ℕ) (s : SeenRows) → lines_said t c before k (line ∷ lines) rest ≡ Ok s
    → (r : SeenRows) × (more : SeenRows) × (line_said t c k line ≡ Ok r) × (lines_said t c (before + length line + 1) (k + 1) lines rest ≡ Ok more) × (joined r more ≡ s)
line_says t c before k line lines rest s is = elim (cases_Bool (too_long before (length line) (length line + 1))) [
  | inl e ↦
      let bad : lines_said t c before k (line ∷ lines) rest ≡ at_line k (Err LineTooLong) = rw e refl in
      absurd (cc)
  | inr e ↦ followed_says k (line_said t c k line) (lines_said t c (before + length line + 1) (k + 1) lines rest) s (sym (first_line t c before k line lines rest e) ∙ is)
]

-- the end
end_says : (t : TableRows) (c : CertificateRows) (before k : ℕ) (rest : List ℕ) (s : SeenRows) → lines_said t c before k [] rest ≡ Ok s → (rest ≡ []) × (none_seen ≡ s) × (lines_wanted t ≤ k)
end_says t c before k [] s is = elim (cases_Bool (nat_lt k (lines_wanted t))) [
  | inl e ↦
      let bad : lines_said t c before k [] [] ≡ at_line k (Err NotNext) = ap (at_line k) (cond-true (nat_lt k (lines_wanted t)) (Err NotNext) (Ok none_seen) e) in
      absurd (cc)
  | inr e ↦
      let good : lines_said t c before k [] [] ≡ Ok none_seen = ap (at_line k) (cond-false (nat_lt k (lines_wanted t)) (Err NotNext) (Ok none_seen) e) in
      let same : none_seen ≡ s = cc in
      (refl, same, ltb-false k (lines_wanted t) e)
]
end_says t c before k (b ∷ bs) s is = absurd (cc)

-- behind all lines that are wanted there is nothing
nothing_behind : (t : TableRows) (c : CertificateRows) (before k : ℕ) (lines : List (List ℕ)) (rest : List ℕ) (s : SeenRows) → lines_wanted t ≤ k → lines_said t c before k lines rest ≡ Ok s
    → (lines ≡ []) × (rest ≡ []) × (none_seen ≡ s)
nothing_behind t c before k [] rest s past is = (let e = end_says t c before k rest s is in (refl, e.0, e.1))
nothing_behind t c before k (line ∷ lines) rest s past is =
    let (r, more, here, later, same) = line_says t c before k line lines rest s is in
    let bad = surplus_line t c k line past in
    absurd (cc)

-- ---- the lines of a kind

-- those of rows, the first of which has a number
abbrev pub numbered : {X : Type 0} → (ℕ → X → List ℕ) → ℕ → List X → List (List ℕ)
numbered f n [] = []
numbered f n (x ∷ xs) = f n x ∷ numbered f (n + 1) xs

joined_assoc : (a b s : SeenRows) → joined a (joined b s) ≡ joined (joined a b) s
joined_assoc a b s = cc (followed-assoc a b (Ok s))

module _ (t : TableRows) (c : CertificateRows) {X : Type 0} (rows : List X → SeenRows) (f : ℕ → X → List ℕ) (first count : ℕ) (Next : List (List ℕ) → List ℕ → SeenRows → Type 0) where
  -- the lines from a row on: those of rows of the kind, and then what is next
  abbrev pub Parted : ℕ → List (List ℕ) → List ℕ → SeenRows → Type 0
  Parted n lines rest s =
      (xs : List X) × (more : SeenRows) × (behind : List (List ℕ)) × (length xs + n ≡ count) × (s ≡ joined (rows xs) more) × (lines ≡ numbered f n xs ++ behind) × Next behind rest more

  module _ (join : (ys zs : List X) → joined (rows ys) (rows zs) ≡ rows (ys ++ zs)) (none : (s : SeenRows) → joined (rows []) s ≡ s)
      (only : (n : ℕ) → n < count → (line : List ℕ) (s : SeenRows) → line_said t c (first + n) line ≡ Ok s → (x : X) × (rows (x ∷ []) ≡ s) × (line ≡ f n x)) (wanted : first + count ≤ lines_wanted t)
      (next : (before : ℕ) (lines : List (List ℕ)) (rest : List ℕ) (s : SeenRows) → lines_said t c before (first + count) lines rest ≡ Ok s → Next lines rest s) where
    at_last : (n before : ℕ) (lines : List (List ℕ)) (rest : List ℕ) (s : SeenRows) → n ≡ count → lines_said t c before (first + n) lines rest ≡ Ok s → Parted n lines rest s
    at_last n before lines rest s last is =
        ([], s, lines, omega (arith, last), sym (none s), refl, next before lines rest s (ap (λ m. lines_said t c before (first + m) lines rest) (sym last) ∙ is))

    one_more : (n : ℕ) (line : List ℕ) (lines : List (List ℕ)) (rest : List ℕ) (s r more : SeenRows) → n < count → line_said t c (first + n) line ≡ Ok r → joined r more ≡ s → Parted (n + 1) lines rest more
        → Parted n (line ∷ lines) rest s
    one_more n line lines rest s r more less here same (xs, last, behind, sized, whole, front, after) =
        let (x, row, text) = only n less line r here in (
          x ∷ xs,
          last,
          behind,
          omega (arith, sized),
          sym same ∙ (λ i. joined (sym row i) (whole i)) ∙ joined_assoc (rows (x ∷ [])) (rows xs) last ∙ ap (λ a. joined a last) (join (x ∷ []) xs),
          (λ i. text i ∷ front i),
          after,
        )

    pub parted : (lines : List (List ℕ)) (n : ℕ) → n ≤ count → (before : ℕ) (rest : List ℕ) (s : SeenRows) → lines_said t c before (first + n) lines rest ≡ Ok s → Parted n lines rest s
    parted [] n le before rest s is = elim (cases_eq n count) [
      | inl last ↦ at_last n before [] rest s last is
      | inr other ↦ let e = end_says t c before (first + n) rest s is in absurd (omega (arith, e.2, other, le, wanted))
    ]
    parted (line ∷ lines) n le before rest s is = elim (cases_eq n count) [
      | inl last ↦ at_last n before (line ∷ lines) rest s last is
      | inr other ↦
          let less : n < count = omega (arith, other, le) in
          let (r, more, here, later, same) = line_says t c before (first + n) line lines rest s is in
          let at : first + (n + 1) ≡ first + n + 1 = omega arith in
          one_more n line lines rest s r more less here same
          (parted lines (n + 1) (omega (arith, less)) (before + length line + 1) rest more (ap (λ k. lines_said t c (before + length line + 1) k lines rest) at ∙ later))
    ]

-- ---- lines by their numbers are the first lines

first_cons : (line : ℕ → List ℕ) (n : ℕ) → first_lines line (suc n) ≡ line 0 ∷ first_lines (λ k. line (suc k)) n
unfolding first_lines
first_cons line zero = refl
first_cons line (suc n) = ap (λ l. l ++ line (suc n) ∷ []) (first_cons line n)

shifted : (m n : ℕ) → m + 1 + n ≡ m + suc n
shifted m n = omega arith

numbered_first : {X : Type 0} (f : ℕ → X → List ℕ) (d : X) (xs : List X) (m : ℕ) → numbered f m xs ≡ first_lines (λ n. f (m + n) (get_or xs n d)) (length xs)
unfolding first_lines
numbered_first f d [] m = refl
numbered_first f d (x ∷ xs) m =
    let start : m ≡ m + 0 = omega arith in
    (λ i. f (start i) x ∷ numbered_first f d xs (m + 1) i)
    ∙ ap (λ g. f (m + 0) x ∷ first_lines g (length xs)) (λ i n. f (shifted m n i) (get_or xs n d))
    ∙ sym (first_cons (λ n. f (m + n) (get_or (x ∷ xs) n d)) (length xs))

from_zero : (n : ℕ) → 0 + n ≡ n
from_zero n = omega arith

all_numbered : {X : Type 0} (f : ℕ → X → List ℕ) (d : X) (xs all : List X) (count : ℕ) → length xs + 0 ≡ count → all ≡ xs → numbered f 0 xs ≡ first_lines (λ n. f n (get_or all n d)) count
all_numbered f d xs all count sized same =
    let long : length xs ≡ count = omega (arith, sized) in
    numbered_first f d xs 0 ∙ (λ i. first_lines (λ n. f (from_zero n i) (get_or (sym same i) n d)) (long i))

-- ---- all lines

module _ (t : TableRows) (c : CertificateRows) where
  input_of : ℕ → InputNumbers → List ℕ
  input_of b x = input_text (name_at t.names.buses b) x.backlog (input_bound c b).backlog x.wait (input_bound c b).delay

  output_of : ℕ → OutputNumbers → List ℕ
  output_of o x = output_text (name_at t.names.outputs o) x.late (output_bound c o).delay

  label_of : ℕ → LabelNumbers → List ℕ
  label_of y x = label_text (name_at t.names.labels y) x (slice_index c.ages y) (label_row t y).minimum (label_row t y).maximum

  abbrev Nothing : List (List ℕ) → List ℕ → SeenRows → Type 0
  Nothing lines rest s = (lines ≡ []) × (rest ≡ []) × (none_seen ≡ s)

  abbrev Labels : List (List ℕ) → List ℕ → SeenRows → Type 0
  Labels lines rest s = Parted t c labels_only label_of (length t.buses + length t.outputs) (length t.labels) Nothing 0 lines rest s

  abbrev Outputs : List (List ℕ) → List ℕ → SeenRows → Type 0
  Outputs lines rest s = Parted t c outputs_only output_of (length t.buses) (length t.outputs) Labels 0 lines rest s

  abbrev Inputs : List (List ℕ) → List ℕ → SeenRows → Type 0
  Inputs lines rest s = Parted t c inputs_only input_of 0 (length t.buses) Outputs 0 lines rest s

  module _ (some : 0 < row_count t) where
    wanted_rows : row_count t ≡ lines_wanted t
    wanted_rows = as_wanted t some

    labels_parted : (before : ℕ) (lines : List (List ℕ)) (rest : List ℕ) (s : SeenRows) → lines_said t c before (length t.buses + length t.outputs) lines rest ≡ Ok s → Labels lines rest s
    unfolding label_of
    labels_parted before lines rest s is =
        let first : length t.buses + length t.outputs + 0 ≡ length t.buses + length t.outputs = omega arith in
        parted t c labels_only label_of (length t.buses + length t.outputs) (length t.labels) Nothing label_join (λ s. refl) (λ n less line s here. label_only t c (length t.buses + length t.outputs + n) n line s less refl here)
        (omega (arith, wanted_rows)) (λ before lines rest s end. nothing_behind t c before (length t.buses + length t.outputs + length t.labels) lines rest s (omega (arith, wanted_rows)) end) lines 0 (omega arith) before rest s
        (ap (λ k. lines_said t c before k lines rest) first ∙ is)

    outputs_parted : (before : ℕ) (lines : List (List ℕ)) (rest : List ℕ) (s : SeenRows) → lines_said t c before (length t.buses) lines rest ≡ Ok s → Outputs lines rest s
    unfolding output_of
    outputs_parted before lines rest s is =
        let first : length t.buses + 0 ≡ length t.buses = omega arith in
        parted t c outputs_only output_of (length t.buses) (length t.outputs) Labels output_join (λ s. refl) (λ n less line s here. output_only t c (length t.buses + n) n line s less refl here) (omega (arith, wanted_rows))
        labels_parted lines 0 (omega arith) before rest s (ap (λ k. lines_said t c before k lines rest) first ∙ is)

    inputs_parted : (before : ℕ) (lines : List (List ℕ)) (rest : List ℕ) (s : SeenRows) → lines_said t c before 0 lines rest ≡ Ok s → Inputs lines rest s
    unfolding input_of
    inputs_parted before lines rest s is =
        let last : 0 + length t.buses ≡ length t.buses = omega arith in
        parted t c inputs_only input_of 0 (length t.buses) Outputs input_join (λ s. refl) (λ n less line s here. input_only t c (0 + n) n line s less (omega arith) here) (omega (arith, wanted_rows))
        (λ before lines rest s end. outputs_parted before lines rest s (ap (λ k. lines_said t c before k lines rest) (sym last) ∙ end)) lines 0 (omega arith) before rest s is

    lines_only : (lines : List (List ℕ)) (rest : List ℕ) (s : SeenRows) → lines_said t c 0 0 lines rest ≡ Ok s → (lines ≡ printed_lines t c s) × (rest ≡ [])
    unfolding input_of output_of label_of
    lines_only lines rest s is =
        let (xs, others, behind, sized, whole, front, outputs) = inputs_parted 0 lines rest s is in
        let (ys, labels, later, sized2, whole2, front2, after) = outputs in
        let (zs, none, end, sized3, whole3, front3, over) = after in
        let same : s ≡ joined (inputs_only xs) (joined (outputs_only ys) (joined (labels_only zs) none_seen)) =
        whole ∙ ap (joined (inputs_only xs)) (whole2 ∙ ap (joined (outputs_only ys)) (whole3 ∙ ap (joined (labels_only zs)) (sym over.2))) in
        let inputs_same : s.inputs ≡ xs = ap (λ (r : SeenRows). r.inputs) same ∙ append-nil xs in
        let outputs_same : s.outputs ≡ ys = ap (λ (r : SeenRows). r.outputs) same ∙ append-nil ys in
        let labels_same : s.labels ≡ zs = ap (λ (r : SeenRows). r.labels) same ∙ append-nil zs in
        let one : numbered input_of 0 xs ≡ first_lines (input_printed t c s) (length t.buses) = all_numbered input_of (seen_input 0 0) xs s.inputs (length t.buses) sized inputs_same in
        let two : numbered output_of 0 ys ≡ first_lines (output_printed t c s) (length t.outputs) = all_numbered output_of (seen_output 0) ys s.outputs (length t.outputs) sized2 outputs_same in
        let three : numbered label_of 0 zs ≡ first_lines (label_printed t c s) (length t.labels) =
        all_numbered label_of (seen_label 0 0 None None 0) zs s.labels (length t.labels) sized3 labels_same in (
          front
              ∙ ap (λ l. numbered input_of 0 xs ++ l) (front2 ∙ ap (λ l. numbered output_of 0 ys ++ l) (front3 ∙ ap (λ l. numbered label_of 0 zs ++ l) over.0 ∙ append-nil (numbered label_of 0 zs)))
              ∙ (λ i. one i ++ (two i ++ three i))
              ∙ sym (append_assoc (first_lines (input_printed t c s) (length t.buses)) (first_lines (output_printed t c s) (length t.outputs)) (first_lines (label_printed t c s) (length t.labels))),
          over.1,
        )

  -- tables without a row
  blank_only : (lines : List (List ℕ)) (rest : List ℕ) (s : SeenRows) → row_count t ≡ 0 → lines_said t c 0 0 lines rest ≡ Ok s → (lines ≡ [] ∷ []) × (rest ≡ [])
  blank_only [] rest s none is = (let e = end_says t c 0 0 rest s is in let some = some_wanted t in absurd (omega (arith, e.2, some)))
  blank_only (line ∷ lines) rest s none is =
      let (r, more, here, later, same) = line_says t c 0 0 line lines rest s is in
      let over = nothing_behind t c (0 + length line + 1) 1 lines rest more (omega (arith, one_wanted t none)) later in
      elim (cases_eq (length line) 0) [
        | inl empty ↦ ((λ i. nil_from_length line empty i ∷ over.0 i), over.1)
        | inr long ↦ let bad = other_at t c 0 line refl none long in absurd (cc)
      ]

  pub only_printed : (s : SeenRows) (text : List ℕ) → seen_of t c text ≡ Ok s → text ≡ printed t c s
  unfolding seen_of
  only_printed s text is = elim (cases_eq (row_count t) 0) [
    | inl none ↦
        let lines = blank_only (lines_of text).0 (lines_of text).1 s none is in
        let blank : printed_lines t c s ≡ [] = nil_from_length (printed_lines t c s) (omega (arith, count_printed t c s, none)) in
        sym (text_is text) ∙ (λ i. spelled (lines.0 i) ++ lines.1 i) ∙ ap (λ ls. spelled (or_blank ls)) (sym blank)
    | inr other ↦
        let some : 0 < row_count t = omega (arith, other) in
        let lines = lines_only some (lines_of text).0 (lines_of text).1 s is in
        sym (text_is text) ∙ (λ i. spelled (lines.0 i) ++ lines.1 i) ∙ append-nil (spelled (printed_lines t c s))
        ∙ ap (λ ls. spelled ls) (sym (blank_not (printed_lines t c s) (omega (arith, count_printed t c s, some))))
  ]
