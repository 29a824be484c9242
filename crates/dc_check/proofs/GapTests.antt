-- The certificate's conditions on gaps, by the least and the greatest gap.
use Rattle.std.proofs.Common.{◌≡◌, ℕ, ◌+◌, ◌-◌, ◌<◌, ◌≤◌, ◌↔◌, zero, suc, List, [], ◌∷◌, length, get_or, take, refl, sym, ◌∙◌, ap, arith, Bool, true, false, ◌&&◌}
use Rattle.std.specs.Prelude.{nat_le}
use Rattle.std.specs.List.{All, list_all}
use Rattle.std.proofs.lemmas.Bool.{le-leb, leb-true, lt-leb}
use Rattle.std.proofs.lemmas.List.Folds.{list_all_more, list_all_at}
use Rattle.std.proofs.lemmas.List.Sums.{AllPass-from_list_all, list_all-from_AllPass}
use Rattle.std.proofs.lemmas.List.{get_or_default, take_all}
use Rattle.dc_check.proofs.Emissions.{all_at_least, all_at_most, label_spaced, eq_test}
use Rattle.dc_check.proofs.Outputs.{output_frame}
use Rattle.dc_check.specs.Accepts.{gaps_of}
use Rattle.dc_tables.specs.TableRows.{TableRows, AreValid, output_row, entry_row, label_row}
use Rattle.dc_tables.specs.declared.rows.Entry.{Entry}
use Rattle.dc_transmit.specs.lemmas.GapLaws.{least_le, next_after, first_le}
use Rattle.dc_transmit.specs.Gaps.{first_off, gaps, least_of, greatest_of, least_gap, greatest_gap}
use Rattle.dc_transmit.specs.Schedule.{schedule_of, least_label_gap, greatest_label_gap, off, no_entry, is_of_label}

each_from_least : (b most : ℕ) (xs : List ℕ) → b ≤ least_of most xs → (k : ℕ) → k < length xs → b ≤ get_or xs k 0
each_from_least b most [] h k l = absurd (omega arith)
each_from_least b most (x ∷ xs) h zero l = omega arith
each_from_least b most (x ∷ xs) h (suc k) l = each_from_least b most xs (omega arith) k (omega arith)

each_from_greatest : (b d : ℕ) (xs : List ℕ) → greatest_of xs + d ≤ b → (k : ℕ) → k < length xs → get_or xs k 0 + d ≤ b
each_from_greatest b d [] h k l = absurd (omega arith)
each_from_greatest b d (x ∷ xs) h zero l = omega arith
each_from_greatest b d (x ∷ xs) h (suc k) l = each_from_greatest b d xs (omega arith) k (omega arith)

least_over : (b most : ℕ) (xs : List ℕ) → b ≤ most → ((k : ℕ) → k < length xs → b ≤ get_or xs k 0) → b ≤ least_of most xs
least_over b most [] s h = s
least_over b most (x ∷ xs) s h = omega (arith, h 0 (omega arith), least_over b most xs s (λ k l. h (suc k) (omega arith)))

-- within the list the default plays no part
at_default : (xs : List ℕ) (k d : ℕ) → k < length xs → get_or xs k d ≡ get_or xs k 0
at_default xs k d l = get_or_default xs k d 0 l

-- each gap is at least b where the least is
pub label_least : (t : TableRows) → AreValid t → (x : ℕ) → x < length t.labels → (b : ℕ) →
    All (λ g. b ≤ g) (gaps_of t x) ↔ (b ≤ least_gap off (is_of_label x) (output_row t (label_row t x).output).frame (output_row t (label_row t x).output).entries)
unfolding gaps
label_least t v x h b =
    let f = output_frame t v (label_row t x).output (v.labels_on_outputs x h) in
    let some = v.labels_in_frames x h in
    let here = eq_test (entry_row t (label_row t x).output some.0).label x some.2 in
    let frame : ℕ = (output_row t (label_row t x).output).frame in
    let es : List Entry = (output_row t (label_row t x).output).entries in (
      (λ all.
          let low = all_at_least b (gaps_of t x) (λ k l. all k 0 l) in
          let one = least_le off (is_of_label x) no_entry b ((output_row t (label_row t x).output).frame + first_off off (is_of_label x) (output_row t (label_row t x).output).entries 0) (output_row t (label_row t x).output).entries some.0 some.1 here in
          let next = next_after off (is_of_label x) no_entry (output_row t (label_row t x).output).frame (output_row t (label_row t x).output).entries f some.0 some.1 here in
          let front = first_le off (is_of_label x) no_entry (output_row t (label_row t x).output).entries f.ascend 0 some.0 some.1 here in
          let small : b ≤ (output_row t (label_row t x).output).frame = omega (arith, low, one, next.1, front) in
          omega (arith, least_over b (output_row t (label_row t x).output).frame (gaps_of t x) small (λ k l. all k 0 l))),
      (λ least k d l. omega (arith, at_default (gaps_of t x) k d l, each_from_least b (output_row t (label_row t x).output).frame (gaps_of t x) (omega (arith)) k l)),
    )

-- each gap and d are at most b where the greatest and d are
pub label_greatest : (t : TableRows) → AreValid t → (x : ℕ) → x < length t.labels → (b d : ℕ) →
    All (λ g. g + d ≤ b) (gaps_of t x) ↔ (greatest_gap off (is_of_label x) (output_row t (label_row t x).output).frame (output_row t (label_row t x).output).entries + d ≤ b)
label_greatest t v x h b d =
    let spaced = label_spaced t v x h 0 in
    let some : 1 ≤ greatest_of (gaps_of t x) =
    (let first = spaced.first in let next = spaced.next first.0 first.1 in omega (arith, next.3, spaced.ascend first.0 next.0 next.1)) in (
      (λ all. omega (arith, all_at_most b d (gaps_of t x) (λ k l. all k 0 l) some)),
      (λ most k z l. omega (arith, at_default (gaps_of t x) k z l, each_from_greatest b d (gaps_of t x) (omega (arith)) k l)),
    )

-- ---- the two rules on gaps, as tests

same_test : (a b : Bool) → (a ≡ true → b ≡ true) → (b ≡ true → a ≡ true) → a ≡ b
same_test true b f g = sym (f refl)
same_test false true f g = g refl
same_test false false f g = refl

-- each gap is at least b where the least gap is
pub soon-test : (t : TableRows) → AreValid t → (x : ℕ) → x < length t.labels → (b : ℕ) →
    list_all (λ g. nat_le b g) (gaps_of t x) ≡ nat_le b (least_label_gap (schedule_of t (label_row t x).output) x)
soon-test t v x h b =
    same_test _ _
    (λ all. le-leb _ _ ((label_least t v x h b).0 (λ k d l. leb-true _ _ (AllPass-from_list_all (λ g. nat_le b g) (gaps_of t x) all k d l))))
    (λ least. list_all-from_AllPass (λ g. nat_le b g) (gaps_of t x) (λ k d l. le-leb _ _ ((label_least t v x h b).1 (leb-true _ _ least) k d l)))

-- each gap and d are at most b where the greatest and d are
pub late-test : (t : TableRows) → AreValid t → (x : ℕ) → x < length t.labels → (b d : ℕ) →
    list_all (λ g. nat_le (g + d) b) (gaps_of t x) ≡ nat_le (greatest_label_gap (schedule_of t (label_row t x).output) x + d) b
late-test t v x h b d =
    same_test _ _
    (λ all. le-leb _ _ ((label_greatest t v x h b d).0 (λ k z l. leb-true _ _ (AllPass-from_list_all (λ g. nat_le (g + d) b) (gaps_of t x) all k z l))))
    (λ most. list_all-from_AllPass (λ g. nat_le (g + d) b) (gaps_of t x) (λ k z l. le-leb _ _ ((label_greatest t v x h b d).1 (leb-true _ _ most) k z l)))

-- ---- sums and differences in tests

pub moved : (m g d : ℕ) → d ≤ g → nat_le m (g - d) ≡ nat_le (m + d) g
moved m g d h = same_test _ _ (λ a. le-leb _ _ (omega (arith, leb-true _ _ a))) (λ a. le-leb _ _ (omega (arith, leb-true _ _ a)))

pub over : (m g d : ℕ) → g < d → nat_le d g ≡ nat_le (m + d) g
over m g d h = lt-leb d g h ∙ sym (lt-leb (m + d) g (omega arith))

-- ---- a loop over a list

pub each-passed : (p : ℕ → Bool) (xs : List ℕ) (k : ℕ) → length xs ≤ k → list_all p (take k xs) ≡ true → list_all p xs ≡ true
each-passed p xs k l h = ap (list_all p) (sym (take_all k xs l)) ∙ h

pub passed-more : (p : ℕ → Bool) (xs : List ℕ) (k : ℕ) → k < length xs → list_all p (take k xs) ≡ true → p (get_or xs k 0) ≡ true → list_all p (take (k + 1) xs) ≡ true
passed-more p xs k l h here = list_all_more p xs k 0 l ∙ ap (λ b. b && p (get_or xs k 0)) h ∙ here

pub failed-at : (p : ℕ → Bool) (xs : List ℕ) (k : ℕ) → k < length xs → p (get_or xs k 0) ≡ false → false ≡ list_all p xs
failed-at p xs k l here = sym (list_all_at p xs k 0 l here)
