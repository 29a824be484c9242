-- The gaps of a label by one pass from the last entry to the first.
use Rattle.std.proofs.Common.{◌≡◌, ℕ, ◌+◌, ◌==◌, true, List, drop, arith}
use Rattle.std.proofs.lemmas.Bool.Decides.{nat_tests}
use Rattle.dc_tables.specs.declared.rows.Entry.{Entry}
use Rattle.dc_transmit.specs.Gaps.{first_off, gaps_to, gaps, least_of, greatest_of, least_gap, greatest_gap}
use Rattle.dc_transmit.specs.Schedule.{off, is_of_label}

same_label : (a b : ℕ) → a ≡ b → (a == b) ≡ true
same_label a b h = grind (arith, nat_tests)

-- what has been found in the entries from number n on, where the first one after the list stands at d
pub record Scanned (x d most : ℕ) (es : List Entry) (n next least greatest : ℕ) : Type 0 where
  pub next_is : next ≡ first_off off (is_of_label x) (drop n es) d
  pub least_is : least ≡ least_of most (gaps_to off (is_of_label x) d (drop n es))
  pub greatest_is : greatest ≡ greatest_of (gaps_to off (is_of_label x) d (drop n es))

pub scan_all : (x frame next least greatest : ℕ) (es : List Entry) → Scanned x (frame + first_off off (is_of_label x) es 0) frame es 0 next least greatest →
    (least ≡ least_gap off (is_of_label x) frame es) × (greatest ≡ greatest_gap off (is_of_label x) frame es) × (next ≡ first_off off (is_of_label x) es (frame + first_off off (is_of_label x) es 0))
unfolding gaps
scan_all x frame next least greatest es s = (s.least_is, s.greatest_is, s.next_is)
