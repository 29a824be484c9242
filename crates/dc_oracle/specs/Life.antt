-- How a stream has come so far.
use Rattle.std.specs.Prelude.{◌≡◌, ℕ, ◌+◌, ◌-◌, ◌≤◌, ◌<◌, Bool, true, false, nat_le, ◌&&◌, if◌then◌else◌, ◌⊎◌, List, length, slice_index_or}
use Rattle.std.specs.List.{All}
use Rattle.dc_bound.specs.Window.{count_in}
use Rattle.dc_word.specs.Format.{is_usable}
use Rattle.dc_word.specs.declared.format.Format.{Format}
use Rattle.dc_word.specs.declared.format.Format.TheVariants.{Bnr, Bcd, Disc}
use Rattle.dc_oracle.specs.declared.life.Life.{Life}

-- one more than the last tick from which on `maximum` ticks, whole at this one, brought nothing
abbrev pub broken_at : (maximum tick : ℕ) → Life → ℕ
broken_at maximum tick l = if nat_le (l.quiet + maximum) tick then tick - maximum + 1 else l.broken

-- whether `stale` ticks are over, and each `maximum` of the last of them brought a word
abbrev pub alive_at : (maximum stale tick : ℕ) → Life → Bool
alive_at maximum stale tick l = nat_le stale tick && nat_le (broken_at maximum tick l) (tick - stale)

-- one more than the tick of the last word that the format cannot use, with a word more
abbrev pub spoilt : Format → (tick word before : ℕ) → ℕ
spoilt format tick word before = if is_usable format word then before else tick + 1

-- the same of a format
abbrev pub spoilt_in : Format → Life → ℕ
spoilt_in Bnr l = l.bnr
spoilt_in Bcd l = l.bcd
spoilt_in Disc l = l.disc

-- whether the format can use the words of the last `stale` ticks and of the running one
abbrev pub fine_at : Format → (stale tick : ℕ) → Life → Bool
fine_at format stale tick l = nat_le (spoilt_in format l) (tick - stale)

-- whether both
abbrev pub good_at : (maximum : ℕ) → Format → (stale tick : ℕ) → Life → Bool
good_at maximum format stale tick l = alive_at maximum stale tick l && fine_at format stale tick l

-- the life with a word more, in this tick
abbrev pub lived : (maximum tick word : ℕ) → Life → Life
lived maximum tick word l = record {
  quiet = tick + 1;
  broken = broken_at maximum tick l;
  bnr = spoilt Bnr tick word l.bnr;
  bcd = spoilt Bcd tick word l.bcd;
  disc = spoilt Disc tick word l.disc;
}

-- nothing came
abbrev pub no_life : Life
no_life = record { quiet = 0; broken = 0; bnr = 0; bcd = 0; disc = 0 }

-- what it says of the ticks in which words came, up to this one
pub record BeatsAs (maximum tick : ℕ) (ts : List ℕ) (l : Life) : Type 0 where
  -- nothing came from `quiet` on, and where anything came it came in the tick before
  pub past : l.quiet ≤ tick + 1
  pub silent : (u d : ℕ) → l.quiet ≤ u → count_in u d ts ≡ 0
  pub last : (u d : ℕ) → u < l.quiet → l.quiet ≤ u + d → 1 ≤ count_in u d ts
  -- from `broken` on each `maximum` ticks up to the last word hold one, and those before do not
  pub beats : (u : ℕ) → l.broken ≤ u → u + maximum < l.quiet → 1 ≤ count_in u maximum ts
  pub gap : (l.broken ≡ 0) ⊎ ((count_in (l.broken - 1) maximum ts ≡ 0) × (l.broken + maximum ≤ l.quiet))

-- the word of this number, among those that came as (tick, (number of the stream, word)), is the stream's, and the format cannot use it
pub record SpoilsAt (format : Format) (s k : ℕ) (ws : List (ℕ × (ℕ × ℕ))) (n : ℕ) : Type 0 where
  pub there : n < length ws
  pub own : (slice_index_or ws n (0, (0, 0))).1.0 ≡ s
  pub tick : (slice_index_or ws n (0, (0, 0))).0 + 1 ≡ k
  pub useless : is_usable format (slice_index_or ws n (0, (0, 0))).1.1 ≡ false

-- from tick k on the format can use the stream's words; and, where k is not 0, not that of the tick before
pub record IsFineFrom (format : Format) (s k : ℕ) (ws : List (ℕ × (ℕ × ℕ))) : Type 0 where
  pub fine : All (λ a. k ≤ a.0 → a.1.0 ≡ s → is_usable format a.1.1 ≡ true) ws
  pub spoilt : (k ≡ 0) ⊎ ((n : ℕ) × SpoilsAt format s k ws n)

-- it stands for the stream's ticks and the words of its bus, up to this tick
pub record IsLife (maximum s tick : ℕ) (ts : List ℕ) (ws : List (ℕ × (ℕ × ℕ))) (l : Life) : Type 0 where
  pub beats : BeatsAs maximum tick ts l
  pub words : (format : Format) → IsFineFrom format s (spoilt_in format l) ws
