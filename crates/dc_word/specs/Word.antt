-- The fields of a word (ARINC Specification 429 Part 1, 2.1). A word is a number of 32 bits, numbered 1 to 32: bit n has the value 2 ^ (n - 1).
-- Labels, SDIs, data and SSMs are numbers too; a label is the number that its three octal digits write.
use Rattle.std.specs.Prelude.{◌≡◌, ℕ, zero, suc, ◌+◌, ◌-◌, ◌*◌, ◌/◌, ◌%◌, ◌^◌, ◌<◌, Bool, ◌==◌, nat_lt, if◌then◌else◌, ℤ, pos, negsuc}

-- the lowest eight binary digits of a number, in the other order
unfoldable pub reversed : ℕ → ℕ
reversed n =
    128 * (n % 2) + 64 * (n / 2 % 2) + 32 * (n / 4 % 2) + 16 * (n / 8 % 2)
    + 8 * (n / 16 % 2) + 4 * (n / 32 % 2) + 2 * (n / 64 % 2) + n / 128 % 2

-- the label: bits 1 to 8, the most significant in bit 1 (ARINC Specification 429 Part 1, 2.1.3)
abbrev pub label_of : ℕ → ℕ
label_of w = reversed w

-- the SDI: bits 9 and 10 (ARINC Specification 429 Part 1, 2.1.4)
abbrev pub sdi_of : ℕ → ℕ
sdi_of w = w / 2 ^ 8 % 2 ^ 2

-- the data: bits 11 to 29
abbrev pub data_of : ℕ → ℕ
data_of w = w / 2 ^ 10 % 2 ^ 19

-- the SSM: bits 30 and 31 (ARINC Specification 429 Part 1, 2.1.5)
abbrev pub ssm_of : ℕ → ℕ
ssm_of w = w / 2 ^ 29 % 2 ^ 2

-- the number of ones among the lowest n binary digits of a number
unfoldable pub ones_in : ℕ → ℕ → ℕ
ones_in zero w = 0
ones_in (suc n) w = w % 2 + ones_in n (w / 2)

-- whether the number of ones in all 32 bits is odd (ARINC Specification 429 Part 1, 2.3.4)
unfoldable pub is_odd : ℕ → Bool
is_odd w = ones_in 32 w % 2 == 1

-- odd parity
abbrev pub IsOddParity : ℕ → Type 0
IsOddParity w = ones_in 32 w % 2 ≡ 1

-- the data as a number in two's complement, its sign in bit 29
unfoldable pub bnr_of : ℕ → ℤ
bnr_of w = if nat_lt (data_of w) (2 ^ 18) then pos (data_of w) else negsuc (2 ^ 19 - 1 - data_of w)

-- a word with these fields
pub record HasFields (w label sdi bits ssm : ℕ) : Type 0 where
  pub label_is : label_of w ≡ label
  pub sdi_is : sdi_of w ≡ sdi
  pub data_is : data_of w ≡ bits
  pub ssm_is : ssm_of w ≡ ssm

-- a word of 32 bits with these fields and odd parity, and there is no other
pub record IsOneOddWord (word label sdi bits ssm : ℕ) : Type 0 where
  pub fits : word < 2 ^ 32
  pub fields : HasFields word label sdi bits ssm
  pub odd : IsOddParity word
  pub only : (w : ℕ) → w < 2 ^ 32 → HasFields w label sdi bits ssm → IsOddParity w → w ≡ word

-- bits 1 to 31 of a word with these fields
unfoldable pub body_of : (label sdi bits ssm : ℕ) → ℕ
body_of label sdi bits ssm = reversed label + sdi * 2 ^ 8 + bits * 2 ^ 10 + ssm * 2 ^ 29

-- the odd word with these fields
unfoldable pub composed_word : (label sdi bits ssm : ℕ) → ℕ
composed_word label sdi bits ssm =
    body_of label sdi bits ssm + (1 - ones_in 32 (body_of label sdi bits ssm) % 2) * 2 ^ 31

-- a source word's data and SSM under a label and an SDI
unfoldable pub copied_word : (label sdi w : ℕ) → ℕ
copied_word label sdi w = composed_word label sdi (data_of w) (ssm_of w)

-- the word that leaves where there is no source: data 0, no computed data
unfoldable pub fallback_word : (label sdi : ℕ) → ℕ
fallback_word label sdi = composed_word label sdi 0 1
