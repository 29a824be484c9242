-- The fields of a composed word, and that they leave room for no other odd word.
use Rattle.std.proofs.Common.{◌≡◌, ℕ, ◌+◌, ◌-◌, ◌*◌, ◌/◌, ◌%◌, ◌^◌, ◌<◌, ap, sym, ◌∙◌, subst, arith, w8}
use Rattle.std.specs.Int.{reverse_bits, reverse_bits_onto}
use Rattle.dc_word.specs.Word.{reversed, sdi_of, data_of, ssm_of, ones_in, IsOddParity, HasFields, IsOneOddWord, body_of, composed_word}
use Rattle.dc_word.proofs.Parity.{odd_by_parity, only_parity}

-- the reversal of eight digits, as std has it
pub reverse_bits_reversed : (n : ℕ) → n < 256 → reverse_bits w8 n ≡ reversed n
unfolding reverse_bits_onto reversed
reverse_bits_reversed n fits = omega arith

pub reversed-fits : (n : ℕ) → reversed n < 256
unfolding reversed
reversed-fits n = omega arith

reversed_reverse_bits : (n : ℕ) → n < 256 → reversed (reverse_bits w8 n) ≡ n
unfolding reverse_bits_onto reversed
reversed_reverse_bits n fits = omega arith

pub reversed-reversed : (n : ℕ) → n < 256 → reversed (reversed n) ≡ n
reversed-reversed n fits = ap reversed (sym (reverse_bits_reversed n fits)) ∙ reversed_reverse_bits n fits

-- only the lowest eight digits are read
pub reversed-low : (low rest : ℕ) → reversed (low + rest * 256) ≡ reversed low
unfolding reversed
reversed-low low rest = omega arith

pub reversed-mod : (n : ℕ) → reversed (n % 256) ≡ reversed n
reversed-mod n =
    let whole : n ≡ n % 256 + n / 256 * 256 = omega arith in
    sym (ap reversed whole ∙ reversed-low (n % 256) (n / 256))

low_part : (low sdi bits ssm top : ℕ) → low + sdi * 2 ^ 8 + bits * 2 ^ 10 + ssm * 2 ^ 29 + top * 2 ^ 31 ≡ low + (sdi + bits * 4 + ssm * 2097152 + top * 8388608) * 256
low_part low sdi bits ssm top = omega arith

sdi_part : (low sdi bits ssm top : ℕ) → low < 256 → sdi < 4 → sdi_of (low + sdi * 2 ^ 8 + bits * 2 ^ 10 + ssm * 2 ^ 29 + top * 2 ^ 31) ≡ sdi
sdi_part low sdi bits ssm top low_fits sdi_fits = omega arith

data_part : (low sdi bits ssm top : ℕ) → low < 256 → sdi < 4 → bits < 2 ^ 19 → data_of (low + sdi * 2 ^ 8 + bits * 2 ^ 10 + ssm * 2 ^ 29 + top * 2 ^ 31) ≡ bits
data_part low sdi bits ssm top low_fits sdi_fits bits_fits = omega arith

ssm_part : (low sdi bits ssm top : ℕ) → low < 256 → sdi < 4 → bits < 2 ^ 19 → ssm < 4 → ssm_of (low + sdi * 2 ^ 8 + bits * 2 ^ 10 + ssm * 2 ^ 29 + top * 2 ^ 31) ≡ ssm
ssm_part low sdi bits ssm top low_fits sdi_fits bits_fits ssm_fits = omega arith

-- whatever the parity bit is, the fields are these
pub fields-body_of : (label sdi bits ssm top : ℕ) → label < 256 → sdi < 4 → bits < 2 ^ 19 → ssm < 4 → HasFields (body_of label sdi bits ssm + top * 2 ^ 31) label sdi bits ssm
unfolding body_of
fields-body_of label sdi bits ssm top label_fits sdi_fits bits_fits ssm_fits =
    let low_fits = reversed-fits label in
    record {
      label_is =
          ap reversed (low_part (reversed label) sdi bits ssm top)
          ∙ reversed-low (reversed label) (sdi + bits * 4 + ssm * 2097152 + top * 8388608)
          ∙ reversed-reversed label label_fits;
      sdi_is = sdi_part (reversed label) sdi bits ssm top low_fits sdi_fits;
      data_is = data_part (reversed label) sdi bits ssm top low_fits sdi_fits bits_fits;
      ssm_is = ssm_part (reversed label) sdi bits ssm top low_fits sdi_fits bits_fits ssm_fits;
    }

pub body_of-fits : (label sdi bits ssm : ℕ) → sdi < 4 → bits < 2 ^ 19 → ssm < 4 → body_of label sdi bits ssm < 2 ^ 31
unfolding body_of
body_of-fits label sdi bits ssm sdi_fits bits_fits ssm_fits = omega (arith, reversed-fits label)

split : (w : ℕ) → w ≡ w % 256 + sdi_of w * 2 ^ 8 + data_of w * 2 ^ 10 + ssm_of w * 2 ^ 29 + w / 2 ^ 31 * 2 ^ 31
split w = omega arith

-- a word is the body of its fields and a parity bit
pub body_of-fields : (w label sdi bits ssm : ℕ) → HasFields w label sdi bits ssm → w ≡ body_of label sdi bits ssm + w / 2 ^ 31 * 2 ^ 31
unfolding body_of
body_of-fields w label sdi bits ssm has =
    let small : w % 256 < 256 = omega arith in
    let low : w % 256 ≡ reversed label =
    sym (reversed-reversed (w % 256) small) ∙ ap reversed (reversed-mod w ∙ has.label_is) in
    omega (arith, split w, low, has.sdi_is, has.data_is, has.ssm_is)

-- the composed word is the one odd word with its fields
pub composed_word-one : (label sdi bits ssm : ℕ) → label < 256 → sdi < 4 → bits < 2 ^ 19 → ssm < 4 → IsOneOddWord (composed_word label sdi bits ssm) label sdi bits ssm
unfolding composed_word
composed_word-one label sdi bits ssm label_fits sdi_fits bits_fits ssm_fits =
    let body = body_of label sdi bits ssm in
    let small = body_of-fits label sdi bits ssm sdi_fits bits_fits ssm_fits in
    record {
      fits = omega (arith, small);
      fields = fields-body_of label sdi bits ssm (1 - ones_in 32 body % 2) label_fits sdi_fits bits_fits ssm_fits;
      odd = odd_by_parity body small;
      only = λ w fits has odd.
          let whole = body_of-fields w label sdi bits ssm has in
          let bit : w / 2 ^ 31 < 2 = omega arith in
          let parity = only_parity body (w / 2 ^ 31) small bit (subst IsOddParity whole odd) in
          whole ∙ ap (λ (top : ℕ). body + top * 2 ^ 31) parity;
    }
