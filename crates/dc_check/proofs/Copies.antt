-- A usable word stays usable when it is copied.
use Rattle.std.proofs.Common.{◌≡◌, ℕ, ◌+◌, ◌*◌, ◌/◌, ◌%◌, ◌-◌, ◌<◌, true, arith}
use Rattle.dc_word.specs.Format.{is_usable}
use Rattle.dc_word.specs.Word.{reversed, ones_in, data_of, ssm_of, body_of, composed_word, copied_word}
use Rattle.dc_word.specs.declared.format.Format.{Format}
use Rattle.dc_word.specs.declared.format.Format.TheVariants.{Bnr, Bcd, Disc}

-- the top of a word: its SSM and its parity bit
top : (low ssm odd : ℕ) → low < 536870912 → ssm < 4 → (low + ssm * 536870912 + odd * 2147483648) / 536870912 % 4 ≡ ssm
top low ssm odd h k = omega arith

reversed-small : (n : ℕ) → reversed n < 256
unfolding reversed
reversed-small n = omega arith

ssm-composed : (label sdi bits ssm : ℕ) → sdi < 4 → bits < 524288 → ssm < 4 → ssm_of (composed_word label sdi bits ssm) ≡ ssm
unfolding composed_word body_of
ssm-composed label sdi bits ssm s b k =
    top (reversed label + sdi * 256 + bits * 1024) ssm (1 - ones_in 32 (body_of label sdi bits ssm) % 2) (omega (arith, reversed-small label)) k

pub ssm-copied : (label sdi w : ℕ) → sdi < 4 → ssm_of (copied_word label sdi w) ≡ ssm_of w
unfolding copied_word
ssm-copied label sdi w s = ssm-composed label sdi (data_of w) (ssm_of w) s (omega arith) (omega arith)

pub usable-copied : (format : Format) (label sdi w : ℕ) → sdi < 4 → is_usable format w ≡ true → is_usable format (copied_word label sdi w) ≡ true
usable-copied Bnr label sdi w s u = rw (ssm-copied label sdi w s) u
usable-copied Bcd label sdi w s u = rw (ssm-copied label sdi w s) u
usable-copied Disc label sdi w s u = rw (ssm-copied label sdi w s) u
