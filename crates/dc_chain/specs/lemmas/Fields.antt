-- The fields of the words that a label sends.
use Rattle.std.proofs.Common.{ℕ, ◌<◌, arith}
use Rattle.dc_word.proofs.Fields.{composed_word-one}
use Rattle.dc_word.specs.Word.{HasFields, data_of, ssm_of, copied_word, fallback_word}

-- a copied word has its source's data and SSM, the fallback is no computed data
pub copied-fields : (label sdi w : ℕ) → label < 256 → sdi < 4 → HasFields (copied_word label sdi w) label sdi (data_of w) (ssm_of w)
unfolding copied_word
copied-fields label sdi w l s = (composed_word-one label sdi (data_of w) (ssm_of w) l s (omega arith) (omega arith)).fields

pub fallback-fields : (label sdi : ℕ) → label < 256 → sdi < 4 → HasFields (fallback_word label sdi) label sdi 0 1
unfolding fallback_word
fallback-fields label sdi l s = (composed_word-one label sdi 0 1 l s (omega arith) (omega arith)).fields
