-- Where digests stand behind an answer.
use Rattle.std.proofs.Common.{◌≡◌, ℕ, ◌<◌, ◌≤◌, List, length, refl, sym, ◌∙◌, arith, nat_le, Bool, true, false, if◌then◌else◌, Ok, Err}
use Rattle.std.proofs.lemmas.Bool.Decides.{nat_tests}
use Rattle.sha2.specs.Sha256.{sha256}
use Rattle.dc_answer.specs.Answer.{Answer}
use Rattle.dc_answer.specs.declared.inputs.Unloaded.TheVariants.{Refused}
use Rattle.dc_answer.specs.lemmas.Loading.{no_json, over, refused_certificate}
use Rattle.dc_cert.specs.NamedRows.{NamedRows}
use Rattle.dc_cert.specs.Reading.{certificate_of}
use Rattle.dc_document.specs.declared.limits.TheConstants.{TEXT_LIMIT}
use Rattle.std.specs.Prelude.{Some}
use Rattle.dc_digest.specs.Behind.{behind, digest_lines, with_lines}

within : (n m : ℕ) → n ≤ m → nat_le n m ≡ true
within n m h = grind (arith, nat_tests)

past : (n m : ℕ) → nat_le n m ≡ false → m < n
past n m h = grind (arith, nat_tests)

module _ (digest text : List ℕ) (plain : Answer) where
  -- a text that was read whole has the digests behind its answer
  pub whole_behind : length text ≤ TEXT_LIMIT → behind digest text plain ≡ with_lines (digest_lines digest (sha256 text)) plain
  whole_behind h = rw (within (length text) TEXT_LIMIT h) refl

  -- one that is too long has none
  pub long_behind : TEXT_LIMIT < length text → behind digest text plain ≡ plain
  long_behind h = rw (over (length text) TEXT_LIMIT h) refl

-- lines behind an answer change no outcome
kept_outcome : (whole : Bool) (more : List (List ℕ)) (plain : Answer) → (if whole then with_lines more plain else plain).outcome ≡ plain.outcome
kept_outcome true more plain = refl
kept_outcome false more plain = refl

pub behind_outcome : (digest text : List ℕ) (plain : Answer) → (behind digest text plain).outcome ≡ plain.outcome
behind_outcome digest text plain = kept_outcome (nat_le (length text) TEXT_LIMIT) (digest_lines digest (sha256 text)) plain

-- a text that is a certificate was read whole
fits : (text : List ℕ) (claims : NamedRows) (whole : Bool) → nat_le (length text) TEXT_LIMIT ≡ whole → certificate_of text ≡ Ok claims → whole ≡ true
fits text claims true is reads = refl
fits text claims false is reads =
    let none : certificate_of text ≡ Err no_json = refused_certificate (Some text) (Refused no_json) (past (length text) TEXT_LIMIT is, refl) in
    let no : Err no_json ≡ Ok claims = sym none ∙ reads in absurd (cc)

pub read_behind : (digest text : List ℕ) (plain : Answer) (claims : NamedRows) → certificate_of text ≡ Ok claims → behind digest text plain ≡ with_lines (digest_lines digest (sha256 text)) plain
read_behind digest text plain claims reads = rw (fits text claims (nat_le (length text) TEXT_LIMIT) refl reads) refl
