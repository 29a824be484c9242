use Rattle.std.proofs.Common.{ℕ, refl, subst}
use Rattle.dc_check.specs.Accepts.{Accepts}
use Rattle.dc_check.specs.Small.{small_tables, small_claims}
use Rattle.dc_in_time.proofs.Policed.{policed_valid, policed_accepted, policed_fits, policed_admissible, policed_word}
use Rattle.dc_in_time.proofs.laws.oldest_word_of_the_policed_tables.Goals as goal

pub returns : goal.returns
returns c =
    let P : ℕ → Type 0 = λ age. Accepts small_tables (small_claims age) in
    record {
      valid = policed_valid c.least_age_of_the_small_tables.ensures.valid;
      accepted = policed_accepted (subst P c.least_age_of_the_small_tables.ensures.value c.least_age_of_the_small_tables.ensures.accepted);
      fits = policed_fits;
      admissible = policed_admissible;
      old = policed_word;
      value = refl;
    }
