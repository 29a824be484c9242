-- What C is told of the least certificate.
use Rattle.std.specs.Prelude.{◌≡◌, ℕ, List, length, Bool, true, false, Result, Ok, Err, String, string_bytes}
use Rattle.std.specs.declared.alloc.Global.{Global}
use Rattle.dc_engine.specs.declared.fault.Report.{Report}
use Rattle.dc_texts.specs.Finding.{FindsText}
use Rattle.dc_texts.specs.Reports.{not_found_report}
use Rattle.dc_texts.specs.declared.fault.NotFound.{NotFound}
use Rattle.dc_embed.specs.Slots.{front_put, no_fault}

-- what is told of a text that was found, or was not: the text is written where there is room, and its length is told in any case
abbrev pub TellsFound : Result (String Global) NotFound → List ℕ → List ℕ → ℕ → Report → Bool → Type 0
TellsFound (Ok text) old new length_told report answer =
    (new ≡ front_put (string_bytes text) old) × (length_told ≡ length (string_bytes text)) × (report ≡ no_fault) × (answer ≡ true)
TellsFound (Err fault) old new length_told report answer = (new ≡ old) × (length_told ≡ 0) × (report ≡ not_found_report fault) × (answer ≡ false)

-- what is found for the tables of a text, and told of it
pub record FindsCertificate (tables old new : List ℕ) (length_told : ℕ) (report : Report) (answer : Bool) : Type 0 where
  pub found : Result (String Global) NotFound
  pub finds : FindsText tables found
  pub told : TellsFound found old new length_told report answer
