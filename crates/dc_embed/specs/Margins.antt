-- What is told to C of the text of margins.
use Rattle.std.specs.Prelude.{◌≡◌, ℕ, Bool, true, false, List, length, IfOk, Option, None, Some, Result, Ok, Err}
use Rattle.std.specs.declared.alloc.AllocError.{AllocError}
use Rattle.dc_engine.specs.Answers.{report_of}
use Rattle.dc_engine.specs.declared.fault.OpenFault.TheVariants.{Memory}
use Rattle.dc_engine.specs.declared.fault.Report.{Report}
use Rattle.dc_texts.specs.Margins.{IsLeastMarginsText, IsLeastRefusal, IsMarginsText, IsRefusal}
use Rattle.dc_texts.specs.declared.margins.MarginsText.{MarginsText}
use Rattle.dc_embed.specs.Slots.{front_put, no_fault}

-- what is told of a refusal, or that there is none
abbrev pub TellsRefusal : Option Report → Report → Bool → Type 0
TellsRefusal None report answer = (report ≡ no_fault) × (answer ≡ true)
TellsRefusal (Some why) report answer = (report ≡ why) × (answer ≡ false)

-- what is told of a text that was printed: it is written where there is room, and its length is told in any case; nothing is where memory was refused
abbrev pub TellsMargins : Result MarginsText AllocError → List ℕ → List ℕ → ℕ → Report → Bool → Type 0
TellsMargins (Ok printed) old new length_told report answer =
    (new ≡ front_put printed.text.items old) × (length_told ≡ length printed.text.items) × TellsRefusal printed.refusal report answer
TellsMargins (Err e) old new length_told report answer = (new ≡ old) × (length_told ≡ 0) × (report ≡ report_of Memory) × (answer ≡ false)

-- what is printed of texts, and told of it
pub record Prints (IsText : List ℕ → Type 0) (IsWhy : Option Report → Type 0) (old new : List ℕ) (length_told : ℕ) (report : Report) (answer : Bool) : Type 0 where
  pub printed : Result MarginsText AllocError
  pub is : IfOk printed (λ m. IsText m.text.items × IsWhy m.refusal)
  pub told : TellsMargins printed old new length_told report answer

-- of tables and a certificate
abbrev pub PrintsMargins : (tables certificate old new : List ℕ) → ℕ → Report → Bool → Type 0
PrintsMargins tables certificate = Prints (IsMarginsText tables certificate) (IsRefusal tables certificate)

-- of tables alone
abbrev pub PrintsLeastMargins : (tables old new : List ℕ) → ℕ → Report → Bool → Type 0
PrintsLeastMargins tables = Prints (IsLeastMarginsText tables) (IsLeastRefusal tables)
