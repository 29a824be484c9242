-- What is built of what was read tells it.
use Rattle.std.proofs.Common.{◌≡◌, ◌∙◌, ap, subst, sym, IfOk, Result, Ok, Err, inl, inr}
use Rattle.dc_build.specs.Reported.{TellsWritten}
use Rattle.dc_build.specs.RowsOf.{AreRows}
use Rattle.dc_build.specs.Written.{WrittenRows}
use Rattle.dc_document.specs.Document.{Document}
use Rattle.dc_document.specs.declared.fault.BuildError.{BuildError}
use Rattle.dc_document.specs.declared.fault.BuildError.TheVariants.{Refused, Memory}
use Rattle.dc_rules.specs.Rules.{Tells, verdict_of}
use Rattle.dc_toml.specs.Faults.{Reading}
use Rattle.dc_toml.specs.Written.{Written, written}

pub written_tells : (reading : Reading Written) (parts : Document) (result : Result WrittenRows BuildError) → reading ≡ Ok (written parts) → Tells (verdict_of parts) result
    → IfOk result (λ w. w.parts ≡ parts) → IfOk result (λ w. AreRows w.parts w.tables) → TellsWritten reading result
written_tells reading parts (Ok w) said tells same rows =
    record { said = said ∙ ap (λ d. Ok (written d)) (sym same); valid = subst (λ d. verdict_of d ≡ Ok tt) (sym same) tells; rows_of = rows }
written_tells reading parts (Err (Refused fault)) said tells same rows = inr (record { parts = parts; said = said; broken = tells })
written_tells reading parts (Err (Memory e)) said tells same rows = tt
