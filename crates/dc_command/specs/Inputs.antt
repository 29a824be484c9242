-- Which orders read standard input once at most.
use Rattle.std.specs.Prelude.{◌≡◌, ℕ, List, Some, IfSome, codes}
use Rattle.dc_command.specs.declared.asked.Order.{Order}
use Rattle.dc_command.specs.declared.asked.Order.TheVariants.{Check, Report, ReportObserved, Margins, Survey, Trace, Replay, Audit, Observe, Bench, Design}

-- the path names a file, and not standard input
abbrev pub IsNotInput : List ℕ → Type 0
IsNotInput path = path ≡ codes "-" → ⊥

-- at most one of the paths names standard input
abbrev pub AreNotBothInput : List ℕ → List ℕ → Type 0
AreNotBothInput tables certificate = tables ≡ codes "-" → IsNotInput certificate

-- at most one of the three paths does
abbrev pub AreNotTwoInput : List ℕ → List ℕ → List ℕ → Type 0
AreNotTwoInput tables certificate observed = AreNotBothInput tables certificate × AreNotBothInput tables observed × AreNotBothInput certificate observed

-- The order names standard input at most once, and not where it reads its trace or its capture there.
abbrev pub HasOneInput : Order → Type 0
HasOneInput (Check tables certificate workers digest) = AreNotBothInput tables.now certificate.now
HasOneInput (Report tables (Some certificate) drift) = AreNotBothInput tables.now certificate.now
HasOneInput (ReportObserved tables certificate observed drift) = AreNotTwoInput tables.now certificate.now observed.now
HasOneInput (Margins tables (Some certificate) microseconds drift json) = AreNotBothInput tables.now certificate.now
HasOneInput (Survey tables) = IsNotInput tables.now
HasOneInput (Trace tables from) = IsNotInput tables.now
HasOneInput (Replay tables all long) = IsNotInput tables.now
HasOneInput (Audit tables certificate long) = IsNotInput tables.now × IsNotInput certificate.now
HasOneInput (Observe tables certificate) = IsNotInput tables.now × IsNotInput certificate.now
HasOneInput (Bench tables certificate ticks marks) = AreNotBothInput tables.now certificate.now
HasOneInput (Design inputs outputs tick headroom police certificate) = AreNotBothInput inputs.now outputs.now × IfSome certificate (λ c. IsNotInput c.now)
HasOneInput _ = Unit {0}
