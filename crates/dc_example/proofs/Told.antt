-- What tells the tables of a text that says the example's.
use Rattle.std.proofs.Common.{◌≡◌, Result, Ok, Err, is_ok, inl, inr, sym, ap, ◌∙◌, true≢false}
use Rattle.dc_document.specs.declared.fault.BuildError.{BuildError}
use Rattle.dc_document.specs.declared.fault.BuildError.TheVariants.{Refused, Memory}
use Rattle.dc_rules.specs.Rules.{verdict_of}
use Rattle.dc_tables.specs.TableRows.{TableRows}
use Rattle.dc_build.specs.RowsOf.{AreRows}
use Rattle.dc_toml.specs.Faults.{Reading}
use Rattle.dc_build.specs.Reported.{TellsTables}
use Rattle.dc_toml.specs.Written.{Written, written}
use Rattle.dc_check.specs.Small.{small_tables}
use Rattle.dc_example.specs.Example.{IsSmall}
use Rattle.dc_example.proofs.Worked.{example_written, of_example, passes, rows_are}

ok_or : {A E : Type 0} → A → Result A E → A
ok_or a (Ok x) = x
ok_or a (Err e) = a

what_said : (reading : Reading Written) (w : Written) → reading ≡ Ok example_written → reading ≡ Ok w → w ≡ example_written
unfolding ok_or
what_said reading w is said = ap (ok_or example_written) (sym said ∙ is)

is_no_error : {A E : Type 0} (a : A) (e : E) → Ok a ≡ Err e → ⊥
is_no_error a e same = true≢false (ap is_ok same)

pub small : (reading : Reading Written) → reading ≡ Ok example_written → (answer : Result TableRows BuildError) → TellsTables reading answer → IsSmall answer
small reading is (Ok rows) h = of_example (λ d. AreRows d rows → rows ≡ small_tables) (λ r x a b c. rows_are r x a b c rows) h.parts (what_said reading (written h.parts) is h.said) h.rows_of
small reading is (Err (Memory e)) h = tt
small reading is (Err (Refused fault)) (inl faulty) = is_no_error example_written fault (sym is ∙ faulty)
small reading is (Err (Refused fault)) (inr h) = is_no_error tt (Refused fault) (sym (of_example (λ d. verdict_of d ≡ Ok tt) passes h.parts (what_said reading (written h.parts) is h.said)) ∙ h.broken)
