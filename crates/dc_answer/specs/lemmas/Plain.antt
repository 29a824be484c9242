-- What the report of an engine says of its one, two or three sources.
use Rattle.std.proofs.Common.{◌≡◌, ℕ, ◌+◌, List, [], ◌∷◌, ap, refl, subst, add-zero, Bool, true, false, Option, Some, None, IfSome, inl, inr, ◌⊎◌}
use Rattle.dc_answer.specs.Answer.{Answer, Any, Reported, WholeOrNone}
use Rattle.dc_answer.specs.Inputs.{OnlyBehind}
use Rattle.dc_answer.specs.Threads.{ReportsThreads}
use Rattle.dc_answer.specs.declared.exit.Exit.{Exit}
use Rattle.dc_tables.specs.TableRows.{TableRows}
use Rattle.dc_toml.specs.Reading.{tables_of}
use Rattle.dc_build.specs.Reported.{AreTablesOf, AreWrittenBy}
use Rattle.dc_build.specs.Written.{WrittenRows}

-- no thread could have been missing
pub plain : {P X : Type 0} → P ⊎ (⊥ × X) → P
plain (inl p) = p
plain (inr x) = absurd x.0

module _ (Is : Answer → Type 0) (old new : Option (List ℕ)) (k k' : ℕ) (exit : Exit) where
  pub of_one : (a a' : ℕ) → Reported Is old new (a + 0) (a' + 0) k k' exit → Reported Is old new a a' k k' exit
  of_one a a' r =
      subst (λ n. Reported Is old new n a' k k' exit) (add-zero a) (subst (λ n. Reported Is old new (a + 0) n k k' exit) (add-zero a') r)

  pub of_two : (a a' b b' : ℕ) → Reported Is old new (a + (b + 0)) (a' + (b' + 0)) k k' exit → Reported Is old new (a + b) (a' + b') k k' exit
  of_two a a' b b' r =
      subst (λ n. Reported Is old new (a + n) (a' + b') k k' exit) (add-zero b) (subst (λ n. Reported Is old new (a + (b + 0)) (a' + n) k k' exit) (add-zero b') r)

  pub of_three : (a a' b b' c c' : ℕ) → Reported Is old new (a + (b + (c + 0))) (a' + (b' + (c' + 0))) k k' exit → Reported Is old new (a + (b + c)) (a' + (b' + c')) k k' exit
  of_three a a' b b' c c' r =
      subst (λ n. Reported Is old new (a + (b + n)) (a' + (b' + c')) k k' exit) (add-zero c) (subst (λ n. Reported Is old new (a + (b + (c + 0))) (a' + (b' + n)) k k' exit) (add-zero c') r)

-- what is reported of one answer is so of another
pub reported_as : (Is Such : Answer → Type 0) (old new : Option (List ℕ)) (a a' k k' : ℕ) (exit : Exit) → ((answer : Answer) → Is answer → Such answer)
    → Reported Is old new a a' k k' exit → Reported Such old new a a' k k' exit
reported_as Is Such old new a a' k k' exit f r =
    record { answer = r.answer; failure = r.failure; is = f r.answer r.is; reports = r.reports; counted = r.counted; memory = r.memory }

pub whole_as : (Is Such : Answer → Type 0) (b : Bool) → ((answer : Answer) → Is answer → Such answer) → (answer : Answer) → WholeOrNone Is b answer → WholeOrNone Such b answer
whole_as Is Such true f answer is = f answer is
whole_as Is Such false f answer (inl is) = inl (f answer is)
whole_as Is Such false f answer (inr none) = inr none

-- ---- where it may be that no thread could be started

-- its failures of two sources, without a trailing zero
pub threads_two : (old new : Option (List ℕ)) (k k' : ℕ) (exit : Exit) (a a' b b' : ℕ) → ReportsThreads old new (a + (b + 0)) (a' + (b' + 0)) k k' exit → ReportsThreads old new (a + b) (a' + b') k k' exit
threads_two old new k k' exit a a' b b' r =
    subst (λ n. ReportsThreads old new (a + n) (a' + b') k k' exit) (add-zero b) (subst (λ n. ReportsThreads old new (a + (b + 0)) (a' + n) k k' exit) (add-zero b') r)

-- some answer of two sources, or that
pub any_or : (old new : Option (List ℕ)) (a a' b b' k k' : ℕ) (exit : Exit)
    → Reported Any old new (a + (b + 0)) (a' + (b' + 0)) k k' exit ⊎ (Unit {0} × ReportsThreads old new (a + (b + 0)) (a' + (b' + 0)) k k' exit)
    → Reported Any old new (a + b) (a' + b') k k' exit ⊎ ReportsThreads old new (a + b) (a' + b') k k' exit
any_or old new a a' b b' k k' exit (inl r) = inl (of_two Any old new k k' exit a a' b b' r)
any_or old new a a' b b' k k' exit (inr h) = inr (threads_two old new k k' exit a a' b b' h.1)

-- ---- what is asked for

-- the second source only where the first text is that of tables
pub order_one : {Y : Type 0} (r : Option (List ℕ)) (untouched : Type 0) → ((rows : List ℕ) → r ≡ Some rows → ((t : TableRows) × AreTablesOf (tables_of rows) t × Unit {0}) ⊎ (untouched × Y))
    → IfSome r (λ rows. OnlyBehind (tables_of rows) untouched)
order_one None untouched f = tt
order_one (Some rows) untouched f = by (f rows refl) where
  by : {Y : Type 0} → ((t : TableRows) × AreTablesOf (tables_of rows) t × Unit {0}) ⊎ (untouched × Y) → OnlyBehind (tables_of rows) untouched
  by (inl (t, at, x)) = inl (t, at)
  by (inr (u, y)) = inr u

-- the same where these stand beside their document
pub order_written : {Y : Type 0} (r : Option (List ℕ)) (untouched : Type 0) → ((rows : List ℕ) → r ≡ Some rows → ((w : WrittenRows) × AreWrittenBy (tables_of rows) w × Unit {0}) ⊎ (untouched × Y))
    → IfSome r (λ rows. OnlyBehind (tables_of rows) untouched)
order_written None untouched f = tt
order_written (Some rows) untouched f = by (f rows refl) where
  by : {Y : Type 0} → ((w : WrittenRows) × AreWrittenBy (tables_of rows) w × Unit {0}) ⊎ (untouched × Y) → OnlyBehind (tables_of rows) untouched
  by (inl (w, at, x)) = inl (w.tables, record { parts = w.parts; said = at.said; valid = at.valid; rows_of = at.rows_of })
  by (inr (u, y)) = inr u
