-- What the matches of a command say, as rows.
use Rattle.std.proofs.Common.{◌≡◌, ◌∙◌, ℕ, Bool, true, false, codes, find, sym, subst, Option, Some, None, IfSome}
use Rattle.clap.specs.Words.{Text, first_of, first_value, one_of, one_text, rows_of}
use Rattle.clap.specs.declared.parser.matches.Found.{Found}
use Rattle.clap.proofs.WalkLemmas.{first_value-rows, one_text-rows}
use Rattle.dc_codes.specs.Codes.{asks_for, names}
use Rattle.dc_codes.specs.declared.code.Code.{Code}
use Rattle.dc_command.specs.Asked.{AreGiven, BeginIs, CodesAre, DriftIs, HeadroomIs, IsSet, TickIs, TicksAre, WhenIs, when_name}
use Rattle.dc_command.specs.declared.explained.When.{When}

-- a text that is given
pub text_given : (f : Found) (id text : Text) → Some text ≡ first_value f id → first_of id (rows_of f) ≡ Some text
text_given f id text is = sym (is ∙ first_value-rows f id)

-- none that is given
pub none_given : (f : Found) (id : Text) → None ≡ first_value f id → first_of id (rows_of f) ≡ None
none_given f id is = sym (is ∙ first_value-rows f id)

-- the number of workers
pub workers_given : (f : Found) (id : Text) (workers : Option ℕ) → AreGiven (first_value f id) workers → AreGiven (first_of id (rows_of f)) workers
workers_given f id workers given = subst (λ o. AreGiven o workers) (first_value-rows f id) given

-- the drift
pub drift_given : (f : Found) (id : Text) (drift : Option ℕ) → DriftIs (first_value f id) drift → DriftIs (first_of id (rows_of f)) drift
drift_given f id drift given = subst (λ o. DriftIs o drift) (first_value-rows f id) given

-- the begin of tick 0
pub begin_given : (f : Found) (id : Text) (begin : Option ℕ) → BeginIs (first_value f id) begin → BeginIs (first_of id (rows_of f)) begin
begin_given f id begin given = subst (λ o. BeginIs o begin) (first_value-rows f id) given

-- the length of a tick
pub tick_given : (f : Found) (id : Text) (tick : Option ℕ) → TickIs (first_value f id) tick → TickIs (first_of id (rows_of f)) tick
tick_given f id tick given = subst (λ o. TickIs o tick) (first_value-rows f id) given

-- the headroom
pub headroom_given : (f : Found) (id : Text) (headroom : Option ℕ) → HeadroomIs (first_value f id) headroom → HeadroomIs (first_of id (rows_of f)) headroom
headroom_given f id headroom given = subst (λ o. HeadroomIs o headroom) (first_value-rows f id) given

-- the number of ticks
pub ticks_given : (f : Found) (id : Text) (ticks : ℕ) → TicksAre (first_value f id) ticks → TicksAre (first_of id (rows_of f)) ticks
ticks_given f id ticks given = subst (λ o. TicksAre o ticks) (first_value-rows f id) given

-- when to explain, by a text or by none
pub when_given : (f : Found) (id : Text) (said : Option Text) (when : When) → said ≡ first_value f id → WhenIs said when → WhenIs (first_of id (rows_of f)) when
when_given f id said when is given = subst (λ o. WhenIs o when) (is ∙ first_value-rows f id) given

-- when to explain, where the text that is given says it
pub some_when_given : (f : Found) (id text : Text) (said : Option When) → Some text ≡ first_value f id → IfSome said (λ when. text ≡ when_name when)
    → IfSome said (WhenIs (first_of id (rows_of f)))
some_when_given f id text None is given = given
some_when_given f id text (Some when) is given = when_given f id (Some text) when is given

-- a flag
pub flag_given : (f : Found) (id : Text) (set : Bool) → (one_text f id ≡ None → set ≡ false) → (one_text f id ≡ Some (codes "true") → set ≡ true)
    → (one_text f id ≡ Some (codes "false") → set ≡ false) → IsSet (one_of id (rows_of f)) set
flag_given f id set none on off = subst (λ o. IsSet o set) (one_text-rows f id) (none, on, off)

-- one code, without the flag
pub code_given : (f : Found) (id flag text : Text) (code : Code) → Some text ≡ first_value f id → IsSet (one_of flag (rows_of f)) false
    → Some code.name.now ≡ find (asks_for text) names → CodesAre (first_of id (rows_of f)) (one_of flag (rows_of f)) (Some code)
code_given f id flag text code is set asked = subst (λ o. CodesAre o (one_of flag (rows_of f)) (Some code)) (sym (text_given f id text is)) (set, asked)

-- all codes, by the flag alone
pub all_given : (f : Found) (id flag : Text) → None ≡ first_value f id → IsSet (one_of flag (rows_of f)) true
    → CodesAre (first_of id (rows_of f)) (one_of flag (rows_of f)) None
all_given f id flag none set = subst (λ o. CodesAre o (one_of flag (rows_of f)) None) (none ∙ first_value-rows f id) set
