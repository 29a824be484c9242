-- What an accepted certificate means: the certification theorem.
use Rattle.std.specs.Prelude.{◌≡◌, ◌<◌, ℕ, true, List, length}
use Rattle.dc_cert.specs.Bounds.{numbers_of}
use Rattle.dc_cert.specs.NamedRows.{NamedRows}
use Rattle.dc_check.specs.Accepts.{Accepts}
use Rattle.dc_event.specs.Admissible.{IsRun, KeepsBudgets, IsAdmissible}
use Rattle.dc_event.specs.Claims.{ClaimsHold}
use Rattle.dc_event.specs.declared.event.Event.{Event}
use Rattle.dc_tables.specs.TableRows.{TableRows, is_policed}

-- In every admissible run of the tables the certificate's claims hold, at each event: no receive queue overruns, a word
-- that leaves is the fallback or copies one that is at most the label's age old, a live first source is used, and each
-- label keeps its intervals.
abbrev pub KeepsItsClaims : TableRows → NamedRows → Type 0
KeepsItsClaims t claims = (run : List Event) → IsAdmissible t run → ClaimsHold t (numbers_of claims).ages run

-- each certificate that is accepted for the tables keeps its claims
abbrev pub AcceptedKeepTheirClaims : TableRows → Type 0
AcceptedKeepTheirClaims t = (claims : NamedRows) → Accepts t claims → KeepsItsClaims t claims

-- each bus refuses early words
abbrev pub ArePoliced : TableRows → Type 0
ArePoliced t = (b : ℕ) → b < length t.buses → is_policed t b ≡ true

-- Where each bus refuses early words nothing is asked of the sources: whatever arrives, the claims of an accepted certificate hold in every
-- run of the tables whose actors keep their budgets
abbrev pub PolicedKeepTheirClaims : TableRows → Type 0
PolicedKeepTheirClaims t = ArePoliced t → (claims : NamedRows) → Accepts t claims → (run : List Event) → IsRun t run → KeepsBudgets t run → ClaimsHold t (numbers_of claims).ages run
