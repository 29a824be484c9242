-- What is answered where some of the lines have a fault.
use Rattle.std.proofs.Common.{◌≡◌, ℕ, List, Result, Ok, Err, sym, ◌∙◌, subst}
use Rattle.dc_cert.specs.Bounds.{CertificateRows}
use Rattle.dc_tables.specs.TableRows.{TableRows}
use Rattle.dc_seen.specs.Reading.{IsAnswer, TellsRows, said_from}
use Rattle.dc_seen.specs.Said.{SeenRows, followed}
use Rattle.dc_seen.specs.declared.fault.SeenFault.{SeenFault}
use Rattle.dc_seen.specs.declared.fault.Unread.{Unread}
use Rattle.dc_seen.specs.declared.fault.Unread.TheVariants.{Refused, Memory}
use Rattle.dc_seen.specs.declared.lines.Place.{Place}
use Rattle.dc_seen.specs.declared.seen.Seen.{Seen}
use Rattle.dc_seen.specs.lemmas.Joining.{said_fault}

module _ {X : Type 0} (t : TableRows) (c : CertificateRows) (text : List ℕ) (from to : Place) (rows : X → SeenRows) (said : Result SeenRows SeenFault) where
  first_told : (e : Unread) → said ≡ said_from t c text from → TellsRows t c text from to rows (Err e) → IsAnswer said (Err e)
  first_told (Refused fault) start tells = start ∙ tells
  first_told Memory start tells = tt

  later_told : (seen : SeenRows) (e : Unread) → said ≡ followed (Ok seen) (said_from t c text from) → TellsRows t c text from to rows (Err e) → IsAnswer said (Err e)
  later_told seen (Refused fault) start tells = said_fault said (said_from t c text from) seen fault start tells
  later_told seen Memory start tells = tt

  -- the first lines are refused
  pub first_refused : (r : Result Seen Unread) (e : Unread) → r ≡ Err e → said ≡ said_from t c text from → TellsRows t c text from to rows (Err e) → IsAnswer said r
  first_refused r e is start tells = subst (λ r. IsAnswer said r) (sym is) (first_told e start tells)

  -- lines behind others are refused
  pub later_refused : (r : Result Seen Unread) (e : Unread) (seen : SeenRows) → r ≡ Err e → said ≡ followed (Ok seen) (said_from t c text from) → TellsRows t c text from to rows (Err e) → IsAnswer said r
  later_refused r e seen is start tells = subst (λ r. IsAnswer said r) (sym is) (later_told seen e start tells)
