-- The certification theorem: all claims, at each event of each admissible run, where a certificate is accepted.
use Rattle.dc_cert.specs.Bounds.{CertificateRows, numbers_of}
use Rattle.dc_check.proofs.Claimed.{ages_hold}
use Rattle.dc_check.proofs.Emissions.{intervals_hold}
use Rattle.dc_check.proofs.NoOverruns.{no_overrun}
use Rattle.dc_check.specs.Accepts.{AcceptsNumbers}
use Rattle.dc_check.specs.Certified.{AcceptedKeepTheirClaims}
use Rattle.dc_event.specs.Admissible.{IsAdmissible}
use Rattle.dc_event.specs.Claims.{ClaimsHold}
use Rattle.dc_event.specs.declared.event.Event.{Event}
use Rattle.dc_tables.specs.TableRows.{TableRows, AreValid}
use Rattle.std.proofs.Common.{List, ◌∷◌, ◌++◌, subst}

numbers_hold : (t : TableRows) → AreValid t → (c : CertificateRows) → AcceptsNumbers t c → (run : List Event) → IsAdmissible t run → ClaimsHold t c.ages run
numbers_hold t valid c ok run keeps past rest e at =
    let there : IsAdmissible t (past ++ (e ∷ rest)) = subst (λ z. IsAdmissible t z) at keeps in
    let aged = ages_hold t valid c ok past rest e there in
    let kept = intervals_hold t valid c ok run keeps.numbers keeps.budgets past rest e at in
    record {
      no_overrun = no_overrun t c valid ok past rest e there;
      young = aged.0;
      live = aged.1;
      in_time = kept.0;
      spaced = kept.1;
    }

pub claims_hold : (t : TableRows) → AreValid t → AcceptedKeepTheirClaims t
claims_hold t valid claims ok run keeps = numbers_hold t valid (numbers_of claims) ok.numbers run keeps
