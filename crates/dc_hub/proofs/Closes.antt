-- What an answer of close says of the hub's book.
use Rattle.std.proofs.Common.{◌≡◌, ℕ, ◌≤◌, Option, Some, List, IfOk, IfErr, Ok, Err, length, sym, subst, ap, ◌∙◌}
use Rattle.std.specs.declared.result.Result.{Result}
use Rattle.dc_check.specs.Lent.{tables_of}
use Rattle.dc_check.specs.declared.certified.Certified.{Certified}
use Rattle.dc_hub.specs.Closing.{AreOneEach, AllAgree, IsCloseFault}
use Rattle.dc_hub.specs.Views.{BookView, ClosedView, SeatView, IsBookOf, receipts_in}
use Rattle.dc_hub.specs.declared.fault.CloseFault.{CloseFault}

pub closed_of : (certified : Option Certified) (limit : ℕ) (b : BookView) (r : Result ClosedView CloseFault) → IsBookOf certified limit b → IfOk r (λ c. (c.certified ≡ b.certified) × (c.entries ≡ b.entries)) → IfOk r (λ c. (certified ≡ Some c.certified) × (length c.entries ≤ limit))
closed_of certified limit b (Ok c) of_hub same = (
  of_hub.certified_is ∙ ap (λ x. Some x) (sym same.0),
  subst (λ n. length c.entries ≤ n) (sym of_hub.limit_is) (subst (λ es. length es ≤ b.limit) (sym same.1) of_hub.fits),
)
closed_of certified limit b (Err f) of_hub same = tt

pub counted_of : (b : BookView) (seats : List SeatView) (r : Result ClosedView CloseFault) → (AreOneEach (tables_of b.certified) seats → length b.entries ≡ receipts_in seats) → IfOk r (λ c. (c.certified ≡ b.certified) × (c.entries ≡ b.entries))
    → IfOk r (λ c. AreOneEach (tables_of c.certified) seats × AllAgree c.entries seats) → IfOk r (λ c. length c.entries ≡ receipts_in seats)
counted_of b seats (Ok c) many same ok = ap length same.1 ∙ many (subst (λ x. AreOneEach (tables_of x) seats) same.0 ok.0)
counted_of b seats (Err f) many same ok = tt

pub fault_of : {T : Type 0} (certified : Option Certified) (limit : ℕ) (b : BookView) (seats : List SeatView) (r : Result T CloseFault) → IsBookOf certified limit b → (AreOneEach (tables_of b.certified) seats → length b.entries ≡ receipts_in seats)
    → IfErr r (λ fault. IsCloseFault (tables_of b.certified) b.entries seats fault)
    → IfErr r (λ fault. (book : BookView) × IsBookOf certified limit book × (AreOneEach (tables_of book.certified) seats → length book.entries ≡ receipts_in seats) × IsCloseFault (tables_of book.certified) book.entries seats fault)
fault_of certified limit b seats (Ok x) of_hub many h = tt
fault_of certified limit b seats (Err f) of_hub many h = (b, of_hub, many, h)
