-- The receipts that entries call for, entry by entry.
use Rattle.std.proofs.Common.{◌≡◌, ℕ, ◌+◌, Bool, true, false, cond, List, [], ◌∷◌, ◌++◌, length, ap, ◌∙◌, arith}
use Rattle.dc_event.specs.declared.event.Actor.{Actor}
use Rattle.dc_hub.specs.Closing.{is_by, receipt_at, receipts_from, receipts_of}
use Rattle.dc_hub.specs.declared.entry.Entry.{Entry}
use Rattle.dc_hub.specs.declared.entry.Receipt.{Receipt}

cond-append : (b : Bool) (r : Receipt) (whole xs ys : List Receipt) → whole ≡ xs ++ ys → cond b (r ∷ whole) whole ≡ cond b (r ∷ xs) xs ++ ys
cond-append true r whole xs ys e = ap (λ l. r ∷ l) e
cond-append false r whole xs ys e = e

pub receipts-append : (a : Actor) (n : ℕ) (xs ys : List Entry) → receipts_from a n (xs ++ ys) ≡ receipts_from a n xs ++ receipts_from a (n + length xs) ys
receipts-append a n [] ys = ap (λ k. receipts_from a k ys) (omega arith)
receipts-append a n (e ∷ xs) ys =
    cond-append (is_by a e.event) (receipt_at (n + 1) e) _ _ _ (receipts-append a (n + 1) xs ys ∙ ap (λ k. receipts_from a (n + 1) xs ++ receipts_from a k ys) (omega arith))

-- with one more entry
pub receipts-push : (a : Actor) (es : List Entry) (e : Entry) → receipts_of a (es ++ e ∷ []) ≡ receipts_of a es ++ cond (is_by a e.event) (receipt_at (length es + 1) e ∷ []) []
receipts-push a es e = receipts-append a 0 es (e ∷ []) ∙ ap (λ k. receipts_of a es ++ cond (is_by a e.event) (receipt_at (k + 1) e ∷ []) []) (omega arith)
