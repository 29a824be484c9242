-- Overruns and marks of entries, entry by entry.
use Rattle.std.proofs.Common.{◌≡◌, ℕ, ◌+◌, ◌<◌, Bool, true, false, cond, if◌then◌else◌, max, List, [], ◌∷◌, ◌++◌, length, take, get_or, sym, ap, ◌∙◌, arith}
use Rattle.std.proofs.lemmas.List.{take_more, append-nil}
use Rattle.dc_event.specs.declared.event.Actor.{Actor}
use Rattle.dc_hub.specs.Closing.{is_by, receipt_at, receipts_of}
use Rattle.dc_hub.specs.Entries.{backlog_of, is_overrun, overruns_in}
use Rattle.dc_hub.specs.Views.{greatest}
use Rattle.dc_hub.specs.declared.entry.Entry.{Entry}
use Rattle.dc_hub.specs.declared.entry.Receipt.{Receipt}
use Rattle.dc_hub.proofs.Marks.{greatest-push}
use Rattle.dc_hub.proofs.Receipts.{receipts-push}

overruns-append : (xs ys : List Entry) → overruns_in (xs ++ ys) ≡ overruns_in xs + overruns_in ys
overruns-append [] ys = omega arith
overruns-append (e ∷ xs) ys = omega (arith, overruns-append xs ys)

pub overruns-more : (es : List Entry) (i : ℕ) (e : Entry) → i < length es → e ≡ get_or es i e → overruns_in (take (i + 1) es) ≡ overruns_in (take i es) + cond (is_overrun e.reply) 1 0
overruns-more es i e h here =
    ap overruns_in (take_more es i e h ∙ ap (λ x. take i es ++ x ∷ []) (sym here)) ∙ overruns-append (take i es) (e ∷ []) ∙ ap (λ k. overruns_in (take i es) + k) (plus-none (cond (is_overrun e.reply) 1 0))
  where
    plus-none : (k : ℕ) → k + 0 ≡ k
    plus-none k = omega arith

greatest-cond : (b : Bool) (rs : List Receipt) (r : Receipt) → greatest (rs ++ cond b (r ∷ []) []) ≡ (if b then max (greatest rs) (backlog_of r.reply) else greatest rs)
greatest-cond true rs r = greatest-push rs r
greatest-cond false rs r = ap greatest (append-nil rs)

-- the mark of an actor after one more entry
pub mark-more : (a : Actor) (es : List Entry) (i : ℕ) (e : Entry) → i < length es → e ≡ get_or es i e
    → greatest (receipts_of a (take (i + 1) es)) ≡ (if is_by a e.event then max (greatest (receipts_of a (take i es))) (backlog_of e.reply) else greatest (receipts_of a (take i es)))
mark-more a es i e h here =
    ap (λ l. greatest (receipts_of a l)) (take_more es i e h ∙ ap (λ x. take i es ++ x ∷ []) (sym here))
    ∙ ap greatest (receipts-push a (take i es) e)
    ∙ greatest-cond (is_by a e.event) (receipts_of a (take i es)) (receipt_at (length (take i es) + 1) e)
