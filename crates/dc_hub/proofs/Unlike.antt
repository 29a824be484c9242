-- Where receipts first differ from those that entries call for.
use Rattle.std.proofs.Common.{◌≡◌, ◌≢◌, ℕ, zero, suc, ◌+◌, ◌<◌, ◌≤◌, true, false, cond, Some, None, List, [], ◌∷◌, ◌++◌, length, take, drop, get_or, refl, sym, ap, subst, ◌∙◌, arith, slice_get}
use Rattle.std.proofs.lemmas.List.{take_more, take_all, append-nil, take-append-drop, length-take-le}
use Rattle.std.proofs.Math.Seq.{drop-cons}
use Rattle.std.proofs.lemmas.Option.{slice_get-get_or, slice_get_past}
use Rattle.dc_event.specs.declared.event.Actor.{Actor}
use Rattle.dc_hub.specs.Closing.{is_by, receipt_at, receipts_from, receipts_of, IsIndexOf, DifferAt}
use Rattle.dc_hub.specs.declared.entry.Entry.{Entry}
use Rattle.dc_hub.specs.declared.entry.Receipt.{Receipt}
use Rattle.dc_hub.proofs.Opens.{some-same, none-some}
use Rattle.dc_hub.proofs.Receipts.{receipts-append, receipts-push}

take-seam : {X : Type 0} (n : ℕ) (xs ys : List X) → n ≤ length xs → take n (take n xs ++ ys) ≡ take n xs
take-seam zero xs ys h = refl
take-seam (suc n) [] ys h = absurd (omega (arith, h))
take-seam (suc n) (x ∷ xs) ys h = ap (λ l. x ∷ l) (take-seam n xs ys (omega (arith, h)))

get-seam : {X : Type 0} (n : ℕ) (xs ys : List X) → n ≤ length xs → slice_get (take n xs ++ ys) n ≡ slice_get ys 0
get-seam zero xs ys h = refl
get-seam (suc n) [] ys h = absurd (omega (arith, h))
get-seam (suc n) (x ∷ xs) ys h = get-seam n xs ys (omega (arith, h))

-- what is read twice at one place is the same
pub same-item : {X : Type 0} (xs : List X) (i : ℕ) (x y : X) → i < length xs → x ≡ get_or xs i x → y ≡ get_or xs i y → x ≡ y
same-item xs i x y h one two = one ∙ some-same (get_or xs i x) (get_or xs i y) (sym (slice_get-get_or xs i x h) ∙ slice_get-get_or xs i y h) ∙ sym two

-- receipts that agree so far differ at the next one
differ : (rs ws more : List Receipt) (n i : ℕ) → n ≤ length rs → ws ≡ take n rs ++ more → slice_get rs n ≢ slice_get more 0 → IsIndexOf (slice_get rs n) (slice_get more 0) i → DifferAt rs ws i
differ rs ws more n i h is ne at =
    let there : slice_get ws n ≡ slice_get more 0 = ap (λ l. slice_get l n) is ∙ get-seam n rs more h in
    record {
      place = n;
      same = sym (ap (take n) is ∙ take-seam n rs more h);
      unlike = λ e. ne (e ∙ there);
      reported = subst (λ w. IsIndexOf (slice_get rs n) w i) (sym there) at;
    }

-- the wanted receipts, where the entry at this place is the actor's
wanted : (a : Actor) (es : List Entry) (i : ℕ) (e : Entry) → i < length es → e ≡ get_or es i e → is_by a e.event ≡ true
    → receipts_of a es ≡ receipts_of a (take i es) ++ receipt_at (i + 1) e ∷ receipts_from a (i + 1) (drop (suc i) es)
wanted a es i e h here by =
    let at : 0 + length (take i es) ≡ i = omega (arith, length-take-le i es (omega (arith, h))) in
    ap (receipts_of a) (sym (take-append-drop i es))
    ∙ receipts-append a 0 (take i es) (drop i es)
    ∙ ap (λ k. receipts_of a (take i es) ++ receipts_from a k (drop i es)) at
    ∙ ap (λ l. receipts_of a (take i es) ++ receipts_from a i l) (drop-cons es i e h ∙ ap (λ x. x ∷ drop (suc i) es) (sym here))
    ∙ ap (λ b. receipts_of a (take i es) ++ cond b (receipt_at (i + 1) e ∷ receipts_from a (i + 1) (drop (suc i) es)) (receipts_from a (i + 1) (drop (suc i) es))) by

-- an entry of another actor calls for nothing
pub passed-other : (a : Actor) (es : List Entry) (i : ℕ) (e : Entry) → i < length es → e ≡ get_or es i e → is_by a e.event ≡ false → receipts_of a (take (i + 1) es) ≡ receipts_of a (take i es)
passed-other a es i e h here by =
    ap (receipts_of a) (take_more es i e h ∙ ap (λ x. take i es ++ x ∷ []) (sym here))
    ∙ receipts-push a (take i es) e
    ∙ ap (λ b. receipts_of a (take i es) ++ cond b (receipt_at (length (take i es) + 1) e ∷ []) []) by
    ∙ append-nil (receipts_of a (take i es))

-- an entry of the actor calls for its receipt
pub passed-own : (a : Actor) (es : List Entry) (i : ℕ) (e : Entry) → i < length es → e ≡ get_or es i e → is_by a e.event ≡ true
    → receipts_of a (take (i + 1) es) ≡ receipts_of a (take i es) ++ receipt_at (i + 1) e ∷ []
passed-own a es i e h here by =
    ap (receipts_of a) (take_more es i e h ∙ ap (λ x. take i es ++ x ∷ []) (sym here))
    ∙ receipts-push a (take i es) e
    ∙ ap (λ b. receipts_of a (take i es) ++ cond b (receipt_at (length (take i es) + 1) e ∷ []) []) by
    ∙ ap (λ k. receipts_of a (take i es) ++ receipt_at (k + 1) e ∷ []) (length-take-le i es (omega (arith, h)))

-- so the receipts agree with one more
pub agree-on : (a : Actor) (rs : List Receipt) (es : List Entry) (n i : ℕ) (e : Entry) (r : Receipt) → n < length rs → r ≡ get_or rs n r → i < length es → e ≡ get_or es i e → take n rs ≡ receipts_of a (take i es)
    → is_by a e.event ≡ true → r ≡ receipt_at (i + 1) e → take (n + 1) rs ≡ receipts_of a (take (i + 1) es)
agree-on a rs es n i e r inside there h here so by is =
    take_more rs n r inside ∙ ap (λ x. take n rs ++ x ∷ []) (sym there) ∙ ap (λ l. l ++ r ∷ []) so ∙ ap (λ x. receipts_of a (take i es) ++ x ∷ []) is ∙ sym (passed-own a es i e h here by)

-- the receipts have ended before the actor's entries
pub ended : (a : Actor) (rs : List Receipt) (es : List Entry) (n i : ℕ) (e : Entry) → n ≡ length rs → i < length es → e ≡ get_or es i e → take n rs ≡ receipts_of a (take i es)
    → is_by a e.event ≡ true → DifferAt rs (receipts_of a es) (i + 1)
ended a rs es n i e all h here so by =
    let none : slice_get rs n ≡ None = slice_get_past rs n (omega (arith, all)) in
    let more : List Receipt = receipt_at (i + 1) e ∷ receipts_from a (i + 1) (drop (suc i) es) in
    differ rs (receipts_of a es) more n (i + 1) (omega (arith, all))
    (wanted a es i e h here by ∙ ap (λ l. l ++ more) (sym so))
    (λ same. none-some (receipt_at (i + 1) e) (sym none ∙ same))
    (subst (λ o. IsIndexOf o (slice_get more 0) (i + 1)) (sym none) refl)

-- a receipt is not the entry's
pub other : (a : Actor) (rs : List Receipt) (es : List Entry) (n i : ℕ) (e : Entry) (r : Receipt) → n < length rs → r ≡ get_or rs n r → i < length es → e ≡ get_or es i e → take n rs ≡ receipts_of a (take i es)
    → is_by a e.event ≡ true → r ≢ receipt_at (i + 1) e → DifferAt rs (receipts_of a es) r.index
other a rs es n i e r inside at h here so by ne =
    let there : slice_get rs n ≡ Some r = slice_get-get_or rs n r inside ∙ ap (λ x. Some x) (sym at) in
    let more : List Receipt = receipt_at (i + 1) e ∷ receipts_from a (i + 1) (drop (suc i) es) in
    differ rs (receipts_of a es) more n r.index (omega (arith, inside))
    (wanted a es i e h here by ∙ ap (λ l. l ++ more) (sym so))
    (λ same. ne (some-same r (receipt_at (i + 1) e) (sym there ∙ same)))
    (subst (λ o. IsIndexOf o (slice_get more 0) r.index) (sym there) refl)

-- a receipt is left over
pub left_over : (a : Actor) (rs : List Receipt) (es : List Entry) (n i : ℕ) (r : Receipt) → n < length rs → r ≡ get_or rs n r → length es ≤ i → take n rs ≡ receipts_of a (take i es)
    → DifferAt rs (receipts_of a es) r.index
left_over a rs es n i r inside at all so =
    let there : slice_get rs n ≡ Some r = slice_get-get_or rs n r inside ∙ ap (λ x. Some x) (sym at) in
    differ rs (receipts_of a es) [] n r.index (omega (arith, inside))
    (ap (receipts_of a) (sym (take_all i es all)) ∙ sym so ∙ sym (append-nil (take n rs)))
    (λ same. none-some r (sym same ∙ there))
    (subst (λ o. IsIndexOf o None r.index) (sym there) refl)

-- none is
pub agree : (a : Actor) (rs : List Receipt) (es : List Entry) (n i : ℕ) → length rs ≤ n → length es ≤ i → take n rs ≡ receipts_of a (take i es) → rs ≡ receipts_of a es
agree a rs es n i full all so = sym (take_all n rs full) ∙ so ∙ ap (receipts_of a) (take_all i es all)
