-- What a dictionary finds, and what it does not refuse.
use Rattle.std.proofs.Common.{◌≡◌, ℕ, zero, suc, ◌+◌, ◌<◌, ◌≤◌, Bool, true, false, cond, ◌||◌, ◌==◌, nat_lt, Option, Some, None, is_some, List, [], ◌∷◌, length, get_or, take, map, find, refl, sym, ap, ◌∙◌, arith, subst}
use Rattle.std.specs.List.{position}
use Rattle.std.specs.Prelude.{IfSome}
use Rattle.std.proofs.lemmas.List.{length-take, length-map, get_or-take, get_or-map}
use Rattle.std.proofs.lemmas.Bool.Decides.{nat_tests}
use Rattle.dc_dict.specs.Rows.{is_row_of, row_of, refusal_of}
use Rattle.dc_dict.specs.declared.parameter.Parameter.{Parameter as ParameterPart}
use Rattle.dc_document.specs.declared.keys.ParameterKey.{ParameterKey}
use Rattle.dc_rules.specs.Rules.{outside, parameter_out, parameter_of, doubled, first_inverted}
use Rattle.dc_document.specs.Keys.{parameter_key, same_parameter}
use Rattle.dc_rules.specs.lemmas.Apart.{apart}
use Rattle.dc_rules.specs.lemmas.Picks.{each_fails, not_outside, or_none}
use Rattle.dc_document.specs.declared.limits.TheConstants.{LONGEST_INTERVAL_US}

found_step : (Q : ParameterPart → Type 0) (p : ParameterPart → Bool) (x : ParameterPart) (xs : List ParameterPart) (r : ParameterPart) (b : Bool) → cond b (Some x) (find p xs) ≡ Some r → Q x → (find p xs ≡ Some r → Q r) → Q r
found_step Q p x xs r true h here later = let e : x ≡ r = (cc h) in subst Q e here
found_step Q p x xs r false h here later = later h

found_in : (Q : ParameterPart → Type 0) (p : ParameterPart → Bool) (xs : List ParameterPart) (r : ParameterPart) → ((k : ℕ) (d : ParameterPart) → k < length xs → Q (get_or xs k d)) → find p xs ≡ Some r → Q r
found_in Q p [] r each h = absurd (cc h)
found_in Q p (x ∷ xs) r each h = found_step Q p x xs r (p x) h (each 0 x (omega arith)) (found_in Q p xs r (λ k d l. each (suc k) d (omega arith)))

-- what holds of each parameter holds of the one that is found
pub found_holds : (Q : ParameterPart → Type 0) (ps : List ParameterPart) (key : ParameterKey) (p : ParameterPart) → ((k : ℕ) (d : ParameterPart) → k < length ps → Q (get_or ps k d)) → parameter_of ps key ≡ Some p → Q p
found_holds Q ps key p each h = found_in Q (is_row_of key.label key.equipment) ps p each h

-- the same of an answer
pub found_all : (Q : ParameterPart → Type 0) (ps : List ParameterPart) (key : ParameterKey) (found : Option ParameterPart) → found ≡ parameter_of ps key → ((k : ℕ) (d : ParameterPart) → k < length ps → Q (get_or ps k d)) → IfSome found Q
found_all Q ps key None h each = tt
found_all Q ps key (Some p) h each = found_holds Q ps key p each (sym h)

none_found : (p : ParameterPart → Bool) (xs : List ParameterPart) → ((k : ℕ) (d : ParameterPart) → k < length xs → p (get_or xs k d) ≡ false) → is_some (find p xs) ≡ false
none_found p [] h = refl
none_found p (x ∷ xs) h = rw (h 0 x (omega arith)) (none_found p xs (λ k d l. h (suc k) d (omega arith)))

not_zero : (n : ℕ) → 1 ≤ n → (n == 0) ≡ false
not_zero n h = grind (arith, nat_tests)

-- of parameters in their ranges, in order and none doubled, the dictionary of those so far refuses none
pub never_refused : (ps rows : List ParameterPart) (i : ℕ) (row : ParameterPart) → rows ≡ take i ps → i < length ps → row ≡ get_or ps i row
    → position parameter_out ps ≡ None → doubled same_parameter (map parameter_key ps) ≡ None → first_inverted ps ≡ None → refusal_of rows row ≡ None
unfolding refusal_of
never_refused ps rows i row past l at shape once ordered =
    let out : parameter_out row ≡ false = ap parameter_out at ∙ each_fails parameter_out ps shape i row l in
    let w = or_none (outside 1 LONGEST_INTERVAL_US row.min_us) (outside 1 LONGEST_INTERVAL_US row.max_us) out in
    let z : (row.min_us == 0) ≡ false = not_zero row.min_us (not_outside 1 LONGEST_INTERVAL_US row.min_us w.0).0 in
    let y : (row.max_us == 0) ≡ false = not_zero row.max_us (not_outside 1 LONGEST_INTERVAL_US row.max_us w.1).0 in
    let o : nat_lt row.max_us row.min_us ≡ false = ap (λ (p : ParameterPart). nat_lt p.max_us p.min_us) at ∙ each_fails (λ (p : ParameterPart). nat_lt p.max_us p.min_us) ps ordered i row l in
    let n : is_some (row_of rows row.label row.equipment) ≡ false =
    ap (λ (rs : List ParameterPart). is_some (row_of rs row.label row.equipment)) past
    ∙ none_found (is_row_of row.label row.equipment) (take i ps) (λ k d m.
    let key : ParameterKey = parameter_key row in
    let less : k < i = omega (arith, m, length-take i ps) in
    let keys = map parameter_key ps in
    let mine : get_or keys i key ≡ key = get_or-map parameter_key ps i row key l ∙ ap parameter_key (sym at) in
    let its : get_or keys k key ≡ parameter_key (get_or ps k d) = get_or-map parameter_key ps k d key (omega (arith, less, l)) in
    ap (is_row_of row.label row.equipment) (get_or-take i ps k d less)
    ∙ sym (ap (λ a. same_parameter a (get_or keys k key)) mine ∙ ap (same_parameter key) its)
    ∙ apart same_parameter keys once k i key less (omega (arith, l, length-map ps parameter_key))) in
    rw (z, y, o, n) refl

-- parameters in their ranges have small intervals
pub small_rows : (ps rows : List ParameterPart) (i : ℕ) → rows ≡ take i ps → position parameter_out ps ≡ None → (k : ℕ) (d : ParameterPart) → k < length rows → (get_or rows k d).min_us ≤ LONGEST_INTERVAL_US
small_rows ps rows i past shape =
    let P : List ParameterPart → Type 0 = λ rs. (k : ℕ) (d : ParameterPart) → k < length rs → (get_or rs k d).min_us ≤ LONGEST_INTERVAL_US in
    subst P (sym past) (λ k d m.
    let less : k < i = omega (arith, m, length-take i ps) in
    let l : k < length ps = omega (arith, m, length-take i ps) in
    let p : ParameterPart = get_or ps k d in
    let Q : ParameterPart → Type 0 = λ r. r.min_us ≤ LONGEST_INTERVAL_US in
    subst Q (sym (get_or-take i ps k d less)) (not_outside 1 LONGEST_INTERVAL_US p.min_us (or_none (outside 1 LONGEST_INTERVAL_US p.min_us) (outside 1 LONGEST_INTERVAL_US p.max_us) (each_fails parameter_out ps shape k d l)).0).1)
