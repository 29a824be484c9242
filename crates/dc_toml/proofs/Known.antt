-- The keys of a table differ: where it has as many as may stand there and each is known, none is absent.
use Rattle.std.proofs.Common.{◌≡◌, ℕ, suc, Bool, true, false, ◌||◌, cond, List, [], ◌∷◌, length, Option, Some, Ok, is_some, String, Global, Ordering, Less, Equal, Greater, string_bytes, nat_cmp, is_eq, refl, sym, ap, ◌∙◌, inl, inr, ◌⊎◌, subst, arith}
use Rattle.std.proofs.lemmas.Bool.{and_parts, cases_Bool, false≢true}
use Rattle.std.proofs.lemmas.Cmp.{nat_list_cmp_total}
use Rattle.std.proofs.lemmas.Map.Text.{is_eq-slice_cmp}
use Rattle.std.proofs.lemmas.Slice.Eq.{bytes_eq-Decides}
use Rattle.std.specs.Bool.{Decides}
use Rattle.std.specs.Cmp.{tied_itself}
use Rattle.std.specs.Cmp.Lexicographic.{slice_cmp}
use Rattle.std.specs.List.{AllByRecursion, list_any}
use Rattle.std.specs.List.Sorted.{IsStrictlySortedBy}
use Rattle.std.specs.Map.{keys_of}
use Rattle.std.specs.Ordering.{match_ordering}
use Rattle.std.specs.Result.{is_ok}
use Rattle.std.specs.String.{string_cmp}
use Rattle.toml.specs.Data.{Data, Members, member, get_member, same_key}
use Rattle.toml.specs.View.{members_view, view}
use Rattle.toml.specs.declared.value.Value.{Value}
use Rattle.dc_document.specs.declared.fault.TableRule.TheVariants.{KeyUnknown}
use Rattle.dc_toml.specs.Faults.{wanted}
use Rattle.dc_toml.specs.Keys.{all_keys, keyed, known, only_keys}
use Rattle.dc_toml.specs.declared.place.TablePlace.{TablePlace}

abbrev Key : Type 0
Key = List ℕ

key_tells : (k l : Key) → ((same_key k l ≡ true) × (k ≡ l)) ⊎ ((same_key k l ≡ false) × ¬ (k ≡ l))
key_tells k l =
    let P : Bool → Type 0 = λ b. Decides b (k ≡ l) in
    let told : Decides (same_key k l) (k ≡ l) = subst P (sym (is_eq-slice_cmp k l)) (bytes_eq-Decides k l) in
    elim (cases_Bool (same_key k l)) [
      | inl yes' ↦ inl (yes', told.0 yes')
      | inr no' ↦ inr (no', λ e. false≢true (sym no' ∙ told.1 e))
    ]

-- the keys without the first that is this one
abbrev without : Key → List Key → List Key
without k [] = []
without k (x ∷ xs) = cond (same_key k x) xs (x ∷ without k xs)

past_first : (b c : Bool) → b ≡ false → (b || c) ≡ true → c ≡ true
past_first true c e h = absurd (false≢true (sym e))
past_first false c e h = h

one_less : (k : Key) (keys : List Key) → list_any (same_key k) keys ≡ true → suc (length (without k keys)) ≡ length keys
one_less k [] h = absurd (false≢true h)
one_less k (x ∷ xs) h =
    elim (cases_Bool (same_key k x)) [
      | inl yes' ↦ rw yes' refl
      | inr no' ↦ rw no' (ap suc (one_less k xs (past_first (same_key k x) (list_any (same_key k) xs) no' h)))
    ]

still_among : (l k : Key) (keys : List Key) → ¬ (l ≡ k) → list_any (same_key l) keys ≡ true → list_any (same_key l) (without k keys) ≡ true
still_among l k [] apart h = h
still_among l k (x ∷ xs) apart h =
    elim (key_tells l x) [
      | inl same ↦
          elim (key_tells k x) [
            | inl found ↦ absurd (apart (same.1 ∙ sym found.1))
            | inr other ↦ rw (other.0, same.0) refl
          ]
      | inr differ ↦
          elim (key_tells k x) [
            | inl found ↦ rw found.0 (past_first (same_key l x) (list_any (same_key l) xs) differ.0 h)
            | inr other ↦ rw (other.0, differ.0) (still_among l k xs apart (past_first (same_key l x) (list_any (same_key l) xs) differ.0 h))
          ]
    ]

found_in : (o : Ordering) (d : Data) (found : Option Data) → is_some found ≡ true → is_some (match_ordering o found (Some d) found) ≡ true
found_in Less d found h = h
found_in Equal d found h = refl
found_in Greater d found h = h

found_more : (x k : Key) (d : Data) (ms : Members) → is_some (get_member x ms) ≡ true → is_some (get_member x (member k d ms)) ≡ true
found_more x k d ms h = found_in (slice_cmp nat_cmp x k) d (get_member x ms) h

weaken : (k : Key) (d : Data) (ms : Members) (keys : List Key) → all_keys keys ms ≡ true → all_keys keys (member k d ms) ≡ true
weaken k d ms [] h = refl
weaken k d ms (x ∷ xs) h =
    let (here, more) = and_parts (is_some (get_member x ms)) (all_keys xs ms) h in
    rw (found_more x k d ms here, weaken k d ms xs more)

found_first : (x k : Key) (d : Data) (ms : Members) → x ≡ k → is_some (get_member x (member k d ms)) ≡ true
found_first x k d ms e = rw (e, tied_itself nat_list_cmp_total k) refl

all_with_one : (k : Key) (d : Data) (ms : Members) (keys : List Key) → all_keys (without k keys) ms ≡ true → all_keys keys (member k d ms) ≡ true
all_with_one k d ms [] h = refl
all_with_one k d ms (x ∷ xs) h =
    let P : Bool → Type 0 = λ b. all_keys (cond b xs (x ∷ without k xs)) ms ≡ true in
    elim (key_tells k x) [
      | inl found ↦ rw (found_first x k d ms (sym found.1), weaken k d ms xs (subst P found.0 h))
      | inr other ↦
          let (here, more) = and_parts (is_some (get_member x ms)) (all_keys (without k xs) ms) (subst P other.0 h) in
          rw (found_more x k d ms here, all_with_one k d ms xs more)
    ]

apart : (k l : String Global) → string_cmp k l ≡ Less → ¬ (string_bytes l ≡ string_bytes k)
apart k l less e = false≢true (ap is_eq (sym less ∙ ap (slice_cmp nat_cmp (string_bytes k)) e ∙ tied_itself nat_list_cmp_total (string_bytes k)))

only_others : (k : String Global) (es : List (String Global × Value)) (keys : List Key) → AllByRecursion (λ y. string_cmp k y ≡ Less) (keys_of es) → only_keys keys (members_view es) ≡ true
    → only_keys (without (string_bytes k) keys) (members_view es) ≡ true
only_others k [] keys less h = refl
only_others k (e ∷ es) keys less h =
    let (here, more) = and_parts (list_any (same_key (string_bytes e.0)) keys) (only_keys keys (members_view es)) h in
    rw (still_among (string_bytes e.0) (string_bytes k) keys (apart k e.0 less.0) here, only_others k es keys less.1 more)

-- none is absent
pub none_absent : (keys : List Key) (es : List (String Global × Value)) → IsStrictlySortedBy string_cmp (keys_of es) → length es ≡ length keys → only_keys keys (members_view es) ≡ true
    → all_keys keys (members_view es) ≡ true
unfolding IsStrictlySortedBy
none_absent [] es sorted many only = refl
none_absent (x ∷ xs) [] sorted many only = absurd (omega (arith, many))
none_absent (x ∷ xs) (e ∷ es) sorted many only =
    let keys = x ∷ xs in
    let k = string_bytes e.0 in
    let (here, more) = and_parts (list_any (same_key k) keys) (only_keys keys (members_view es)) only in
    all_with_one k (view e.1) (members_view es) keys (none_absent (without k keys) es sorted.1 (omega (arith, many, one_less k keys here)) (only_others e.0 es keys sorted.0 more))

known_only : (p : TablePlace) (only : Bool) (u : Unit {0}) → Ok u ≡ wanted p KeyUnknown only → only ≡ true
known_only p true u h = refl
known_only p false u h = sym (ap is_ok h)

-- what is read of the keys of a table that has as many as may stand there
pub keyed_full : (p : TablePlace) (keys : List Key) (es : List (String Global × Value)) (u : Unit {0}) → IsStrictlySortedBy string_cmp (keys_of es) → length es ≡ length keys
    → Ok u ≡ known p keys (members_view es) → Ok tt ≡ keyed p keys (members_view es)
keyed_full p keys es u sorted many h =
    let only = known_only p (only_keys keys (members_view es)) u h in
    rw (only, none_absent keys es sorted many only) refl
