-- A line feed after a printed value changes nothing that is read.
use Rattle.std.proofs.Common.{◌≡◌, ℕ, ◌<◌, ◌^◌, List, [], ◌∷◌, ◌++◌, Bool, true, false, decimal, refl, sym, ap, ap₂, ◌∙◌, append_assoc, append-nil, option_and_then}
use Rattle.json.specs.Token.{begin_object, end_object, begin_array, end_array, string, number}
use Rattle.json.specs.Word.{ends_word}
use Rattle.json.specs.Lex.{token, comma, colon, string_token, lex, between, fresh, punctuate}
use Rattle.json.specs.Print.{escape, quoted}
use Rattle.json.specs.Json as json
use Rattle.json.proofs.Printed.Strings.{content-escape, lex-escape}
use Rattle.json.proofs.Printed.Numbers.{lex-number}
use Rattle.json.proofs.Printed.Decimals.{IsNumber-decimal}
use Rattle.serde_json.specs.Data as value
use Rattle.serde_json.specs.Data.{Data, Items, no_items, item, Members, no_members, member}
use Rattle.serde_json.specs.Read.{of_json, read, max_depth}
use Rattle.serde_json.specs.Written.{comma_if, compact_text, items_text, members_text}

-- ---- values of texts, whole numbers of 64 bits, lists and objects

abbrev mutual
  pub IsPlain : Data → Type 0
  IsPlain value.null = ⊥
  IsPlain (value.boolean b) = ⊥
  IsPlain (value.number (value.unsigned n)) = n < 2 ^ 64
  IsPlain (value.number (value.negative z)) = ⊥
  IsPlain (value.number (value.float x)) = ⊥
  IsPlain (value.string s) = Unit {0}
  IsPlain (value.array ds) = ItemsArePlain ds
  IsPlain (value.object ms) = MembersArePlain ms

  pub ItemsArePlain : Items → Type 0
  ItemsArePlain no_items = Unit {0}
  ItemsArePlain (item d ds) = IsPlain d × ItemsArePlain ds

  pub MembersArePlain : Members → Type 0
  MembersArePlain no_members = Unit {0}
  MembersArePlain (member k d ms) = IsPlain d × MembersArePlain ms

-- ---- what stands after a printed value plays no part in how it is cut into lexemes

lex-quoted : (s r : List ℕ) → lex between (quoted s ++ r) ≡ token (string s) ∷ lex between r
unfolding lex
lex-quoted s r =
    let e = append_assoc (escape s) (34 ∷ []) r in
    ap (λ l. lex between (34 ∷ l)) e ∙ ap₂ (λ o l. token (string_token o) ∷ l) (content-escape s r) (lex-escape s r)

same-quoted : (s xs ys : List ℕ) → lex between xs ≡ lex between ys → lex between (quoted s ++ xs) ≡ lex between (quoted s ++ ys)
same-quoted s xs ys e = lex-quoted s xs ∙ ap (λ l. token (string s) ∷ l) e ∙ sym (lex-quoted s ys)

same-comma : (later : Bool) (xs ys : List ℕ) → lex between xs ≡ lex between ys → lex between (comma_if later ++ xs) ≡ lex between (comma_if later ++ ys)
unfolding lex
same-comma true xs ys e = ap (λ l. comma ∷ l) e
same-comma false xs ys e = e

same-colon : (xs ys : List ℕ) → lex between xs ≡ lex between ys → lex between (58 ∷ xs) ≡ lex between (58 ∷ ys)
unfolding lex
same-colon xs ys e = ap (λ l. colon ∷ l) e

items_end : (ds : Items) (r : List ℕ) → ends_word (items_text true ds ++ r) ≡ true
items_end no_items r = refl
items_end (item d ds) r = refl

members_end : (ms : Members) (r : List ℕ) → ends_word (members_text true ms ++ r) ≡ true
members_end no_members r = refl
members_end (member k d ms) r = refl

regroup_item : (c d ds r : List ℕ) → (c ++ (d ++ ds)) ++ r ≡ c ++ (d ++ (ds ++ r))
regroup_item c d ds r = simp append_assoc

regroup_member : (c k d ms r : List ℕ) → (c ++ (k ++ 58 ∷ (d ++ ms))) ++ r ≡ c ++ (k ++ 58 ∷ (d ++ (ms ++ r)))
regroup_member c k d ms r = simp append_assoc

mutual
  unfolding lex

  same-data : (d : Data) → IsPlain d → (r s : List ℕ) → ends_word r ≡ true → ends_word s ≡ true → lex between r ≡ lex between s
      → lex between (compact_text d ++ r) ≡ lex between (compact_text d ++ s)
  same-data value.null h r s a b e = absurd h
  same-data (value.boolean v) h r s a b e = absurd h
  same-data (value.number (value.unsigned n)) h r s a b e =
      lex-number (decimal n) r (IsNumber-decimal n h) a ∙ ap (λ l. token (number (decimal n)) ∷ l) e ∙ sym (lex-number (decimal n) s (IsNumber-decimal n h) b)
  same-data (value.number (value.negative z)) h r s a b e = absurd h
  same-data (value.number (value.float x)) h r s a b e = absurd h
  same-data (value.string t) h r s a b e = same-quoted t r s e
  same-data (value.array ds) h r s a b e = ap (λ l. token begin_array ∷ l) (same-items false ds h r s e)
  same-data (value.object ms) h r s a b e = ap (λ l. token begin_object ∷ l) (same-members false ms h r s e)

  same-items : (later : Bool) (ds : Items) → ItemsArePlain ds → (r s : List ℕ) → lex between r ≡ lex between s
      → lex between (items_text later ds ++ r) ≡ lex between (items_text later ds ++ s)
  same-items later no_items h r s e = ap (λ l. token end_array ∷ l) e
  same-items later (item d ds) h r s e =
      ap (lex between) (regroup_item (comma_if later) (compact_text d) (items_text true ds) r)
      ∙ same-comma later _ _ (same-data d h.0 (items_text true ds ++ r) (items_text true ds ++ s) (items_end ds r) (items_end ds s) (same-items true ds h.1 r s e))
      ∙ sym (ap (lex between) (regroup_item (comma_if later) (compact_text d) (items_text true ds) s))

  same-members : (later : Bool) (ms : Members) → MembersArePlain ms → (r s : List ℕ) → lex between r ≡ lex between s
      → lex between (members_text later ms ++ r) ≡ lex between (members_text later ms ++ s)
  same-members later no_members h r s e = ap (λ l. token end_object ∷ l) e
  same-members later (member k d ms) h r s e =
      ap (lex between) (regroup_member (comma_if later) (quoted k) (compact_text d) (members_text true ms) r)
      ∙ same-comma later _ _ (same-quoted k _ _ (same-colon (compact_text d ++ (members_text true ms ++ r)) (compact_text d ++ (members_text true ms ++ s)) (same-data d h.0 (members_text true ms ++ r) (members_text true ms ++ s) (members_end ms r) (members_end ms s) (same-members true ms h.1 r s e))))
      ∙ sym (ap (lex between) (regroup_member (comma_if later) (quoted k) (compact_text d) (members_text true ms) s))

lex-line_feed : (d : Data) → IsPlain d → lex between (compact_text d ++ 10 ∷ []) ≡ lex between (compact_text d)
unfolding lex
lex-line_feed d h = same-data d h (10 ∷ []) [] refl refl refl ∙ ap (lex between) (append-nil (compact_text d))

-- the value is read alike with a line feed after it
pub read-line_feed : (d : Data) → IsPlain d → read (compact_text d ++ 10 ∷ []) ≡ read (compact_text d)
read-line_feed d h = ap (λ ls. option_and_then of_json (option_and_then (λ p. json.if_last p.0 p.1) (json.value max_depth (punctuate fresh ls)))) (lex-line_feed d h)
