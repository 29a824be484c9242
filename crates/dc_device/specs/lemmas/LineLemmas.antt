-- Lemmas on lines.
use Rattle.std.proofs.Common.{◌≡◌, ◌≢◌, ℕ, ◌+◌, ◌-◌, ◌==◌, ◌<◌, ◌≤◌, List, [], ◌∷◌, ◌++◌, drop, get_or, length, length-append, length-take, take, take-append-drop, subst, refl, sym, ◌∙◌, ap, append_assoc, append-nil, arith, false, min, zero, suc, ◌⊎◌, inl, inr}
use Rattle.std.proofs.lemmas.Bool.Decides.{nat_tests}
use Rattle.std.proofs.lemmas.List.{drop-drop, drop-take, take_min, take_more}
use Rattle.dc_device.specs.Lines.{HasNoLine, Held, HoldsLine, NoFeed, lines_of, onto, onto_first, spelled}
use Rattle.dc_device.specs.declared.reader.TheConstants.{LINE_LIMIT}

-- the next byte of those that are left
pub read_more : (all front rest new : List ℕ) (b : ℕ) → all ≡ front ++ rest → rest ≡ b ∷ new → all ≡ (front ++ b ∷ []) ++ new
read_more all front rest new b e f = e ∙ ap (λ l. front ++ l) f ∙ sym (append_assoc front (b ∷ []) new)

-- and the line with it
pub push_more : (line old front new : List ℕ) (b : ℕ) → new ≡ line ++ b ∷ [] → line ≡ old ++ front → new ≡ old ++ (front ++ b ∷ [])
push_more line old front new b e f = e ∙ ap (λ l. l ++ b ∷ []) f ∙ append_assoc old front (b ∷ [])

pub room_more : (front : List ℕ) (b room left all : ℕ) → length front + room ≡ all → (room ≡ 0 → ⊥) → left ≡ room - 1 → length (front ++ b ∷ []) + left ≡ all
room_more front b room left all e f g = omega (arith, length-append front (b ∷ []))

pub NoFeed-push : (xs : List ℕ) (b : ℕ) → NoFeed xs → b ≢ 10 → NoFeed (xs ++ b ∷ [])
NoFeed-push [] b p q = (q, tt)
NoFeed-push (x ∷ xs) b p q = (p.0, NoFeed-push xs b p.1 q)

pub NoFeed-append : (xs ys : List ℕ) → NoFeed xs → NoFeed ys → NoFeed (xs ++ ys)
NoFeed-append [] ys p q = q
NoFeed-append (x ∷ xs) ys p q = (p.0, NoFeed-append xs ys p.1 q)

onto_twice : (x : ℕ) (xs : List ℕ) (ls : List (List ℕ)) (rest : List ℕ) → (let r = onto_first xs ls rest in onto_first (x ∷ []) r.0 r.1) ≡ onto_first (x ∷ xs) ls rest
onto_twice x xs [] rest = refl
onto_twice x xs (l ∷ ls) rest = refl

onto_none : (ls : List (List ℕ)) (rest : List ℕ) → onto_first [] ls rest ≡ (ls, rest)
onto_none [] rest = refl
onto_none (l ∷ ls) rest = refl

not_feed : (b : ℕ) → b ≢ 10 → (b == 10) ≡ false
not_feed b p = grind (arith, nat_tests)

-- bytes without a line feed stand at the front of the first line
pub lines_of_front : (xs rest : List ℕ) → NoFeed xs → lines_of (xs ++ rest) ≡ onto xs (lines_of rest)
lines_of_front [] rest p = sym (onto_none (lines_of rest).0 (lines_of rest).1)
lines_of_front (x ∷ xs) rest p =
    rw (not_feed x p.0, lines_of_front xs rest p.1) (onto_twice x xs (lines_of rest).0 (lines_of rest).1)

-- a line with its line feed is the first
pub lines_of_whole : (line rest : List ℕ) → NoFeed line → lines_of (line ++ 10 ∷ rest) ≡ (line ∷ (lines_of rest).0, (lines_of rest).1)
lines_of_whole line rest p =
    lines_of_front line (10 ∷ rest) p ∙ ap (λ (l : List ℕ). (l ∷ (lines_of rest).0, (lines_of rest).1)) (append-nil line)

-- bytes without a line feed are what stands after the last one
pub lines_of_rest : (line : List ℕ) → NoFeed line → lines_of line ≡ ([], line)
lines_of_rest line p =
    ap lines_of (sym (append-nil line)) ∙ lines_of_front line [] p ∙ ap (λ (l : List ℕ). ([], l)) (append-nil line)

pub spelled-append : (xs ys : List (List ℕ)) → spelled (xs ++ ys) ≡ spelled xs ++ spelled ys
spelled-append [] ys = refl
spelled-append (x ∷ xs) ys = ap (λ l. x ++ 10 ∷ l) (spelled-append xs ys) ∙ sym (append_assoc x (10 ∷ spelled xs) (spelled ys))

-- one more byte that is no line feed
pub NoFeed-take : (bytes : List ℕ) (i : ℕ) → i < length bytes → get_or bytes i 0 ≢ 10 → NoFeed (take i bytes) → NoFeed (take (i + 1) bytes)
NoFeed-take bytes i p other plain = rw (take_more bytes i 0 p) (NoFeed-push (take i bytes) (get_or bytes i 0) plain other)

passed : (block : List ℕ) (at end count : ℕ) → count ≤ length (take (end - at) (drop at block))
    → take (end - (at + count)) (drop (at + count) block) ≡ drop count (take (end - at) (drop at block))
passed block at end count p =
    let q : count ≤ end - at = omega (arith, length-take (end - at) (drop at block)) in
    let e : end - at ≡ count + (end - (at + count)) = omega arith in
    ap (take (end - (at + count))) (sym (drop-drop count at block))
    ∙ sym (drop-take count (end - (at + count)) (drop at block))
    ∙ ap (λ n. drop count (take n (drop at block))) (sym e)

-- what is held after bytes that are passed over
pub held_passed : (held : Held) (block : List ℕ) (at end room count : ℕ)
    → (let r : Held = record { bytes = take (end - at) (drop at block); room = room } in r) ≡ held → count ≤ length held.bytes
    → take (end - (at + count)) (drop (at + count) block) ≡ drop count held.bytes
held_passed held block at end room count view p =
    let e : take (end - at) (drop at block) ≡ held.bytes = ap (λ (h : Held). h.bytes) view in
    rw (← e) (passed block at end count (rw (← e) at p))

-- the first bytes of which there are at most n
pub NoFeed-first : (n : ℕ) (bytes : List ℕ) → NoFeed (take (min (length bytes) n) bytes) → NoFeed (take n bytes)
NoFeed-first n bytes plain =
    let e : min (length bytes) n ≡ min n (length bytes) = omega arith in
    rw (← take_min n bytes, ← e) plain

feed_within : (n : ℕ) (line rest : List ℕ) → length line < n → NoFeed (take n (line ++ 10 ∷ rest)) → ⊥
feed_within zero line rest p plain = absurd (omega arith)
feed_within (suc n) [] rest p plain = plain.0 refl
feed_within (suc n) (b ∷ bs) rest p plain = feed_within n bs rest (omega arith) plain.1

-- no line feed among the first bytes, or the text may not have it
has_no_line : (held : Held) (n : ℕ) → NoFeed (take n held.bytes) → (LINE_LIMIT < n) ⊎ (held.room ≤ n) → HasNoLine held
has_no_line held n plain (inl p) line (rest, e, more, short, room) =
    feed_within n line rest (omega arith) (subst (λ l. NoFeed (take n l)) e plain)
has_no_line held n plain (inr p) line (rest, e, more, short, room) =
    feed_within n line rest (omega arith) (subst (λ l. NoFeed (take n l)) e plain)

-- a line feed after n bytes that are none
holds_line : (held : Held) (n : ℕ) → n < length held.bytes → n ≤ LINE_LIMIT → NoFeed (take n held.bytes) → drop n held.bytes ≡ 10 ∷ drop (n + 1) held.bytes → n < held.room
    → HoldsLine held (take n held.bytes)
holds_line held n within short plain feed room = (
  drop (n + 1) held.bytes,
  sym (take-append-drop n held.bytes) ∙ ap (λ l. take n held.bytes ++ l) feed,
  plain,
  omega (arith, length-take n held.bytes),
  omega (arith, length-take n held.bytes),
)

-- ---- the same, for a reader that is seen as its parts

abbrev pub held_of : List ℕ → ℕ → ℕ → ℕ → Held
held_of block at end room = record { bytes = take (end - at) (drop at block); room = room }

-- a line feed was found after n bytes
abbrev pub IsFeed : List ℕ → ℕ → Type 0
IsFeed bytes n = (n < length bytes) × (n ≤ LINE_LIMIT) × NoFeed (take n bytes) × (drop n bytes ≡ 10 ∷ drop (n + 1) bytes)

pub held_no_feed : (held : Held) (block : List ℕ) (at end room : ℕ) → held_of block at end room ≡ held → NoFeed (take (LINE_LIMIT + 1) (take (end - at) (drop at block)))
    → HasNoLine held
held_no_feed held block at end room view plain = subst HasNoLine view (has_no_line (held_of block at end room) (LINE_LIMIT + 1) plain (inl (omega arith)))

pub held_no_room : (held : Held) (block : List ℕ) (at end room n : ℕ) → held_of block at end room ≡ held → IsFeed (take (end - at) (drop at block)) n
    → room ≤ n → HasNoLine held
held_no_room held block at end room n view (within, short, plain, feed) p =
    subst HasNoLine view (has_no_line (held_of block at end room) n plain (inr p))

pub held_line_is : (held : Held) (block : List ℕ) (at end room n : ℕ) → held_of block at end room ≡ held → IsFeed (take (end - at) (drop at block)) n
    → n < room → HoldsLine held (take n (take (end - at) (drop at block)))
held_line_is held block at end room n view (within, short, plain, feed) p =
    subst (λ h. HoldsLine h (take n (take (end - at) (drop at block)))) view (holds_line (held_of block at end room) n within short plain feed p)
