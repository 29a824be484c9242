-- The sum of what is kept of a sum's members.
use Rattle.std.proofs.Common.{◌≡◌, ℕ, zero, suc, ◌+◌, ◌-◌, ◌/◌, ◌<◌, ◌≤◌, Option, Some, None, IfSome, inl, inr, replicate, List, [], ◌∷◌, length, take, set, get_or, refl, sym, ◌∙◌, ap, arith}
use Rattle.std.specs.List.{sum, sum_by}
use Rattle.std.proofs.lemmas.List.Sums.{sum_by-cons}
use Rattle.std.specs.Option.{unwrap_or}
use Rattle.std.proofs.lemmas.List.{get_or_read, get_or-set_same, get_or-set_other, length-set, length-replicate, get_or-replicate}
use Rattle.std.proofs.lemmas.Bool.{cases_eq, cases_lt}
use Rattle.dc_bound.specs.Window.{IsNextJump, Shown}
use Rattle.dc_bound.specs.Terms.{IsTerm, AreKept, KeepsTerms}
use Rattle.dc_bound.specs.declared.terms.Terms.{Terms}

-- counts that are each what the member says have the sum of what the members say
pub sum_same : {B : Type 0} (f : B → ℕ) (bs : List B) (cs : List ℕ) → length bs ≤ length cs →
    ((i : ℕ) (d : B) → i < length bs → f (get_or bs i d) ≡ get_or cs i 0) → sum_by f bs ≡ sum (take (length bs) cs)
sum_same f [] cs long same = refl
sum_same f (b ∷ bs) [] long same = absurd (omega arith)
sum_same f (b ∷ bs) (c ∷ cs) long same =
    omega (
      arith,
      sum_by-cons f b bs,
      sum_by-cons (λ x. x) c (take (length bs) cs),
      same 0 b (omega arith),
      sum_same f bs cs (omega arith) (λ i d inside. same (suc i) d (omega arith)),
    )

pub sum_below : {B : Type 0} (f : B → ℕ) (bs : List B) (cs : List ℕ) → length bs ≤ length cs →
    ((i : ℕ) (d : B) → i < length bs → get_or cs i 0 ≤ f (get_or bs i d)) → sum (take (length bs) cs) ≤ sum_by f bs
sum_below f [] cs long same = omega arith
sum_below f (b ∷ bs) [] long same = absurd (omega arith)
sum_below f (b ∷ bs) (c ∷ cs) long same =
    omega (
      arith,
      sum_by-cons f b bs,
      sum_by-cons (λ x. x) c (take (length bs) cs),
      same 0 b (omega arith),
      sum_below f bs cs (omega arith) (λ i d inside. same (suc i) d (omega arith)),
    )

-- a count that changes
pub sum_set : (n i y : ℕ) (cs : List ℕ) → i < n → n ≤ length cs → sum (take n (set cs i y)) + get_or cs i 0 ≡ sum (take n cs) + y
sum_set zero i y cs inside long = absurd (omega arith)
sum_set (suc n) i y [] inside long = absurd (omega arith)
sum_set (suc n) zero y (c ∷ cs) inside long =
    omega (arith, sum_by-cons (λ x. x) c (take n cs), sum_by-cons (λ x. x) y (take n cs))
sum_set (suc n) (suc i) y (c ∷ cs) inside long =
    omega (
      arith,
      sum_by-cons (λ x. x) c (take n cs),
      sum_by-cons (λ x. x) c (take n (set cs i y)),
      sum_set n i y cs (omega arith) (omega arith),
    )

-- what a member says is kept
pub term_of : (f : ℕ → ℕ) → ((m n : ℕ) → m ≤ n → f m ≤ f n) → (ticks most end : ℕ) (jump : Option ℕ) → ticks ≤ 1000000 → most ≡ f ticks →
    IsNextJump f ticks jump → end ≡ unwrap_or jump 1000001 → IsTerm f ticks most end × (ticks < end)
term_of f grows ticks most end None short is next at =
    ((omega (arith, grows ticks 1000000 short), λ k from to. omega (arith, next k from (omega arith))), omega arith)
term_of f grows ticks most end (Some j) short is next at =
    ((omega (arith, grows ticks 1000000 short), λ k from to. omega (arith, next.2 k from (omega arith))), omega (arith, next.0))

moved_term : {B : Type 0} (cap : B → ℕ → ℕ) (b x : B) (ticks count end most to : ℕ) → b ≡ x → count ≡ most → end ≡ to →
    IsTerm (cap x) ticks most to → IsTerm (cap b) ticks count end
moved_term cap b x ticks count end most to same_b same_count same_end h = (
  omega (arith, h.0, ap (λ c. cap c 1000000) same_b, same_count),
  (λ k from before. omega (arith, h.1 k from (omega (arith, same_end)), ap (λ c. cap c k) same_b, same_count)),
)

module _ {B : Type 0} (cap : B → ℕ → ℕ) (members : List B) (ticks total : ℕ) (counts marks : List ℕ) (kept : AreKept cap members ticks total counts marks) (few : length members ≤ 256) where
  -- one member is asked anew
  pub asked : ((b : B) (m n : ℕ) → m ≤ n → cap b m ≤ cap b n) → (i : ℕ) (x : B) (most end : ℕ) (jump : Option ℕ) → i < length members → x ≡ get_or members i x →
      ticks ≤ 1000000 → most ≡ cap x ticks → IsNextJump (cap x) ticks jump → end / 256 ≡ unwrap_or jump 1000001 →
      AreKept cap members ticks (total - get_or counts i 0 + most) (set counts i most) (set marks i end)
  asked grows i x most end jump inside here short is next at =
      let changed = sum_set (length members) i most counts inside (omega (arith, kept.0)) in
      let without = sum_set (length members) i 0 counts inside (omega (arith, kept.0)) in
      let term : IsTerm (cap x) ticks most (end / 256) = (term_of (cap x) (grows x) ticks most (end / 256) jump short is next at).0 in (
        omega (arith, length-set counts i most, kept.0),
        omega (arith, length-set marks i end, kept.1),
        omega (arith, changed, without, kept.2),
        (λ j d within. elim (cases_eq j i) [
          | inl e ↦
              moved_term cap (get_or members j d) x ticks (get_or (set counts i most) j 0) (get_or (set marks i end) j 0 / 256) most (end / 256)
              (ap (λ n. get_or members n d) e ∙ sym (get_or_read members i x inside here d))
              (ap (λ n. get_or (set counts i most) n 0) e ∙ get_or-set_same counts i most 0 (omega (arith, kept.0)))
              (ap (λ n. n / 256) (ap (λ n. get_or (set marks i end) n 0) e ∙ get_or-set_same marks i end 0 (omega (arith, kept.1))))
              term
          | inr ne ↦
              moved_term cap (get_or members j d) (get_or members j d) ticks (get_or (set counts i most) j 0) (get_or (set marks i end) j 0 / 256) (get_or counts j 0) (get_or marks j 0 / 256)
              refl (get_or-set_other counts i j most 0 ne) (ap (λ n. n / 256) (get_or-set_other marks i j end 0 ne)) (kept.3 j d within)
        ]),
      )

  pub kept_bounded : total ≤ sum_by (λ b. cap b 1000000) members
  kept_bounded = omega (arith, kept.2, sum_below (λ b. cap b 1000000) members counts (omega (arith, kept.0)) (λ i d inside. (kept.3 i d inside).0))

  -- the sum of the members is their counts' up to where the first of these marks
  pub kept_shown : (until : ℕ) → ((i : ℕ) → i < length members → until ≤ get_or marks i 0 / 256) → Shown (λ k. sum_by (λ b. cap b k) members) ticks until total
  kept_shown until first k from to =
      omega (
        arith,
        kept.2,
        sum_same (λ b. cap b k) members counts (omega (arith, kept.0)) (λ i d inside. (kept.3 i d inside).1 k from (omega (arith, first i inside))),
      )

  pub kept_later : (later : ℕ) → ticks ≤ later → AreKept cap members later total counts marks
  kept_later later h = (
    kept.0,
    kept.1,
    kept.2,
    (λ i d inside. ((kept.3 i d inside).0, λ k from to. (kept.3 i d inside).1 k (omega arith) to)),
  )

-- what is kept, if anything, is kept for more ticks
pub all_kept_later : {B : Type 0} (cap : B → ℕ → ℕ) (members : List B) (ticks later : ℕ) (terms : Option Terms) → ticks ≤ later →
    IfSome terms (λ t. (length members ≤ 256) × KeepsTerms cap members ticks t) → IfSome terms (λ t. (length members ≤ 256) × KeepsTerms cap members later t)
all_kept_later cap members ticks later None h kept = kept
all_kept_later cap members ticks later (Some t) h kept = (kept.0, kept_later cap members ticks t.total t.counts t.marks kept.1 kept.0 later h)

zero_sum : (n m : ℕ) → sum (take n (replicate m 0)) ≡ 0
zero_sum zero m = refl
zero_sum (suc n) zero = refl
zero_sum (suc n) (suc m) = omega (arith, sum_by-cons (λ x. x) 0 (take n (replicate m 0)), zero_sum n m)

-- of members that were not asked nothing is kept
pub kept_fresh : {B : Type 0} (cap : B → ℕ → ℕ) (members : List B) (ticks total : ℕ) (counts marks : List ℕ) → length members ≤ 256 →
    total ≡ 0 → counts ≡ replicate 256 0 → marks ≡ replicate 256 0 → AreKept cap members ticks total counts marks
kept_fresh cap members ticks total counts marks few none no_counts no_marks = (
  omega (arith, ap length no_counts, length-replicate {A = ℕ} 256 0),
  omega (arith, ap length no_marks, length-replicate {A = ℕ} 256 0),
  omega (arith, none, ap (λ cs. sum (take (length members) cs)) no_counts, zero_sum (length members) 256),
  (λ i d inside. (
    omega (arith, ap (λ cs. get_or cs i 0) no_counts, get_or-replicate {A = ℕ} 256 i 0 0 (omega arith)),
    (λ k from to.
        let none_yet : get_or marks i 0 / 256 ≡ 0 = ap (λ cs. get_or cs i 0 / 256) no_marks ∙ ap (λ n. n / 256) (get_or-replicate {A = ℕ} 256 i 0 0 (omega arith)) in
        absurd (omega (arith, none_yet, to))),
  )),
)

-- ---- the least of marks

-- an index below the next is the last one or one of those before
pub least_next : (f : ℕ → ℕ) (least n : ℕ) → ((j : ℕ) → j < n → least ≤ f j) → least ≤ f n → (j : ℕ) → j < n + 1 → least ≤ f j
least_next f least n before here j h =
    elim (cases_lt j n) [
      | inl l ↦ before j l
      | inr l ↦ omega (arith, here, ap f (let e : j ≡ n = omega arith in e))
    ]
