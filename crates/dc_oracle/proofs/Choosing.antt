-- The choice, source by source, from what is carried.
use Rattle.std.proofs.Common.{◌≡◌, ℕ, suc, ◌+◌, ◌-◌, ◌<◌, Bool, true, false, cond, leb, Option, Some, None, is_some, List, [], ◌∷◌, ◌++◌, length, take, drop, get_or, refl, sym, ap, ◌∙◌, arith, take-append-drop}
use Rattle.std.specs.Prelude.{filter}
use Rattle.std.specs.List.{flat_map}
use Rattle.std.proofs.lemmas.Grind.{flat_map-append}
use Rattle.std.proofs.lemmas.List.{take_more, append-nil}
use Rattle.std.proofs.lemmas.List.Elements.{filter-append}
use Rattle.dc_word.specs.Format.{is_usable}
use Rattle.dc_tables.specs.TableRows.{TableRows, AreValid, label_row, stream_row}
use Rattle.dc_event.specs.Time.{tick_after}
use Rattle.dc_event.specs.Buses.{is_latched}
use Rattle.dc_event.specs.Choice.{fresh, fresh_word, head, choice, chosen_source, chosen, word_for}
use Rattle.dc_event.specs.declared.event.Event.{Event}
use Rattle.dc_oracle.specs.declared.replies.ReplyWatch.{ReplyWatch}
use Rattle.dc_oracle.specs.BusLog.{no_log}
use Rattle.dc_oracle.specs.Replies.{Holds, fresh_now, all_fresh, is_wanted}

-- ---- what is carried gives the definition's choice

fresh-is : (t : TableRows) (w : ReplyWatch) (run : List Event) (x s : ℕ) → Holds t w run → s < length t.streams → (stream_row t s).bus < length t.buses → fresh_now t w x s ≡ fresh t x run s
unfolding fresh
fresh-is t w run x s h there bus_there =
    ap (λ b. cond b [] (fresh_word (label_row t x).stale w.tick (get_or w.latest.items s None))) ((h.logs (stream_row t s).bus bus_there).flag)
    ∙ ap (λ k. cond (is_latched t (stream_row t s).bus run) [] (fresh_word (label_row t x).stale k (get_or w.latest.items s None))) h.clock
    ∙ ap (λ l. cond (is_latched t (stream_row t s).bus run) [] (fresh_word (label_row t x).stale (tick_after run) l)) (h.words s there)

all_same : (f g : ℕ → List (ℕ × ℕ)) (xs : List ℕ) → ((k : ℕ) → k < length xs → f (get_or xs k 0) ≡ g (get_or xs k 0)) → flat_map f xs ≡ flat_map g xs
all_same f g [] h = refl
all_same f g (x ∷ xs) h = ap (λ l. l ++ flat_map f xs) (h 0 (omega arith)) ∙ ap (λ l. g x ++ l) (all_same f g xs (λ k l. h (suc k) (omega arith)))

pub choice-is : (t : TableRows) (w : ReplyWatch) (run : List Event) (x : ℕ) → AreValid t → x < length t.labels → Holds t w run → choice t x (all_fresh t w x (label_row t x).sources) ≡ chosen_source t x run
unfolding chosen_source all_fresh
choice-is t w run x v there h =
    ap (λ cs. choice t x cs) (all_same (fresh_now t w x) (fresh t x run) (label_row t x).sources
    (λ k l. fresh-is t w run x (get_or (label_row t x).sources k 0) h (v.sources_there x k there l) (v.streams_on_buses (get_or (label_row t x).sources k 0) (v.sources_there x k there l))))

pub chosen-is : (t : TableRows) (w : ReplyWatch) (run : List Event) (x : ℕ) → AreValid t → x < length t.labels → Holds t w run → word_for t x (choice t x (all_fresh t w x (label_row t x).sources)) ≡ chosen t x run
chosen-is t w run x v there h = ap (word_for t x) (choice-is t w run x v there h)

-- ---- the first that is asked for, source by source

abbrev pub listed : Option (ℕ × ℕ) → List (ℕ × ℕ)
listed None = []
listed (Some c) = c ∷ []

word-listed : (stale now : ℕ) (o : Option ((ℕ × ℕ) × ℕ)) → fresh_word stale now o ≡ listed (head (fresh_word stale now o))
word-listed stale now None = refl
word-listed stale now (Some l) = elim (leb (now - l.1) stale) as (λ b. cond b (l.0 ∷ []) [] ≡ listed (head (cond b (l.0 ∷ []) []))) [ true ↦ refl | false ↦ refl ]

module _ (t : TableRows) (w : ReplyWatch) (x : ℕ) where
  fresh-listed : (s : ℕ) → fresh_now t w x s ≡ listed (head (fresh_now t w x s))
  fresh-listed s =
      elim (get_or w.buses.items (stream_row t s).bus no_log).latched as (λ b. cond b [] (fresh_word (label_row t x).stale w.tick (get_or w.latest.items s None)) ≡ listed (head (cond b [] (fresh_word (label_row t x).stale w.tick (get_or w.latest.items s None))))) [
        | true ↦ refl
        | false ↦ word-listed (label_row t x).stale w.tick (get_or w.latest.items s None)
      ]

  all-append : (xs ys : List ℕ) → all_fresh t w x (xs ++ ys) ≡ all_fresh t w x xs ++ all_fresh t w x ys
  unfolding all_fresh
  all-append xs ys = flat_map-append (fresh_now t w x) xs ys

  all-one : (s : ℕ) → all_fresh t w x (s ∷ []) ≡ fresh_now t w x s
  unfolding all_fresh
  all-one s = append-nil (fresh_now t w x s)

  all-more : (sources : List ℕ) (i : ℕ) → i < length sources → all_fresh t w x (take (i + 1) sources) ≡ all_fresh t w x (take i sources) ++ listed (head (fresh_now t w x (get_or sources i 0)))
  all-more sources i h =
      ap (λ l. all_fresh t w x l) (take_more sources i 0 h) ∙ all-append (take i sources) (get_or sources i 0 ∷ [])
      ∙ ap (λ l. all_fresh t w x (take i sources) ++ l) (all-one (get_or sources i 0) ∙ fresh-listed (get_or sources i 0))

  module _ (p : ℕ × ℕ → Bool) (sources : List ℕ) (i : ℕ) where
    filter-more : i < length sources → filter p (all_fresh t w x (take i sources)) ≡ [] → filter p (all_fresh t w x (take (i + 1) sources)) ≡ filter p (listed (head (fresh_now t w x (get_or sources i 0))))
    filter-more l none =
        ap (λ cs. filter p cs) (all-more sources i l) ∙ filter-append p (all_fresh t w x (take i sources)) (listed (head (fresh_now t w x (get_or sources i 0))))
        ∙ ap (λ cs. cs ++ filter p (listed (head (fresh_now t w x (get_or sources i 0))))) none

    pub none-fresh : i < length sources → filter p (all_fresh t w x (take i sources)) ≡ [] → head (fresh_now t w x (get_or sources i 0)) ≡ None → filter p (all_fresh t w x (take (i + 1) sources)) ≡ []
    none-fresh l none is = filter-more l none ∙ ap (λ o. filter p (listed o)) is

    one-kept : (c : ℕ × ℕ) → filter p (c ∷ []) ≡ cond (p c) (c ∷ []) []
    one-kept c = refl

    pub none-wanted : (c : ℕ × ℕ) → i < length sources → filter p (all_fresh t w x (take i sources)) ≡ [] → head (fresh_now t w x (get_or sources i 0)) ≡ Some c → p c ≡ false → filter p (all_fresh t w x (take (i + 1) sources)) ≡ []
    none-wanted c l none is bad = filter-more l none ∙ ap (λ o. filter p (listed o)) is ∙ one-kept c ∙ ap (λ b. cond b (c ∷ []) []) bad

    pub first-wanted : (c : ℕ × ℕ) → i < length sources → filter p (all_fresh t w x (take i sources)) ≡ [] → head (fresh_now t w x (get_or sources i 0)) ≡ Some c → p c ≡ true → Some c ≡ head (filter p (all_fresh t w x sources))
    first-wanted c l none is good =
        let here : filter p (all_fresh t w x (take (i + 1) sources)) ≡ c ∷ [] = filter-more l none ∙ ap (λ o. filter p (listed o)) is ∙ one-kept c ∙ ap (λ b. cond b (c ∷ []) []) good in
        let parts : all_fresh t w x sources ≡ all_fresh t w x (take (i + 1) sources) ++ all_fresh t w x (drop (i + 1) sources) =
        ap (λ l. all_fresh t w x l) (sym (take-append-drop (i + 1) sources)) ∙ all-append (take (i + 1) sources) (drop (i + 1) sources) in
        let all : filter p (all_fresh t w x sources) ≡ (c ∷ []) ++ filter p (all_fresh t w x (drop (i + 1) sources)) =
        ap (λ cs. filter p cs) parts ∙ filter-append p (all_fresh t w x (take (i + 1) sources)) (all_fresh t w x (drop (i + 1) sources)) ∙ ap (λ cs. cs ++ filter p (all_fresh t w x (drop (i + 1) sources))) here in
        sym (ap head all)

-- ---- usable first, then any

head-some : (xs ys : List (ℕ × ℕ)) → is_some (head xs) ≡ true → head xs ≡ head (xs ++ ys)
head-some [] ys h = absurd cc
head-some (x ∷ xs) ys h = refl

pub choice-usable : (t : TableRows) (x : ℕ) (cs : List (ℕ × ℕ)) → is_some (head (filter (λ c. is_wanted true t x c.1) cs)) ≡ true → head (filter (λ c. is_wanted true t x c.1) cs) ≡ choice t x cs
choice-usable t x cs h = head-some (filter (λ c. is_usable (label_row t x).format c.1) cs) cs h
