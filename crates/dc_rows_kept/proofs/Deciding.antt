-- Each test decides what it stands for.
use Rattle.std.proofs.Common.{zero, suc, cond, MatchOption, ◌≡◌, ℕ, ◌+◌, ◌*◌, ◌<◌, ◌≤◌, Bool, true, false, not, ◌&&◌, ◌||◌, nat_eq, nat_le, List, [], ◌∷◌, length, slice_get, slice_index_or, get_or, position, Option, Some, None, IfSome, IsSomeAnd, refl, sym, ap, subst, ◌∙◌, arith, rules}
use Rattle.std.specs.Bool.{Decides}
use Rattle.std.specs.List.{All, Contains, list_all, list_any, position_from}
use Rattle.std.specs.Option.{option_eq}
use Rattle.std.specs.Str.{bytes_eq}
use Rattle.std.proofs.lemmas.Bool.Decides.{Decides-and, Decides-eqb, Decides-like}
use Rattle.std.proofs.lemmas.List.Folds.{Any-from_list_any, list_any-from_Any}
use Rattle.std.proofs.lemmas.Iterator.Adapters.{position_from-zero}
use Rattle.std.proofs.lemmas.List.Quantifiers.{position-Some}
use Rattle.std.proofs.lemmas.Slice.Eq.{bytes_eq-Decides, slice_eq-Decides}
use Rattle.dc_cell.specs.declared.rows.InputRow.{InputRow}
use Rattle.dc_cell.specs.declared.rows.OutputRow.{OutputRow}
use Rattle.dc_cell.specs.declared.rows.Task.{Task}
use Rattle.dc_dict.specs.Rows.{row_of}
use Rattle.dc_dict.specs.declared.parameter.Parameter.{Parameter as ParameterPart}
use Rattle.dc_document.specs.Document.{Document}
use Rattle.dc_document.specs.declared.parts.BusPart.{BusPart}
use Rattle.dc_document.specs.declared.parts.StreamPart.{StreamPart}
use Rattle.dc_document.specs.declared.parts.OutputPart.{OutputPart}
use Rattle.dc_document.specs.declared.parts.RouterPart.{RouterPart}
use Rattle.dc_document.specs.declared.parts.LabelPart.{LabelPart}
use Rattle.dc_document.specs.declared.parts.Speed.{Speed}
use Rattle.dc_document.specs.declared.parts.Speed.TheVariants.{High, Low}
use Rattle.dc_word.specs.declared.format.Format.{Format}
use Rattle.dc_word.specs.declared.format.Format.TheVariants.{Bnr, Bcd, Disc}
use Rattle.dc_rows_kept.specs.KeepsRows.{AsksNoMore, HasLabel, HasStream, IsBusOf, IsFirstWithout, IsLabelOf, IsStreamOf, KeepsInput, KeepsOutput, LetsCome, RoutersAskNoMore, SendsData, SendsWithin}
use Rattle.dc_rows_kept.specs.Tests.{asks_no_more, has_label, has_stream, is_bus_of, is_format, is_label_of, is_of_output, is_stream_of, keeps_input, keeps_output, lets_come, passes_if_some, router_asks_no_more, routers_ask_no_more, same_names, same_speed, sends_data, sends_within, some_passes, visits}

-- ---- parts of tests

at_most : (a b : ℕ) → Decides (nat_le a b) (a ≤ b)
at_most a b = search rules

if_there : {T : Type 0} (test : T → Bool) (P : T → Type 0) → ((x : T) → Decides (test x) (P x)) → (o : Option T) → Decides (passes_if_some test o) (IfSome o P)
if_there test P each None = (λ e. tt, λ h. refl)
if_there test P each (Some x) = each x

there : {T : Type 0} (test : T → Bool) (P : T → Type 0) → ((x : T) → Decides (test x) (P x)) → (o : Option T) → Decides (some_passes test o) (IsSomeAnd o P)
there test P each None = (λ e. cc, λ h. absurd h)
there test P each (Some x) = each x

speed : (a b : Speed) → Decides (same_speed a b) (a ≡ b)
speed High High = (λ e. refl, λ h. refl)
speed Low Low = (λ e. refl, λ h. refl)
speed High Low = (λ e. cc, λ h. cc)
speed Low High = (λ e. cc, λ h. cc)

format : (a b : Format) → Decides (is_format a b) (a ≡ b)
format Bnr Bnr = (λ e. refl, λ h. refl)
format Bcd Bcd = (λ e. refl, λ h. refl)
format Disc Disc = (λ e. refl, λ h. refl)
format Bnr Bcd = (λ e. cc, λ h. cc)
format Bnr Disc = (λ e. cc, λ h. cc)
format Bcd Bnr = (λ e. cc, λ h. cc)
format Bcd Disc = (λ e. cc, λ h. cc)
format Disc Bnr = (λ e. cc, λ h. cc)
format Disc Bcd = (λ e. cc, λ h. cc)

sdi : (a b : Option ℕ) → Decides (option_eq nat_eq a b) (a ≡ b)
sdi None None = (λ e. refl, λ h. refl)
sdi None (Some y) = (λ e. cc, λ h. cc)
sdi (Some x) None = (λ e. cc, λ h. cc)
sdi (Some x) (Some y) = (λ e. ap (λ n. let o : Option ℕ = Some n in o) ((Decides-eqb x y).0 e), λ h. (Decides-eqb x y).1 (cc))

names : (xs ys : List (List ℕ)) → Decides (same_names xs ys) (xs ≡ ys)
names xs ys = slice_eq-Decides bytes_eq-Decides xs ys (same_names xs ys) refl

-- police where it is asked for
policed : (asked done : Bool) → Decides (not asked || done) (asked ≡ true → done ≡ true)
policed true true = (λ e. λ _. refl, λ h. refl)
policed true false = (λ e. cc, λ h. h refl)
policed false true = (λ e. λ _. refl, λ h. refl)
policed false false = (λ e. λ no. cc, λ h. refl)

-- ---- all and some of a list

both : (a b : Bool) → (a && b) ≡ true → (a ≡ true) × (b ≡ true)
both true b e = (refl, e)
both false b e = absurd (cc e)

and_both : (a b : Bool) → a ≡ true → b ≡ true → (a && b) ≡ true
and_both true b e more = more
and_both false b e more = absurd (cc e)

each_passes : {X : Type 0} (test : X → Bool) (P : X → Type 0) → ((x : X) → Decides (test x) (P x)) → (xs : List X) → list_all test xs ≡ true → All P xs
each_passes test P each [] e k d l = absurd (omega (arith, l))
each_passes test P each (x ∷ xs) e zero d l = (each x).0 (both (test x) (list_all test xs) e).0
each_passes test P each (x ∷ xs) e (suc k) d l = each_passes test P each xs (both (test x) (list_all test xs) e).1 k d (omega (arith, l))

all_pass : {X : Type 0} (test : X → Bool) (P : X → Type 0) → ((x : X) → Decides (test x) (P x)) → (xs : List X) → All P xs → list_all test xs ≡ true
all_pass test P each [] h = refl
all_pass test P each (x ∷ xs) h = and_both (test x) (list_all test xs) ((each x).1 (h zero x (omega arith))) (all_pass test P each xs (λ k d l. h (suc k) d (omega (arith, l))))

all_of : {X : Type 0} (test : X → Bool) (P : X → Type 0) → ((x : X) → Decides (test x) (P x)) → (xs : List X) → Decides (list_all test xs) (All P xs)
all_of test P each xs = (each_passes test P each xs, all_pass test P each xs)

some_of : {X : Type 0} (test : X → Bool) (P : X → Type 0) → ((x : X) → Decides (test x) (P x)) → (xs : List X) → Decides (list_any test xs) ((x : X) × Contains xs x × P x)
some_of test P each xs = (
  λ e. let (k, x, there, is, so) = Any-from_list_any test xs e in (x, (k, there, is), (each x).0 so),
  λ (x, (k, there, is), h). list_any-from_Any test xs (k, x, there, is, (each x).1 h),
)

-- what is asked where a test holds
implies : (a b : Bool) (A B : Type 0) → Decides a A → Decides b B → Decides (not a || b) (A → B)
implies true b A B one other = (λ e. λ _. other.0 e, λ h. other.1 (h (one.0 refl)))
implies false b A B one other = (λ e. λ h. absurd (cc (one.1 h)), λ h. refl)

-- ---- what a task surely does

decides_task : (tick steps within : ℕ) (task : Task) → Decides (asks_no_more tick steps within task) (AsksNoMore tick steps within task)
decides_task tick steps within task =
    Decides-like (asks_no_more tick steps within task) (λ (few, long). record { steps = few; within = long }) (λ r. (r.steps, r.within))
    (Decides-and _ _ (at_most steps task.steps) (at_most task.within_us (within * tick)))

decides_visits : (bus : List ℕ) (r : RouterPart) → Decides (visits bus r) (Contains r.visits.items bus)
decides_visits bus r =
    Decides-like (visits bus r) (λ (name, there, same). subst (Contains r.visits.items) same there) (λ there. (bus, there, refl))
    (some_of (λ name. bytes_eq name bus) (λ name. name ≡ bus) (λ name. bytes_eq-Decides name bus) r.visits.items)

decides_router : (tick : ℕ) (bus : List ℕ) (task : Task) (r : RouterPart) → Decides (router_asks_no_more tick bus task r) (Contains r.visits.items bus → AsksNoMore tick r.steps r.within task)
decides_router tick bus task r =
    implies (visits bus r) (asks_no_more tick r.steps r.within task) (Contains r.visits.items bus) (AsksNoMore tick r.steps r.within task) (decides_visits bus r)
    (decides_task tick r.steps r.within task)

decides_routers : (d : Document) (bus : List ℕ) (task : Task) → Decides (routers_ask_no_more d bus task) (RoutersAskNoMore d bus task)
decides_routers d bus task =
    all_of (router_asks_no_more d.tick_us bus task) (λ r. Contains r.visits.items bus → AsksNoMore d.tick_us r.steps r.within task) (decides_router d.tick_us bus task) d.routers

-- ---- a row of the inputs

decides_stream : (row : InputRow) (s : StreamPart) (b : BusPart) → Decides (is_stream_of row s b) (IsStreamOf row s b)
decides_stream row s b =
    Decides-like (is_stream_of row s b)
    (λ (((bus, label), sdi), named). record { bus = bus; label = label; sdi = sdi; named = named }) (λ r. (((r.bus, r.label), r.sdi), r.named))
    (Decides-and _ _ (Decides-and _ _ (Decides-and _ _ (bytes_eq-Decides b.name row.bus) (Decides-eqb s.label row.label)) (sdi s.sdi row.sdi))
    (if_there (bytes_eq s.name) (λ n. s.name ≡ n) (bytes_eq-Decides s.name) row.name))

decides_bus : (row : InputRow) (b : BusPart) → Decides (is_bus_of row b) (IsBusOf row b)
decides_bus row b =
    Decides-like (is_bus_of row b) (λ ((speed, police), queue). record { speed = speed; police = police; queue = queue }) (λ r. ((r.speed, r.police), r.queue))
    (Decides-and _ _ (Decides-and _ _ (speed b.speed row.speed) (policed row.police b.police)) (if_there (nat_le b.queue) (λ q. b.queue ≤ q) (at_most b.queue) row.queue))

decides_words : (row : InputRow) (s : StreamPart) (p : ParameterPart) → Decides (lets_come row s p) (LetsCome row s p)
decides_words row s p =
    Decides-like (lets_come row s p)
    (λ ((((equipment, format), least), greatest), jitter). record { equipment = equipment; format = format; least = least; greatest = greatest; jitter = jitter })
    (λ r. ((((r.equipment, r.format), r.least), r.greatest), r.jitter))
    (Decides-and _ _ (Decides-and _ _ (Decides-and _ _ (Decides-and _ _ (Decides-eqb s.equipment row.equipment) (format p.format row.format)) (at_most p.min_us row.min_us)) (at_most row.max_us p.max_us))
    (at_most row.jitter_us s.jitter_us))

decides_input : (d : Document) (row : InputRow) (s : StreamPart) → Decides (keeps_input d row s) (KeepsInput d row s)
decides_input d row s =
    Decides-like (keeps_input d row s) (λ ((bus, words), task). record { bus = bus; words = words; task = task }) (λ r. ((r.bus, r.words), r.task))
    (Decides-and _ _ (Decides-and _ _
    (there (λ b. is_stream_of row s b && is_bus_of row b) (λ b. IsStreamOf row s b × IsBusOf row b) (λ b. Decides-and _ _ (decides_stream row s b) (decides_bus row b)) (slice_get d.buses s.bus))
    (there (lets_come row s) (LetsCome row s) (decides_words row s) (row_of d.parameters s.label s.equipment)))
    (if_there (routers_ask_no_more d row.bus) (RoutersAskNoMore d row.bus) (decides_routers d row.bus) row.task))

-- ---- a row of the outputs

decides_label : (row : OutputRow) (x : LabelPart) (o : OutputPart) → Decides (is_label_of row x o) (IsLabelOf row x o)
decides_label row x o =
    Decides-like (is_label_of row x o)
    (λ ((((output, speed), label), sdi), named). record { output = output; speed = speed; label = label; sdi = sdi; named = named })
    (λ r. ((((r.output, r.speed), r.label), r.sdi), r.named))
    (Decides-and _ _ (Decides-and _ _ (Decides-and _ _ (Decides-and _ _ (bytes_eq-Decides o.name row.output) (speed o.speed row.speed)) (Decides-eqb x.label row.label)) (Decides-eqb x.sdi row.sdi))
    (if_there (bytes_eq x.name) (λ n. x.name ≡ n) (bytes_eq-Decides x.name) row.name))

decides_place : (tick : ℕ) (row : OutputRow) (x : LabelPart) (o : OutputPart) → Decides (is_of_output tick row x o) (IsLabelOf row x o × IfSome row.task (AsksNoMore tick o.steps o.within))
decides_place tick row x o =
    Decides-and _ _ (decides_label row x o)
    (if_there (asks_no_more tick o.steps o.within) (AsksNoMore tick o.steps o.within) (decides_task tick o.steps o.within) row.task)

decides_within : (row : OutputRow) (x : LabelPart) (p : ParameterPart) → Decides (sends_within row x p) (SendsWithin row x p)
decides_within row x p =
    Decides-like (sends_within row x p)
    (λ (((equipment, format), least), greatest). record { equipment = equipment; format = format; least = least; greatest = greatest })
    (λ r. (((r.equipment, r.format), r.least), r.greatest))
    (Decides-and _ _ (Decides-and _ _ (Decides-and _ _ (Decides-eqb x.equipment row.equipment) (if_there (is_format p.format) (λ f. p.format ≡ f) (format p.format) row.format)) (at_most row.min_us p.min_us))
    (at_most p.max_us row.max_us))

decides_data : (tick : ℕ) (row : OutputRow) (x : LabelPart) → Decides (sends_data tick row x) (SendsData tick row x)
decides_data tick row x =
    Decides-like (sends_data tick row x) (λ ((sources, age), timeout). record { sources = sources; age = age; timeout = timeout }) (λ r. ((r.sources, r.age), r.timeout))
    (Decides-and _ _ (Decides-and _ _ (names x.sources.items row.sources.items) (if_there (nat_le ((x.age + 1) * tick)) (λ most. (x.age + 1) * tick ≤ most) (at_most ((x.age + 1) * tick)) row.max_age_us))
    (if_there (nat_le (x.stale * tick)) (λ most. x.stale * tick ≤ most) (at_most (x.stale * tick)) row.timeout_us))

decides_output : (d : Document) (row : OutputRow) (x : LabelPart) → Decides (keeps_output d row x) (KeepsOutput d row x)
decides_output d row x =
    Decides-like (keeps_output d row x) (λ ((output, words), sent). record { output = output; words = words; sent = sent }) (λ r. ((r.output, r.words), r.sent))
    (Decides-and _ _ (Decides-and _ _
    (there (is_of_output d.tick_us row x) (λ o. IsLabelOf row x o × IfSome row.task (AsksNoMore d.tick_us o.steps o.within)) (decides_place d.tick_us row x) (slice_get d.outputs x.output))
    (there (sends_within row x) (SendsWithin row x) (decides_within row x) (row_of d.parameters x.label x.equipment)))
    (decides_data d.tick_us row x))

-- ---- one of a list

pub decides_has_stream : (d : Document) (row : InputRow) → Decides (has_stream d row) (HasStream d row)
decides_has_stream d row = some_of (keeps_input d row) (KeepsInput d row) (decides_input d row) d.streams

pub decides_has_label : (d : Document) (row : OutputRow) → Decides (has_label d row) (HasLabel d row)
decides_has_label d row = some_of (keeps_output d row) (KeepsOutput d row) (decides_output d row) d.labels

-- ---- the first row that is not kept

was_true : (b : Bool) → not b ≡ false → b ≡ true
was_true true h = refl
was_true false h = absurd (cc h)

is_not : (b : Bool) → not b ≡ true → b ≡ true → ⊥
is_not true h e = cc
is_not false h e = cc

cond_none : (b : Bool) (i : ℕ) (r : Option ℕ) → cond b (Some i) r ≡ None → (b ≡ false) × (r ≡ None)
cond_none true i r h = absurd (cc h)
cond_none false i r h = (refl, h)

none_from : {A : Type 0} (p : A → Bool) (i : ℕ) (xs : List A) → position_from p i xs ≡ None → (k : ℕ) (d : A) → k < length xs → p (get_or xs k d) ≡ false
none_from p i [] h k d l = absurd (omega arith)
none_from p i (x ∷ xs) h zero d l = (cond_none (p x) i (position_from p (i + 1) xs) h).0
none_from p i (x ∷ xs) h (suc k) d l = none_from p (i + 1) xs (cond_none (p x) i (position_from p (i + 1) xs) h).1 k d (omega arith)

some_there : {A : Type 0} (p : A → Bool) (xs : List A) (k : ℕ) → position p xs ≡ Some k → k < length xs
some_there p [] k h = absurd (cc h)
some_there p (x ∷ xs) k h = (position-Some p (x ∷ xs) k x h).0

pub first_without : {X : Type 0} (test : X → Bool) (P : X → Type 0) → ((x : X) → Decides (test x) (P x)) → (rows : List X) (found : Option ℕ) → found ≡ position (λ x. not (test x)) rows
    → MatchOption found (All P rows) (λ k. IsFirstWithout P rows k)
first_without test P each rows None is = λ k d l. (each _).0 (was_true _ (none_from (λ x. not (test x)) 0 rows (sym (position_from-zero (λ x. not (test x)) rows) ∙ sym is) k d l))
first_without test P each rows (Some k) is = record {
  there = some_there (λ x. not (test x)) rows k (sym is);
  here = λ e h. is_not _ (position-Some (λ x. not (test x)) rows k e (sym is)).1 ((each (slice_index_or rows k e)).1 h);
  before = λ j e l. (each (slice_index_or rows j e)).0 (was_true _ ((position-Some (λ x. not (test x)) rows k e (sym is)).2 j l));
}
