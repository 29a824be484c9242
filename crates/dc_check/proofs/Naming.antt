-- The names of a certificate against those of the tables, one by one.
use Rattle.std.proofs.Common.{◌≡◌, ◌≢◌, ℕ, ◌+◌, ◌<◌, Bool, true, false, List, [], ◌∷◌, length, map, get_or, refl, sym, ap, ◌∙◌, arith, below_more}
use Rattle.std.proofs.lemmas.List.{length-map, get_or-map, same_lists}
use Rattle.std.specs.Prelude.{not, nat_eq}
use Rattle.std.specs.Cmp.Lexicographic.{pointwise, same_text, other_text}
use Rattle.dc_check.specs.lemmas.Exact.{named-is, is-named}
use Rattle.dc_check.specs.Names.{names_of}
use Rattle.dc_check.specs.Placed.{member_count}
use Rattle.dc_check.specs.Verdict.{is_named}
use Rattle.dc_check.specs.declared.fault.CertificateList.{CertificateList}
use Rattle.dc_check.specs.declared.fault.CertificateList.TheVariants.{Inputs, Outputs, Labels}
use Rattle.dc_document.specs.Names.{text_of}
use Rattle.dc_tables.specs.Named.{HaveNames}
use Rattle.dc_tables.specs.TableRows.{TableRows}

-- the names below n are the texts of the keys
abbrev pub AreSame : List (List ℕ) → List (List ℕ) → ℕ → Type 0
AreSame names keys n = (k : ℕ) → k < n → (d : List ℕ) → get_or names k d ≡ get_or (map text_of keys) k d

is_false : (b : Bool) → (b ≡ true → ⊥) → b ≡ false
is_false true h = absurd (h refl)
is_false false h = refl

other_bytes : (b : Bool) → true ≡ not b → false ≡ b
other_bytes true h = sym h
other_bytes false h = refl

same_bytes : (b : Bool) → false ≡ not b → true ≡ b
same_bytes true h = refl
same_bytes false h = sym h

-- what a test of two texts for difference has reported, where each is known as another
pub names_differ : (test : Bool) (a b name text : List ℕ) → test ≡ true → test ≡ not (pointwise nat_eq a b) → a ≡ name → b ≡ text → name ≢ text
names_differ test a b name text holds reported e f = λ same. other_text a b (other_bytes _ (sym holds ∙ reported)) (e ∙ same ∙ sym f)

pub names_agree : (test : Bool) (a b name text : List ℕ) → test ≡ false → test ≡ not (pointwise nat_eq a b) → a ≡ name → b ≡ text → name ≡ text
names_agree test a b name text fails reported e f = sym e ∙ same_text a b (same_bytes _ (sym fails ∙ reported)) ∙ f

-- the name at a place is that of its key
same_here : (names keys : List (List ℕ)) (n : ℕ) (name key : List ℕ) → n < length keys → ((d : List ℕ) → get_or names n d ≡ name) → key ≡ get_or keys n [] → name ≡ text_of key
    → (d : List ℕ) → get_or names n d ≡ get_or (map text_of keys) n d
same_here names keys n name key there read at h d = read d ∙ h ∙ ap text_of at ∙ sym (get_or-map text_of keys n [] d there)

-- one more name
pub same_more : (names keys : List (List ℕ)) (n : ℕ) (name key : List ℕ) → n < length keys → ((d : List ℕ) → get_or names n d ≡ name) → key ≡ get_or keys n [] → name ≡ text_of key
    → AreSame names keys n → AreSame names keys (n + 1)
same_more names keys n name key there read at h before =
    let P : ℕ → Type 0 = λ k. (d : List ℕ) → get_or names k d ≡ get_or (map text_of keys) k d in
    below_more P n before (same_here names keys n name key there read at h)

-- all names are those of the keys
pub same_all : (count : ℕ) (names keys : List (List ℕ)) → length names ≡ count → length keys ≡ count → AreSame names keys count → is_named count names keys ≡ true
same_all count names keys sized counted h =
    is-named count names keys (record {
      sized = sized;
      same = same_lists names (map text_of keys) (sized ∙ sym counted ∙ sym (length-map keys text_of)) (λ k d l. h k (omega (arith, sized)) d);
    })

-- one is not
pub other_name : (count : ℕ) (names keys : List (List ℕ)) (n : ℕ) (name key : List ℕ) → n < length keys → ((d : List ℕ) → get_or names n d ≡ name) → key ≡ get_or keys n []
    → name ≢ text_of key → is_named count names keys ≡ false
other_name count names keys n name key there read at h =
    is_false (is_named count names keys) (λ yes.
    let named = named-is count names keys yes in
    h (sym (read []) ∙ ap (λ l. get_or l n []) named.same ∙ get_or-map text_of keys n [] [] there ∙ ap text_of (sym at)))

-- the tables have a name for each row
pub names_counted : (t : TableRows) (list : CertificateList) → HaveNames t → length (names_of t list) ≡ member_count t list
names_counted t Inputs named = named.buses
names_counted t Outputs named = named.outputs
names_counted t Labels named = named.labels

-- ---- the names of a certificate's rows

pub row_read : {T : Type 0} (name : T → List ℕ) (rows : List T) (n : ℕ) (row : T) → n < length rows → row ≡ get_or rows n row
    → (d : List ℕ) → get_or (map (λ r. text_of (name r)) rows) n d ≡ text_of (name row)
row_read name rows n row there is d = get_or-map (λ r. text_of (name r)) rows n row d there ∙ ap (λ r. text_of (name r)) (sym is)

-- a name of a row, read from what the row says
pub map-map : {A B C : Type 0} (g : B → C) (f : A → B) (xs : List A) → map g (map f xs) ≡ map (λ x. g (f x)) xs
map-map g f [] = refl
map-map g f (x ∷ xs) = ap (λ l. g (f x) ∷ l) (map-map g f xs)
