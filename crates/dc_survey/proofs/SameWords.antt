-- Words of one label and one SDI, which the same stream declares.
use Rattle.std.proofs.Common.{◌≡◌, ℕ, ◌+◌, ◌*◌, ◌/◌, ◌%◌, ◌<◌, ◌==◌, ◌&&◌, Option, Some, length, get_or, set, position, refl, sym, ap, ◌∙◌, subst, arith, inl, inr}
use Rattle.std.proofs.lemmas.List.{get_or-set_same, get_or-set_other, length-set}
use Rattle.std.proofs.lemmas.Bool.{cases_eq}
use Rattle.dc_word.specs.Word.{label_of, reversed, sdi_of}
use Rattle.std.proofs.lemmas.List.Quantifiers.{position-Some}
use Rattle.dc_tables.specs.Declares.{declares, fits, stream_of}
use Rattle.dc_tables.specs.TableRows.{TableRows, stream_row}
use Rattle.dc_survey.specs.Known.{AreKnown, Tells}
use Rattle.dc_survey.specs.Surveys.{AllMade}
use Rattle.dc_survey.specs.declared.known_streams.TheConstants.{KINDS}
use Rattle.dc_survey.specs.declared.known_streams.Declared.{Declared}
use Rattle.dc_survey.specs.declared.known_streams.Declared.TheVariants.{NotAsked}
use Rattle.dc_survey.specs.declared.known_streams.KnownStreams.{KnownStreams}

same_label : (w v : ℕ) → w % 1024 ≡ v % 1024 → label_of w ≡ label_of v
unfolding reversed
same_label w v e =
    let b0 : w % 2 ≡ v % 2 = omega (arith, e) in
    let b1 : w / 2 % 2 ≡ v / 2 % 2 = omega (arith, e) in
    let b2 : w / 4 % 2 ≡ v / 4 % 2 = omega (arith, e) in
    let b3 : w / 8 % 2 ≡ v / 8 % 2 = omega (arith, e) in
    let b4 : w / 16 % 2 ≡ v / 16 % 2 = omega (arith, e) in
    let b5 : w / 32 % 2 ≡ v / 32 % 2 = omega (arith, e) in
    let b6 : w / 64 % 2 ≡ v / 64 % 2 = omega (arith, e) in
    let b7 : w / 128 % 2 ≡ v / 128 % 2 = omega (arith, e) in
    rw (b0, b1, b2, b3, b4, b5, b6, b7) refl

same_sdi : (w v : ℕ) → w % 1024 ≡ v % 1024 → sdi_of w ≡ sdi_of v
same_sdi w v e = omega (arith, e)

-- words that agree in their lowest ten bits are declared by the same stream
same_stream : (t : TableRows) (b w v : ℕ) → w % 1024 ≡ v % 1024 → stream_of t b w ≡ stream_of t b v
unfolding stream_of
same_stream t b w v e =
    ap (λ (label : ℕ). position (λ stream. (stream.bus == b) && (stream.label == label) && fits stream.sdi (sdi_of w)) t.streams) (same_label w v e)
    ∙ ap (λ (sdi : ℕ). position (λ stream. (stream.bus == b) && (stream.label == label_of v) && fits stream.sdi sdi) t.streams) (same_sdi w v e)

-- nothing is known
pub nothing_known : (t : TableRows) (k : KnownStreams) → AllMade (λ _. NotAsked) NotAsked (length t.buses * KINDS) k.places.items → AreKnown t k
nothing_known t k made = record {
  places = made.0;
  told = λ b w l. (let P : Declared → Type 0 = Tells (stream_of t b w) in
      let within : b * 1024 + w % 1024 < length t.buses * 1024 = omega arith in
      subst P (sym (made.1 (b * 1024 + w % 1024) within)) tt);
}

-- one place more is known
pub known_too : (t : TableRows) (old new : KnownStreams) (b w : ℕ) (found : Declared) → AreKnown t old → b < length t.buses → Tells (stream_of t b w) found
    → new.places.items ≡ set old.places.items (b * KINDS + w % KINDS) found → AreKnown t new
known_too t old new b w found known there tells is = record {
  places = ap length is ∙ length-set old.places.items (b * 1024 + w % 1024) found ∙ known.places;
  told = λ a v l.
      (let within : b * 1024 + w % 1024 < length old.places.items = omega (arith, known.places, there) in
      let P : Declared → Type 0 = Tells (stream_of t a v) in
      rw is (elim (cases_eq (b * 1024 + w % 1024) (a * 1024 + v % 1024)) [
        | inl here ↦ (let bus : b ≡ a = omega (arith, here) in
            let kind : w % 1024 ≡ v % 1024 = omega (arith, here) in
            let same : stream_of t b w ≡ stream_of t a v = ap (λ (x : ℕ). stream_of t x w) bus ∙ same_stream t a w v kind in
            let Q : Option ℕ → Type 0 = λ o. Tells o found in
            let at : get_or (set old.places.items (b * 1024 + w % 1024) found) (a * 1024 + v % 1024) NotAsked ≡ found =
            ap (λ (i : ℕ). get_or (set old.places.items (b * 1024 + w % 1024) found) i NotAsked) (sym here) ∙ get_or-set_same old.places.items (b * 1024 + w % 1024) found NotAsked within in
            subst P (sym at) (subst Q same tells))
        | inr other ↦ subst P (sym (get_or-set_other old.places.items (b * 1024 + w % 1024) (a * 1024 + v % 1024) found NotAsked (λ e. other (sym e)))) (known.told a v l)
      ]));
}

-- what is read tells of the words of its place
pub read_known : (t : TableRows) (k : KnownStreams) (b w v : ℕ) (read : Declared) → AreKnown t k → b < length t.buses → v ≡ w → read ≡ get_or k.places.items (b * KINDS + v % KINDS) NotAsked → Tells (stream_of t b w) read
read_known t k b w v read known there same is =
    let P : Declared → Type 0 = Tells (stream_of t b v) in
    let Q : ℕ → Type 0 = λ x. Tells (stream_of t b x) read in
    subst Q same (subst P (sym is) (known.told b v there))

-- a stream that declares a word is there
pub stream_there : (t : TableRows) (b w s : ℕ) → stream_of t b w ≡ Some s → s < length t.streams
unfolding stream_of
stream_there t b w s is = (position-Some (declares b w) t.streams s (stream_row t 0) is).0
