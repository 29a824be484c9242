-- The ages of a certificate, as its rows and as its claims have them.
use Rattle.std.proofs.Common.{◌≡◌, ℕ, ◌<◌, length, map, get_or, sym, ap, ◌∙◌, arith}
use Rattle.std.proofs.lemmas.List.{get_or-map}
use Rattle.std.proofs.Math.ListN.{length-map}
use Rattle.dc_cert.specs.Bounds.{numbers_of}
use Rattle.dc_cert.specs.NamedRows.{NamedLabel, named_label, named_rows}
use Rattle.dc_cert.specs.declared.certificate.Certificate.{Certificate}
use Rattle.dc_cert.specs.declared.certificate.LabelRow.{LabelRow}

pub age-at : (c : Certificate) (x : ℕ) (row : LabelRow) → x < length c.labels.items → row ≡ get_or c.labels.items x row → row.age ≡ get_or (numbers_of (named_rows c)).ages x 0
age-at c x row there is =
    let first = get_or-map named_label c.labels.items x row (named_label row) there in
    let inside : x < length (map named_label c.labels.items) = omega (arith, there, length-map c.labels.items named_label) in
    let second = get_or-map (λ (l : NamedLabel). l.age) (map named_label c.labels.items) x (named_label row) 0 inside in
    sym (second ∙ ap (λ (l : NamedLabel). l.age) first ∙ ap (λ (r : LabelRow). r.age) (sym is))
