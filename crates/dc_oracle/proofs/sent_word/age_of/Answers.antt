use Rattle.std.proofs.Common.{◌≡◌, ℕ, ◌<◌, length, map, get_or, sym, ap, ◌∙◌, arith}
use Rattle.std.proofs.lemmas.List.{get_or-map, length-map}
use Rattle.dc_cert.specs.Bounds.{certificate_rows}
use Rattle.dc_cert.specs.NamedRows.{named_label}
use Rattle.dc_cert.specs.declared.certificate.Certificate.{Certificate}
use Rattle.dc_cert.specs.declared.certificate.LabelRow.{LabelRow}
use Rattle.dc_oracle.proofs.sent_word.age_of.Goals as goal

age-read : (c : Certificate) (x : ℕ) (row : LabelRow) → x < length c.labels.items → row ≡ get_or c.labels.items x row → get_or (certificate_rows c).ages x 0 ≡ row.age
age-read c x row l h =
    get_or-map (λ l. l.age) (map named_label c.labels.items) x (named_label row) 0 (omega (arith, length-map c.labels.items named_label))
    ∙ ap (λ l. l.age) (get_or-map named_label c.labels.items x row (named_label row) l)
    ∙ ap (λ (r : LabelRow). r.age) (sym h)

pub returns : goal.returns
returns c = sym (age-read c.args.certificate.now c.args.label c.index.result.now (omega (arith, c.if-label-len.false, c.len.ensures)) c.index.ensures)
