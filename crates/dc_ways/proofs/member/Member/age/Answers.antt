use Rattle.std.proofs.Common.{◌≡◌, ◌<◌, List, length, get_or, sym, subst}
use Rattle.std.proofs.lemmas.Bool.{ltb-true}
use Rattle.dc_cert.specs.declared.certificate.LabelRow.{LabelRow}
use Rattle.dc_ways.specs.Members.{MemberRows, ages_in}
use Rattle.dc_ways.specs.lemmas.Ages.{age-at}
use Rattle.dc_ways.proofs.member.Member.age.Goals as goal

pub returns-in-Some : goal.returns-in-Some
returns-in-Some c =
    let row : LabelRow = c.in-Some.row.now in
    let P : List LabelRow → Type 0 = λ z. (c.args.label < length z) × (c.in-Some.row.now ≡ get_or z c.args.label c.in-Some.row.now) in
    let at = subst P c.deref.ensures.value (ltb-true _ _ (sym c.in-Some.ensures.lookup.0), c.in-Some.ensures.lookup.1) in
    let Q : MemberRows → Type 0 = λ m. c.in-Some.row.now.age ≡ get_or (ages_in m) c.args.label 0 in
    subst Q c.self.view_is (age-at c.self.inside.certificate c.args.label c.in-Some.row.now at.0 at.1)
