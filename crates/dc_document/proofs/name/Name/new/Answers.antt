use Rattle.std.proofs.Common.{sym, ◌∙◌, subst}
use Rattle.dc_document.specs.Names.{IsName}
use Rattle.dc_document.proofs.Spelling.{filled, padded_is, name_is}
use Rattle.dc_document.proofs.name.Name.new.Goals as goal

pub invariant_of-result : goal.invariant_of-result
invariant_of-result c =
    subst IsName (sym (filled c.args.text.now c.copy_from_slice.new.self c.copy_from_slice.ensures.after))
    (padded_is c.args.text.now (sym c.is_spelled.ensures ∙ c.if-not-is_spelled.false))

pub returns : goal.returns
returns c =
    name_is c.args.text.now _ (sym c.is_spelled.ensures ∙ c.if-not-is_spelled.false)
    (filled c.args.text.now c.copy_from_slice.new.self c.copy_from_slice.ensures.after)
