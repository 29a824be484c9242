use Rattle.std.proofs.Common.{◌++◌, ℕ, List, ap, ◌∙◌, arith, rules}
use Rattle.std.proofs.lemmas.Fmt.{length-decimal-le}
use Rattle.std.specs.Fmt.{decimal}
use Rattle.dc_print.proofs.Pieces.{digits_put}
use Rattle.dc_print.proofs.put.put_number.Goals as goal

pub write_digits-start-requires : goal.write_digits-start-requires
write_digits-start-requires g c = (omega (arith, length-decimal-le 20 c.args.n (omega arith) (omega arith) c.ranges.n.fits), search rules)

pub returns-clause-items : goal.returns-clause-items
returns-clause-items g c =
    c.put_part.ensures.items
    ∙ ap (λ (x : List ℕ). c.args.pen.now ++ x) (digits_put (decimal c.args.n) _ _ _ c.write_digits-start.ensures.start c.write_digits-start.ensures.written)
