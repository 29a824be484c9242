use Rattle.std.proofs.Common.{◌≡◌, [], ◌∷◌, Err, rules}
use Rattle.dc_program.proofs.Opened.{refused_before}
use Rattle.dc_program.proofs.opening.open_three.Goals as goal

pub returns-in_err-one-clause-refused : goal.returns-in_err-one-clause-refused
returns-in_err-one-clause-refused g c =
    let is : c.from_residual.result ≡ Err c.in_err-one.field-0.0 = search rules in
    refused_before (c.args.first.now ∷ []) (c.args.second.now ∷ c.args.third.now ∷ []) c.in_err-one.field-0.0 _ c.from_residual.result is (search rules) (search rules) (search rules) (search rules)

pub returns-in_err-two-clause-refused : goal.returns-in_err-two-clause-refused
returns-in_err-two-clause-refused g c =
    let is : c.from_residual-in_err-two.result ≡ Err c.in_err-two.field-0.0 = search rules in
    refused_before (c.args.first.now ∷ c.args.second.now ∷ []) (c.args.third.now ∷ []) c.in_err-two.field-0.0 _ c.from_residual-in_err-two.result is (search rules) (search rules) (search rules) (search rules)

pub returns-in_err-three-clause-refused : goal.returns-in_err-three-clause-refused
returns-in_err-three-clause-refused g c =
    let is : c.from_residual-in_err-three.result ≡ Err c.in_err-three.field-0.0 = search rules in
    refused_before (c.args.first.now ∷ c.args.second.now ∷ c.args.third.now ∷ []) [] c.in_err-three.field-0.0 _ c.from_residual-in_err-three.result is (search rules) (search rules) (search rules) (search rules)
