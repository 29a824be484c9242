use Rattle.std.proofs.Common.{◌≡◌, ℕ, ◌+◌, ◌-◌, ◌*◌, ◌%◌, ◌^◌, ◌<◌, ap, sym, subst, ◌∙◌, arith}
use Rattle.dc_word.specs.Word.{reversed, body_of, composed_word, ones_in, IsOneOddWord}
use Rattle.dc_word.proofs.Parity.{ones_in-ones}
use Rattle.dc_word.proofs.Fields.{body_of-fits, composed_word-one}
use Rattle.dc_word.proofs.word.Word.compose.Goals as goal
use lib.Count.{ones}

-- the sum in the code is the body of the fields
body_is : (low side label sdi bits ssm : ℕ) → low ≡ reversed label → side ≡ sdi → low + side * 256 + bits * 1024 + ssm * 536870912 ≡ body_of label sdi bits ssm
unfolding body_of
body_is low side label sdi bits ssm low_is side_is = omega arith

composed : (body label sdi bits ssm : ℕ) → body ≡ body_of label sdi bits ssm → body < 2 ^ 31
    → body + (1 - ones body % 2) * 2147483648 ≡ composed_word label sdi bits ssm
unfolding composed_word
composed body label sdi bits ssm body_is fits =
    let wide : body < 2 ^ 32 = omega arith in
    ap (λ (n : ℕ). body + (1 - n % 2) * 2 ^ 31) (sym (ones_in-ones 32 body wide))
    ∙ ap (λ (n : ℕ). n + (1 - ones_in 32 n % 2) * 2 ^ 31) body_is

pub returns-clause-value : goal.returns-clause-value
returns-clause-value c =
    let low = c.from.ensures ∙ c.reversed_bits.ensures ∙ ap reversed c.number.ensures.value in
    let side = c.from-2.ensures ∙ c.number-2.ensures.value in
    let body = body_is c.from.result c.from-2.result c.args.label c.args.sdi c.args.bits c.args.ssm low side in
    let small = body_of-fits c.args.label c.args.sdi c.args.bits c.args.ssm c.number-2.ensures.within c.requires.bits c.requires.ssm in
    composed (c.from.result + c.from-2.result * 256 + c.args.bits * 1024 + c.args.ssm * 536870912)
    c.args.label c.args.sdi c.args.bits c.args.ssm body (omega (arith, body, small))

pub returns-clause-one : goal.returns-clause-one
returns-clause-one c =
    let P : ℕ → Type 0 = λ w. IsOneOddWord w c.args.label c.args.sdi c.args.bits c.args.ssm in
    subst P (sym (returns-clause-value c))
    (composed_word-one c.args.label c.args.sdi c.args.bits c.args.ssm
    c.number.ensures.within.1 c.number-2.ensures.within c.requires.bits c.requires.ssm)
