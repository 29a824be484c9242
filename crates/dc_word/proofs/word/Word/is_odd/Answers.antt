use Rattle.std.proofs.Common.{◌≡◌, ℕ, ◌%◌, ◌^◌, ◌<◌, ◌↔◌, IsTrue, nat_eq, ap, subst, arith, rules}
use Rattle.dc_word.specs.Word.{is_odd, ones_in, IsOddParity}
use Rattle.dc_word.proofs.Parity.{ones_in-ones}
use Rattle.dc_word.proofs.word.Word.is_odd.Goals as goal

pub returns-clause-test : goal.returns-clause-test
unfolding is_odd
returns-clause-test c =
    let fits : c.self.inside.0 < 2 ^ 32 = omega arith in
    rw (← ones_in-ones 32 c.self.inside.0 fits) (ap is_odd c.self.view_is)

odd_test : (n : ℕ) → IsTrue (nat_eq (n % 2) 1) ↔ (n % 2 ≡ 1)
odd_test n = search rules

pub returns-clause-fact : goal.returns-clause-fact
returns-clause-fact c =
    let fits : c.self.inside.0 < 2 ^ 32 = omega arith in
    rw (← ones_in-ones 32 c.self.inside.0 fits)
    (let P : ℕ → Type 0 = λ w. IsTrue (nat_eq (ones_in 32 c.self.inside.0 % 2) 1) ↔ IsOddParity w in
    subst P c.self.view_is (odd_test (ones_in 32 c.self.inside.0)))
