-- What is known of each job.
use Rattle.std.proofs.Common.{◌≡◌, ℕ, zero, suc, Option, Some, None, List, [], ◌∷◌, ◌++◌, set, sym, ap, ◌∙◌}
use Rattle.dc_check.specs.declared.fault.CheckFault.{CheckFault}
use Rattle.dc_checkpar.specs.Reports.{AreKnown}

some-same : (f g : Option CheckFault) → Some (Some f) ≡ Some (Some g) → f ≡ g
some-same f g h = ap inner h
  where
    inner : Option (Option (Option CheckFault)) → Option CheckFault
    inner None = f
    inner (Some None) = f
    inner (Some (Some x)) = x

-- one job more
pub known-one : (verdict : ℕ → Option CheckFault) (known : List (Option (Option CheckFault))) (job : ℕ) (fault : Option CheckFault)
    → fault ≡ verdict job → AreKnown verdict known → AreKnown verdict (set known job (Some fault))
known-one verdict [] job fault is h k found at = h k found at
known-one verdict (x ∷ xs) zero fault is h zero found at = sym (some-same fault found at) ∙ is
known-one verdict (x ∷ xs) zero fault is h (suc k) found at = h (suc k) found at
known-one verdict (x ∷ xs) (suc job) fault is h zero found at = h zero found at
known-one verdict (x ∷ xs) (suc job) fault is h (suc k) found at =
    known-one (λ j. verdict (suc j)) xs job fault is (λ j f e. h (suc j) f e) k found at

-- one job of which nothing is known
pub known-more : (verdict : ℕ → Option CheckFault) (known : List (Option (Option CheckFault))) → AreKnown verdict known → AreKnown verdict (known ++ None ∷ [])
known-more verdict [] h zero found at = absurd cc
known-more verdict [] h (suc k) found at = absurd cc
known-more verdict (x ∷ xs) h zero found at = h zero found at
known-more verdict (x ∷ xs) h (suc k) found at = known-more (λ j. verdict (suc j)) xs (λ j f e. h (suc j) f e) k found at
