-- What an engine has said so far, and how each of its exits ends the answer.
use Rattle.std.proofs.Common.{◌≡◌, ℕ, List, [], ◌∷◌, ◌++◌, Option, Some}
use Rattle.dc_word.specs.declared.format.Format.{Format}
use Rattle.dc_device.specs.Bytes.{Gathered}
use Rattle.dc_device.specs.Lines.{spelled}
use Rattle.dc_answer.specs.Answer.{after_all}
use Rattle.dc_run.specs.Decode.{answer_text}

-- What was said so far, and what waits, answers the text but for what is left.
pub record Says (format : Format) (limit : ℕ) (from : Option (List ℕ)) (left : Option (List ℕ)) (old new : Option (List ℕ)) (waiting : List ℕ) (room number : ℕ) : Type 0 where
  pub says : (text : List ℕ) → from ≡ Some text → (done : List (List ℕ)) × (rest : List ℕ) × (left ≡ Some rest)
      × Gathered old [] new waiting (spelled done)
      × (answer_text format limit 1 text ≡ after_all done (answer_text format room number rest))
      × (front : List ℕ) × (text ≡ front ++ rest) × ((more : List ℕ) → answer_text format limit 1 (front ++ more) ≡ after_all done (answer_text format room number more))

-- a reader that holds nothing is to ask next
abbrev pub waits : List ℕ → ℕ
waits [] = 1
waits (b ∷ bs) = 0
