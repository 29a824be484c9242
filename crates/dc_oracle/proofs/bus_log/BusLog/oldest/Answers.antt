use Rattle.std.proofs.Common.{◌≡◌, ◌∙◌, ℕ, None, List, [], ◌∷◌, refl, sym, ap}
use Rattle.std.specs.Prelude.{slice_get}
use Rattle.dc_oracle.specs.BusData.{BusData}
use Rattle.dc_oracle.proofs.bus_log.BusLog.oldest.Goals as goal

got_none : (xs : List (ℕ × (ℕ × ℕ))) → None ≡ slice_get xs 0 → xs ≡ []
got_none [] h = refl
got_none (x ∷ xs) h = absurd cc

pub returns-in-None : goal.returns-in-None
returns-in-None c = sym (ap (λ (d : BusData). d.words) c.self.view_is) ∙ got_none c.self.inside.words.items c.in-None.ensures
