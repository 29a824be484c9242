-- Files that were opened.
use Rattle.std.proofs.Common.{◌≡◌, ℕ, List, [], ◌∷◌, ◌++◌, refl, sym, subst, None, Some, IfErr, Result, Err}
use Rattle.dc_program.specs.Opening.{AreNotOpened}
use Rattle.dc_program.specs.World.{WorldState}
use Rattle.dc_program.specs.declared.world.NotOpened.{NotOpened}

-- the first of two files was not opened
pub first_refused : (first second : List ℕ) (why : NotOpened) (w : WorldState) → w.opened ≡ first ∷ [] → w.refused ≡ Some why → w.crew ≡ None → w.saved ≡ None → AreNotOpened (first ∷ second ∷ []) why w
first_refused first second why w opened refused crew saved = record { behind = second ∷ []; front = rw opened refl; refused = refused; crew = crew; saved = saved }

-- of several files the last that was asked for was not opened, and these stand behind it
pub refused_before : {X : Type 0} (front behind : List (List ℕ)) (why : NotOpened) (w : WorldState) (result : Result X NotOpened) → result ≡ Err why → w.opened ≡ front → w.refused ≡ Some why → w.crew ≡ None → w.saved ≡ None
    → IfErr result (λ why. AreNotOpened (front ++ behind) why w)
refused_before front behind why w result is opened refused crew saved =
    subst (λ r. IfErr r (λ why. AreNotOpened (front ++ behind) why w)) (sym is) (record { behind = behind; front = rw opened refl; refused = refused; crew = crew; saved = saved })
