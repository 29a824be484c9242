use Rattle.std.proofs.Common.{ap, map, refl}
use Rattle.std.specs.Prelude.{option_map}
use Rattle.dc_program.proofs.disk.DiskWorld.is_shelf.Goals as goal

pub returns-clause-stays : goal.returns-clause-stays
returns-clause-stays g c = λ w w' kept. record {
  holds = refl;
  opened = ap (λ names. map (λ name. name.now) names.items) kept.0;
  crew = kept.1;
  saved = ap (option_map (λ s. (s.name.now, s.text.items))) kept.2;
}
