use Rattle.std.proofs.Common.{None, ap, map, ◌∙◌}
use Rattle.std.specs.Prelude.{option_map}
use Rattle.dc_program.specs.Memory.{held_by, held_where_given}
use Rattle.dc_program.proofs.memory.MemWorldWorld.is_shelf.Goals as goal

pub returns-clause-stays : goal.returns-clause-stays
returns-clause-stays c = λ w w' kept. record {
  holds =
      ap (λ one. held_by one (held_by w'.second (held_where_given w'.third (λ _. None)))) kept.0 ∙ ap (λ one. held_by w.first (held_by one (held_where_given w'.third (λ _. None)))) kept.1
      ∙ ap (λ one. held_by w.first (held_by w.second (held_where_given one (λ _. None)))) kept.2;
  opened = ap (λ names. map (λ name. name.now) names.items) kept.3;
  crew = kept.4;
  saved = ap (option_map (λ s. (s.name.now, s.text.items))) kept.5;
}
