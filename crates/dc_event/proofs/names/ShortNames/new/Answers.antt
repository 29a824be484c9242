use Rattle.std.proofs.lemmas.List.Elements.{All-replicate}
use Rattle.dc_event.specs.Names.{IsFound}
use Rattle.dc_event.specs.declared.names.Place.{Place}
use Rattle.dc_event.proofs.FoundNames.{found_none}
use Rattle.dc_event.proofs.names.ShortNames.new.Goals as goal

pub returns : goal.returns
returns c = λ names. All-replicate (λ (p : Place). IsFound names p.key p.number) 256 (record { key = 1; number = 0 }) (found_none names 0)
