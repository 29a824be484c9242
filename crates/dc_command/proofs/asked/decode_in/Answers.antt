use Rattle.std.proofs.Common.{◌≡◌, ◌∙◌, ap, codes, refl, rules, Some}
use Rattle.clap.specs.Words.{found_of}
use Rattle.dc_command.proofs.Reading.{text_given}
use Rattle.dc_command.proofs.asked.decode_in.Goals as goal

pub returns-in-bnr : goal.returns-in-bnr
returns-in-bnr c = let is : c.in_ok-get_str.field-0.now ≡ codes "bnr" = search rules in (refl, text_given (found_of c.args.matches.now) (codes "format") _ c.in_ok-get_str.ensures ∙ ap (λ t. Some t) is)

pub returns-in-bcd : goal.returns-in-bcd
returns-in-bcd c = let is : c.in_ok-get_str.field-0.now ≡ codes "bcd" = search rules in (refl, text_given (found_of c.args.matches.now) (codes "format") _ c.in_ok-get_str.ensures ∙ ap (λ t. Some t) is)

pub returns-in-disc : goal.returns-in-disc
returns-in-disc c = let is : c.in_ok-get_str.field-0.now ≡ codes "disc" = search rules in (refl, text_given (found_of c.args.matches.now) (codes "format") _ c.in_ok-get_str.ensures ∙ ap (λ t. Some t) is)
