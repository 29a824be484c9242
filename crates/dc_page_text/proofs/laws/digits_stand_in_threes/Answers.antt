use Rattle.dc_page_text.proofs.Groups.{grouped-more, grouped-small}
use Rattle.dc_page_text.proofs.laws.digits_stand_in_threes.Goals as goal

pub returns-clause-small : goal.returns-clause-small
returns-clause-small c = grouped-small

pub returns-clause-great : goal.returns-clause-great
returns-clause-great c = grouped-more
